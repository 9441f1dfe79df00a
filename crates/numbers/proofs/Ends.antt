use Rattle.std.proofs.Common.{◌≡◌, ℕ, zero, suc, ◌+◌, ◌-◌, ◌/◌, ◌%◌, ◌^◌, ◌<◌, ◌≤◌, List, [], ◌∷◌, ◌++◌, length, drop, replicate, sym, refl, ap, ◌∙◌, div-one, arith}
use native.Mathlib.Nat.{div-eq_of_lt, pow-le-pow_right}
use borrow.Rule.Slice.PartMut.{put_mid}
use Rattle.std.specs.Int.{bytes_high_first}
use Rattle.std.proofs.lemmas.List.{append-nil, take_at, drop_all, length-append, length-drop, length-replicate}
use Rattle.std.proofs.lemmas.Slice.{put_mid-paste}
use Rattle.std.proofs.lemmas.List.Edits.{paste_all}
use Rattle.numbers.proofs.Trips.{length-big_endian}
use Rattle.numbers.specs.BigEndian.{big_endian}

-- the library's bytes of a number, high byte first
pub high_first : (k n : ℕ) → bytes_high_first k n ≡ big_endian k n
high_first zero n = refl
high_first (suc zero) n = ap (λ m. m % 256 ∷ []) (sym (div-one n))
high_first (suc (suc k)) n = ap (λ bs. n / 256 ^ suc k % 256 ∷ bs) (high_first (suc k) n)

-- without the j highest of m bytes, the k lowest are left
pub lowest : (j k m n : ℕ) → m ≡ j + k → drop j (big_endian m n) ≡ big_endian k n
lowest zero k m n e = ap (λ i. big_endian i n) (omega arith)
lowest (suc j) k zero n e = absurd (omega arith)
lowest (suc j) k (suc m) n e = lowest j k m n (omega arith)

-- above the eighth byte of a number of 64 bits stand zeros
pub zeros_above : (z k m n : ℕ) → n < 256 ^ 8 → m ≡ z + k → (0 < z → 8 ≤ k) → replicate z 0 ++ big_endian k n ≡ big_endian m n
zeros_above zero k m n fits e h = ap (λ i. big_endian i n) (omega arith)
zeros_above (suc z) k zero n fits e h = absurd (omega arith)
zeros_above (suc z) k (suc m) n fits e h =
    let eight : 8 ≤ k = h (omega arith) in
    let q : 8 ≤ m = omega arith in
    let p : 256 ^ 8 ≤ 256 ^ m = pow-le-pow_right (omega arith) q in
    let top : n / 256 ^ m ≡ 0 = div-eq_of_lt (omega arith) in
    ap (λ d. d % 256 ∷ replicate z 0 ++ big_endian k n) (sym top) ∙ ap (λ bs. n / 256 ^ m % 256 ∷ bs) (zeros_above z k m n fits (omega arith) (λ _. eight))

-- zeros and the lowest bytes, put at the end, are the bytes of a number
pub filled_from_end : (n z j k w : ℕ) (xs front ys : List ℕ) → n < 256 ^ 8 → z ≡ length xs - 8 → j ≡ 8 - k → k ≡ length xs - z → w ≡ k → front ≡ replicate z 0 → ys ≡ drop j (bytes_high_first 8 n) → put_mid z w (front ++ drop z xs) ys ≡ big_endian (length xs) n
filled_from_end n z j k w xs front ys fits ez ej ek ew ef ey =
    let lf : length front ≡ z = ap length ef ∙ length-replicate z 0 in
    let low : ys ≡ big_endian k n = ey ∙ (ap (drop j) (high_first 8 n) ∙ lowest j k 8 n (omega arith)) in
    let all = length-append front (drop z xs) in
    let behind = length-drop z xs in
    let t = take_at front (drop z xs) z lf in
    let d : drop (z + k) (front ++ drop z xs) ≡ [] = drop_all (z + k) (front ++ drop z xs) (omega arith) in
    let p = put_mid-paste z w (front ++ drop z xs) ys (big_endian k n) k low (sym ew) (sym (length-big_endian k n)) in
    let b = ap (λ bs. replicate z 0 ++ (big_endian k n ++ bs)) d ∙ ap (λ bs. replicate z 0 ++ bs) (append-nil (big_endian k n)) in
    let q = paste_all (front ++ drop z xs) z (big_endian k n) k (sym (length-big_endian k n)) in
    p ∙ (q ∙ (ap (λ bs. bs ++ (big_endian k n ++ drop (z + k) (front ++ drop z xs))) (t ∙ ef) ∙ (b ∙ zeros_above z k (length xs) n fits (omega arith) (λ some. omega arith))))
