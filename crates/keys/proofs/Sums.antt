use Rattle.std.proofs.Common.{◌≡◌, ℕ, suc, ◌+◌, ◌*◌, ◌^◌, ◌<◌, ◌≤◌, List, [], ◌∷◌, ◌++◌, length, get_or, take, fold, refl, ap, ◌∙◌, mod-lt, add-mul, mul-le-mul, mul-add, arith}
use lib.Bits.{bit_xor}
use Rattle.std.specs.Int.Digits.{AllBelowBase}
use Rattle.std.proofs.ByRecursion.{All-weaker, sum_by_le}
use Rattle.std.proofs.lemmas.List.{take_more, length-take-le}
use Rattle.keys.specs.Digests.{fnv1a, fnv1a_step, tally_sum, weighted_from, tally_weighted}

-- one byte more behind the others counts at its own place
pub weighted_push : (p : ℕ) (bs : List ℕ) (b : ℕ) → weighted_from p (bs ++ b ∷ []) ≡ weighted_from p bs + b * (p + length bs)
weighted_push p [] b =
    let n : p + 0 ≡ p = omega arith in
    let e = ap (λ k. b * k) n in
    omega arith
weighted_push p (a ∷ bs) b =
    let r = weighted_push (p + 1) bs b in
    let e : b * (p + 1 + length bs) ≡ b * (p + suc (length bs)) = let n : p + 1 + length bs ≡ p + suc (length bs) = omega arith in ap (λ n. b * n) n in
    omega arith

pub weighted_more : (bs : List ℕ) (i : ℕ) → i < length bs → tally_weighted (take (i + 1) bs) ≡ tally_weighted (take i bs) + get_or bs i 0 * (i + 1)
weighted_more bs i h =
    let m = ap tally_weighted (take_more bs i 0 h) in
    let w = weighted_push 1 (take i bs) (get_or bs i 0) in
    let l = length-take-le i bs (omega arith) in
    let n : 1 + length (take i bs) ≡ i + 1 = omega arith in
    m ∙ (w ∙ ap (λ k. tally_weighted (take i bs) + get_or bs i 0 * k) n)

-- 255 n (2 p + n + 1) is twice the largest sum of n bytes from the place p + 1 on; with q for 2 p + n + 1
bound_more : (w b p m q : ℕ) → b < 256 → q ≡ 2 * p + suc m + 1 → 2 * w ≤ 255 * (m * (q + 1)) → 2 * (b * (p + 1) + w) ≤ 255 * (suc m * q)
bound_more w b p m q small e h =
    let x : b * (p + 1) ≤ 255 * (p + 1) = mul-le-mul (omega arith) (omega arith) in
    let y = mul-add m q 1 in
    let z = add-mul m 1 q in
    let s : suc m * q ≡ (m + 1) * q = let t : suc m ≡ m + 1 = omega arith in ap (λ k. k * q) t in
    omega arith

weighted_bound : (p : ℕ) (bs : List ℕ) → AllBelowBase 256 bs → 2 * weighted_from (p + 1) bs ≤ 255 * (length bs * (2 * p + length bs + 1))
weighted_bound p [] u = omega arith
weighted_bound p (b ∷ bs) u =
    let m = length bs in
    let r = weighted_bound (p + 1) bs u.1 in
    let e : 2 * (p + 1) + m + 1 ≡ 2 * p + suc m + 1 + 1 = omega arith in
    let f = ap (λ k. m * k) e in
    bound_more (weighted_from (p + 1 + 1) bs) b p m (2 * p + suc m + 1) u.0 refl (omega arith)

-- the two sums of a string that the digest takes, at their largest
pub tally_fits : (bs : List ℕ) → AllBelowBase 256 bs → length bs ≤ 65536 → (tally_sum bs ≤ 16711680) × (tally_weighted bs ≤ 547616686080)
tally_fits bs u long =
    let s = sum_by_le (λ b. b) 255 bs (All-weaker (λ b. b < 256) (λ b. b ≤ 255) (λ b h. omega arith) bs u) in
    let w = weighted_bound 0 bs u in
    let n : 2 * 0 + length bs + 1 ≤ 65537 = omega arith in
    let q : length bs * (2 * 0 + length bs + 1) ≤ 65536 * 65537 = mul-le-mul long n in
    (omega arith, omega arith)

pub step_fits : (h b : ℕ) → fnv1a_step h b < 2 ^ 64
step_fits h b = mod-lt (bit_xor h b * 0x100000001b3) (omega arith)

-- FNV-1a is a number of 64 bits
fold_fits : (h : ℕ) (bs : List ℕ) → h < 2 ^ 64 → fold fnv1a_step h bs < 2 ^ 64
fold_fits h [] fits = fits
fold_fits h (b ∷ bs) fits = fold_fits (fnv1a_step h b) bs (step_fits h b)

pub fnv1a_fits : (bs : List ℕ) → fnv1a bs < 2 ^ 64
fnv1a_fits bs = fold_fits 0xcbf29ce484222325 bs (omega arith)
