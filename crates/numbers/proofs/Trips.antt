use Rattle.std.proofs.Common.{◌≡◌, ℕ, zero, suc, ◌+◌, ◌*◌, ◌/◌, ◌%◌, ◌^◌, ◌<◌, ◌≤◌, Bool, true, false, cond, leb, List, [], ◌∷◌, length, Some, None, sym, refl, ap, ◌∙◌, mod-eq_of_lt, mul_assoc, add-mul, arith}
use native.Mathlib.Nat.{pow-succ', mod-one, one-le-pow}
use lib.Arith.{mod-mul, digits_div, digits_mod}
use Rattle.std.specs.Int.Digits.{number_from_digits, number_from_digits_after, AllBelowBase}
use Rattle.std.proofs.lemmas.Int.Digits.{number_lt}
use Rattle.std.proofs.lemmas.Bool.{le-leb}
use Rattle.numbers.specs.BigEndian.{big_endian, read_big_endian}

-- as many bytes are written as asked for
pub length-big_endian : (k n : ℕ) → length (big_endian k n) ≡ k
length-big_endian zero n = refl
length-big_endian (suc k) n = ap suc (length-big_endian k n)

-- each byte written is a byte
pub under_big_endian : (k n : ℕ) → AllBelowBase 256 (big_endian k n)
under_big_endian zero n = tt
under_big_endian (suc k) n = (omega arith, under_big_endian k n)

-- the number of m followed by the lowest k bytes of n
number_after : (k m n : ℕ) → number_from_digits_after 256 m (big_endian k n) ≡ m * 256 ^ k + n % 256 ^ k
number_after zero m n = omega (arith, mod-one n)
number_after (suc k) m n =
    let p : 0 < 256 ^ k = one-le-pow k 256 (omega arith) in
    let e = number_after k (m * 256 + n / 256 ^ k % 256) n in
    let s = mod-mul n {m = 256} {c = 256 ^ k} (omega arith) p in
    let q = pow-succ' 256 k in
    let d = add-mul (m * 256) (n / 256 ^ k % 256) (256 ^ k) in
    let f = mul_assoc m 256 (256 ^ k) in
    rw q (omega arith)

-- a number that fits its bytes is the number of these bytes
pub number_big_endian : (k n : ℕ) → n < 256 ^ k → number_from_digits 256 (big_endian k n) ≡ n
number_big_endian k n h = number_after k 0 n ∙ omega (arith, mod-eq_of_lt h)

-- what is read after m is m, moved up by the bytes read, and their own number
after : (m : ℕ) (ds : List ℕ) → number_from_digits_after 256 m ds ≡ m * 256 ^ length ds + number_from_digits 256 ds
after m [] = omega arith
after m (d ∷ ds) =
    let e = after (m * 256 + d) ds in
    let f = after (0 * 256 + d) ds in
    let q = pow-succ' 256 (length ds) in
    let a = add-mul (m * 256) d (256 ^ length ds) in
    let b = add-mul (0 * 256) d (256 ^ length ds) in
    let g = mul_assoc m 256 (256 ^ length ds) in
    rw q (omega arith)

bytes_after : (bs : List ℕ) (m : ℕ) → AllBelowBase 256 bs → big_endian (length bs) (number_from_digits_after 256 m bs) ≡ bs
bytes_after [] m u = refl
bytes_after (d ∷ ds) m u =
    let n = number_from_digits_after 256 (m * 256 + d) ds in
    let e = after (m * 256 + d) ds in
    let top : n / 256 ^ length ds ≡ m * 256 + d = ap (λ x. x / 256 ^ length ds) e ∙ digits_div (m * 256 + d) (number_lt 256 ds u.1) in
    let low : (m * 256 + d) % 256 ≡ d = digits_mod m u.0 in
    let rest = bytes_after ds (m * 256 + d) u.1 in
    cc

-- bytes are what writing their number gives
pub big_endian_number : (bs : List ℕ) → AllBelowBase 256 bs → big_endian (length bs) (number_from_digits 256 bs) ≡ bs
big_endian_number bs u = bytes_after bs 0 u

-- two numbers that fit and are written alike are equal
pub same_from_big_endian : (k m n : ℕ) → m < 256 ^ k → n < 256 ^ k → big_endian k m ≡ big_endian k n → m ≡ n
same_from_big_endian k m n p q e = sym (number_big_endian k m p) ∙ (ap (number_from_digits 256) e ∙ number_big_endian k n q)

pub back : (k n : ℕ) → k ≤ 8 → n < 256 ^ k → read_big_endian (big_endian k n) ≡ Some n
back k n short h =
    let l = length-big_endian k n in
    let t : leb (length (big_endian k n)) 8 ≡ true = le-leb _ _ (omega arith) in
    rw t (ap Some (number_big_endian k n h))

only_from : (bs : List ℕ) (n : ℕ) (b : Bool) → AllBelowBase 256 bs → cond b (Some (number_from_digits 256 bs)) None ≡ Some n → bs ≡ big_endian (length bs) n
only_from bs n true u h =
    let e : number_from_digits 256 bs ≡ n = cc in
    sym (big_endian_number bs u) ∙ ap (big_endian (length bs)) e
only_from bs n false u h = let z : ◌≡◌ {A = ℕ} 0 1 = cc in absurd (omega arith)

pub only : (bs : List ℕ) (n : ℕ) → AllBelowBase 256 bs → read_big_endian bs ≡ Some n → bs ≡ big_endian (length bs) n
only bs n u h = only_from bs n (leb (length bs) 8) u h

number_from : (bs : List ℕ) (n : ℕ) (b : Bool) → b ≡ true → Some n ≡ cond b (Some (number_from_digits 256 bs)) None → n ≡ number_from_digits 256 bs
number_from bs n true t h = cc
number_from bs n false t h = let z : ◌≡◌ {A = ℕ} 0 1 = cc in absurd (omega arith)

-- what is read from a few bytes is their number
pub number_read : (bs : List ℕ) (n : ℕ) → length bs ≤ 8 → Some n ≡ read_big_endian bs → n ≡ number_from_digits 256 bs
number_read bs n short h = number_from bs n (leb (length bs) 8) (le-leb _ _ short) h
