use Rattle.std.proofs.Common.{◌≡◌, ℕ, ◌+◌, ◌*◌, ◌/◌, ◌%◌, ◌^◌, ◌<◌, List, [], ◌∷◌, ◌++◌, fold, sym, refl, ap, ◌∙◌, mod-eq_of_lt, mul_assoc, mul_comm, add-mul, arith}
use native.Mathlib.Nat.{add-mul-mod_self_right}
use lib.Bits.{bit_xor, xor_lt, xor_self, xor_zero_r, xor_assoc, xor_comm}
use Rattle.std.specs.Int.Digits.{AllBelowBase}
use Rattle.std.proofs.lemmas.Nat.{div-add-mod'}
use Rattle.std.proofs.lemmas.List.Sums.{sum_by-append, sum_by-cons}
use Rattle.keys.specs.Digests.{fnv1a, fnv1a_step, tally_sum}
use Rattle.keys.proofs.Sums.{fnv1a_fits, step_fits}

-- a factor may be reduced first
reduced : (x q m : ℕ) → x % m * q % m ≡ x * q % m
reduced x q m =
    let e = ap (λ n. n * q) (sym (div-add-mod' x m)) in
    let d = add-mul (x / m * m) (x % m) q in
    let s : x / m * m * q ≡ x / m * q * m = mul_assoc (x / m) m q ∙ (ap (λ n. x / m * n) (mul_comm m q) ∙ sym (mul_assoc (x / m) q m)) in
    let f : x * q ≡ x % m * q + x / m * q * m = e ∙ (d ∙ omega arith) in
    sym (ap (λ n. n % m) f ∙ add-mul-mod_self_right (x % m * q) (x / m * q) m)

-- the prime of FNV-1a has an inverse modulo 2 ^ 64, so the step forgets nothing
unmultiplied : (u : ℕ) → u < 2 ^ 64 → u * 0x100000001b3 % 2 ^ 64 * 0xce965057aff6957b % 2 ^ 64 ≡ u
unmultiplied u h =
    let r = reduced (u * 0x100000001b3) 0xce965057aff6957b (2 ^ 64) in
    let a : u * 0x100000001b3 * 0xce965057aff6957b ≡ u + u * 887285111055 * 2 ^ 64 = omega arith in
    r ∙ (ap (λ n. n % 2 ^ 64) a ∙ (add-mul-mod_self_right u (u * 887285111055) (2 ^ 64) ∙ mod-eq_of_lt h))

same_product : (u v : ℕ) → u < 2 ^ 64 → v < 2 ^ 64 → u * 0x100000001b3 % 2 ^ 64 ≡ v * 0x100000001b3 % 2 ^ 64 → u ≡ v
same_product u v p q e =
    sym (unmultiplied u p) ∙ (ap (λ n. n * 0xce965057aff6957b % 2 ^ 64) e ∙ unmultiplied v q)

unmixed : (h b : ℕ) → bit_xor (bit_xor h b) b ≡ h
unmixed h b = xor_assoc h b b ∙ (ap (bit_xor h) (xor_self b) ∙ xor_zero_r h)

-- equal states after one byte: of equal bytes the states before were equal, of equal states the bytes
same_step : (g h a b : ℕ) → g < 2 ^ 64 → h < 2 ^ 64 → a < 256 → b < 256 → fnv1a_step g a ≡ fnv1a_step h b → bit_xor g a ≡ bit_xor h b
same_step g h a b p q s t e =
    same_product (bit_xor g a) (bit_xor h b) (xor_lt 64 g a p (omega arith)) (xor_lt 64 h b q (omega arith)) e

same_state : (g h a : ℕ) → g < 2 ^ 64 → h < 2 ^ 64 → a < 256 → fnv1a_step g a ≡ fnv1a_step h a → g ≡ h
same_state g h a p q s e =
    sym (unmixed g a) ∙ (ap (λ n. bit_xor n a) (same_step g h a a p q s s e) ∙ unmixed h a)

same_byte : (h a b : ℕ) → h < 2 ^ 64 → a < 256 → b < 256 → fnv1a_step h a ≡ fnv1a_step h b → a ≡ b
same_byte h a b p s t e =
    let x = same_step h h a b p p s t e in
    sym (unmixed a h) ∙ (ap (λ n. bit_xor n h) (xor_comm a h ∙ (x ∙ xor_comm h b)) ∙ unmixed b h)

-- equal ends of one string from two states: the states were equal
same_start : (g h : ℕ) (ys : List ℕ) → g < 2 ^ 64 → h < 2 ^ 64 → AllBelowBase 256 ys → fold fnv1a_step g ys ≡ fold fnv1a_step h ys → g ≡ h
same_start g h [] p q u e = e
same_start g h (y ∷ ys) p q u e =
    same_state g h y p q u.0 (same_start (fnv1a_step g y) (fnv1a_step h y) ys (step_fits g y) (step_fits h y) u.1 e)

fold_append : (g : ℕ) (xs ys : List ℕ) → fold fnv1a_step g (xs ++ ys) ≡ fold fnv1a_step (fold fnv1a_step g xs) ys
fold_append g [] ys = refl
fold_append g (x ∷ xs) ys = fold_append (fnv1a_step g x) xs ys

pub fnv1a_detects : (xs ys : List ℕ) (a b : ℕ) → AllBelowBase 256 xs → AllBelowBase 256 ys → a < 256 → b < 256 → fnv1a (xs ++ a ∷ ys) ≡ fnv1a (xs ++ b ∷ ys) → a ≡ b
fnv1a_detects xs ys a b u v s t e =
    let h = fnv1a xs in
    let f = fold_append 0xcbf29ce484222325 xs (a ∷ ys) in
    let g = fold_append 0xcbf29ce484222325 xs (b ∷ ys) in
    let k = same_start (fnv1a_step h a) (fnv1a_step h b) ys (step_fits h a) (step_fits h b) v (sym f ∙ (e ∙ g)) in
    same_byte h a b (fnv1a_fits xs) s t k

pub tally_detects : (xs ys : List ℕ) (a b : ℕ) → AllBelowBase 256 xs → AllBelowBase 256 ys → a < 256 → b < 256 → tally_sum (xs ++ a ∷ ys) ≡ tally_sum (xs ++ b ∷ ys) → a ≡ b
tally_detects xs ys a b u v s t e =
    let p = sum_by-append (λ x. x) xs (a ∷ ys) in
    let q = sum_by-append (λ x. x) xs (b ∷ ys) in
    let c = sum_by-cons (λ x. x) a ys in
    let d = sum_by-cons (λ x. x) b ys in
    omega arith
