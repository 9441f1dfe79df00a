use Rattle.std.proofs.Common.{◌≡◌, ℕ, zero, suc, ◌+◌, ◌*◌, ◌/◌, ◌%◌, ◌<◌, true, List, [], ◌∷◌, map, length, get_or, sym, refl, ap, ◌∙◌, arith, rules}
use Rattle.std.specs.Int.Digits.{AllBelowBase}
use Rattle.std.specs.Simd.{first_chunks}
use Rattle.std.proofs.lemmas.Nat.{div_below, mod_below, div-mul-add, mod-mul-add}
use Rattle.std.proofs.lemmas.Bool.{and_from, eq-eqb, eqb-true}
use Rattle.std.proofs.lemmas.Bool.Decides.{nat_tests}
use Rattle.hexadecimal.specs.Hex.{hex, hex_digit, is_digit, are_digits, digit_value, unhex, writes_bytes}

-- the byte that a pair of digits writes
abbrev pub pair_byte : List ℕ → ℕ
pair_byte p = digit_value (get_or p 0 0) * 16 + digit_value (get_or p 1 0)

-- digits write the bytes of their pairs
unhex_pairs : (n : ℕ) (cs : List ℕ) → length cs ≡ 2 * n → unhex cs ≡ map pair_byte (first_chunks 2 n cs)
unhex_pairs zero [] l = refl
unhex_pairs zero (c ∷ cs) l = absurd (omega arith)
unhex_pairs (suc n) [] l = absurd (omega arith)
unhex_pairs (suc n) (c ∷ []) l = absurd (omega arith)
unhex_pairs (suc n) (c ∷ d ∷ cs) l = ap (λ bs. pair_byte (c ∷ d ∷ []) ∷ bs) (unhex_pairs n cs (omega arith))

-- both of a pair are digits
pair_digits : (n i : ℕ) (cs : List ℕ) → length cs ≡ 2 * n → are_digits cs ≡ true → i < n → (is_digit (get_or (get_or (first_chunks 2 n cs) i []) 0 0) ≡ true) × (is_digit (get_or (get_or (first_chunks 2 n cs) i []) 1 0) ≡ true)
pair_digits zero i cs l t h = absurd (omega arith)
pair_digits (suc n) i [] l t h = absurd (omega arith)
pair_digits (suc n) i (c ∷ []) l t h = absurd (omega arith)
pair_digits (suc n) zero (c ∷ d ∷ cs) l t h =
    grind arith
pair_digits (suc n) (suc i) (c ∷ d ∷ cs) l t h =
    pair_digits n i cs (omega arith) (grind arith) (omega arith)

-- the same of the pairs that `as_chunks` gives
pub pairs_write : (n : ℕ) (cs : List ℕ) (ps : List (List ℕ)) → ps ≡ first_chunks 2 (length cs / 2) cs → length cs ≡ 2 * n → unhex cs ≡ map pair_byte ps
pairs_write n cs ps e l =
    let m : length cs / 2 ≡ n = omega arith in
    unhex_pairs n cs l ∙ ap (map pair_byte) (sym (e ∙ ap (λ k. first_chunks 2 k cs) m))

pub pairs_digits : (n i : ℕ) (cs : List ℕ) (ps : List (List ℕ)) → ps ≡ first_chunks 2 (length cs / 2) cs → length cs ≡ 2 * n → are_digits cs ≡ true → i < n → (is_digit (get_or (get_or ps i []) 0 0) ≡ true) × (is_digit (get_or (get_or ps i []) 1 0) ≡ true)
pairs_digits n i cs ps e l t h =
    let m : length cs / 2 ≡ n = omega arith in
    rw (e ∙ ap (λ k. first_chunks 2 k cs) m) (pair_digits n i cs l t h)

pub value_small : (c : ℕ) → is_digit c ≡ true → digit_value c < 16
value_small c t = grind (arith, nat_tests)

digit_good : (n : ℕ) → n < 16 → is_digit (hex_digit n) ≡ true
digit_good n h = grind (arith, nat_tests)

value_back : (n : ℕ) → n < 16 → digit_value (hex_digit n) ≡ n
value_back n h = grind (arith, nat_tests)

digit_back : (c : ℕ) → is_digit c ≡ true → hex_digit (digit_value c) ≡ c
digit_back c t = grind (arith, nat_tests)

-- the text of bytes has two digits to each, and reads back
digits_of : (bs : List ℕ) → AllBelowBase 256 bs → (length (hex bs) ≡ 2 * length bs) × ((are_digits (hex bs) ≡ true) × (unhex (hex bs) ≡ bs))
digits_of [] u = (refl, (refl, refl))
digits_of (b ∷ bs) u =
    let r = digits_of bs u.1 in
    let hi = div_below b 16 16 (omega arith) u.0 in
    let lo = mod_below b 16 (omega arith) in
    let x = value_back (b / 16) hi in
    let y = value_back (b % 16) lo in
    let v = digit_good (b / 16) hi in
    let w = digit_good (b % 16) lo in
    (omega (arith, r.0), (search (rules, and_from), grind arith))

pub back : (bs : List ℕ) → AllBelowBase 256 bs → (writes_bytes (length bs) (hex bs) ≡ true) × (unhex (hex bs) ≡ bs)
back bs u =
    let d = digits_of bs u in
    (grind (arith, eq-eqb), d.1.1)

text_back : (n : ℕ) (cs : List ℕ) → length cs ≡ 2 * n → are_digits cs ≡ true → hex (unhex cs) ≡ cs
text_back n [] l t = refl
text_back n (c ∷ []) l t = absurd (omega arith)
text_back zero (c ∷ d ∷ cs) l t = absurd (omega arith)
text_back (suc n) (c ∷ d ∷ cs) l t =
    let r = text_back n cs (omega arith) (grind arith) in
    let m = value_small d (grind arith) in
    grind (arith, div-mul-add, mod-mul-add, digit_back)

pub only : (n : ℕ) (text : List ℕ) → writes_bytes n text ≡ true → hex (unhex text) ≡ text
only n text t =
    text_back n text (grind (arith, eqb-true)) (grind arith)

-- what digits write are bytes
under_from : (cs : List ℕ) → are_digits cs ≡ true → AllBelowBase 256 (unhex cs)
under_from [] t = tt
under_from (c ∷ []) t = tt
under_from (c ∷ d ∷ cs) t =
    let x = value_small c (grind arith) in
    let y = value_small d (grind arith) in
    (omega arith, under_from cs (grind arith))

pub under_unhex : (n : ℕ) (text : List ℕ) → writes_bytes n text ≡ true → AllBelowBase 256 (unhex text)
under_unhex n text t = under_from text (grind arith)
