use Rattle.std.proofs.Common.{◌≡◌, ℕ, zero, suc, ◌+◌, ◌*◌, ◌/◌, ◌%◌, ◌<◌, List, [], ◌∷◌, ◌++◌, length, get_or, set, length-set, take, refl, ap, ◌∙◌, arith}
use Rattle.std.specs.Str.{IsAscii}
use Rattle.std.proofs.lemmas.Bool.Decides.{nat_tests}
use Rattle.std.proofs.lemmas.List.{append_assoc, take_more, take_more_set}
use Rattle.hexadecimal.specs.Hex.{hex, hex_digit}

pub hex_append : (xs ys : List ℕ) → hex (xs ++ ys) ≡ hex xs ++ hex ys
hex_append [] ys = refl
hex_append (x ∷ xs) ys = ap (λ zs. hex_digit (x / 16) ∷ hex_digit (x % 16) ∷ zs) (hex_append xs ys)

-- one byte more
pub hex_more : (bs : List ℕ) (i : ℕ) → i < length bs → hex (take (i + 1) bs) ≡ hex (take i bs) ++ hex (get_or bs i 0 ∷ [])
hex_more bs i h = ap hex (take_more bs i 0 h) ∙ hex_append (take i bs) (get_or bs i 0 ∷ [])

-- the digits of one byte more are set
pub digits_more : (bs ds : List ℕ) (i x y : ℕ) → i < length bs → 2 * i + 1 < length ds → take (2 * i) ds ≡ hex (take i bs) → x ≡ hex_digit (get_or bs i 0 / 16) → y ≡ hex_digit (get_or bs i 0 % 16) → take (2 * (i + 1)) (set (set ds (2 * i) x) (2 * i + 1) y) ≡ hex (take (i + 1) bs)
digits_more bs ds i x y b d h ex ey =
    let n : 2 * (i + 1) ≡ 2 * i + 1 + 1 = omega arith in
    let two = take_more_set (set ds (2 * i) x) (2 * i + 1) y (omega (arith, length-set ds (2 * i) x)) in
    rw (n, two, take_more_set ds (2 * i) x (omega arith), append_assoc, h, ex, ey, hex_more bs i b)

digit_ascii : (n : ℕ) → n < 16 → hex_digit n < 128
digit_ascii n h = grind (arith, nat_tests)

-- the text of bytes is ASCII
pub hex_ascii : (bs : List ℕ) → ((i : ℕ) → get_or bs i 0 < 256) → IsAscii (hex bs)
hex_ascii [] h i = omega arith
hex_ascii (b ∷ bs) h zero = digit_ascii (b / 16) (omega (arith, h 0))
hex_ascii (b ∷ bs) h (suc zero) = digit_ascii (b % 16) (omega arith)
hex_ascii (b ∷ bs) h (suc (suc i)) = hex_ascii bs (λ j. h (suc j)) i
