use Rattle.std.specs.Prelude.{◌≡◌, ℕ, ◌+◌, ◌-◌, ◌*◌, ◌/◌, ◌%◌, Bool, true, cond, ◌&&◌, ◌||◌, List, [], ◌∷◌, length, codes, ◌==◌, nat_le, nat_lt}
use Rattle.std.specs.Int.Digits.{AllBelowBase}
use Rattle.lists.specs.Each.{each}
use Rattle.hexadecimal.specs.declared.NotHex.{NotHex}
use Rattle.hexadecimal.specs.declared.NotHex.TheVariants.{Length, Digit}

-- the digit 0 to 9 or a to f of a number below 16, as its code
abbrev pub hex_digit : ℕ → ℕ
hex_digit n = cond (nat_lt n 10) (48 + n) (87 + n)

-- bytes as text, two digits to each, the high one first
abbrev pub hex : List ℕ → List ℕ
hex [] = []
hex (b ∷ bs) = hex_digit (b / 16) ∷ hex_digit (b % 16) ∷ hex bs

-- whether a code is a digit 0 to 9 or a to f
abbrev pub is_digit : ℕ → Bool
is_digit c = (nat_le 48 c && nat_le c 57) || (nat_le 97 c && nat_le c 102)

-- whether each code is one
abbrev pub are_digits : List ℕ → Bool
are_digits cs = each is_digit cs

-- the number of a digit
abbrev pub digit_value : ℕ → ℕ
digit_value c = cond (nat_lt c 97) (c - 48) (c - 87)

-- the bytes that digits write, two to each byte
abbrev pub unhex : List ℕ → List ℕ
unhex [] = []
unhex (c ∷ []) = []
unhex (c ∷ d ∷ cs) = (digit_value c * 16 + digit_value d) ∷ unhex cs

-- whether a text writes exactly n bytes
abbrev pub writes_bytes : ℕ → List ℕ → Bool
writes_bytes n text = length text == 2 * n && are_digits text

-- what is said of a text that does not write the bytes that are asked for
abbrev pub not_hex_text : NotHex → List ℕ
not_hex_text Length = codes "not two digits for each byte"
not_hex_text Digit = codes "a character is no digit 0 to 9 or a to f"

-- bytes read back from their text, and a text that writes bytes is the text of these
abbrev pub HexRoundTrip : Type 0
HexRoundTrip =
    ((bs : List ℕ) → AllBelowBase 256 bs → (writes_bytes (length bs) (hex bs) ≡ true) × (unhex (hex bs) ≡ bs))
    × ((n : ℕ) (text : List ℕ) → writes_bytes n text ≡ true → hex (unhex text) ≡ text)
