use Rattle.std.specs.Prelude.{◌≡◌, ℕ, zero, suc, ◌/◌, ◌%◌, ◌^◌, ◌<◌, ◌≤◌, cond, List, [], ◌∷◌, length, Some, None, Option, nat_le}
use Rattle.std.specs.Int.Digits.{number_from_digits, AllBelowBase}

-- the lowest k bytes of a number, the highest of them first
abbrev pub big_endian : ℕ → ℕ → List ℕ
big_endian zero n = []
big_endian (suc k) n = (n / 256 ^ k % 256) ∷ big_endian k n

-- the number that at most eight bytes write
abbrev pub read_big_endian : List ℕ → Option ℕ
read_big_endian bs = cond (nat_le (length bs) 8) (Some (number_from_digits 256 bs)) None

-- a number that fits its bytes reads back from them, and bytes that read as a number are its own
abbrev pub RoundTrips : Type 0
RoundTrips =
    ((k n : ℕ) → k ≤ 8 → n < 256 ^ k → read_big_endian (big_endian k n) ≡ Some n)
    × ((bs : List ℕ) (n : ℕ) → AllBelowBase 256 bs → read_big_endian bs ≡ Some n → bs ≡ big_endian (length bs) n)
