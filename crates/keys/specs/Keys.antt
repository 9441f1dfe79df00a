use Rattle.std.specs.Prelude.{◌<◌, ◌≡◌, ℕ, zero, suc, ◌+◌, ◌*◌, ◌%◌, ◌^◌, Bool, cond, ◌&&◌, List, [], ◌∷◌, ◌++◌, length, take, drop, Some, None, Option, ◌==◌, slice_index}
use Rattle.std.proofs.Common.{refl, mod-lt, arith}
use Rattle.std.specs.List.{flat_map}
use Rattle.std.specs.Int.Digits.{number_from_digits, AllBelowBase}
use Rattle.std.specs.Str.{bytes_eq}
use Rattle.numbers.specs.BigEndian.{big_endian}
use Rattle.keys.specs.declared.key.Key.{Key}

-- the bytes of the four words of a key
abbrev pub words_size : ℕ
words_size = 4 * 8

-- the size of a key in bytes: its words and its count
abbrev pub key_size : ℕ
key_size = words_size + 4

-- each of four words fits where all do
pub four_fit : (a b c d : ℕ) → a < 2 ^ 64 → b < 2 ^ 64 → c < 2 ^ 64 → d < 2 ^ 64 → (i : ℕ) → slice_index (a ∷ b ∷ c ∷ d ∷ []) i < 2 ^ 64
four_fit a b c d p q r s zero = p
four_fit a b c d p q r s (suc zero) = q
four_fit a b c d p q r s (suc (suc zero)) = r
four_fit a b c d p q r s (suc (suc (suc zero))) = s
four_fit a b c d p q r s (suc (suc (suc (suc i)))) = omega arith

-- the key of four numbers and a count, each cut to its width
unfoldable pub make_key : List ℕ → ℕ → Key
make_key ws n =
    record {
      words = slice_index ws 0 % 2 ^ 64 ∷ slice_index ws 1 % 2 ^ 64 ∷ slice_index ws 2 % 2 ^ 64 ∷ slice_index ws 3 % 2 ^ 64 ∷ [];
      count = n % 2 ^ 32;
      four = refl;
      fit = four_fit _ _ _ _ (mod-lt (slice_index ws 0) (omega arith)) (mod-lt (slice_index ws 1) (omega arith)) (mod-lt (slice_index ws 2) (omega arith)) (mod-lt (slice_index ws 3) (omega arith));
      count_fits = mod-lt n (omega arith);
    }

-- the words of a key, in order
abbrev pub key_words : Key → List ℕ
key_words k = k.words

-- the bytes of a key: its words in order, then its count, each high byte first
unfoldable pub key_bytes : Key → List ℕ
key_bytes k = flat_map (big_endian 8) (key_words k) ++ big_endian 4 k.count

-- the first n words that bytes write
abbrev pub words_of : ℕ → List ℕ → List ℕ
words_of zero bs = []
words_of (suc n) bs = number_from_digits 256 (take 8 bs) ∷ words_of n (drop 8 bs)

-- the key that exactly so many bytes write
abbrev pub read_key : List ℕ → Option Key
read_key bs =
    cond (length bs == key_size) (Some (make_key (words_of 4 bs) (number_from_digits 256 (drop words_size bs)))) None

-- whether two keys are one
abbrev pub same_key : Key → Key → Bool
same_key j k = bytes_eq (key_words j) (key_words k) && j.count == k.count

-- a key reads back from its bytes, and bytes that read as a key are that key's own
abbrev pub KeysRoundTrip : Type 0
KeysRoundTrip =
    ((k : Key) → read_key (key_bytes k) ≡ Some k)
    × ((bs : List ℕ) (k : Key) → AllBelowBase 256 bs → read_key bs ≡ Some k → bs ≡ key_bytes k)
