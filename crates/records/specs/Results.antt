use Rattle.std.specs.Prelude.{◌≡◌, ℕ, cond, List, ◌++◌, length, drop, Some, None, Option}
use Rattle.std.specs.Int.Digits.{AllBelowBase}
use Rattle.keys.specs.Keys.{key_bytes, read_key}
use Rattle.keys.specs.declared.key.Key.{Key}
use Rattle.records.specs.declared.kind.Kind.TheVariants.{Result}
use Rattle.records.specs.Records.{record_bytes, record_size, split_record, and_then, alone, fits_at}

-- the size of a result record
abbrev pub result_size : ℕ
result_size = record_size Result

-- a result record: the key of an output
abbrev pub result_bytes : Key → List ℕ
result_bytes k = record_bytes Result (key_bytes k)

-- the key that bytes hold which are a result record and nothing else
abbrev pub read_result : List ℕ → Option Key
read_result bs = and_then (and_then (split_record Result bs) alone) read_key

-- what a buffer holds once some bytes are written at its front, where they fit
abbrev pub with_front : List ℕ → List ℕ → List ℕ
with_front bytes buffer = cond (fits_at (length bytes) 0 buffer) (bytes ++ drop (length bytes) buffer) buffer

-- how many bytes were written at the front of a buffer, absent where they do not fit
abbrev pub front_size : List ℕ → List ℕ → Option ℕ
front_size bytes buffer = cond (fits_at (length bytes) 0 buffer) (Some (length bytes)) None

-- a result record reads back as its key, and bytes that read as a key are that key's result record
abbrev pub ResultsRoundTrip : Type 0
ResultsRoundTrip =
    ((k : Key) → read_result (result_bytes k) ≡ Some k)
    × ((bs : List ℕ) (k : Key) → AllBelowBase 256 bs → read_result bs ≡ Some k → bs ≡ result_bytes k)
