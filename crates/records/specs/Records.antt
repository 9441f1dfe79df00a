use Rattle.std.specs.Prelude.{ℕ, ◌+◌, Bool, false, cond, ◌&&◌, List, [], ◌∷◌, length, take, drop, Some, None, Option, ◌==◌, nat_le}
use Rattle.std.specs.Borrow.{Bor}
use Rattle.keys.specs.Keys.{key_size}
use Rattle.records.specs.declared.kind.Kind.{Kind}
use Rattle.records.specs.declared.kind.Kind.TheVariants.{End, Operation, Argument, Input, Result, LogHead, LogBlock}

-- the first byte of a record, which names its kind
abbrev pub kind_number : Kind → ℕ
kind_number End = 0
kind_number Operation = 1
kind_number Argument = 2
kind_number Input = 3
kind_number Result = 4
kind_number LogHead = 5
kind_number LogBlock = 6

-- the most bytes of an argument, and those of a log block
abbrev pub argument_room : ℕ
argument_room = 16

abbrev pub block_size : ℕ
block_size = 32

-- how many bytes follow the kind
abbrev pub body_length : Kind → ℕ
body_length End = 0
body_length Operation = 1
body_length Argument = 1 + argument_room
body_length Input = key_size
body_length Result = key_size
body_length LogHead = key_size + 4
body_length LogBlock = block_size

-- the bytes of a record: its kind, then its body
abbrev pub record_bytes : Kind → List ℕ → List ℕ
record_bytes kind body = kind_number kind ∷ body

-- the size of a record
abbrev pub record_size : Kind → ℕ
record_size kind = 1 + body_length kind

-- a part of some bytes, and the bytes behind it
pub record Split (X : Type 0) : Type 0 where
  pub part : X
  pub rest : List ℕ

-- whether a whole record of a kind stands at the front of bytes
abbrev pub begins_record : Kind → List ℕ → Bool
begins_record kind [] = false
begins_record kind (b ∷ bs) = b == kind_number kind && nat_le (body_length kind) (length bs)

-- the body of the record of a kind at the front of bytes, where a whole one stands there
abbrev pub split_record : Kind → List ℕ → Option (Split (List ℕ))
split_record kind bs =
    cond (begins_record kind bs) (Some (record { part = take (body_length kind) (drop 1 bs); rest = drop (record_size kind) bs })) None

-- what a function answers of an answer, absent where that is
abbrev pub and_then : {X Y : Type 0} → Option X → (X → Option Y) → Option Y
and_then None f = None
and_then (Some x) f = f x

-- a part behind which nothing lies
abbrev pub alone : {X : Type 0} → Split X → Option X
alone s = cond (length s.rest == 0) (Some s.part) None

-- two borrowed parts, as what they hold
abbrev pub split_of : Bor (List ℕ) × Bor (List ℕ) → Split (List ℕ)
split_of p = record { part = p.0.now; rest = p.1.now }

-- whether so many bytes lie within a buffer from a place on
abbrev pub fits_at : ℕ → ℕ → List ℕ → Bool
fits_at n at buffer = nat_le (at + n) (length buffer)

-- whether a record with that body is whole and fits a buffer from a place on
abbrev pub record_fits : Kind → List ℕ → ℕ → List ℕ → Bool
record_fits kind body at buffer = length body == body_length kind && fits_at (record_size kind) at buffer
