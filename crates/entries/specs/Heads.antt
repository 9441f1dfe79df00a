use Rattle.std.specs.Prelude.{ℕ, cond, List, ◌++◌, take, drop, Some, None, Option, nat_le}
use Rattle.std.specs.Borrow.{Bor}
use Rattle.numbers.specs.BigEndian.{big_endian, read_big_endian}
use Rattle.keys.specs.Keys.{key_size, key_bytes, read_key}
use Rattle.keys.specs.declared.key.Key.{Key}
use Rattle.records.specs.declared.kind.Kind.TheVariants.{LogHead}
use Rattle.records.specs.Records.{Split, record_bytes, split_record, and_then}
use Rattle.keys.specs.Digests.{value_room}
use Rattle.entries.specs.declared.entry.EntryHead.{EntryHead}

-- the head of an entry: a key, and the length of the value
pub record Head : Type 0 where
  pub key : Key
  pub size : ℕ

-- the body of a head record: the key's bytes, then the length in four
abbrev pub head_body : Key → ℕ → List ℕ
head_body k n = key_bytes k ++ big_endian 4 n

-- a head record
abbrev pub head_bytes : Key → ℕ → List ℕ
head_bytes k n = record_bytes LogHead (head_body k n)

-- a head, absent where the length is over the room of a value
abbrev pub fitting_head : Key → List ℕ → ℕ → Option (Split Head)
fitting_head k rest n = cond (nat_le n value_room) (Some (record { part = record { key = k; size = n }; rest = rest })) None

-- the head in the body of a head record, and the bytes behind
abbrev pub head_in : Split (List ℕ) → Option (Split Head)
head_in s =
    and_then (read_key (take key_size s.part)) (λ k. and_then (read_big_endian (drop key_size s.part)) (fitting_head k s.rest))

-- the head at the front of bytes, and the bytes behind
abbrev pub read_head : List ℕ → Option (Split Head)
read_head bs = and_then (split_record LogHead bs) head_in

-- what a head that is read says, and borrowed bytes, as the head and the rest that they are
abbrev pub head_of : EntryHead × Bor (List ℕ) → Split Head
head_of p = record { part = record { key = p.0.key; size = p.0.size }; rest = p.1.now }
