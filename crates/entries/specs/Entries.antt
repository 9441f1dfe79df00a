use Rattle.std.specs.Prelude.{◌≡◌, ℕ, ◌≤◌, cond, List, ◌++◌, length, take, drop, Some, None, Option, nat_le}
use Rattle.std.specs.Int.Digits.{AllBelowBase}
use Rattle.keys.specs.declared.key.Key.{Key}
use Rattle.records.specs.Records.{Split, and_then}
use Rattle.records.specs.Results.{with_front, front_size}
use Rattle.lists.specs.Each.{all_zero}
use Rattle.keys.specs.Digests.{value_room}
use Rattle.entries.specs.Blocks.{block_count, entry_size, padded, blocks, joined_bodies, bodies}
use Rattle.entries.specs.Heads.{Head, head_bytes, read_head}
use Rattle.entries.specs.declared.entry.Entry.{Entry}

-- what an entry logs: a key and its value
pub record Logged : Type 0 where
  pub key : Key
  pub value : List ℕ

-- the bytes of an entry: its head, then its value in blocks
abbrev pub entry_bytes : Key → List ℕ → List ℕ
entry_bytes k v = head_bytes k (length v) ++ blocks (block_count (length v)) (padded v)

-- the value at the front of the bodies of its blocks, absent unless only zeros lie behind it
abbrev pub unpadded : Head → Split (List ℕ) → Option (Split Logged)
unpadded h s =
    cond (all_zero (drop h.size s.part)) (Some (record { part = record { key = h.key; value = take h.size s.part }; rest = s.rest })) None

-- the entry of a head, its blocks being at the front of what lies behind the head
abbrev pub with_value : Split Head → Option (Split Logged)
with_value h = and_then (bodies (block_count h.part.size) h.rest) (unpadded h.part)

-- the entry at the front of bytes, and the bytes behind
abbrev pub read_entry : List ℕ → Option (Split Logged)
read_entry bs = and_then (read_head bs) with_value

-- the bodies of the blocks of a borrowed entry, joined
abbrev pub bodies_of : Entry → List ℕ
bodies_of e = joined_bodies (block_count e.head.size) e.blocks.now

-- the value of a borrowed entry: the bytes at the front of its blocks
abbrev pub value_of : Entry → List ℕ
value_of e = take e.head.size (bodies_of e)

-- a borrowed entry, as what it logs and the bytes behind
abbrev pub entry_of : Entry → Split Logged
entry_of e = record { part = record { key = e.head.key; value = value_of e }; rest = e.rest.now }

-- what a buffer holds once an entry is written at its front, where the value is one and the entry fits
abbrev pub with_entry : Key → List ℕ → List ℕ → List ℕ
with_entry k v buffer = cond (nat_le (length v) value_room) (with_front (entry_bytes k v) buffer) buffer

-- how many bytes were written, absent where the value is too long or the entry does not fit
abbrev pub entry_front : Key → List ℕ → List ℕ → Option ℕ
entry_front k v buffer = cond (nat_le (length v) value_room) (front_size (entry_bytes k v) buffer) None

-- an entry reads back, whatever lies behind it, and bytes that read as an entry are its own
abbrev pub EntriesRoundTrip : Type 0
EntriesRoundTrip =
    ((k : Key) (v rest : List ℕ) → length v ≤ value_room → read_entry (entry_bytes k v ++ rest) ≡ Some (record { part = record { key = k; value = v }; rest = rest }))
    × ((bs : List ℕ) (e : Split Logged) → AllBelowBase 256 bs → read_entry bs ≡ Some e → (bs ≡ entry_bytes e.part.key e.part.value ++ e.rest) × (length e.part.value ≤ value_room))

-- an entry has the size of its value's length: 41 bytes for none, 74 for 32, 107 for 33
abbrev pub EntrySizes : Type 0
EntrySizes =
    ((k : Key) (v : List ℕ) → length (entry_bytes k v) ≡ entry_size (length v))
    × (entry_size 0 ≡ 41) × (entry_size 32 ≡ 74) × (entry_size 33 ≡ 107)
