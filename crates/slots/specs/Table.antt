use Rattle.std.specs.Prelude.{◌≡◌, ℕ, zero, suc, ◌+◌, ◌*◌, ◌/◌, ◌<◌, min, Bool, false, cond, not, ◌&&◌, List, ◌∷◌, ◌++◌, length, take, drop, Some, None, Option, ◌==◌, nat_le, nat_lt, slice_index}
use Rattle.std.specs.Borrow.{Bor}
use Rattle.std.proofs.Math.Seq.{paste}
use Rattle.std.specs.Option.{option_map, unwrap_or}
use Rattle.numbers.specs.BigEndian.{big_endian, read_big_endian}
use Rattle.keys.specs.Digests.{value_room}
use Rattle.keys.specs.Keys.{key_size, key_bytes, read_key, same_key}
use Rattle.keys.specs.declared.key.Key.{Key}
use Rattle.stores.specs.Numbers.{padded}

-- where the length and where the value of a slot begin
abbrev pub length_at : ℕ
length_at = 1 + key_size

abbrev pub value_at : ℕ
value_at = length_at + 4

-- the size of a slot: a flag, a key, a length in four bytes, the room of a value
abbrev pub slot_size : ℕ
slot_size = value_at + value_room

-- the most slots of a table
abbrev pub slot_most : ℕ
slot_most = 30

-- how many slots so many bytes have
abbrev pub slot_count : ℕ → ℕ
slot_count n = min (n / slot_size) slot_most

-- the bytes of a slot
abbrev pub slot : ℕ → List ℕ → List ℕ
slot i bs = take slot_size (drop (i * slot_size) bs)

-- the slot of that number, absent behind the last
abbrev pub slot_at : ℕ → List ℕ → Option (List ℕ)
slot_at i bs = cond (nat_lt i (slot_count (length bs))) (Some (slot i bs)) None

-- a key and its value
pub record Pair : Type 0 where
  pub key : Key
  pub value : List ℕ

-- the length that a slot names
abbrev pub slot_length : List ℕ → ℕ
slot_length s = unwrap_or (read_big_endian (take 4 (drop length_at s))) 0

-- whether a slot is taken: its flag is 1 and its length is within a value's room
abbrev pub is_taken : List ℕ → Bool
is_taken s = slice_index s 0 == 1 && nat_le (slot_length s) value_room

-- the value at the front of a slot's room
abbrev pub slot_value : List ℕ → List ℕ
slot_value s = take (slot_length s) (drop value_at s)

-- the key of a slot
abbrev pub slot_key : List ℕ → Option Key
slot_key s = read_key (take key_size (drop 1 s))

-- the pair of a slot, absent where it is empty
abbrev pub read_slot : List ℕ → Option Pair
read_slot s = cond (is_taken s) (option_map (λ k. record { key = k; value = slot_value s }) (slot_key s)) None

-- the pair of the slot of that number, absent where it is empty and behind the last
abbrev pub pair_at : ℕ → List ℕ → Option Pair
pair_at i bs = cond (nat_lt i (slot_count (length bs))) (read_slot (slot i bs)) None

abbrev pub pair_key : Pair → Key
pair_key p = p.key

abbrev pub pair_value : Pair → List ℕ
pair_value p = p.value

-- a pair whose value lies in other bytes
abbrev pub pair_seen : Key × Bor (List ℕ) → Pair
pair_seen p = record { key = p.0; value = p.1.now }

-- whether a slot is empty though its flag is not 0, as no store leaves it
abbrev pub is_damaged : List ℕ → Bool
is_damaged s = not (slice_index s 0 == 0) && not (is_taken s)

abbrev pub is_damaged_at : ℕ → List ℕ → Bool
is_damaged_at i bs = nat_lt i (slot_count (length bs)) && is_damaged (slot i bs)

-- the bytes of a slot with a pair, zeros behind the value
abbrev pub slot_bytes : Key → List ℕ → List ℕ
slot_bytes k v = 1 ∷ (key_bytes k ++ (big_endian 4 (length v) ++ padded v))

-- whether a key that was read is a certain one
abbrev pub is_key : Key → Option Key → Bool
is_key k None = false
is_key k (Some j) = same_key j k

-- whether a slot has a pair of a key
abbrev pub slot_has : Key → List ℕ → Bool
slot_has k s = is_taken s && is_key k (slot_key s)

-- the first of n slots from i on that has a pair of a key
abbrev pub first_slot : Key → ℕ → ℕ → List ℕ → Option ℕ
first_slot k zero i bs = None
first_slot k (suc n) i bs = cond (slot_has k (slot i bs)) (Some i) (first_slot k n (i + 1) bs)

-- the lowest slot of a key
abbrev pub lowest_slot : Key → List ℕ → Option ℕ
lowest_slot k bs = first_slot k (slot_count (length bs)) 0 bs

-- the pairs that a table holds are those of its slots
pub record Held (bs : List ℕ) (k : Key) (v : List ℕ) : Type 0 where
  pub place : ℕ
  pub within : place < slot_count (length bs)
  pub pair : read_slot (slot place bs) ≡ Some (record { key = k; value = v })

-- the bytes of a table with a slot overwritten
abbrev pub with_slot : ℕ → Key → List ℕ → List ℕ → List ℕ
with_slot i k v bs = paste bs (i * slot_size) (slot_bytes k v) slot_size
