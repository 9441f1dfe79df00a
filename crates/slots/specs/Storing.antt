use Rattle.std.specs.Prelude.{◌≡◌, ℕ, ◌+◌, ◌≤◌, cond, List, length, is_some, vec_items, Option, ◌==◌}
use Rattle.std.specs.Option.{option_map, unwrap_or}
use Rattle.keys.specs.Digests.{value_room}
use Rattle.keys.specs.declared.key.Key.{Key}
use Rattle.stores.specs.Numbers.{no_fault, PutNumbers}
use Rattle.stores.specs.LookUps.{LooksUp}
use Rattle.stores.specs.Model.{Model, HoldSame}
use Rattle.slots.specs.declared.slots.Slots.{Slots}
use Rattle.slots.specs.Table.{slot_count, slot, slot_value, lowest_slot, Held, with_slot}

-- the bytes of the table
abbrev pub bytes_of : Slots → List ℕ
bytes_of s = vec_items s.bytes

-- the value in the lowest slot of a key
abbrev pub value_found : Key → List ℕ → Option (List ℕ)
value_found k bs = option_map (λ i. slot_value (slot i bs)) (lowest_slot k bs)

-- the slot that a put overwrites: the lowest of the key, else the one under the cursor
abbrev pub put_place : Key → Slots → ℕ
put_place k s = unwrap_or (lowest_slot k (bytes_of s)) s.cursor

-- the place behind one, the first behind the last
abbrev pub place_behind : ℕ → ℕ → ℕ
place_behind count i = cond (i + 1 == count) 0 (i + 1)

-- the cursor moves only where its slot was overwritten
abbrev pub next_cursor : Key → Slots → ℕ
next_cursor k s =
    cond (is_some (lowest_slot k (bytes_of s))) s.cursor (place_behind (slot_count (length (bytes_of s))) s.cursor)

-- a put is always kept: it overwrites one slot, and no byte outside it changes
pub record SlotsPuts (s : Slots) (k : Key) (v : List ℕ) (r : PutNumbers) (t : Slots) : Type 0 where
  pub room : length v ≤ value_room
  pub answer : r ≡ record { answer = 1; first = no_fault }
  pub bytes : bytes_of t ≡ with_slot (put_place k s) k v (bytes_of s)
  pub cursor : t.cursor ≡ next_cursor k s

-- the pairs are those of the slots, a find looks up the value in the lowest slot of the key, and no fault is raised
abbrev pub slots_model : Model Slots
slots_model = record { holds = λ s. Held (bytes_of s); raises = λ s f. ⊥; finds = LooksUp (λ s k. value_found k (bytes_of s)); puts = SlotsPuts }

-- two stores hold the same pairs
abbrev pub SamePairs : Slots → Slots → Type 0
SamePairs = HoldSame slots_model

-- stores over the same bytes hold the same pairs
abbrev pub Reopened : Type 0
Reopened = (s t : Slots) → bytes_of t ≡ bytes_of s → SamePairs s t
