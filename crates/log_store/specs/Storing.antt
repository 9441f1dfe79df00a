use Rattle.std.specs.Prelude.{◌≡◌, ℕ, ◌≤◌, Bool, true, false, List, length, vec_items, Option}
use Rattle.keys.specs.Digests.{value_room}
use Rattle.keys.specs.declared.key.Key.{Key}
use Rattle.stores.specs.Numbers.{mark_number, Raised, no_fault, PutNumbers}
use Rattle.stores.specs.Model.{Model, HoldSame}
use Rattle.stores.specs.LookUps.{LooksUp}
use Rattle.log_store.specs.declared.log.Log.{Log}
use Rattle.log_store.specs.Contents.{log_entries, last_value, is_value, has_room, appended, Held}

-- the most bytes of a log
abbrev pub log_most : ℕ
log_most = 65536

-- the bytes of a log, and the number of its mark
abbrev pub bytes_of : Log → List ℕ
bytes_of s = vec_items s.bytes

abbrev pub log_mark : Log → ℕ
log_mark s = mark_number s.mark

-- the one fault of a log: no room
abbrev pub no_room : Log → Raised
no_room s = record { mark = log_mark s; cause = 4 }

-- the value that a find looks up: that of the last entry of the key
abbrev pub value_found : Log → Key → Option (List ℕ)
value_found s k = last_value k (log_entries (bytes_of s))

-- what a put comes to: its answer, and the bytes then
pub record PutDone : Type 0 where
  pub answer : PutNumbers
  pub bytes : List ℕ

-- what a put comes to, by whether the last entry of the key has that value and whether an entry has room
abbrev pub put_by : Log → Key → List ℕ → Bool → Bool → PutDone
put_by s k v true fits = record { answer = record { answer = 1; first = no_fault }; bytes = bytes_of s }
put_by s k v false true = record { answer = record { answer = 1; first = no_fault }; bytes = appended k v (bytes_of s) }
put_by s k v false false = record { answer = record { answer = 3; first = no_room s }; bytes = bytes_of s }

-- a put is kept with nothing written where the last entry of the key has that value, else with an entry appended; without room for the entry it fails and writes nothing
abbrev pub put_done : Log → Key → List ℕ → PutDone
put_done s k v = put_by s k v (is_value v (value_found s k)) (has_room v (bytes_of s))

-- a put of a log
pub record LogPuts (s : Log) (k : Key) (v : List ℕ) (r : PutNumbers) (t : Log) : Type 0 where
  pub room : length v ≤ value_room
  pub answer : r ≡ (put_done s k v).answer
  pub bytes : bytes_of t ≡ (put_done s k v).bytes
  pub mark : log_mark t ≡ log_mark s

-- the pairs are those of the entries, a find looks up the last entry of the key, and the one fault is no room
abbrev pub log_model : Model Log
log_model = record { holds = λ s. Held (bytes_of s); raises = λ s f. f ≡ no_room s; finds = LooksUp value_found; puts = LogPuts }

-- two logs hold the same pairs
abbrev pub SamePairs : Log → Log → Type 0
SamePairs = HoldSame log_model
