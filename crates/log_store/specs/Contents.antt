use Rattle.std.specs.Prelude.{◌≡◌, ℕ, ◌-◌, ◌≤◌, Bool, false, cond, List, [], ◌∷◌, ◌++◌, length, take, drop, Some, None, Option, nat_le}
use Rattle.std.specs.List.{flat_map}
use Rattle.std.specs.Int.Digits.{AllBelowBase}
use Rattle.std.specs.Str.{bytes_eq}
use Rattle.keys.specs.Digests.{value_room}
use Rattle.keys.specs.Keys.{same_key}
use Rattle.keys.specs.declared.key.Key.{Key}
use Rattle.lists.specs.Among.{Among}
use Rattle.entries.specs.Blocks.{entry_size}
use Rattle.entries.specs.Entries.{Logged, entry_bytes, read_entry}
use Rattle.log_store.specs.Scans.{scan}

-- the entries of a log: those read from its start up to the first place where no whole one begins
unfoldable pub log_entries : List ℕ → List Logged
log_entries bs = (scan read_entry bs).items

-- the bytes from that place on
unfoldable pub log_rest : List ℕ → List ℕ
log_rest bs = (scan read_entry bs).rest

-- that place, where the next entry goes
abbrev pub log_end : List ℕ → ℕ
log_end bs = length bs - length (log_rest bs)

-- the pairs that a log holds are those of its entries
abbrev pub Held : List ℕ → Key → List ℕ → Type 0
Held bs k v = Among (record { key = k; value = v }) (log_entries bs)

-- the later of two values that may be there
abbrev pub later : Option (List ℕ) → Option (List ℕ) → Option (List ℕ)
later early None = early
later early (Some v) = Some v

-- the value of an entry, where it is of a key
abbrev pub value_under : Key → Logged → Option (List ℕ)
value_under k e = cond (same_key e.key k) (Some e.value) None

-- the value of the last entry of a key
abbrev pub last_value : Key → List Logged → Option (List ℕ)
last_value k [] = None
last_value k (e ∷ es) = later (value_under k e) (last_value k es)

-- whether a value that may be there is a certain one
abbrev pub is_value : List ℕ → Option (List ℕ) → Bool
is_value v None = false
is_value v (Some w) = bytes_eq w v

-- whether an entry of a value has room behind the entries of a log
abbrev pub has_room : List ℕ → List ℕ → Bool
has_room v bs = nat_le (entry_size (length v)) (length (log_rest bs))

-- bytes whose first is zero, if there is one, so that nothing stale is read there as an entry
abbrev pub stopped : List ℕ → List ℕ
stopped [] = []
stopped (b ∷ bs) = 0 ∷ bs

-- what lies behind the entries of a log once an entry is written there
abbrev pub with_entry_first : Key → List ℕ → List ℕ → List ℕ
with_entry_first k v rest = entry_bytes k v ++ stopped (drop (entry_size (length v)) rest)

-- the bytes of a log with an entry appended
abbrev pub appended : Key → List ℕ → List ℕ → List ℕ
appended k v bs = take (log_end bs) bs ++ with_entry_first k v (log_rest bs)

-- the bytes of some entries, one after another
abbrev pub entries_bytes : List Logged → List ℕ
entries_bytes es = flat_map (λ e. entry_bytes e.key e.value) es

-- entries that have room for their values
abbrev pub Short : List Logged → Type 0
Short es = (e : Logged) → Among e es → length e.value ≤ value_room

-- entries written one after another read back, and a log is its entries' bytes and then bytes where no entry begins
abbrev pub LogsRoundTrip : Type 0
LogsRoundTrip =
    ((es : List Logged) (rest : List ℕ) → Short es → read_entry rest ≡ None → (log_entries (entries_bytes es ++ rest) ≡ es) × (log_rest (entries_bytes es ++ rest) ≡ rest))
    × ((bs : List ℕ) → AllBelowBase 256 bs → (bs ≡ entries_bytes (log_entries bs) ++ log_rest bs) × (read_entry (log_rest bs) ≡ None) × Short (log_entries bs))

-- an appended entry is the last entry, and the others are as they were
abbrev pub AppendsOne : Type 0
AppendsOne =
    (k : Key) (v bs : List ℕ) → length v ≤ value_room → log_entries (appended k v bs) ≡ log_entries bs ++ record { key = k; value = v } ∷ []
