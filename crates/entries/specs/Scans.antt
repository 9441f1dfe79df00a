use Rattle.std.specs.Prelude.{◌≡◌, List, ℕ, Some, None, Option}
use Rattle.std.specs.Option.{option_map}
use Rattle.records.specs.Records.{Split}
use Rattle.entries.specs.Entries.{Logged, read_entry, entry_of}
use Rattle.entries.specs.declared.entry.Entry.{Entry}
use Rattle.entries.specs.declared.scan.Entries.{Entries}

-- the bytes that a scan has left
abbrev pub left_of : Entries → List ℕ
left_of s = s.rest.now

-- what lies behind an entry that was read from bytes; all of them where none was
abbrev pub behind : List ℕ → Option (Split Logged) → List ℕ
behind bs None = bs
behind bs (Some e) = e.rest

-- a scan passes the entry at the front of what it has left
abbrev pub PassesEntry : Entries → Option Entry → Entries → Type 0
PassesEntry s r t =
    (option_map entry_of r ≡ read_entry (left_of s)) × (left_of t ≡ behind (left_of s) (option_map entry_of r))
