use Rattle.std.proofs.Common.{◌≡◌, ℕ, ◌<◌, get_or}
use Rattle.entries.specs.Entries.{value_of}
use Rattle.entries.proofs.entry.Entry.fill_value.Given as goal

-- the places below i hold the value's bytes
abbrev pub invariant-loop-i : goal.invariant-loop-i
invariant-loop-i l = (k : ℕ) → k < l.i → get_or l.into k 0 ≡ get_or (value_of l.self) k 0
