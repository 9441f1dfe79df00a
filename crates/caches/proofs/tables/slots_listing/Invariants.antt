use Rattle.std.proofs.Common.{◌≡◌, string_bytes}
use Rattle.slots.specs.Storing.{bytes_of}
use Rattle.caches.specs.Listings.{slot_lines}
use Rattle.caches.proofs.tables.slots_listing.Given as goal

abbrev pub invariant-loop-i : goal.invariant-loop-i
invariant-loop-i g l = string_bytes l.text ≡ slot_lines g.D.Digest.LONGEST g.D.Digest.words l.i (bytes_of l.store)
