use Rattle.std.proofs.Common.{◌≡◌, ◌*◌, ◌≤◌, take}
use Rattle.keys.specs.Digests.{tally_sum, tally_weighted}
use Rattle.keys.proofs.tally.TallyDigest.digest.Given as goal

-- the sums of the bytes seen so far, and how large they can be
abbrev pub invariant-loop-i : goal.invariant-loop-i
invariant-loop-i l =
    (l.sum ≡ tally_sum (take l.i l.bytes)) × (l.weighted ≡ tally_weighted (take l.i l.bytes))
    × (l.sum ≤ 255 * l.i) × (l.weighted ≤ 16711680 * l.i)
