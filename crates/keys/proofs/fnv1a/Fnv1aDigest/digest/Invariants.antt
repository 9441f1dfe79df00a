use Rattle.std.proofs.Common.{◌≡◌, take}
use Rattle.keys.specs.Digests.{fnv1a}
use Rattle.keys.proofs.fnv1a.Fnv1aDigest.digest.Given as goal

abbrev pub invariant-loop-b : goal.invariant-loop-b
invariant-loop-b l = l.hash ≡ fnv1a (take l.b-index l.bytes)
