use Rattle.std.proofs.Common.{◌≡◌, length, take}
use Rattle.keys.specs.Keys.{words_of}
use Rattle.keys.proofs.key.Key.read.Given as goal

-- the first i words are read
abbrev pub invariant-loop-i : goal.invariant-loop-i
invariant-loop-i l = (take l.i l.word-items ≡ words_of l.i l.bytes) × (length l.word-items ≡ 4)
