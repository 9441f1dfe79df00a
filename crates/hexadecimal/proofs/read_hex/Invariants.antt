use Rattle.std.proofs.Common.{◌≡◌, map, take}
use Rattle.hexadecimal.proofs.Back.{pair_byte}
use Rattle.hexadecimal.proofs.read_hex.Given as goal

-- the bytes of the pairs so far are written
abbrev pub invariant-loop-i : goal.invariant-loop-i
invariant-loop-i l = take l.i l.into ≡ map pair_byte (take l.i l.pairs)
