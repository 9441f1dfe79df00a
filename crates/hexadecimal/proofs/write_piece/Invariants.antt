use Rattle.std.proofs.Common.{◌≡◌, ◌*◌, length, take}
use Rattle.hexadecimal.specs.declared.TheConstants.{PIECE}
use Rattle.hexadecimal.specs.Hex.{hex}
use Rattle.hexadecimal.proofs.write_piece.Given as goal

-- the digits of the bytes so far are set
abbrev pub invariant-loop-i : goal.invariant-loop-i
invariant-loop-i g l = (length l.digits ≡ 2 * PIECE) × (take (2 * l.i) l.digits ≡ hex (take l.i l.piece))
