use Rattle.std.proofs.Common.{◌≡◌, ◌*◌, ◌++◌, take, drop}
use Rattle.std.specs.List.{flat_map}
use Rattle.numbers.specs.BigEndian.{big_endian}
use Rattle.keys.proofs.key.Key.write.Given as goal

-- the first i words are written, and what lies behind them is as it was
abbrev pub invariant-loop-i : goal.invariant-loop-i
invariant-loop-i l = l.into ≡ flat_map (big_endian 8) (take l.i l.word-items) ++ drop (8 * l.i) l.initial.into
