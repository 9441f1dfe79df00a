use Rattle.std.proofs.Common.{◌≡◌, ◌-◌, ◌*◌, drop}
use Rattle.entries.specs.Blocks.{whole_blocks}
use Rattle.entries.proofs.blocks.split_blocks.Given as goal

-- what is left lies behind the blocks so far, and all are whole where those that are left are
abbrev pub invariant-loop : goal.invariant-loop
invariant-loop l =
    record { left : l.rest ≡ drop (l.counter * 33) l.bytes; whole : whole_blocks l.count l.bytes ≡ whole_blocks (l.count - l.counter) l.rest }
