use Rattle.std.proofs.Common.{◌≡◌, ◌+◌, ◌-◌, ◌*◌, arith}
use Rattle.std.proofs.lemmas.Grind.{common_steps}
use Rattle.slots.specs.Table.{slot_size}
use Rattle.slots.proofs.table.Slot.at.Goals as goal

pub returns : goal.returns
returns c =
    let e : c.args.i * slot_size + slot_size - c.args.i * slot_size ≡ slot_size = omega arith in
    rw e (grind (arith, common_steps))
