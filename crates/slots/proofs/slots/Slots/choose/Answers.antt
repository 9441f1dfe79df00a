use Rattle.std.proofs.Common.{sym, ap, ◌∙◌}
use Rattle.slots.specs.Table.{lowest_slot}
use Rattle.slots.specs.Storing.{bytes_of}
use Rattle.slots.specs.Pairs.{lowest_some}
use Rattle.slots.proofs.slots.Slots.choose.Goals as goal

pub returns-in-Some-clause-within : goal.returns-in-Some-clause-within
returns-in-Some-clause-within c =
    (lowest_some c.args.key.now (bytes_of c.args.self.now) c.in-Some.i (ap (lowest_slot c.args.key.now) (sym c.as_slice.ensures.value) ∙ sym c.in-Some.ensures)).0
