use Rattle.std.proofs.Common.{length, ap, ◌∙◌, arith}
use Rattle.std.proofs.lemmas.Bool.{le-leb}
use Rattle.lists.specs.Each.{zeros_to}
use Rattle.entries.specs.Entries.{value_of}
use Rattle.entries.proofs.Runs.{fill_done}
use Rattle.entries.proofs.entry.Entry.fill_value.Goals as goal

pub returns-clause-after : goal.returns-clause-after
returns-clause-after c =
    let v = value_of c.args.self.now in
    let t = le-leb (length v) (length c.args.into.now) (omega arith) in
    rw t (fill_done v c.loop-i.into (omega arith) (λ k h. c.loop-i.invariant k (omega arith)) ∙ ap (λ n. zeros_to n v) c.loop-i.auto.into)
