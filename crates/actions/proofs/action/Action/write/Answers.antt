use Rattle.std.proofs.Common.{arith}
use Rattle.actions.specs.Actions.{action_text}
use Rattle.actions.specs.Views.{act_of}
use Rattle.actions.proofs.Sizes.{size_of_action, too_small}
use Rattle.actions.proofs.action.Action.write.Goals as goal

pub returns-then-into-size : goal.returns-then-into-size
returns-then-into-size c =
    let a = c.args.self.now in
    let t = too_small (action_text (act_of a)) c.args.into.now (omega (arith, size_of_action a, c.size.ensures)) in
    record { answer = t.0; after = t.1 }
