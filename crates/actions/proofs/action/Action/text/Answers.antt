use Rattle.std.proofs.Common.{rules}
use Rattle.actions.proofs.Texts.{text_of}
use Rattle.actions.proofs.action.Action.text.Goals as goal

pub returns : goal.returns
returns c = search (rules, text_of)
