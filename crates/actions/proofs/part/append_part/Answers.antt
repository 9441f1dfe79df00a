use Rattle.std.proofs.Common.{rules}
use Rattle.actions.proofs.Appends.{record_appended}
use Rattle.actions.proofs.part.append_part.Goals as goal

pub returns : goal.returns
returns g c = search (rules, record_appended)
