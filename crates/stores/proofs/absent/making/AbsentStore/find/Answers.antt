use Rattle.std.proofs.Common.{rules}
use Rattle.stores.proofs.LookUps.{look_up_none}
use Rattle.stores.proofs.absent.making.AbsentStore.find.Goals as goal

pub returns : goal.returns
returns c = search (rules, look_up_none)
