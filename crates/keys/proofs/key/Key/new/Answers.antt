use Rattle.std.proofs.Common.{sym}
use Rattle.keys.proofs.Trips.{made_again}
use Rattle.keys.proofs.key.Key.new.Goals as goal

pub returns : goal.returns
returns c = sym (made_again _)
