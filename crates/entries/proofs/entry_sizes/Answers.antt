use Rattle.std.proofs.Common.{refl}
use Rattle.entries.proofs.Trips.{sizes}
use Rattle.entries.proofs.entry_sizes.Goals as goal

pub returns : goal.returns
returns c = (sizes, refl, refl, refl)
