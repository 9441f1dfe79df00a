use Rattle.entries.proofs.Trips.{back, only}
use Rattle.entries.proofs.entries_round_trip.Goals as goal

pub returns : goal.returns
returns c = (back, only)
