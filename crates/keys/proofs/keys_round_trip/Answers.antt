use Rattle.keys.proofs.Trips.{back, only}
use Rattle.keys.proofs.keys_round_trip.Goals as goal

pub returns : goal.returns
returns c = (back, only)
