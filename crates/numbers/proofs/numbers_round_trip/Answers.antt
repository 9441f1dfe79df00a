use Rattle.numbers.proofs.Trips.{back, only}
use Rattle.numbers.proofs.numbers_round_trip.Goals as goal

pub returns : goal.returns
returns c = (back, only)
