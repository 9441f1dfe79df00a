use Rattle.records.proofs.Trips.{back, only}
use Rattle.records.proofs.results.results_round_trip.Goals as goal

pub returns : goal.returns
returns c = (back, only)
