use Rattle.actions.proofs.Trips.{back, only, apart, sizes}
use Rattle.actions.proofs.action.reading.actions_round_trip.Goals as goal

pub returns : goal.returns
returns c = (back, only, apart, sizes)
