use Rattle.log_store.specs.Appends.{logs_back, logs_only, rest_ends, entries_short}
use Rattle.log_store.proofs.walk.logs_round_trip.Goals as goal

pub returns : goal.returns
returns c = (logs_back, λ bs u. (logs_only bs u, rest_ends bs, entries_short bs))
