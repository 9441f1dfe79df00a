use Rattle.keys.proofs.Exact.{fnv1a_uncut, tally_uncut}
use Rattle.keys.proofs.keys_uncut.Goals as goal

pub returns : goal.returns
returns c = (fnv1a_uncut, tally_uncut)
