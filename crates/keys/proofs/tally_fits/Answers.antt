use Rattle.keys.proofs.Sums.{tally_fits}
use Rattle.keys.proofs.tally_fits.Goals as goal

pub returns : goal.returns
returns c = tally_fits
