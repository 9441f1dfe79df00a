use Rattle.keys.proofs.Damage.{fnv1a_detects, tally_detects}
use Rattle.keys.proofs.single_bytes_detected.Goals as goal

pub returns : goal.returns
returns c = (fnv1a_detects, tally_detects)
