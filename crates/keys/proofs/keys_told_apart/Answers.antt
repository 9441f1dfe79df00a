use Rattle.keys.specs.SameKeys.{same_key_decides}
use Rattle.keys.proofs.keys_told_apart.Goals as goal

pub returns-clause-equal : goal.returns-clause-equal
returns-clause-equal c = same_key_decides
