use Rattle.std.proofs.Common.{arith}
use Rattle.std.proofs.lemmas.List.{take_rest, take-map, drop-map, length-map}
use Rattle.commands.proofs.read_action.Goals as goal

pub returns : goal.returns
returns c = grind (arith, take_rest, take-map, drop-map, length-map)
