use Rattle.std.proofs.Common.{codes, string_bytes, rules}
use Rattle.std.specs.Str.{bytes_eq}
use borrow.Author.Tests.{tests}
use Rattle.std.proofs.lemmas.Iterator.{YieldsList-from_slice}
use Rattle.std.proofs.lemmas.Iterator.Search.{position_from_yields_List}
use Rattle.commands.proofs.First.{from_place_is_position}
use Rattle.commands.proofs.from_place.Goals as goal

pub returns : goal.returns
returns c =
    rw (from_place_is_position c.args.words.now) (position_from_yields_List (λ w. bytes_eq (string_bytes w) (codes "from")) _ _ c.position.result c.position.ensures.ran (YieldsList-from_slice c.args.words.now cc) (λ x b q k. search (rules, tests)))
