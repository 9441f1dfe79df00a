use Rattle.std.proofs.Common.{◌∙◌, map, sym, string_bytes, rules}
use borrow.Author.Tests.{tests}
use Rattle.std.proofs.lemmas.Iterator.{YieldsList-from_slice, YieldsList-from_map_by}
use Rattle.std.proofs.lemmas.Iterator.Search.{find_from_yields_List}
use Rattle.commands.specs.Reading.{is_option}
use Rattle.commands.proofs.First.{first_option_is_find}
use Rattle.commands.proofs.first_option.Goals as goal

pub returns : goal.returns
returns c =
    let y = YieldsList-from_map_by _ (λ r. r.now) string_bytes (YieldsList-from_slice c.args.words.now cc) c.map.ensures.closure (λ x r q k. search (rules, tests)) in
    find_from_yields_List is_option _ _ c.find.result c.find.ensures.ran y (λ x b q k. search (rules, tests)) ∙ sym (first_option_is_find (map string_bytes c.args.words.now))
