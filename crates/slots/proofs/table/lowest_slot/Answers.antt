use Rattle.std.proofs.Common.{sym, ◌∙◌, refl, arith, length, rules}
use Rattle.std.proofs.lemmas.Iterator.{YieldsList-from_range}
use Rattle.std.proofs.lemmas.Iterator.Adapters.{option_map_id}
use Rattle.std.proofs.lemmas.Iterator.Search.{find_from_yields_List}
use borrow.Author.Tests.{tests}
use Rattle.slots.specs.Table.{slot_count}
use Rattle.slots.proofs.Finding.{has_at, find_first}
use Rattle.slots.proofs.table.lowest_slot.Goals as goal

pub returns : goal.returns
returns c =
    let k = c.args.key.now in
    let bs = c.args.bytes.now in
    let n = slot_count (length bs) in
    sym (option_map_id c.find.result) ∙ (find_from_yields_List (has_at k bs) _ _ c.find.result c.find.ensures.ran
    (YieldsList-from_range 0 c.slot_count.result n refl (omega arith))
    (λ x b q d. search (rules, tests))
    ∙ find_first k bs n 0 (omega arith))
