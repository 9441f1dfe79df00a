use Rattle.std.proofs.Common.{◌-◌, ◌*◌, length, drop, sym, refl, ap, ◌∙◌}
use Rattle.std.proofs.lemmas.List.{take_rest}
use Rattle.lists.specs.Each.{all_zero}
use Rattle.entries.specs.Blocks.{block_count}
use Rattle.entries.proofs.Runs.{padding_last}
use Rattle.entries.proofs.entry.Entry.is_padded.Goals as goal

pub returns : goal.returns
returns c =
    let e = c.args.self.now in
    let bs = e.blocks.now in
    let n = e.head.size in
    c.are_zeros.ensures
    ∙ ap all_zero (take_rest bs _ ∙ (ap (λ k. drop (length bs - (k * 32 - n)) bs) c.block_count.ensures ∙ sym (padding_last (block_count n) n bs refl e.whole)))
