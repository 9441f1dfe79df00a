use Rattle.entries.specs.Blocks.{split_blocks}
use Rattle.entries.specs.Entries.{entry_of}
use Rattle.std.proofs.Common.{◌*◌, option_map, ap, ◌∙◌}
use Rattle.entries.proofs.Runs.{split_some}
use Rattle.entries.proofs.Values.{entry_made}
use Rattle.entries.proofs.entry.reading.read_entry.Goals as goal

pub invariant_of-entry : goal.invariant_of-entry
invariant_of-entry c =
    record { whole = (split_some c.block_count.result c.in_ok-head.behind.now _ c.in_ok-blocks.ensures).1 ∙ ap (λ n. n * 33) c.block_count.ensures }

pub returns : goal.returns
returns c =
    ap (option_map entry_of) c.then_some.ensures
    ∙ entry_made c.args.bytes.now c.in_ok-head.behind.now _ c.is_padded.result c.in_ok-head.ensures (c.in_ok-blocks.ensures ∙ ap (λ n. split_blocks n c.in_ok-head.behind.now) c.block_count.ensures) c.is_padded.ensures
