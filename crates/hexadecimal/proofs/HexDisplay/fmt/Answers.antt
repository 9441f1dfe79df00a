use Rattle.std.proofs.Common.{sym, ap, ◌∙◌, ◌++◌, arith, rules, append_assoc}
use Rattle.std.proofs.Output.{has_written_append}
use Rattle.std.specs.Slice.Iter.{chunks_rest}
use Rattle.hexadecimal.specs.Hex.{hex}
use Rattle.hexadecimal.proofs.More.{hex_append}
use Rattle.hexadecimal.proofs.HexDisplay.fmt.Goals as goal

pub loop-piece-preserved : goal.loop-piece-preserved
loop-piece-preserved g c =
    let steps = c.in-Some.ensures.steps in
    let xs = c.in-Some.piece.now in
    let rest = chunks_rest c.next.new.self in (
      omega arith,
      λ plain.
          let so_far = c.loop-piece.invariant.1 plain in (
            so_far.0 ++ hex xs,
            has_written_append _ _ _ _ _ _ so_far.1 (search rules),
            append_assoc so_far.0 _ _
                ∙ ap (λ t. so_far.0 ++ t) (sym (ap hex steps.1.0 ∙ hex_append xs rest))
                ∙ so_far.2,
          ),
    )
