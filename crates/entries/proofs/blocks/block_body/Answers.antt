use Rattle.std.proofs.Common.{◌++◌, length, drop, replicate, ap, ◌∙◌}
use Rattle.std.proofs.lemmas.List.{drop-replicate}
use Rattle.entries.proofs.blocks.block_body.Goals as goal

pub returns : goal.returns
returns c =
    let p = c.args.piece.now in
    ap (λ xs. xs ++ drop (length p) (replicate 32 0)) c.copy_from_slice.ensures.after ∙ ap (λ xs. p ++ xs) (drop-replicate (length p) 32 0)
