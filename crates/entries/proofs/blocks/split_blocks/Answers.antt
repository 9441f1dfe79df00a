use Rattle.std.proofs.Common.{◌≡◌, ◌+◌, ◌-◌, ◌*◌, drop, refl, ap, ◌∙◌, arith}
use Rattle.std.proofs.lemmas.List.{drop-drop}
use Rattle.records.specs.Records.{split_of}
use Rattle.entries.proofs.Runs.{whole_none, whole_some}
use Rattle.entries.proofs.blocks.split_blocks.Goals as goal

pub returns-in_err-behind : goal.returns-in_err-behind
returns-in_err-behind c =
    let m = c.args.count - c.loop.counter in
    let w = whole_none (m - 1) m c.loop.rest.now (omega arith) c.in_err-behind.ensures in
    rw (c.from_residual.ensures, c.loop.invariant.whole ∙ w) refl

pub loop-preserved : goal.loop-preserved
loop-preserved c =
    let i = c.loop.counter in
    let w = whole_some (c.args.count - (i + 1)) (c.args.count - i) c.loop.rest.now (split_of (c.in_ok-behind.field-0-0, c.in_ok-behind.behind)) (omega arith) c.in_ok-behind.ensures in
    let n : i * 33 + 33 ≡ (i + 1) * 33 = omega arith in
    record {
      left = w.1 ∙ (ap (drop 33) c.loop.invariant.left ∙ (drop-drop 33 (i * 33) c.args.bytes.now ∙ ap (λ k. drop k c.args.bytes.now) n));
      whole = c.loop.invariant.whole ∙ w.0;
    }
