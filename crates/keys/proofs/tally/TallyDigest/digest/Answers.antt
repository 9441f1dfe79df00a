use Rattle.std.proofs.Common.{◌+◌, ◌*◌, ◌≤◌, get_or, sym, ap, ◌∙◌, mul-le-mul, arith}
use Rattle.std.proofs.lemmas.List.Sums.{sum_by_more}
use Rattle.keys.proofs.Sums.{weighted_more}
use Rattle.keys.proofs.tally.TallyDigest.digest.Goals as goal

pub loop-i-preserved : goal.loop-i-preserved
loop-i-preserved c =
    let bytes = c.args.bytes.now in
    let i = c.loop-i.i in
    let b = get_or bytes i 0 in
    let s = sum_by_more (λ x. x) bytes i 0 (omega arith) in
    let w = weighted_more bytes i (omega arith) in
    let small : b ≤ 255 = omega (arith, c.type_inv.bytes i) in
    let near : i + 1 ≤ 65536 = omega (arith, c.in_ok-length_within.ensures.short) in
    let product : b * (i + 1) ≤ 255 * 65536 = mul-le-mul small near in
    rw (c.from.ensures, c.from-sum.ensures)
    (ap (λ x. x + b) c.loop-i.invariant.0 ∙ sym s, ap (λ x. x + b * (i + 1)) c.loop-i.invariant.1 ∙ sym w, omega arith, omega arith)
