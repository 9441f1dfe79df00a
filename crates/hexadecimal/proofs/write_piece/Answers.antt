use Rattle.std.proofs.Common.{◌≡◌, ◌*◌, length, length-set, take, ap, ◌∙◌, rules, arith}
use Rattle.std.proofs.lemmas.List.{take_all}
use Rattle.std.specs.Str.{IsUtf8}
use Rattle.std.proofs.lemmas.Str.{IsUtf8-from_ascii}
use Rattle.hexadecimal.specs.Hex.{hex}
use Rattle.hexadecimal.proofs.More.{digits_more, hex_ascii}
use Rattle.hexadecimal.proofs.write_piece.Goals as goal

pub loop-i-preserved : goal.loop-i-preserved
loop-i-preserved g c =
    let d = digits_more c.args.piece.now c.loop-i.digits c.loop-i.i c.digit.result c.digit-in-loop-i.result (omega arith) (omega arith) c.loop-i.invariant.1 c.digit.ensures c.digit-in-loop-i.ensures in
    (simp length-set (omega arith), d)

pub unwrap-text-requires : goal.unwrap-text-requires
unwrap-text-requires g c =
    let bs = c.args.piece.now in
    let n : c.loop-i.i ≡ length bs = omega arith in
    let e : take (2 * length bs) c.loop-i.digits ≡ hex bs = rw (n) at c.loop-i.invariant.1 ∙ ap hex (take_all (length bs) bs (omega arith)) in
    let u = IsUtf8-from_ascii (hex bs) (hex_ascii bs (λ i. omega (arith, c.type_inv.piece i))) in
    let v : IsUtf8 (take (2 * length bs) c.loop-i.digits) = rw e u in search rules
