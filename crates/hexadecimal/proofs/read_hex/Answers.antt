use Rattle.std.proofs.Common.{length, sym, rules, arith}
use Rattle.std.proofs.lemmas.Grind.{common_steps}
use Rattle.hexadecimal.proofs.Back.{pairs_digits, pairs_write}
use Rattle.hexadecimal.proofs.read_hex.Goals as goal

pub digit_value-requires : goal.digit_value-requires
digit_value-requires c =
    let d = pairs_digits (length c.loop-i.into) c.loop-i.i c.args.text.now _ c.as_chunks.ensures.front (omega arith) (sym c.if-not-are_digits.ensures) (omega arith) in
    search rules

pub digit_value-requires-in-loop-i : goal.digit_value-requires-in-loop-i
digit_value-requires-in-loop-i c =
    let d = pairs_digits (length c.loop-i.into) c.loop-i.i c.args.text.now _ c.as_chunks.ensures.front (omega arith) (sym c.if-not-are_digits.ensures) (omega arith) in
    search rules

pub returns-clause-after : goal.returns-clause-after
returns-clause-after c =
    let e = pairs_write (length c.loop-i.into) c.args.text.now _ c.as_chunks.ensures.front (omega arith) in
    grind (arith, common_steps)
