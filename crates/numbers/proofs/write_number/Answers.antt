use Rattle.std.proofs.Common.{◌≡◌, ◌-◌, length, replicate, refl, arith}
use Rattle.std.proofs.lemmas.Grind.{common_steps}
use Rattle.numbers.proofs.Ends.{filled_from_end}
use Rattle.numbers.proofs.write_number.Goals as goal

pub returns : goal.returns
returns c =
    let xs = c.args.into.now in
    let z = c.saturating_sub-zeros.result in
    let k = length xs - z in
    let zeros : c.fill.new.self ≡ replicate z 0 = grind (arith, common_steps) in
    filled_from_end c.args.number z (8 - k) k _ xs c.fill.new.self c.copy_from_slice.new.self (omega arith) (omega arith) refl refl (omega arith) zeros (grind (arith, common_steps))
