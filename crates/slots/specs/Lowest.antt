use Rattle.std.specs.Prelude.{ℕ, ◌+◌, ◌*◌, ◌/◌, ◌<◌, ◌≤◌}
use Rattle.std.proofs.Common.{arith, div-mul-le_self, mul-le-mul_right}
use Rattle.slots.specs.Table.{slot_size, slot_count}

-- every slot lies within the bytes
pub slot-within : (n i : ℕ) → i < slot_count n → i * slot_size + slot_size ≤ n
slot-within n i h =
    let d = div-mul-le_self n slot_size in
    let j : i + 1 ≤ n / slot_size = omega arith in
    let m : (i + 1) * slot_size ≤ n / slot_size * slot_size = mul-le-mul_right slot_size j in
    omega arith
