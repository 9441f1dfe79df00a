use Rattle.std.specs.Prelude.{◌≡◌, ℕ, ◌≤◌, List, ◌++◌, length}
use Rattle.std.proofs.Common.{arith}
use Rattle.std.proofs.lemmas.List.{length-append}
use Rattle.numbers.specs.BigEndian.{big_endian}
use Rattle.numbers.proofs.Trips.{length-big_endian}
use Rattle.keys.specs.Digests.{value_room}
use Rattle.keys.specs.Keys.{key_bytes}
use Rattle.keys.specs.declared.key.Key.{Key}
use Rattle.keys.proofs.Trips.{length-key_bytes}
use Rattle.stores.specs.Numbers.{padded}
use Rattle.stores.proofs.Buffers.{length-padded}
use Rattle.slots.specs.Table.{slot_size, slot_bytes}

-- a slot has its size
pub length-slot_bytes : (k : Key) (v : List ℕ) → length v ≤ value_room → length (slot_bytes k v) ≡ slot_size
length-slot_bytes k v h =
    let a = length-append (key_bytes k) (big_endian 4 (length v) ++ padded v) in
    let b = length-append (big_endian 4 (length v)) (padded v) in
    let lk = length-key_bytes k in
    let ln = length-big_endian 4 (length v) in
    let lp = length-padded v h in
    omega arith
