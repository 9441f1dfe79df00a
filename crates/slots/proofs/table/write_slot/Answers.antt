use Rattle.std.proofs.Common.{◌+◌, ◌-◌, ◌*◌, sym, arith}
use Rattle.std.proofs.lemmas.Slice.{put_mid-paste}
use Rattle.stores.specs.Values.{value_bytes}
use Rattle.slots.specs.Table.{slot_size, slot_bytes}
use Rattle.slots.specs.Writes.{length-slot_bytes}
use Rattle.slots.proofs.table.write_slot.Goals as goal

pub returns : goal.returns
returns c =
    let i = c.args.i in
    let k = c.args.key.now in
    let v = value_bytes c.args.value.now in
    put_mid-paste (i * slot_size) (i * slot_size + slot_size - i * slot_size) c.args.bytes.now c.fill_slot.new.slot (slot_bytes k v) slot_size c.fill_slot.ensures (omega arith) (sym (length-slot_bytes k v c.args.value.now.short))
