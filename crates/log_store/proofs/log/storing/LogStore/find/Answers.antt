use Rattle.std.proofs.Common.{rules}
use Rattle.stores.proofs.Buffers.{buffer_fits}
use Rattle.stores.proofs.LookUps.{look_up_some, look_up_none}
use Rattle.entries.specs.Entries.{value_of}
use Rattle.log_store.proofs.Calls.{seen, filled_room}
use Rattle.log_store.proofs.log.storing.LogStore.find.Goals as goal

pub returns-in_default : goal.returns-in_default
returns-in_default c =
    let e = seen c.args.self.now c.args.key.now c.as_slice.result.now _ _ c.as_slice.ensures.value c.walk.ensures.last c.in_default.is in
    search (rules, look_up_none, e)

pub returns : goal.returns
returns c =
    let s = c.args.self.now in
    let k = c.args.key.now in
    let b = c.args.buffer.now in
    let e = seen s k c.as_slice.result.now _ _ c.as_slice.ensures.value c.walk.ensures.last c.in-Some.is in
    look_up_some c.in_ok-check_buffer.ensures e c.value_len.ensures.value
    (filled_room s k (value_of c.in-Some.entry) b c.fill_value.new.into e (buffer_fits b c.in_ok-check_buffer.ensures) c.fill_value.ensures.after)
