use Rattle.std.proofs.Common.{sym, refl, rules}
use Rattle.stores.proofs.Buffers.{buffer_fits}
use Rattle.stores.proofs.LookUps.{look_up_some, look_up_none}
use Rattle.slots.specs.Laws.{found_short}
use Rattle.slots.proofs.slots.storing.SlotsStore.find.Goals as goal

pub fill-requires : goal.fill-requires
fill-requires c =
    record {
      room = buffer_fits c.args.buffer.now c.in_ok-check_buffer.ensures;
      short = found_short c.args.self.now c.args.key.now c.in-Some.value.now (sym c.in-Some.ensures);
    }

pub returns-in_default : goal.returns-in_default
returns-in_default c = search (rules, look_up_none)

pub returns : goal.returns
returns c = look_up_some c.in_ok-check_buffer.ensures (sym c.in-Some.ensures) refl c.fill.ensures
