use Rattle.stores.specs.Values.{value_bytes}
use Rattle.std.proofs.Common.{is_ok}
use Rattle.log_store.proofs.Steps.{part_rest, part_put}
use Rattle.log_store.proofs.walk.append.Goals as goal

pub returns : goal.returns
returns c =
    let bs = c.args.bytes.now in
    let p = part_rest bs c.args.end c.requires in
    let r = part_put c.args.key.now (value_bytes c.args.value.now) bs _ c.put_first.new.rest c.args.end (is_ok c.put_first.result) c.requires p.0 c.put_first.ensures.answer c.put_first.ensures.after in
    record { answer = r.0; after = r.1 }
