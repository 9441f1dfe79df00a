use Rattle.std.proofs.Common.{sym, ◌∙◌}
use Rattle.log_store.proofs.Steps.{err_not_ok, front_none, front_stopped, front_full}
use Rattle.log_store.proofs.walk.put_first.Goals as goal

pub returns-in_err-size : goal.returns-in_err-size
returns-in_err-size c =
    let v = c.as_bytes.ensures in
    let r = front_none c.args.key.now c.as_bytes.result.now c.args.rest.now v.short c.write_entry.new.into (sym c.in_err-size.ensures.ok_part ∙ c.write_entry.ensures.answer) c.write_entry.ensures.after in
    rw (err_not_ok c.from_residual.result c.from_residual.ensures.0, ← v.value) (record { answer = r.0; after = r.1 })

pub returns-then-size-rest : goal.returns-then-size-rest
returns-then-size-rest c =
    let v = c.as_bytes.ensures in
    let r = front_stopped c.args.key.now c.as_bytes.result.now c.args.rest.now v.short c.write_entry.new.into c.in_ok-size.size (sym c.in_ok-size.ensures.ok_part ∙ c.write_entry.ensures.answer) c.write_entry.ensures.after c.if-size-rest.true in
    rw (← v.value) (record { answer = r.0; after = r.1 })

pub returns-else-size-rest : goal.returns-else-size-rest
returns-else-size-rest c =
    let v = c.as_bytes.ensures in
    let r = front_full c.args.key.now c.as_bytes.result.now c.args.rest.now v.short c.write_entry.new.into c.in_ok-size.size (sym c.in_ok-size.ensures.ok_part ∙ c.write_entry.ensures.answer) c.write_entry.ensures.after c.if-size-rest.false in
    rw (← v.value) (record { answer = r.0; after = r.1 })
