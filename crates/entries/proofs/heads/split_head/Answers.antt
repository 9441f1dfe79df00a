use Rattle.std.proofs.Common.{arith}
use Rattle.entries.proofs.Tops.{head_long}
use Rattle.entries.proofs.heads.split_head.Goals as goal

pub split_at-requires : goal.split_at-requires
split_at-requires c =
    let l = head_long c.args.bytes.now c.in_ok-body.body.now c.in_ok-body.rest.now c.in_ok-body.ensures in
    omega arith
