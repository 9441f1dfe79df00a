use Rattle.std.proofs.Common.{arith}
use Rattle.entries.proofs.Values.{length-value, byte_at}
use Rattle.entries.proofs.entry.Entry.byte.Goals as goal

pub returns : goal.returns
returns c =
    let l = length-value c.args.self.now in
    byte_at c.args.self.now c.args.i (omega arith)
