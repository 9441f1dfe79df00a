use Rattle.std.proofs.Common.{sym}
use Rattle.entries.proofs.Values.{length-value}
use Rattle.entries.proofs.entry.Entry.value_len.Goals as goal

pub returns-clause-value : goal.returns-clause-value
returns-clause-value c = sym (length-value c.args.self.now)
