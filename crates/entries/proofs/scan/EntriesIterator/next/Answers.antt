use Rattle.std.proofs.Common.{length, sym, ap, arith}
use Rattle.entries.specs.Entries.{entry_of}
use Rattle.entries.proofs.Trips.{span}
use Rattle.entries.proofs.scan.EntriesIterator.next.Goals as goal

pub returns-clause-goes : goal.returns-clause-goes
returns-clause-goes c =
    let s = span c.args.self.now.rest.now (entry_of c.in_ok-entry.entry) (sym c.in_ok-entry.ensures) in
    let l = ap length c.rest-self.ensures in
    let size = s.1 in
    grind arith
