use Rattle.std.proofs.Common.{◌≡◌, ◌++◌, string_bytes}
use Rattle.entries.specs.Scans.{left_of}
use Rattle.log_store.specs.Contents.{log_entries, log_rest}
use Rattle.caches.specs.Listings.{entry_lines}
use Rattle.caches.proofs.logs.log_listing.Given as goal

-- what is written, and what is left to write, are the lines of all entries
abbrev pub invariant-loop-entry : goal.invariant-loop-entry
invariant-loop-entry g l =
    record {
      at : left_of l.entry-iterator ≡ l.rest;
      lines : entry_lines g.D.Digest.LONGEST g.D.Digest.words (log_entries l.bytes) ≡ string_bytes l.text ++ entry_lines g.D.Digest.LONGEST g.D.Digest.words (log_entries l.rest);
      rest : log_rest l.bytes ≡ log_rest l.rest;
    }
