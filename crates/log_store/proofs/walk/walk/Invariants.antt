use Rattle.std.proofs.Common.{◌≡◌}
use Rattle.std.specs.Option.{option_map}
use Rattle.entries.specs.Entries.{value_of}
use Rattle.entries.specs.Scans.{left_of}
use Rattle.log_store.specs.Contents.{log_entries, log_rest, later, last_value}
use Rattle.log_store.proofs.walk.walk.Given as goal

-- what is left decides, unless it has no entry of the key
abbrev pub invariant-loop-entry : goal.invariant-loop-entry
invariant-loop-entry l =
    record {
      at : left_of l.entry-iterator ≡ l.rest;
      last : last_value l.key (log_entries l.bytes) ≡ later (option_map value_of l.last) (last_value l.key (log_entries l.rest));
      rest : log_rest l.bytes ≡ log_rest l.rest;
    }
