use Rattle.std.proofs.Common.{◌≡◌, ◌-◌, map, length}
use Rattle.lists.specs.Few.{few_items}
use Rattle.actions.specs.Actions.{several, all_before, read_record}
use Rattle.actions.proofs.part.read_parts.Given as goal

-- what was read so far, and what is left to read from the rest, are all
abbrev pub invariant-loop : goal.invariant-loop
invariant-loop g l =
    record {
      count : length (few_items l.parts) ≡ l.counter;
      read :
          several (read_record g.P.Part.kind g.P.Part.from_body) g.row.N l.bytes
          ≡ all_before (map g.P.Part.seen (few_items l.parts)) (several (read_record g.P.Part.kind g.P.Part.from_body) (g.row.N - l.counter) l.rest);
    }
