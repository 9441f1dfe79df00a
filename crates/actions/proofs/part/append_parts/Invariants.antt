use Rattle.std.proofs.Common.{◌≡◌, ◌++◌, take}
use Rattle.std.specs.List.{flat_map}
use Rattle.lists.specs.Few.{few_items}
use Rattle.records.specs.Records.{record_bytes}
use Rattle.actions.specs.Actions.{longest_text}
use Rattle.actions.proofs.part.append_parts.Given as goal

-- the records of those passed stand behind the text, as far as there is room
abbrev pub invariant-loop-part : goal.invariant-loop-part
invariant-loop-part g l =
    few_items l.text ≡ take longest_text (few_items l.initial.text ++ flat_map (λ x. record_bytes g.P.Part.kind (g.P.Part.body_of (g.P.Part.seen x))) (take l.part-index l.parts))
