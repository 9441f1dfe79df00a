use Rattle.std.specs.Prelude.{ℕ, List, map}
use Rattle.std.specs.Borrow.{Bor}
use Rattle.lists.specs.declared.few.Few.{Few}
use Rattle.lists.specs.Few.{few_items}
use Rattle.records.specs.Records.{Split}
use Rattle.actions.specs.Actions.{Act}
use Rattle.actions.specs.declared.argument.Argument.{Argument}
use Rattle.actions.specs.declared.action.Action.{Action}

-- the bytes of an argument
abbrev pub argument_bytes : Argument → List ℕ
argument_bytes a = few_items a.bytes

-- an action of the code, as its letter, its arguments and its inputs
abbrev pub act_of : Action → Act
act_of a =
    record { letter = a.letter; arguments = map argument_bytes (few_items a.arguments); inputs = few_items a.inputs }

-- what was read, as readers see it, and the bytes behind it
abbrev pub part_read : {X Y : Type 0} → (X → Y) → X × Bor (List ℕ) → Split Y
part_read seen p = record { part = seen p.0; rest = p.1.now }

-- several of them
abbrev pub parts_read : {X Y : Type 0} {N : ℕ} → (X → Y) → Few X N × Bor (List ℕ) → Split (List Y)
parts_read seen p = part_read (λ few. map seen (few_items few)) p
