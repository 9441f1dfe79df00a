use Rattle.std.specs.Prelude.{ℕ, List, take}
use Rattle.lists.specs.declared.few.Few.{Few}

-- the things of a list in room of fixed size
abbrev pub few_items : {X : Type 0} {N : ℕ} → Few X N → List X
few_items f = take f.len f.items
