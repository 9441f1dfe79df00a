use Rattle.std.specs.Prelude.{◌≡◌, ℕ, List, None, Option}
use Rattle.keys.specs.declared.key.Key.{Key}
use Rattle.stores.specs.declared.absent.Absent.{Absent}
use Rattle.stores.specs.Numbers.{mark_number, Raised, PutNumbers}
use Rattle.stores.specs.LookUps.{LooksUp}
use Rattle.stores.specs.Model.{Model}

-- the number of the mark of an absent store
abbrev pub absent_mark : Absent → ℕ
absent_mark s = mark_number s.mark

-- the one fault of an absent store: that it is absent
abbrev pub absent_fault : Absent → Raised
absent_fault s = record { mark = absent_mark s; cause = 5 }

-- an absent store has no value for any key
abbrev pub absent_value : Absent → Key → Option (List ℕ)
absent_value s k = None

-- a put raises the fault and changes nothing
pub record AbsentPuts (s : Absent) (k : Key) (v : List ℕ) (r : PutNumbers) (t : Absent) : Type 0 where
  pub answer : r ≡ record { answer = 3; first = absent_fault s }
  pub same : t ≡ s

-- no pairs, one fault, and a find that finds nothing
abbrev pub absent_model : Model Absent
absent_model = record { holds = λ s k v. ⊥; raises = λ s f. f ≡ absent_fault s; finds = LooksUp absent_value; puts = AbsentPuts }
