use Rattle.std.specs.Prelude.{ℕ, List, ◌++◌, codes, decimal}
use Rattle.stores.specs.declared.answers.Cause.{Cause}
use Rattle.stores.specs.declared.answers.Cause.TheVariants.{Busy, Broken, Differs, NoRoom, Absent}
use Rattle.stores.specs.declared.answers.StoreError.{StoreError}
use Rattle.stores.specs.declared.answers.StoreError.TheVariants.{Failed, Refused}
use Rattle.stores.specs.Numbers.{mark_number}

-- a cause in words
abbrev pub cause_text : Cause → List ℕ
cause_text Busy = codes "busy"
cause_text Broken = codes "broken"
cause_text Differs = codes "another key"
cause_text NoRoom = codes "no room"
cause_text Absent = codes "no store"

-- why a call was not done, in words
abbrev pub store_error_text : StoreError → List ℕ
store_error_text (Failed f) = codes "mark " ++ (decimal (mark_number f.mark) ++ (codes ": " ++ cause_text f.cause))
store_error_text Refused = codes "refused for its length"
