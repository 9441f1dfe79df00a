use Rattle.std.specs.Prelude.{◌≡◌, ℕ, cond, List, length, Ok, Err, Result, nat_le}
use Rattle.std.specs.Borrow.{Bor}
use Rattle.std.specs.Result.{result_map_both}
use Rattle.keys.specs.Digests.{value_room}
use Rattle.stores.specs.declared.value.Value.{Value}
use Rattle.stores.specs.declared.answers.StoreError.{StoreError}
use Rattle.stores.specs.declared.answers.StoreError.TheVariants.{Refused}

-- the bytes of a value
abbrev pub value_bytes : Value → List ℕ
value_bytes v = v.bytes.now

-- the value of some bytes; refused exactly where they are more than its room
abbrev pub ValueOf : Bor (List ℕ) → Result Value StoreError → Type 0
ValueOf bs r = result_map_both value_bytes (λ e. e) r ≡ cond (nat_le (length bs.now) value_room) (Ok bs.now) (Err Refused)
