use Rattle.std.specs.Prelude.{◌≡◌, ℕ, List, [], length, Some, None, Option}
use Rattle.keys.specs.declared.key.Key.{Key}
use Rattle.stores.specs.Numbers.{no_fault, FindNumbers, padded}

-- what a find answers that looked up a value, or found that there is none
abbrev pub found_numbers : Option (List ℕ) → FindNumbers
found_numbers None = record { answer = 2; size = 0; first = no_fault }
found_numbers (Some v) = record { answer = 1; size = length v; first = no_fault }

-- what its buffer then has
abbrev pub found_buffer : Option (List ℕ) → List ℕ
found_buffer None = padded []
found_buffer (Some v) = padded v

-- a find that looks up the one value that a state has for a key: no fault is met, and nothing changes
pub record LooksUp {S : Type 0} (value : S → Key → Option (List ℕ)) (s : S) (k : Key) (r : FindNumbers) (p : List ℕ) (t : S) : Type 0 where
  pub answer : r ≡ found_numbers (value s k)
  pub buffer : p ≡ found_buffer (value s k)
  pub same : t ≡ s
