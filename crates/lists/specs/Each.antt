use Rattle.std.specs.Prelude.{ℕ, ◌-◌, Bool, List, ◌++◌, length, replicate, nat_eq}
use Rattle.std.specs.List.{list_all}

-- whether a test holds of each element
abbrev pub each : {X : Type 0} → (X → Bool) → List X → Bool
each test xs = list_all test xs

-- some bytes, then zeros up to a length
abbrev pub zeros_to : ℕ → List ℕ → List ℕ
zeros_to n bs = bs ++ replicate (n - length bs) 0

-- whether each byte is zero
abbrev pub all_zero : List ℕ → Bool
all_zero bs = list_all (nat_eq 0) bs
