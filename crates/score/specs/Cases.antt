use Rattle.std.specs.Prelude.{ℕ, ◌+◌, ◌-◌, ◌^◌, Bool, cond, min, List, ◌++◌, codes, decimal}

-- how many cases were tried, and how many of them failed
pub record Cases : Type 0 where
  pub tried : ℕ
  pub failed : ℕ

-- no case yet
abbrev pub no_cases : Cases
no_cases = record { tried = 0; failed = 0 }

-- one more, up to the last number of 32 bits
abbrev pub one_more : ℕ → ℕ
one_more n = min (n + 1) (2 ^ 32 - 1)

-- the cases with one more, which is good or failed
abbrev pub counted : Cases → Bool → Cases
counted cs good = record { tried = one_more cs.tried; failed = cond good cs.failed (one_more cs.failed) }

-- the word that is printed of a case
abbrev pub word_of : Bool → List ℕ
word_of good = cond good (codes "ok") (codes "FAILED")

-- the line that is printed at the end
abbrev pub summary : Cases → List ℕ
summary cs = decimal cs.tried ++ (codes " cases, " ++ (decimal cs.failed ++ codes " failed"))
