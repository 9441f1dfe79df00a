use Rattle.std.specs.Prelude.{ℕ, zero, suc, List, [], ◌∷◌, length, Some, None, Option}
use Rattle.records.specs.Records.{Split}

-- what a scan reads: the items one after another, and the bytes from the first place where none stands
pub record Scanned (X : Type 0) : Type 0 where
  pub items : List X
  pub rest : List ℕ

-- one item in front of what a scan reads behind it, or the end of the scan
abbrev pub scan_on : {X : Type 0} → (List ℕ → Scanned X) → List ℕ → Option (Split X) → Scanned X
scan_on behind bs None = record { items = []; rest = bs }
scan_on behind bs (Some s) = record { items = s.part ∷ (behind s.rest).items; rest = (behind s.rest).rest }

-- at most so many items from the front of bytes, by a reader of one item
abbrev pub scan_up_to : {X : Type 0} → (List ℕ → Option (Split X)) → ℕ → List ℕ → Scanned X
scan_up_to read zero bs = record { items = []; rest = bs }
scan_up_to read (suc n) bs = scan_on (scan_up_to read n) bs (read bs)

-- all items from the front of bytes; there are no more than bytes, since each takes some
abbrev pub scan : {X : Type 0} → (List ℕ → Option (Split X)) → List ℕ → Scanned X
scan read bs = scan_up_to read (length bs) bs
