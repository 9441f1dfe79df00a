use Rattle.std.specs.Prelude.{◌≡◌, ℕ, zero, suc, ◌-◌, ◌<◌, ◌≤◌, List, [], ◌∷◌, ◌++◌, length, take, Some, None, Option, refl}
use Rattle.std.proofs.Math.Path.{sym, ap}
use Rattle.std.proofs.Common.{◌∙◌}
use native.Mathlib.Omega.{arith}
use Rattle.std.proofs.lemmas.List.{append_assoc, length-append, take_at}
use Rattle.records.specs.Records.{Split}
use Rattle.log_store.specs.Scans.{Scanned, scan_on, scan_up_to, scan}

-- a reader whose items take bytes of their own, and read the same whatever lies behind these
abbrev pub OwnBytes : {X : Type 0} → (List ℕ → Option (Split X)) → Type 0
OwnBytes {X} read = (bs : List ℕ) (s : Split X) → read bs ≡ Some s → (front : List ℕ) × (0 < length front) × (bs ≡ front ++ s.rest) × ((other : List ℕ) → read (front ++ other) ≡ Some (record { part = s.part; rest = other }))

module _ {X : Type 0} (read : List ℕ → Option (Split X)) (own : OwnBytes read) where
  -- what is left is shorter
  pub shorter : (bs : List ℕ) (s : Split X) → read bs ≡ Some s → length s.rest < length bs
  shorter bs s h =
      let o = own bs s h in
      let l = ap length o.2 ∙ length-append o.0 s.rest in
      let some = o.1 in
      omega arith

  -- more turns than bytes change nothing
  enough_on : (n m : ℕ) (bs : List ℕ) → length bs ≤ suc n → length bs ≤ suc m → ((cs : List ℕ) → length cs ≤ n → length cs ≤ m → scan_up_to read n cs ≡ scan_up_to read m cs) → (o : Option (Split X)) → read bs ≡ o → scan_on (scan_up_to read n) bs o ≡ scan_on (scan_up_to read m) bs o
  enough_on n m bs ln lm rest None e = refl
  enough_on n m bs ln lm rest (Some s) e =
      let l = shorter bs s e in
      let r = rest s.rest (omega arith) (omega arith) in
      let with_part : Scanned X → Scanned X = λ t. record { items = s.part ∷ t.items; rest = t.rest } in
      ap with_part r

  none_left : (n : ℕ) (bs : List ℕ) → length bs ≤ 0 → (o : Option (Split X)) → read bs ≡ o → scan_on (scan_up_to read n) bs o ≡ record { items = []; rest = bs }
  none_left n bs l None e = refl
  none_left n bs l (Some s) e = let m = shorter bs s e in absurd (omega arith)

  enough : (n m : ℕ) (bs : List ℕ) → length bs ≤ n → length bs ≤ m → scan_up_to read n bs ≡ scan_up_to read m bs
  enough zero zero bs ln lm = refl
  enough zero (suc m) bs ln lm = sym (none_left m bs ln (read bs) refl)
  enough (suc n) zero bs ln lm = none_left n bs lm (read bs) refl
  enough (suc n) (suc m) bs ln lm = enough_on n m bs ln lm (enough n m) (read bs) refl

  -- a scan goes on behind an item, and ends where there is none
  some_from : (n : ℕ) (bs : List ℕ) (s : Split X) → length bs ≡ n → read bs ≡ Some s → scan_up_to read n bs ≡ record { items = s.part ∷ (scan read s.rest).items; rest = (scan read s.rest).rest }
  some_from zero bs s l h = let m = shorter bs s h in absurd (omega arith)
  some_from (suc n) bs s l h =
      let m = shorter bs s h in
      let e = enough n (length s.rest) s.rest (omega arith) (omega arith) in
      let with_part : Scanned X → Scanned X = λ t. record { items = s.part ∷ t.items; rest = t.rest } in
      ap (scan_on (scan_up_to read n) bs) h ∙ ap with_part e

  pub scan_some : (bs : List ℕ) (s : Split X) → read bs ≡ Some s → scan read bs ≡ record { items = s.part ∷ (scan read s.rest).items; rest = (scan read s.rest).rest }
  scan_some bs s h = some_from (length bs) bs s refl h

  none_from : (n : ℕ) (bs : List ℕ) → read bs ≡ None → scan_up_to read n bs ≡ record { items = []; rest = bs }
  none_from zero bs h = refl
  none_from (suc n) bs h = ap (scan_on (scan_up_to read n) bs) h

  pub scan_none : (bs : List ℕ) → read bs ≡ None → scan read bs ≡ record { items = []; rest = bs }
  scan_none bs h = none_from (length bs) bs h

  -- an induction over what a scan reads
  over_from : (P : List ℕ → Type 0) → ((bs : List ℕ) → read bs ≡ None → P bs) → ((bs : List ℕ) (s : Split X) → read bs ≡ Some s → P s.rest → P bs) → (n : ℕ) (bs : List ℕ) → length bs ≤ n → (o : Option (Split X)) → read bs ≡ o → P bs
  over_from P stop go n bs l None e = stop bs e
  over_from P stop go zero bs l (Some s) e = let m = shorter bs s e in absurd (omega arith)
  over_from P stop go (suc n) bs l (Some s) e =
      let m = shorter bs s e in
      go bs s e (over_from P stop go n s.rest (omega arith) (read s.rest) refl)

  pub over_scan : (P : List ℕ → Type 0) → ((bs : List ℕ) → read bs ≡ None → P bs) → ((bs : List ℕ) (s : Split X) → read bs ≡ Some s → P s.rest → P bs) → (bs : List ℕ) → P bs
  over_scan P stop go bs = over_from P stop go (length bs) bs (omega arith) (read bs) refl

  -- no item begins where a scan ends
  pub scan_ends : (bs : List ℕ) → read (scan read bs).rest ≡ None
  scan_ends =
      over_scan (λ bs. read (scan read bs).rest ≡ None)
      (λ bs h. ap (λ (t : Scanned X). read t.rest) (scan_none bs h) ∙ h)
      (λ bs s h r. ap (λ (t : Scanned X). read t.rest) (scan_some bs s h) ∙ r)

  -- the bytes that were read come in front of the rest, and with other bytes behind them the scan goes on there
  pub Parts : List ℕ → Type 0
  Parts bs =
      (front : List ℕ) × (bs ≡ front ++ (scan read bs).rest) × ((other : List ℕ) → scan read (front ++ other) ≡ record { items = (scan read bs).items ++ (scan read other).items; rest = (scan read other).rest })

  parts_none : (bs : List ℕ) → read bs ≡ None → Parts bs
  unfolding Parts
  parts_none bs h =
      let e = scan_none bs h in
      ([], sym (ap (λ (t : Scanned X). t.rest) e), λ other. ap (λ (t : Scanned X). record { items = t.items ++ (scan read other).items; rest = (scan read other).rest }) (sym e))

  parts_some : (bs : List ℕ) (s : Split X) → read bs ≡ Some s → Parts s.rest → Parts bs
  unfolding Parts
  parts_some bs s h p =
      let o = own bs s h in
      let e = scan_some bs s h in
      let more = p.0 in
      let back = ap (λ (t : Scanned X). t.rest) e in (
        o.0 ++ more,
        o.2 ∙ (ap (λ xs. o.0 ++ xs) p.1 ∙ (sym (append_assoc o.0 more (scan read s.rest).rest) ∙ ap (λ xs. (o.0 ++ more) ++ xs) (sym back))),
        λ other.
            let a = ap (scan read) (append_assoc o.0 more other) in
            let b = scan_some (o.0 ++ (more ++ other)) (record { part = s.part; rest = more ++ other }) (o.3 (more ++ other)) in
            let c = ap (λ (t : Scanned X). record { items = s.part ∷ t.items; rest = t.rest }) (p.2 other) in
            let d = ap (λ (t : Scanned X). record { items = t.items ++ (scan read other).items; rest = (scan read other).rest }) (sym e) in
            a ∙ (b ∙ (c ∙ d)),
      )

  pub scan_parts : (bs : List ℕ) → Parts bs
  scan_parts = over_scan Parts parts_none parts_some

  -- the same, the bytes that were read being those up to the place where the scan ends
  pub scan_front : (bs other : List ℕ) → scan read (take (length bs - length (scan read bs).rest) bs ++ other) ≡ record { items = (scan read bs).items ++ (scan read other).items; rest = (scan read other).rest }
  unfolding Parts
  scan_front bs other =
      let p = scan_parts bs in
      let rest = (scan read bs).rest in
      let l = ap length p.1 ∙ length-append p.0 rest in
      let n : length bs - length rest ≡ length p.0 = omega arith in
      let t : take (length bs - length rest) bs ≡ p.0 = ap (λ k. take k bs) n ∙ (ap (take (length p.0)) p.1 ∙ take_at p.0 rest (length p.0) refl) in
      ap (λ xs. scan read (xs ++ other)) t ∙ p.2 other

  -- a scan ends no earlier than its bytes begin
  pub scan-within : (bs : List ℕ) → (length (scan read bs).rest ≤ length bs) × (bs ≡ take (length bs - length (scan read bs).rest) bs ++ (scan read bs).rest)
  unfolding Parts
  scan-within bs =
      let p = scan_parts bs in
      let rest = (scan read bs).rest in
      let l = ap length p.1 ∙ length-append p.0 rest in
      let n : length bs - length rest ≡ length p.0 = omega arith in
      let t : take (length bs - length rest) bs ≡ p.0 = ap (λ k. take k bs) n ∙ (ap (take (length p.0)) p.1 ∙ take_at p.0 rest (length p.0) refl) in
      (omega arith, p.1 ∙ ap (λ xs. xs ++ rest) (sym t))
