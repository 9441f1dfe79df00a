use Rattle.std.proofs.Common.{◌≡◌, ℕ, zero, suc, ◌<◌, List, [], ◌∷◌, ◌++◌, length, take, Some, None, Option, sym, refl, ap, ◌∙◌, arith}
use Rattle.std.proofs.lemmas.List.{append-nil, append_assoc, take_all, length-append}
use Rattle.records.specs.Records.{Split}
use Rattle.actions.specs.Actions.{several, or_none, before, all_before}

pub several_none : {X : Type 0} (item : List ℕ → Option (Split X)) (n : ℕ) (bs : List ℕ) → item bs ≡ None → several item n bs ≡ record { part = []; rest = bs }
several_none item zero bs h = refl
several_none item (suc n) bs h = ap (λ o. or_none bs o (λ s. before s.part (several item n s.rest))) h

pub several_some : {X : Type 0} (item : List ℕ → Option (Split X)) (n : ℕ) (bs : List ℕ) (s : Split X) → item bs ≡ Some s → several item (suc n) bs ≡ before s.part (several item n s.rest)
several_some item n bs s h = ap (λ o. or_none bs o (λ s. before s.part (several item n s.rest))) h

-- nothing more is read
pub read_stop : {X : Type 0} (item : List ℕ → Option (Split X)) (m : ℕ) (rest : List ℕ) (vs : List X) → item rest ≡ None → all_before vs (several item m rest) ≡ record { part = vs; rest = rest }
read_stop {X} item m rest vs h =
    let made : List X → Split (List X) = λ xs. record { part = xs; rest = rest } in
    ap (all_before vs) (several_none item m rest h) ∙ ap made (append-nil vs)

-- one element more is read
pub read_more : {X : Type 0} (item : List ℕ → Option (Split X)) (m n : ℕ) (rest : List ℕ) (vs : List X) (s : Split X) → m ≡ suc n → item rest ≡ Some s → all_before vs (several item m rest) ≡ all_before (vs ++ s.part ∷ []) (several item n s.rest)
read_more {X} item m n rest vs s em h =
    let more = several item n s.rest in
    let made : List X → Split (List X) = λ xs. record { part = xs; rest = more.rest } in
    ap (λ k. all_before vs (several item k rest)) em ∙ (ap (all_before vs) (several_some item n rest s h) ∙ ap made (sym (append_assoc vs (s.part ∷ []) more.part)))

-- one element more is kept, where there is room
pub pushed : {X : Type 0} (n i : ℕ) (xs ys : List X) (x : X) → length xs ≡ i → i < n → ys ≡ take n (xs ++ x ∷ []) → ys ≡ xs ++ x ∷ []
pushed n i xs ys x long room e =
    let l = length-append xs (x ∷ []) in
    e ∙ take_all n (xs ++ x ∷ []) (omega arith)
