use Rattle.std.proofs.Common.{◌≡◌, ℕ, zero, suc, true, eqb, List, [], ◌∷◌, length, replicate, sym, refl, ap, ◌∙◌}
use Rattle.std.proofs.lemmas.Bool.{and_parts, eqb-true}
use Rattle.lists.specs.Each.{all_zero}

-- zeros are all zero, and nothing else is
pub zeros_zero : (n : ℕ) → all_zero (replicate n 0) ≡ true
zeros_zero zero = refl
zeros_zero (suc n) = zeros_zero n

pub zeros_only : (bs : List ℕ) → all_zero bs ≡ true → bs ≡ replicate (length bs) 0
zeros_only [] t = refl
zeros_only (b ∷ bs) t =
    let p = and_parts (eqb 0 b) (all_zero bs) t in
    ap (λ x. x ∷ bs) (sym (eqb-true 0 b p.0)) ∙ ap (λ xs. 0 ∷ xs) (zeros_only bs p.1)
