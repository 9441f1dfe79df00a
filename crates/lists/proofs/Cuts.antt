use Rattle.std.proofs.Common.{◌≡◌, ℕ, zero, suc, ◌+◌, ◌-◌, ◌≤◌, List, [], ◌∷◌, ◌++◌, length, take, min, sym, refl, ap, ◌∙◌, arith}
use borrow.Rule.Slice.PartMut.{put_mid}
use Rattle.std.proofs.Math.Seq.{take-append-add}
use Rattle.std.proofs.lemmas.List.{take_min, length-take, length-take-le}
use Rattle.std.proofs.lemmas.Slice.{take-put_mid}
use Rattle.lists.specs.declared.few.Few.{Few}
use Rattle.lists.specs.Few.{few_items}

-- a list in room of fixed size is no longer than its room
pub length-few_items : {X : Type 0} {N : ℕ} (f : Few X N) → length (few_items f) ≤ N
length-few_items f =
    let l = length-take f.len f.items in
    let s = f.short in
    omega arith

-- what fits behind what fitted is what fits of the whole
pub cut_again : {X : Type 0} (n : ℕ) (xs ys : List X) → take n (take n xs ++ ys) ≡ take n (xs ++ ys)
cut_again zero xs ys = refl
cut_again (suc n) [] ys = refl
cut_again (suc n) (x ∷ xs) ys = ap (λ zs. x ∷ zs) (cut_again n xs ys)

-- what fits behind the first a of n places, written there
pub written : {X : Type 0} (xs items ys : List X) (a n k : ℕ) → length xs ≡ n → a ≤ n → k ≡ min (n - a) (length items) → ys ≡ take k items → take (a + k) (put_mid a (a + k - a) xs ys) ≡ take n (take a xs ++ items)
written xs items ys a n k long within count e =
    let front = length-take-le a xs (omega arith) in
    let some : length ys ≡ k = ap length e ∙ (length-take k items ∙ omega arith) in
    let cut = take-append-add (take a xs) items (n - a) in
    let place : length (take a xs) + (n - a) ≡ n = omega arith in
    take-put_mid a (a + k - a) xs ys (a + k) (omega arith) (omega arith)
    ∙ (ap (λ zs. take a xs ++ zs) (e ∙ (ap (λ m. take m items) count ∙ take_min (n - a) items))
    ∙ (sym cut ∙ ap (λ m. take m (take a xs ++ items)) place))
