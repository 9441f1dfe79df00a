use Rattle.std.proofs.Common.{◌≡◌, ℕ, ◌+◌, ◌<◌, ◌≤◌, List, [], ◌∷◌, ◌++◌, length, get_or, take, sym, ap, ◌∙◌}
use Rattle.std.specs.List.{flat_map}
use Rattle.std.proofs.lemmas.List.{append-nil, append_assoc, flat_map_more, take_all, take_more}
use Rattle.lists.proofs.Cuts.{cut_again}
use Rattle.records.specs.declared.kind.Kind.{Kind}
use Rattle.records.specs.Records.{kind_number, record_bytes}

-- what is put behind a text in two steps, each as far as there is room
appended : (n : ℕ) (xs ys zs mid new : List ℕ) → mid ≡ take n (xs ++ ys) → new ≡ take n (mid ++ zs) → new ≡ take n (xs ++ (ys ++ zs))
appended n xs ys zs mid new e f =
    f ∙ (ap (λ ws. take n (ws ++ zs)) e ∙ (cut_again n (xs ++ ys) zs ∙ ap (take n) (append_assoc xs ys zs)))

-- the kind of a record put behind a text, then its body
pub record_appended : (n b : ℕ) (k kind : Kind) (body old mid new : List ℕ) → mid ≡ take n (old ++ b ∷ []) → b ≡ kind_number k → k ≡ kind → new ≡ take n (mid ++ body) → new ≡ take n (old ++ record_bytes kind body)
record_appended n b k kind body old mid new e t is f =
    appended n old (b ∷ []) body mid new e f ∙ ap (λ x. take n (old ++ x ∷ body)) (t ∙ ap kind_number is)

-- no record is put yet
pub append_none : (n : ℕ) (text : List ℕ) → length text ≤ n → text ≡ take n (text ++ [])
append_none n text h = sym (ap (take n) (append-nil text) ∙ take_all n text h)

-- one record more
pub append_more : {X : Type 0} (n : ℕ) (record_of : X → List ℕ) (old text new : List ℕ) (xs : List X) (i : ℕ) (x : X) → i < length xs → x ≡ get_or xs i x → text ≡ take n (old ++ flat_map record_of (take i xs)) → new ≡ take n (text ++ record_of x) → new ≡ take n (old ++ flat_map record_of (take (i + 1) xs))
append_more n record_of old text new xs i x h ex et en =
    let grown = flat_map_more record_of [] (take i xs) x ∙ ap (flat_map record_of) (ap (λ y. take i xs ++ y ∷ []) ex ∙ sym (take_more xs i x h)) in
    appended n old (flat_map record_of (take i xs)) (record_of x) text new et en ∙ ap (λ ys. take n (old ++ ys)) grown

-- four parts that fit, put one behind the other into an empty text
pub assembled : (n : ℕ) (s t u v b0 b1 b2 b3 b4 : List ℕ) → b0 ≡ [] → b1 ≡ take n (b0 ++ s) → b2 ≡ take n (b1 ++ t) → b3 ≡ take n (b2 ++ u) → b4 ≡ take n (b3 ++ v) → length (s ++ (t ++ (u ++ v))) ≤ n → b4 ≡ s ++ (t ++ (u ++ v))
assembled n s t u v b0 b1 b2 b3 b4 e0 e1 e2 e3 e4 fits =
    let f1 = e1 ∙ ap (λ ws. take n (ws ++ s)) e0 in
    let f2 = appended n [] s t b1 b2 f1 e2 in
    let f3 = appended n [] (s ++ t) u b2 b3 f2 e3 in
    let f4 = appended n [] ((s ++ t) ++ u) v b3 b4 f3 e4 in
    f4 ∙ (ap (take n) (append_assoc (s ++ t) u v ∙ append_assoc s t (u ++ v)) ∙ take_all n _ fits)
