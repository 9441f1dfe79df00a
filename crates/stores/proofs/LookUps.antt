use Rattle.std.proofs.Common.{◌≡◌, ℕ, ◌≤◌, ◌==◌, List, [], length, replicate, Some, None, Ok, Option, Result, sym, refl, ap, ◌∙◌, subst, arith}
use Rattle.keys.specs.Digests.{value_room}
use Rattle.keys.specs.declared.key.Key.{Key}
use Rattle.stores.specs.Numbers.{Raised, no_fault, FindNumbers, PutNumbers, refused_unless, find_numbers, padded}
use Rattle.stores.specs.declared.answers.Answer.{Answer}
use Rattle.stores.specs.declared.answers.StoreError.{StoreError}
use Rattle.stores.specs.Model.{Model, FindMeans, FindPost}
use Rattle.stores.specs.LookUps.{found_numbers, found_buffer, LooksUp}
use Rattle.stores.proofs.Buffers.{blanked, buffer_fits}

-- a store whose find looks up a value that it holds, and has none exactly where it holds none, keeps what finds mean
module _ {S : Type 0} (holds : S → Key → List ℕ → Type 0) (raises : S → Raised → Type 0) (puts : S → Key → List ℕ → PutNumbers → S → Type 0) (value : S → Key → Option (List ℕ)) (some-held : (s : S) (k : Key) (v : List ℕ) → value s k ≡ Some v → holds s k v) (none-held : (s : S) (k : Key) → value s k ≡ None → (v : List ℕ) → holds s k v → ⊥) where
  module _ (s t : S) (k : Key) (r : FindNumbers) (p : List ℕ) (f : LooksUp value s k r p t) where
    from_answer : (o : Option (List ℕ)) → value s k ≡ o → (r ≡ found_numbers o) × (p ≡ found_buffer o)
    from_answer o e = (f.answer ∙ ap found_numbers e, f.buffer ∙ ap found_buffer e)

    look_answers : (o : Option (List ℕ)) → value s k ≡ o → (1 ≤ r.answer) × (r.answer ≤ 2) × (r.first ≡ no_fault)
    look_answers None e = rw (from_answer None e).0 (omega arith, omega arith, refl)
    look_answers (Some v) e = rw (from_answer (Some v) e).0 (omega arith, omega arith, refl)

    look_found : (o : Option (List ℕ)) → value s k ≡ o → r.answer ≡ 1 → (v : List ℕ) × (holds s k v) × (length v ≡ r.size) × (p ≡ padded v)
    look_found None e one = absurd (omega (arith, rw (from_answer None e).0 at one))
    look_found (Some v) e one =
        let q = from_answer (Some v) e in
        (v, some-held s k v e, rw q.0, q.1)

    look_missing : (o : Option (List ℕ)) → value s k ≡ o → r.answer ≡ 2 → (v : List ℕ) → holds s k v → ⊥
    look_missing None e two v h = none-held s k e v h
    look_missing (Some w) e two v h = omega (arith, rw (from_answer (Some w) e).0 at two)

    look_blanked : (o : Option (List ℕ)) → value s k ≡ o → (r.answer ≡ 1 → ⊥) → (p ≡ padded []) × (r.size ≡ 0)
    look_blanked None e other = let q = from_answer None e in (q.1, rw q.0)
    look_blanked (Some v) e other = absurd (other (rw (from_answer (Some v) e).0))

  pub look_up_means : FindMeans {S = S} (record { holds = holds; raises = raises; finds = LooksUp value; puts = puts })
  look_up_means = record {
    answers = λ s t k r p f. let a = look_answers s t k r p f (value s k) refl in (a.0, omega (arith, a.1));
    found = λ s t k r p f one. look_found s t k r p f (value s k) refl one;
    missing = λ s t k r p f two v h.
        let At : S → Type 0 = λ u. holds u k v in
        look_missing s t k r p f (value s k) refl two v (subst At f.same h);
    blanked = λ s t k r p f other. look_blanked s t k r p f (value s k) refl other;
    nothing_new = λ s t k r p f j w h. let At : S → Type 0 = λ u. holds u j w in subst At f.same h;
    faulted = λ s t k r p f three none. let a = look_answers s t k r p f (value s k) refl in omega (arith, a.1);
    own_fault = λ s t k r p f some. absurd (some (look_answers s t k r p f (value s k) refl).2);
    same_faults = λ s t k r p f g. let At : S → Type 0 = λ u. raises u g in (λ h. subst At (sym f.same) h, λ h. subst At f.same h);
  }

-- a find that filled the buffer with the value, and one that blanked it where there is none, in every store whose finds may look up so
module _ {S : Type 0} (m : Model S) (value : S → Key → Option (List ℕ)) (looks : (s : S) (k : Key) (r : FindNumbers) (p : List ℕ) (t : S) → LooksUp value s k r p t → m.finds s k r p t) (s : S) (k : Key) (b : List ℕ) (room : length b ≡ value_room) where
  looked_up : (o : Option (List ℕ)) (r : FindNumbers) (out : List ℕ) → value s k ≡ o → r ≡ found_numbers o → out ≡ found_buffer o → FindPost m s k b r out s
  looked_up o r out e er eo =
      record {
        does = λ _. looks s k r out s (record { answer = er ∙ sym (ap found_numbers e); buffer = eo ∙ sym (ap found_buffer e); same = refl });
        refuses = λ other. absurd (other room);
      }

  pub looks_some : (v out : List ℕ) (n : ℕ) → value s k ≡ Some v → n ≡ length v → out ≡ padded v → FindPost m s k b (record { answer = 1; size = n; first = no_fault }) out s
  looks_some v out n e en eo =
      let sized : ℕ → FindNumbers = λ i. record { answer = 1; size = i; first = no_fault } in
      looked_up (Some v) _ out e (ap sized en) eo

  pub looks_none : (out : List ℕ) → value s k ≡ None → out ≡ replicate (length b) 0 → FindPost m s k b (record { answer = 2; size = 0; first = no_fault }) out s
  looks_none out e eo = looked_up None _ out e refl (blanked b out room eo)

-- the same of a store whose finds look up and do nothing else, from what its find has tested and answers
module _ {S : Type 0} {holds : S → Key → List ℕ → Type 0} {raises : S → Raised → Type 0} {puts : S → Key → List ℕ → PutNumbers → S → Type 0} {value : S → Key → Option (List ℕ)} {s : S} {k : Key} {b out : List ℕ} (passed : Ok tt ≡ refused_unless (length b == value_room)) where
  pub look_up_some : {v : List ℕ} {n : ℕ} → value s k ≡ Some v → n ≡ length v → out ≡ padded v → FindPost {S = S} (record { holds = holds; raises = raises; finds = LooksUp value; puts = puts }) s k b (record { answer = 1; size = n; first = no_fault }) out s
  look_up_some {v} {n} e en eo = looks_some _ value (λ s k r p t f. f) s k b (buffer_fits b passed) v out n e en eo

  pub look_up_none : {r : Result (Answer (Option ℕ)) StoreError} → value s k ≡ None → r ≡ Ok (record { value = None; first = None }) → out ≡ replicate (length b) 0 → FindPost {S = S} (record { holds = holds; raises = raises; finds = LooksUp value; puts = puts }) s k b (find_numbers r) out s
  look_up_none {r} e er eo =
      let Post : FindNumbers → Type 0 = λ n. FindPost {S = S} (record { holds = holds; raises = raises; finds = LooksUp value; puts = puts }) s k b n out s in
      subst Post (sym (ap find_numbers er)) (looks_none _ value (λ s k r p t f. f) s k b (buffer_fits b passed) out e eo)
