use Rattle.std.specs.Prelude.{◌≡◌, ℕ, Bool, true, false, ◌⊎◌, List, [], ◌∷◌, ◌++◌, Some, None, Option, ◌≢◌}
use Rattle.std.proofs.Math.Path.{refl, ap, subst}
use Rattle.std.proofs.Common.{sym, ◌∙◌, arith}
use Rattle.std.proofs.Math.Logic.{inl, inr}
use Rattle.std.proofs.lemmas.Slice.Eq.{bytes_eq-Decides}
use Rattle.std.proofs.lemmas.Bool.{both_ways}
use Rattle.keys.specs.declared.key.Key.{Key}
use Rattle.stores.specs.Numbers.{Raised, no_fault, PutNumbers}
use Rattle.stores.specs.Model.{HeldMeans, FindMeans, PutMeans}
use Rattle.stores.proofs.LookUps.{look_up_means}
use Rattle.lists.specs.Among.{Among}
use Rattle.lists.proofs.Members.{among_split, among_right}
use Rattle.entries.specs.Entries.{Logged}
use Rattle.log_store.specs.declared.log.Log.{Log}
use Rattle.log_store.specs.Contents.{log_entries, is_value, has_room, appended, Held}
use Rattle.log_store.specs.Storing.{bytes_of, no_room, value_found, put_by, LogPuts, log_model}
use Rattle.log_store.specs.Lasts.{last_among, last_none}
use Rattle.log_store.specs.Appends.{appended_entries, entries_short}

pub held_means : HeldMeans log_model
held_means = record {
  short = λ s k v h. entries_short (bytes_of s) (record { key = k; value = v }) h;
  marks = λ s f h. let e = ap (λ (x : Raised). x.mark) h in (omega (arith, s.mark.some), omega (arith, s.mark.most));
  causes = λ s f h. let e = ap (λ (x : Raised). x.cause) h in (omega arith, omega arith);
}

pub find_means : FindMeans log_model
find_means =
    look_up_means log_model.holds log_model.raises LogPuts value_found
    (λ s k v h. last_among k (log_entries (bytes_of s)) v h) (λ s k h. last_none k (log_entries (bytes_of s)) h)

-- the value that is there is the one that is asked for
value_is : (v : List ℕ) (o : Option (List ℕ)) → is_value v o ≡ true → o ≡ Some v
value_is v None t = absurd (both_ways false refl t)
value_is v (Some w) t = ap Some ((bytes_eq-Decides w v).0 t)

kept : PutNumbers
kept = record { answer = 1; first = no_fault }

-- the three ways of a put: the value was there, it was appended, there was no room
Ways : Log → Key → List ℕ → PutNumbers → Log → Type 0
Ways s k v r t =
    ((r ≡ kept) × (bytes_of t ≡ bytes_of s) × (value_found s k ≡ Some v))
    ⊎ (((r ≡ kept) × (bytes_of t ≡ appended k v (bytes_of s))) ⊎ ((r ≡ record { answer = 3; first = no_room s }) × (bytes_of t ≡ bytes_of s)))

module _ (s t : Log) (k : Key) (v : List ℕ) (r : PutNumbers) where
  ways_by : (same fits : Bool) → is_value v (value_found s k) ≡ same → r ≡ (put_by s k v same fits).answer → bytes_of t ≡ (put_by s k v same fits).bytes → Ways s k v r t
  unfolding Ways kept
  ways_by true fits e a b = inl (a, b, value_is v (value_found s k) e)
  ways_by false true e a b = inr (inl (a, b))
  ways_by false false e a b = inr (inr (a, b))

  module _ (f : LogPuts s k v r t) where
    ways : Ways s k v r t
    ways = ways_by (is_value v (value_found s k)) (has_room v (bytes_of s)) refl f.answer f.bytes

    added : bytes_of t ≡ appended k v (bytes_of s) → log_entries (bytes_of t) ≡ log_entries (bytes_of s) ++ record { key = k; value = v } ∷ []
    added e = ap log_entries e ∙ appended_entries k v f.room (bytes_of s)

    pub put_answers : (r.answer ≡ 1) ⊎ (r.answer ≡ 3)
    unfolding Ways kept
    put_answers =
        elim ways [
          | inl w ↦ inl (ap (λ (x : PutNumbers). x.answer) w.0)
          | inr (inl w) ↦ inl (ap (λ (x : PutNumbers). x.answer) w.0)
          | inr (inr w) ↦ inr (ap (λ (x : PutNumbers). x.answer) w.0)
        ]

    pub put_kept : r.answer ≡ 1 → Held (bytes_of t) k v
    unfolding Ways kept
    put_kept one =
        let At : List Logged → Type 0 = λ es. Among (record { key = k; value = v }) es in
        elim ways [
          | inl w ↦ subst At (ap log_entries (sym w.1)) (last_among k (log_entries (bytes_of s)) v w.2)
          | inr (inl w) ↦ subst At (sym (added w.1)) (among_right (record { key = k; value = v }) (log_entries (bytes_of s)) _ (inl refl))
          | inr (inr w) ↦ (let a = ap (λ (x : PutNumbers). x.answer) w.0 in absurd (omega arith))
        ]

    pub put_else : (j : Key) (w : List ℕ) → Held (bytes_of t) j w → Held (bytes_of s) j w ⊎ ((j ≡ k) × (w ≡ v))
    unfolding Ways
    put_else j w h =
        let At : List Logged → Type 0 = λ es. Among (record { key = j; value = w }) es in
        elim ways [
          | inl p ↦ inl (subst At (ap log_entries p.1) h)
          | inr (inl p) ↦ elim (among_split (record { key = j; value = w }) (log_entries (bytes_of s)) (record { key = k; value = v } ∷ []) (subst At (added p.1) h)) [
            | inl old ↦ inl old
            | inr (inl e) ↦ inr (ap (λ (x : Logged). x.key) e, ap (λ (x : Logged). x.value) e)
            | inr (inr none) ↦ absurd none
          ]
          | inr (inr p) ↦ inl (subst At (ap log_entries p.1) h)
        ]

    pub put_faulted : r.answer ≡ 3 → r.first ≢ no_fault
    unfolding Ways kept
    put_faulted three none =
        elim ways [
          | inl w ↦ (let a = ap (λ (x : PutNumbers). x.answer) w.0 in omega arith)
          | inr (inl w) ↦ (let a = ap (λ (x : PutNumbers). x.answer) w.0 in omega arith)
          | inr (inr w) ↦ (let a = ap (λ (x : PutNumbers). x.first.cause) w.0 in let b = ap (λ (x : Raised). x.cause) none in omega arith)
        ]

    pub put_own : (r.first ≢ no_fault) → r.first ≡ no_room s
    unfolding Ways kept
    put_own some =
        elim ways [
          | inl w ↦ absurd (some (ap (λ (x : PutNumbers). x.first) w.0))
          | inr (inl w) ↦ absurd (some (ap (λ (x : PutNumbers). x.first) w.0))
          | inr (inr w) ↦ ap (λ (x : PutNumbers). x.first) w.0
        ]

    -- the one fault is the same one afterwards
    pub same_room : no_room t ≡ no_room s
    same_room = let fault : ℕ → Raised = λ m. record { mark = m; cause = 4 } in ap fault f.mark

pub put_means : PutMeans log_model
put_means = record {
  answers = put_answers;
  kept = put_kept;
  nothing_else = put_else;
  faulted = put_faulted;
  own_fault = put_own;
  same_faults = λ s t k v r f g. (λ h. h ∙ sym (same_room s t k v r f), λ h. h ∙ same_room s t k v r f);
}
