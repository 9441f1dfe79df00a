use Rattle.std.specs.Prelude.{◌≡◌, ℕ, Bool, true, false, cond, ◌⊎◌, List, [], ◌∷◌, Some, None, Option, ◌≢◌, refl}
use Rattle.std.proofs.Common.{sym, ap, ◌∙◌, inl, inr}
use Rattle.keys.specs.Keys.{same_key}
use Rattle.keys.specs.declared.key.Key.{Key}
use Rattle.keys.specs.SameKeys.{same_key_decides}
use Rattle.lists.specs.Among.{Among}
use Rattle.entries.specs.Entries.{Logged}
use Rattle.log_store.specs.Contents.{later, value_under, last_value}

-- which of three values is the last does not depend on which two are compared first
pub later-later : (a b c : Option (List ℕ)) → later a (later b c) ≡ later (later a b) c
later-later a b None = refl
later-later a b (Some v) = refl

-- an entry of the key has its value under it, another has none
pub under_own : (k : Key) (e : Logged) → e.key ≡ k → value_under k e ≡ Some e.value
under_own k e h = ap (λ b. cond b (Some e.value) None) ((same_key_decides e.key k).1 h)

under_other_from : (k : Key) (e : Logged) (b : Bool) → same_key e.key k ≡ b → (e.key ≢ k) → cond b (Some e.value) None ≡ None
under_other_from k e true t h = absurd (h ((same_key_decides e.key k).0 t))
under_other_from k e false t h = refl

pub under_other : (k : Key) (e : Logged) → (e.key ≢ k) → value_under k e ≡ None
under_other k e h = under_other_from k e (same_key e.key k) refl h

under_some : (k : Key) (e : Logged) (v : List ℕ) (b : Bool) → same_key e.key k ≡ b → cond b (Some e.value) None ≡ Some v → record { key = k; value = v } ≡ e
under_some k e v true t h =
    let ek = (same_key_decides e.key k).0 t in
    let ev : e.value ≡ v = cc in
    let made : Key → List ℕ → Logged = λ j w. record { key = j; value = w } in
    ap (λ j. made j v) (sym ek) ∙ ap (made e.key) (sym ev)
under_some k e v false t h = absurd cc

-- the last value of a key is that of an entry
some_later : (k : Key) (e : Logged) (es : List Logged) (v : List ℕ) (o : Option (List ℕ)) → last_value k es ≡ o → (last_value k es ≡ Some v → Among (record { key = k; value = v }) es) → later (value_under k e) o ≡ Some v → (record { key = k; value = v } ≡ e) ⊎ Among (record { key = k; value = v }) es
some_later k e es v None q rest h = inl (under_some k e v (same_key e.key k) refl h)
some_later k e es v (Some w) q rest h = inr (rest (q ∙ h))

pub last_among : (k : Key) (es : List Logged) (v : List ℕ) → last_value k es ≡ Some v → Among (record { key = k; value = v }) es
last_among k [] v h = absurd cc
last_among k (e ∷ es) v h = some_later k e es v (last_value k es) refl (last_among k es v) h

-- where a key has no last value, no entry is of the key
none_later : (a b : Option (List ℕ)) → later a b ≡ None → (a ≡ None) × (b ≡ None)
none_later a None h = (h, refl)
none_later a (Some v) h = absurd cc

pub last_none : (k : Key) (es : List Logged) → last_value k es ≡ None → (v : List ℕ) → Among (record { key = k; value = v }) es → ⊥
last_none k [] h v m = m
last_none k (e ∷ es) h v (inl m) =
    let n = none_later (value_under k e) (last_value k es) h in
    let own = under_own k e (sym (ap (λ (x : Logged). x.key) m)) in
    cc (sym own ∙ n.0)
last_none k (e ∷ es) h v (inr m) = last_none k es (none_later (value_under k e) (last_value k es) h).1 v m
