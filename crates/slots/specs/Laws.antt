use Rattle.std.specs.Prelude.{◌≡◌, ℕ, ◌+◌, ◌*◌, ◌<◌, ◌≤◌, ◌⊎◌, List, length, take, drop, Some, None, vec_len, Option, refl}
use Rattle.std.proofs.Common.{sym, ap, subst, ◌∙◌, inl, inr, arith}
use Rattle.std.specs.Option.{option_map, unwrap_or}
use Rattle.std.proofs.lemmas.List.{length-take}
use Rattle.std.proofs.lemmas.Bool.{both_ways, cases_order}
use Rattle.keys.specs.Digests.{value_room}
use Rattle.keys.specs.declared.key.Key.{Key}
use Rattle.stores.specs.Numbers.{PutNumbers}
use Rattle.stores.proofs.LookUps.{look_up_means}
use Rattle.stores.specs.Model.{HeldMeans, FindMeans, PutMeans}
use Rattle.slots.specs.declared.slots.Slots.{Slots}
use Rattle.slots.specs.Table.{slot_size, slot_count, slot, Pair, slot_length, slot_value, read_slot, lowest_slot, slot_bytes, Held}
use Rattle.slots.specs.Storing.{bytes_of, value_found, put_place, SlotsPuts, slots_model}
use Rattle.slots.specs.Lowest.{slot-within}
use Rattle.slots.specs.Pairs.{lowest_some, lowest_none, has_pair, pair_has, read_back, length-with_slot, slot_same, slot-before, slot_behind}

length_min : (n : ℕ) (xs : List ℕ) → length (take n xs) ≤ n
length_min n xs = rw (length-take n xs) (omega arith)

pub held_means : HeldMeans slots_model
held_means = record {
  short = λ s k v h.
      let p = pair_has (slot h.place (bytes_of s)) k v h.pair in
      let l = length_min (slot_length (slot h.place (bytes_of s))) (drop 41 (slot h.place (bytes_of s))) in
      omega (arith, ap length p.1, p.2);
  marks = λ s f h. absurd h;
  causes = λ s f h. absurd h;
}

-- the value that is found is that of a pair of the key, and where there is none no slot has the key
value_held : (s : Slots) (k : Key) (v : List ℕ) (l : Option ℕ) → lowest_slot k (bytes_of s) ≡ l → option_map (λ i. slot_value (slot i (bytes_of s))) l ≡ Some v → Held (bytes_of s) k v
value_held s k v None e h = absurd cc
value_held s k v (Some i) e h =
    let l = lowest_some k (bytes_of s) i e in
    let q = has_pair k (slot i (bytes_of s)) l.1 in
    let same : slot_value (slot i (bytes_of s)) ≡ v = cc in
    let pair_of : List ℕ → Pair = λ x. record { key = k; value = x } in
    record { place = i; within = l.0; pair = q.0 ∙ ap (λ x. Some (pair_of x)) same }

-- it has at most its room
pub found_short : (s : Slots) (k : Key) (v : List ℕ) → value_found k (bytes_of s) ≡ Some v → length v ≤ value_room
found_short s k v h = held_means.short s k v (value_held s k v (lowest_slot k (bytes_of s)) refl h)

none_held : (s : Slots) (k : Key) (l : Option ℕ) → lowest_slot k (bytes_of s) ≡ l → option_map (λ i. slot_value (slot i (bytes_of s))) l ≡ None → (v : List ℕ) → Held (bytes_of s) k v → ⊥
none_held s k None e h v held =
    let q = pair_has (slot held.place (bytes_of s)) k v held.pair in
    both_ways _ (lowest_none k (bytes_of s) e held.place held.within) q.0
none_held s k (Some i) e h v held = absurd cc

pub find_means : FindMeans slots_model
find_means =
    look_up_means slots_model.holds slots_model.raises SlotsPuts (λ s k. value_found k (bytes_of s))
    (λ s k v h. value_held s k v (lowest_slot k (bytes_of s)) refl h) (λ s k h. none_held s k (lowest_slot k (bytes_of s)) refl h)

place_of : (s : Slots) (k : Key) (l : Option ℕ) → lowest_slot k (bytes_of s) ≡ l → unwrap_or l s.cursor < slot_count (length (bytes_of s))
place_of s k None e =
    let n : vec_len s.bytes ≡ length (bytes_of s) = s.bytes.ok.0 in
    let At : ℕ → Type 0 = λ m. s.cursor < slot_count m in
    subst At n s.placed
place_of s k (Some i) e = (lowest_some k (bytes_of s) i e).0

-- the slot that a put overwrites is one of the table
pub place-within : (s : Slots) (k : Key) → put_place k s < slot_count (length (bytes_of s))
place-within s k = place_of s k (lowest_slot k (bytes_of s)) refl

module _ (s t : Slots) (k : Key) (v : List ℕ) (r : PutNumbers) (f : SlotsPuts s k v r t) where
  fits : put_place k s * slot_size + slot_size ≤ length (bytes_of s)
  fits = slot-within (length (bytes_of s)) (put_place k s) (place-within s k)

  long : length (bytes_of t) ≡ length (bytes_of s)
  long = ap length f.bytes ∙ length-with_slot (put_place k s) k v (bytes_of s) f.room fits

  written : slot (put_place k s) (bytes_of t) ≡ slot_bytes k v
  written = ap (slot (put_place k s)) f.bytes ∙ slot_same (put_place k s) k v (bytes_of s) f.room fits

  pub put_kept : Held (bytes_of t) k v
  put_kept =
      let n = ap slot_count long in
      record {
        place = put_place k s;
        within = let At : ℕ → Type 0 = λ m. put_place k s < m in subst At (sym n) (place-within s k);
        pair = ap read_slot written ∙ read_back k v f.room;
      }

  other : (j : Key) (w : List ℕ) (h : Held (bytes_of t) j w) → slot h.place (bytes_of t) ≡ slot h.place (bytes_of s) → Held (bytes_of s) j w
  other j w h e =
      let n = ap slot_count long in
      record {
        place = h.place;
        within = let At : ℕ → Type 0 = λ m. h.place < m in subst At n h.within;
        pair = sym (ap read_slot e) ∙ h.pair;
      }

  pub put_else : (j : Key) (w : List ℕ) (h : Held (bytes_of t) j w) → (h.place ≡ put_place k s) ⊎ ((h.place < put_place k s) ⊎ (put_place k s < h.place)) → Held (bytes_of s) j w ⊎ ((j ≡ k) × (w ≡ v))
  put_else j w h (inl e) =
      let o = sym h.pair ∙ (ap (λ m. read_slot (slot m (bytes_of t))) e ∙ (ap read_slot written ∙ read_back k v f.room)) in
      let q : ◌≡◌ {A = Pair} (record { key = j; value = w }) (record { key = k; value = v }) = cc in
      inr (ap (λ (x : Pair). x.key) q, ap (λ (x : Pair). x.value) q)
  put_else j w h (inr (inl l)) =
      inl (other j w h (ap (slot h.place) f.bytes ∙ slot-before (put_place k s) k v (bytes_of s) f.room fits h.place l))
  put_else j w h (inr (inr l)) =
      inl (other j w h (ap (slot h.place) f.bytes ∙ slot_behind (put_place k s) k v (bytes_of s) f.room fits h.place l))

pub put_means : PutMeans slots_model
put_means = record {
  answers = λ s t k v r f. inl (ap (λ (x : PutNumbers). x.answer) f.answer);
  kept = λ s t k v r f one. put_kept s t k v r f;
  nothing_else = λ s t k v r f j w h. put_else s t k v r f j w h (cases_order h.place (put_place k s));
  faulted = λ s t k v r f three none. let a = ap (λ (x : PutNumbers). x.answer) f.answer in omega arith;
  own_fault = λ s t k v r f some. absurd (some (ap (λ (x : PutNumbers). x.first) f.answer));
  same_faults = λ s t k v r f g. (λ h. absurd h, λ h. absurd h);
}
