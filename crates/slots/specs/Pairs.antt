use Rattle.std.specs.Prelude.{◌≡◌, ℕ, zero, suc, ◌+◌, ◌-◌, ◌*◌, ◌<◌, ◌≤◌, Bool, true, false, cond, ◌⊎◌, List, ◌++◌, length, take, drop, replicate, Some, None, Option, ◌==◌, nat_le, nat_lt, slice_index, refl}
use Rattle.std.proofs.Common.{sym, ◌∙◌, inl, inr}
use Rattle.std.proofs.Math.Path.{ap}
use native.Mathlib.Omega.{arith}
use Rattle.std.proofs.Math.Nat.{mul-le-mul_right}
use Rattle.std.specs.Option.{option_map, unwrap_or}
use Rattle.std.proofs.lemmas.List.Edits.{drop-paste, length-paste}
use Rattle.std.proofs.lemmas.List.{append_assoc, length-take-le, length-drop, take_all, take_at, take-take, take-append-le, drop_at, drop-drop, drop-append-le, drop-take}
use Rattle.std.proofs.lemmas.Bool.{and_from, and_parts, eq-eqb, le-leb, leb-true, lt-ltb, cond-true, both_ways, cases_order}
use Rattle.numbers.specs.BigEndian.{big_endian, read_big_endian}
use Rattle.numbers.proofs.Trips as NumbersTrip
use Rattle.keys.specs.Digests.{value_room}
use Rattle.keys.specs.Keys.{key_size, key_bytes, read_key}
use Rattle.keys.specs.declared.key.Key.{Key}
use Rattle.keys.proofs.Trips as KeysTrip
use Rattle.keys.specs.SameKeys.{same_key_decides}
use Rattle.stores.specs.Numbers.{padded}
use Rattle.slots.specs.Table.{slot_size, slot_count, slot, Pair, slot_length, is_taken, slot_value, slot_key, read_slot, pair_at, pair_value, slot_bytes, is_key, slot_has, first_slot, lowest_slot, with_slot}
use Rattle.slots.specs.Writes.{length-slot_bytes}

-- the slot that is answered has the key, and where none is answered none has it
first_some : (k : Key) (n i j : ℕ) (bs : List ℕ) (b : Bool) → b ≡ slot_has k (slot i bs) → ((m : ℕ) → first_slot k n m bs ≡ Some j → (m ≤ j) × (j < m + n) × (slot_has k (slot j bs) ≡ true)) → cond b (Some i) (first_slot k n (i + 1) bs) ≡ Some j → (i ≤ j) × (j < i + suc n) × (slot_has k (slot j bs) ≡ true)
first_some k n i j bs true e rest h =
    let q : i ≡ j = cc in
    (omega arith, omega arith, ap (λ m. slot_has k (slot m bs)) (sym q) ∙ sym e)
first_some k n i j bs false e rest h =
    let r = rest (i + 1) h in
    (omega (arith, r.0), omega (arith, r.1), r.2)

some_from : (k : Key) (n i j : ℕ) (bs : List ℕ) → first_slot k n i bs ≡ Some j → (i ≤ j) × (j < i + n) × (slot_has k (slot j bs) ≡ true)
some_from k zero i j bs h = absurd cc
some_from k (suc n) i j bs h = first_some k n i j bs (slot_has k (slot i bs)) refl (λ m e. some_from k n m j bs e) h

pub lowest_some : (k : Key) (bs : List ℕ) (j : ℕ) → lowest_slot k bs ≡ Some j → (j < slot_count (length bs)) × (slot_has k (slot j bs) ≡ true)
lowest_some k bs j h =
    let r = some_from k (slot_count (length bs)) 0 j bs h in
    (omega (arith, r.1), r.2)

first_none : (k : Key) (n i : ℕ) (bs : List ℕ) (b : Bool) → cond b (Some i) (first_slot k n (i + 1) bs) ≡ None → (b ≡ false) × (first_slot k n (i + 1) bs ≡ None)
first_none k n i bs true h = absurd cc
first_none k n i bs false h = (refl, h)

none_step : (k : Key) (n i : ℕ) (bs : List ℕ) (j : ℕ) → i ≤ j → j < i + suc n → (i ≡ j) ⊎ ((i < j) ⊎ (j < i)) → slot_has k (slot i bs) ≡ false → (i + 1 ≤ j → j < i + 1 + n → slot_has k (slot j bs) ≡ false) → slot_has k (slot j bs) ≡ false
none_step k n i bs j low high (inl e) f rest = ap (λ m. slot_has k (slot m bs)) (sym e) ∙ f
none_step k n i bs j low high (inr (inl l)) f rest = rest (omega arith) (omega arith)
none_step k n i bs j low high (inr (inr l)) f rest = absurd (omega arith)

none_from : (k : Key) (n i : ℕ) (bs : List ℕ) → first_slot k n i bs ≡ None → (j : ℕ) → i ≤ j → j < i + n → slot_has k (slot j bs) ≡ false
none_from k zero i bs h j low high = absurd (omega arith)
none_from k (suc n) i bs h j low high =
    let p = first_none k n i bs (slot_has k (slot i bs)) h in
    none_step k n i bs j low high (cases_order i j) p.0 (λ l m. none_from k n (i + 1) bs p.1 j l m)

pub lowest_none : (k : Key) (bs : List ℕ) → lowest_slot k bs ≡ None → (j : ℕ) → j < slot_count (length bs) → slot_has k (slot j bs) ≡ false
lowest_none k bs h j low = none_from k (slot_count (length bs)) 0 bs h j (omega arith) (omega arith)

key_is : (k : Key) (o : Option Key) → is_key k o ≡ true → o ≡ Some k
key_is k None t = absurd (both_ways false refl t)
key_is k (Some j) t = ap Some ((same_key_decides j k).0 t)

-- a slot that has a key has a pair of it, and the other way round
pub has_pair : (k : Key) (s : List ℕ) → slot_has k s ≡ true → (read_slot s ≡ Some (record { key = k; value = slot_value s })) × (slot_length s ≤ value_room)
has_pair k s t =
    let p = and_parts (is_taken s) (is_key k (slot_key s)) t in
    let q = and_parts (slice_index s 0 == 1) (nat_le (slot_length s) value_room) p.0 in
    let e = key_is k (slot_key s) p.1 in
    let with-key : Key → Pair = λ j. record { key = j; value = slot_value s } in
    (ap (λ b. cond b (option_map with-key (slot_key s)) None) p.0 ∙ ap (option_map with-key) e, leb-true (slot_length s) value_room q.1)

pair_from : (s : List ℕ) (k : Key) (v : List ℕ) (b : Bool) (o : Option Key) → cond b (option_map {U = Pair} (λ j. record { key = j; value = slot_value s }) o) None ≡ Some (record { key = k; value = v }) → (b ≡ true) × (o ≡ Some k) × (slot_value s ≡ v)
pair_from s k v false o h = absurd cc
pair_from s k v true None h = absurd cc
pair_from s k v true (Some j) h =
    let e : ◌≡◌ {A = Pair} (record { key = j; value = slot_value s }) (record { key = k; value = v }) = cc in
    (refl, ap (λ (p : Pair). Some p.key) e, ap (λ (p : Pair). p.value) e)

pub pair_has : (s : List ℕ) (k : Key) (v : List ℕ) → read_slot s ≡ Some (record { key = k; value = v }) → (slot_has k s ≡ true) × (slot_value s ≡ v) × (slot_length s ≤ value_room)
pair_has s k v h =
    let p = pair_from s k v (is_taken s) (slot_key s) h in
    let q = and_parts (slice_index s 0 == 1) (nat_le (slot_length s) value_room) p.0 in
    let same = (same_key_decides k k).1 refl in
    (and_from _ _ p.0 (ap (is_key k) p.1 ∙ same), p.2, leb-true (slot_length s) value_room q.1)

-- a slot that is taken has its value
pub taken_value : (s : List ℕ) → length s ≡ slot_size → is_taken s ≡ true → option_map pair_value (read_slot s) ≡ Some (slot_value s)
taken_value s l t =
    let d = length-drop 1 s in
    let k : length (take key_size (drop 1 s)) ≡ key_size = length-take-le key_size (drop 1 s) (omega arith) in
    let r = cond-true (length (take key_size (drop 1 s)) == key_size) _ None (eq-eqb (length (take key_size (drop 1 s))) key_size k) in
    let with-key : Key → Pair = λ j. record { key = j; value = slot_value s } in
    ap (option_map pair_value) (cond-true (is_taken s) (option_map with-key (slot_key s)) None t ∙ ap (option_map with-key) r)

-- the value that is found is that of the pair in the lowest slot
pub found_value : (k : Key) (bs : List ℕ) (i : ℕ) → lowest_slot k bs ≡ Some i → option_map pair_value (pair_at i bs) ≡ option_map (λ j. slot_value (slot j bs)) (lowest_slot k bs)
found_value k bs i e =
    let l = lowest_some k bs i e in
    ap (option_map pair_value) (cond-true (nat_lt i (slot_count (length bs))) (read_slot (slot i bs)) None (lt-ltb i (slot_count (length bs)) l.0) ∙ (has_pair k (slot i bs) l.1).0)
    ∙ sym (ap (option_map (λ j. slot_value (slot j bs))) e)

-- a pair reads back from its slot
pub read_back : (k : Key) (v : List ℕ) → length v ≤ value_room → read_slot (slot_bytes k v) ≡ Some (record { key = k; value = v })
unfolding padded
read_back k v short =
    let K = key_bytes k in
    let N = big_endian 4 (length v) in
    let P = padded v in
    let s = slot_bytes k v in
    let lK = KeysTrip.length-key_bytes k in
    let lN = NumbersTrip.length-big_endian 4 (length v) in
    let dK : drop 36 (K ++ (N ++ P)) ≡ N ++ P = drop_at K (N ++ P) 36 lK in
    let n : slot_length s ≡ length v =
    ap (λ xs. unwrap_or (read_big_endian (take 4 xs)) 0) dK ∙ (ap (λ xs. unwrap_or (read_big_endian xs) 0) (take_at N P 4 lN) ∙ ap (λ o. unwrap_or o 0) (NumbersTrip.back 4 (length v) (omega arith) (omega arith))) in
    let dP : drop 40 (K ++ (N ++ P)) ≡ P = sym (drop-drop 4 36 (K ++ (N ++ P))) ∙ (ap (drop 4) dK ∙ drop_at N P 4 lN) in
    let val : slot_value s ≡ v = ap (λ m. take m (drop 40 (K ++ (N ++ P)))) n ∙ (ap (take (length v)) dP ∙ take_at v (replicate (value_room - length v) 0) (length v) refl) in
    let key : slot_key s ≡ Some k = ap read_key (take_at K (N ++ P) 36 lK) ∙ KeysTrip.back k in
    let t : is_taken s ≡ true = and_from (1 == 1) (nat_le (slot_length s) value_room) refl (le-leb (slot_length s) value_room (omega (arith, n))) in
    let with-key : Key → Pair = λ j. record { key = j; value = slot_value s } in
    let with_value : List ℕ → Pair = λ x. record { key = k; value = x } in
    ap (λ b. cond b (option_map with-key (slot_key s)) None) t ∙ (ap (option_map with-key) key ∙ ap (λ x. Some (with_value x)) val)

module _ (i : ℕ) (k : Key) (v bs : List ℕ) (short : length v ≤ value_room) (within : i * slot_size + slot_size ≤ length bs) where
  pub length-with_slot : length (with_slot i k v bs) ≡ length bs
  length-with_slot = length-paste bs (i * slot_size) (slot_bytes k v) slot_size within (omega (arith, length-slot_bytes k v short))

  front : List ℕ
  front = take (i * slot_size) bs

  split : with_slot i k v bs ≡ front ++ (slot_bytes k v ++ drop (i * slot_size + slot_size) bs)
  unfolding front
  split =
      let t = take_all slot_size (slot_bytes k v) (omega (arith, length-slot_bytes k v short)) in
      ap (λ xs. (front ++ xs) ++ drop (i * slot_size + slot_size) bs) t ∙ append_assoc front (slot_bytes k v) (drop (i * slot_size + slot_size) bs)

  length_front : length front ≡ i * slot_size
  unfolding front
  length_front = length-take-le (i * slot_size) bs (omega arith)

  -- the slot that was written has the pair
  pub slot_same : slot i (with_slot i k v bs) ≡ slot_bytes k v
  slot_same =
      ap (λ xs. take slot_size (drop (i * slot_size) xs)) split
      ∙ (ap (take slot_size) (drop_at front (slot_bytes k v ++ drop (i * slot_size + slot_size) bs) (i * slot_size) length_front)
      ∙ take_at (slot_bytes k v) (drop (i * slot_size + slot_size) bs) slot_size (length-slot_bytes k v short))

  -- the slots before and behind it are as they were
  pub slot-before : (j : ℕ) → j < i → slot j (with_slot i k v bs) ≡ slot j bs
  unfolding front
  slot-before j h =
      let m : (j + 1) * slot_size ≤ i * slot_size = mul-le-mul_right slot_size (omega arith) in
      let rest = slot_bytes k v ++ drop (i * slot_size + slot_size) bs in
      let d = drop-append-le (j * slot_size) front rest (omega (arith, length_front)) in
      let ld = length-drop (j * slot_size) front in
      let a = take-append-le slot_size (drop (j * slot_size) front) rest (omega (arith, length_front)) in
      let q : i * slot_size ≡ j * slot_size + (i * slot_size - j * slot_size) = omega arith in
      let f : drop (j * slot_size) front ≡ take (i * slot_size - j * slot_size) (drop (j * slot_size) bs) =
      ap (λ n. drop (j * slot_size) (take n bs)) q ∙ drop-take (j * slot_size) (i * slot_size - j * slot_size) bs in
      ap (λ xs. take slot_size (drop (j * slot_size) xs)) split ∙ (ap (take slot_size) d ∙ (a ∙ (ap (take slot_size) f ∙ take-take slot_size (i * slot_size - j * slot_size) (drop (j * slot_size) bs) (omega arith))))

  pub slot_behind : (j : ℕ) → i < j → slot j (with_slot i k v bs) ≡ slot j bs
  slot_behind j h =
      let m : (i + 1) * slot_size ≤ j * slot_size = mul-le-mul_right slot_size (omega arith) in
      let at = i * slot_size + slot_size in
      let q : j * slot_size ≡ at + (j * slot_size - at) = omega arith in
      let p = drop-paste bs (i * slot_size) (slot_bytes k v) slot_size (omega arith) (omega (arith, length-slot_bytes k v short)) in
      let e : drop (j * slot_size) (with_slot i k v bs) ≡ drop (j * slot_size) bs =
      ap (λ n. drop n (with_slot i k v bs)) q ∙ (sym (drop-drop (j * slot_size - at) at (with_slot i k v bs)) ∙ (ap (drop (j * slot_size - at)) p ∙ (drop-drop (j * slot_size - at) at bs ∙ ap (λ n. drop n bs) (sym q)))) in
      ap (take slot_size) e
