use Rattle.std.proofs.Common.{◌≡◌, ℕ, ◌+◌, ◌-◌, ◌<◌, ◌≤◌, Bool, true, false, cond, leb, List, [], ◌∷◌, ◌++◌, length, take, drop, set, Some, None, Option, Ok, Err, Result, IsErr, is_ok, sym, refl, ap, ◌∙◌, subst, arith}
use borrow.Rule.Slice.PartMut.{put_mid}
use Rattle.std.proofs.lemmas.List.{append-nil, length-append, length-take-le, length-drop, take_rest, drop_at, drop_all, set_at}
use Rattle.std.proofs.lemmas.Bool.{le-leb}
use Rattle.keys.specs.Digests.{value_room}
use Rattle.keys.specs.declared.key.Key.{Key}
use Rattle.records.specs.Records.{Split, fits_at}
use Rattle.entries.specs.Blocks.{entry_size}
use Rattle.entries.specs.Entries.{Logged, entry_bytes, read_entry, entry_front, with_entry}
use Rattle.entries.proofs.Trips as EntriesTrip
use Rattle.log_store.specs.Contents.{log_entries, log_rest, log_end, later, value_under, last_value, has_room, stopped, with_entry_first, appended}
use Rattle.log_store.specs.Lasts.{later-later}
use Rattle.log_store.specs.Appends.{entries_some, rest_within}

-- what is refused is not done
pub err_not_ok : {X E : Type 0} (r : Result X E) → IsErr r → is_ok r ≡ false
err_not_ok (Ok x) h = sym h
err_not_ok (Err e) h = refl

-- a walk passes an entry
pub passed : (k : Key) (bs rest next : List ℕ) (last : Option (List ℕ)) (e : Split Logged) → Some e ≡ read_entry rest → next ≡ e.rest → last_value k (log_entries bs) ≡ later last (last_value k (log_entries rest)) → last_value k (log_entries bs) ≡ later (later last (value_under k e.part)) (last_value k (log_entries next))
passed k bs rest next last e h en inv =
    let s = entries_some rest e (sym h) in
    let under = value_under k e.part in
    inv ∙ (ap (λ es. later last (last_value k es)) s.0 ∙ (later-later last under (last_value k (log_entries e.rest)) ∙ ap (λ xs. later (later last under) (last_value k (log_entries xs))) (sym en)))

pub passed_rest : (bs rest next : List ℕ) (e : Split Logged) → Some e ≡ read_entry rest → next ≡ e.rest → log_rest bs ≡ log_rest rest → log_rest bs ≡ log_rest next
passed_rest bs rest next e h en inv = inv ∙ ((entries_some rest e (sym h)).1 ∙ ap log_rest (sym en))

-- what writing an entry at the front of bytes answers and leaves, by whether it fits
module _ (k : Key) (v rest : List ℕ) (short : length v ≤ value_room) where
  fitting : fits_at (length (entry_bytes k v)) 0 rest ≡ leb (entry_size (length v)) (length rest)
  fitting = let n : 0 + length (entry_bytes k v) ≡ entry_size (length v) = omega (arith, EntriesTrip.sizes k v) in ap (λ m. leb m (length rest)) n

  pub front_answer : entry_front k v rest ≡ cond (leb (entry_size (length v)) (length rest)) (Some (entry_size (length v))) None
  front_answer =
      ap (λ b. cond b (cond (fits_at (length (entry_bytes k v)) 0 rest) (Some (length (entry_bytes k v))) None) None) (le-leb (length v) value_room short)
      ∙ (ap (λ b. cond b (Some (length (entry_bytes k v))) None) fitting ∙ ap (λ n. cond (leb (entry_size (length v)) (length rest)) (Some n) None) (EntriesTrip.sizes k v))

  pub front_after : with_entry k v rest ≡ cond (leb (entry_size (length v)) (length rest)) (entry_bytes k v ++ drop (entry_size (length v)) rest) rest
  front_after =
      ap (λ b. cond b (cond (fits_at (length (entry_bytes k v)) 0 rest) (entry_bytes k v ++ drop (length (entry_bytes k v)) rest) rest) rest) (le-leb (length v) value_room short)
      ∙ (ap (λ b. cond b (entry_bytes k v ++ drop (length (entry_bytes k v)) rest) rest) fitting ∙ ap (λ n. cond (leb (entry_size (length v)) (length rest)) (entry_bytes k v ++ drop n rest) rest) (EntriesTrip.sizes k v))

  none_by : (b : Bool) (out xs : List ℕ) (n : ℕ) → None ≡ cond b (Some n) None → out ≡ cond b xs rest → (false ≡ b) × (out ≡ rest)
  none_by true out xs n h e = absurd cc
  none_by false out xs n h e = (refl, e)

  pub front_none : (out : List ℕ) → None ≡ entry_front k v rest → out ≡ with_entry k v rest → (false ≡ leb (entry_size (length v)) (length rest)) × (out ≡ rest)
  front_none out h e = none_by (leb (entry_size (length v)) (length rest)) out (entry_bytes k v ++ drop (entry_size (length v)) rest) (entry_size (length v)) (h ∙ front_answer) (e ∙ front_after)

  some_by : (b : Bool) (out xs : List ℕ) (m n : ℕ) → Some m ≡ cond b (Some n) None → out ≡ cond b xs rest → (true ≡ b) × (m ≡ n) × (out ≡ xs)
  some_by true out xs m n h e = (refl, cc, e)
  some_by false out xs m n h e = absurd cc

  written : (out : List ℕ) (m : ℕ) → Some m ≡ entry_front k v rest → out ≡ with_entry k v rest → (true ≡ leb (entry_size (length v)) (length rest)) × (m ≡ entry_size (length v)) × (out ≡ entry_bytes k v ++ drop (entry_size (length v)) rest)
  written out m h e = some_by (leb (entry_size (length v)) (length rest)) out (entry_bytes k v ++ drop (entry_size (length v)) rest) m (entry_size (length v)) (h ∙ front_answer) (e ∙ front_after)

  stop : (tail : List ℕ) (m : ℕ) → m ≡ entry_size (length v) → m < length (entry_bytes k v ++ tail) → set (entry_bytes k v ++ tail) m 0 ≡ entry_bytes k v ++ stopped tail
  stop [] m em lt =
      let l = length-append (entry_bytes k v) [] in
      let s = EntriesTrip.sizes k v in
      absurd (omega arith)
  stop (b ∷ tail) m em lt = set_at (entry_bytes k v) b tail 0 m (EntriesTrip.sizes k v ∙ sym em)

  stop_none : (tail : List ℕ) (m : ℕ) → m ≡ entry_size (length v) → length (entry_bytes k v ++ tail) ≤ m → entry_bytes k v ++ tail ≡ entry_bytes k v ++ stopped tail
  stop_none [] m em le = refl
  stop_none (b ∷ tail) m em le =
      let l = length-append (entry_bytes k v) (b ∷ tail) in
      let s = EntriesTrip.sizes k v in
      absurd (omega arith)

  -- with a byte left behind it, which becomes zero
  pub front_stopped : (out : List ℕ) (m : ℕ) → Some m ≡ entry_front k v rest → out ≡ with_entry k v rest → m < length out → (true ≡ leb (entry_size (length v)) (length rest)) × (set out m 0 ≡ with_entry_first k v rest)
  front_stopped out m h e lt =
      let w = written out m h e in
      let At : List ℕ → Type 0 = λ xs. m < length xs in
      (w.0, ap (λ xs. set xs m 0) w.2 ∙ stop (drop (entry_size (length v)) rest) m w.1 (subst At w.2 lt))

  -- with none left
  pub front_full : (out : List ℕ) (m : ℕ) → Some m ≡ entry_front k v rest → out ≡ with_entry k v rest → length out ≤ m → (true ≡ leb (entry_size (length v)) (length rest)) × (out ≡ with_entry_first k v rest)
  front_full out m h e le =
      let w = written out m h e in
      let At : List ℕ → Type 0 = λ xs. length xs ≤ m in
      (w.0, w.2 ∙ stop_none (drop (entry_size (length v)) rest) m w.1 (subst At w.2 le))

-- the bytes from the end of the entries on, as a part that is lent
pub part_rest : (bs : List ℕ) (end : ℕ) → end ≡ log_end bs → (take (length bs - end) (drop end bs) ≡ log_rest bs) × (end ≤ length bs)
part_rest bs end e =
    let w = rest_within bs in
    let l = length-take-le (log_end bs) bs (omega arith) in
    let d : drop (log_end bs) bs ≡ log_rest bs = ap (drop (log_end bs)) w.1 ∙ drop_at (take (log_end bs) bs) (log_rest bs) (log_end bs) l in
    (take_rest bs end ∙ (ap (λ n. drop n bs) e ∙ d), omega arith)

joined_by : (b : Bool) (k : Key) (v bs out : List ℕ) → out ≡ cond b (with_entry_first k v (log_rest bs)) (log_rest bs) → take (log_end bs) bs ++ out ≡ cond b (appended k v bs) bs
joined_by true k v bs out e = ap (λ xs. take (log_end bs) bs ++ xs) e
joined_by false k v bs out e = ap (λ xs. take (log_end bs) bs ++ xs) e ∙ sym (rest_within bs).1

-- what was done to that part, done to the whole
pub part_put : (k : Key) (v bs part out : List ℕ) (end : ℕ) (r : Bool) → end ≡ log_end bs → part ≡ log_rest bs → r ≡ leb (entry_size (length v)) (length part) → out ≡ cond r (with_entry_first k v part) part → (r ≡ has_room v bs) × (put_mid end (length bs - end) bs out ≡ cond r (appended k v bs) bs)
part_put k v bs part out end r e ep er eo =
    let p = part_rest bs end e in
    let d = length-drop end bs in
    let none : drop (length bs - end) (drop end bs) ≡ [] = drop_all (length bs - end) (drop end bs) (omega arith) in
    let o : out ≡ cond r (with_entry_first k v (log_rest bs)) (log_rest bs) = eo ∙ ap (λ xs. cond r (with_entry_first k v xs) xs) ep in (
      er ∙ ap (λ xs. leb (entry_size (length v)) (length xs)) ep,
      ap (λ xs. take end bs ++ (out ++ xs)) none ∙ (ap (λ xs. take end bs ++ xs) (append-nil out) ∙ (ap (λ n. take n bs ++ out) e ∙ joined_by r k v bs out o)),
    )
