use Rattle.std.specs.Prelude.{◌≡◌, ℕ, ◌≤◌, List, [], ◌∷◌, ◌++◌, length, take, drop, Some, None, refl}
use Rattle.std.proofs.Common.{sym, subst, ◌∙◌, inl, inr, arith}
use Rattle.std.proofs.Math.Path.{ap}
use Rattle.std.specs.Int.Digits.{AllBelowBase}
use Rattle.std.proofs.lemmas.List.{append_assoc, length-append}
use Rattle.keys.specs.Digests.{value_room}
use Rattle.keys.specs.declared.key.Key.{Key}
use Rattle.records.specs.Records.{Split}
use Rattle.records.proofs.Trips.{under_right}
use Rattle.lists.specs.Among.{Among}
use Rattle.entries.specs.Blocks.{entry_size}
use Rattle.entries.specs.Entries.{Logged, entry_bytes, read_entry}
use Rattle.entries.proofs.Trips as EntriesTrip
use Rattle.entries.proofs.Own.{own_bytes}
use Rattle.log_store.specs.Scans.{Scanned}
use Rattle.log_store.specs.Contents.{log_entries, log_rest, log_end, stopped, with_entry_first, appended, entries_bytes, Short}
use Rattle.log_store.specs.ScansLemmas.{OwnBytes, scan_some, scan_none, scan_ends, scan_front, scan-within, over_scan}

-- entries take bytes of their own
own : OwnBytes read_entry
own bs s h =
    let o = own_bytes bs s h in
    let p = EntriesTrip.span bs s h in
    let l = ap length o.1 ∙ length-append o.0 s.rest in
    let n = p.1 in
    (o.0, omega arith, o.1, o.2)

-- a log begins with an entry, or has none
pub entries_some : (bs : List ℕ) (s : Split Logged) → read_entry bs ≡ Some s → (log_entries bs ≡ s.part ∷ log_entries s.rest) × (log_rest bs ≡ log_rest s.rest)
unfolding log_entries log_rest
entries_some bs s h =
    let e = scan_some read_entry own bs s h in
    (ap (λ (t : Scanned Logged). t.items) e, ap (λ (t : Scanned Logged). t.rest) e)

pub entries_none : (bs : List ℕ) → read_entry bs ≡ None → (log_entries bs ≡ []) × (log_rest bs ≡ bs)
unfolding log_entries log_rest
entries_none bs h =
    let e = scan_none read_entry own bs h in
    (ap (λ (t : Scanned Logged). t.items) e, ap (λ (t : Scanned Logged). t.rest) e)

-- the entries lie in front of the rest
pub rest_within : (bs : List ℕ) → (length (log_rest bs) ≤ length bs) × (bs ≡ take (log_end bs) bs ++ log_rest bs)
unfolding log_rest
rest_within bs = scan-within read_entry own bs

-- where no entry begins, none is read, whatever was there before
pub stopped_none : (bs : List ℕ) → read_entry (stopped bs) ≡ None
stopped_none [] = refl
stopped_none (b ∷ bs) = refl

module _ (k : Key) (v : List ℕ) (short : length v ≤ value_room) where
  -- an entry with a stop behind it reads as one entry
  one_entry : (rest : List ℕ) → log_entries (with_entry_first k v rest) ≡ record { key = k; value = v } ∷ []
  one_entry rest =
      let tail = stopped (drop (entry_size (length v)) rest) in
      let s = entries_some (entry_bytes k v ++ tail) (record { part = record { key = k; value = v }; rest = tail }) (EntriesTrip.back k v tail short) in
      let logged : Logged = record { key = k; value = v } in
      s.0 ∙ ap (λ es. logged ∷ es) (entries_none tail (stopped_none (drop (entry_size (length v)) rest))).0

  -- an appended entry is the last entry
  pub appended_entries : (bs : List ℕ) → log_entries (appended k v bs) ≡ log_entries bs ++ record { key = k; value = v } ∷ []
  unfolding log_entries log_rest
  appended_entries bs =
      let f = scan_front read_entry own bs (with_entry_first k v (log_rest bs)) in
      ap (λ (t : Scanned Logged). t.items) f ∙ ap (λ es. log_entries bs ++ es) (one_entry (log_rest bs))

-- the values of the entries that are read have room
pub entries_short : (bs : List ℕ) → Short (log_entries bs)
entries_short =
    over_scan read_entry own (λ bs. Short (log_entries bs))
    (λ bs h e m. let At : List Logged → Type 0 = λ es. Among e es in absurd (subst At (entries_none bs h).0 m))
    (λ bs s h rest e m.
    let At : List Logged → Type 0 = λ es. Among e es in
    let p = EntriesTrip.span bs s h in
    elim (subst At (entries_some bs s h).0 m) [
      | inl q ↦ (let l = ap (λ (x : Logged). length x.value) q in omega (arith, p.0))
      | inr n ↦ rest e n
    ])

-- entries written one after another read back
pub logs_back : (es : List Logged) (rest : List ℕ) → Short es → read_entry rest ≡ None → (log_entries (entries_bytes es ++ rest) ≡ es) × (log_rest (entries_bytes es ++ rest) ≡ rest)
logs_back [] rest short h = entries_none rest h
logs_back (e ∷ es) rest short h =
    let k = e.key in
    let v = e.value in
    let more = entries_bytes es in
    let a = append_assoc (entry_bytes k v) more rest in
    let s = entries_some (entry_bytes k v ++ (more ++ rest)) (record { part = e; rest = more ++ rest }) (EntriesTrip.back k v (more ++ rest) (short e (inl refl))) in
    let r = logs_back es rest (λ x m. short x (inr m)) h in
    (ap log_entries a ∙ (s.0 ∙ ap (λ xs. e ∷ xs) r.0), ap log_rest a ∙ (s.1 ∙ r.1))

-- bytes are the entries that they read as, and then bytes where no entry begins
pub logs_only : (bs : List ℕ) → AllBelowBase 256 bs → bs ≡ entries_bytes (log_entries bs) ++ log_rest bs
logs_only =
    over_scan read_entry own (λ bs. AllBelowBase 256 bs → bs ≡ entries_bytes (log_entries bs) ++ log_rest bs)
    (λ bs h u. let e = entries_none bs h in sym (ap (λ es. entries_bytes es ++ log_rest bs) e.0 ∙ e.1))
    (λ bs s h rest u.
    let e = entries_some bs s h in
    let o = EntriesTrip.only bs s u h in
    let first = entry_bytes s.part.key s.part.value in
    let Bytes : List ℕ → Type 0 = λ xs. AllBelowBase 256 xs in
    let r = rest (under_right first s.rest (subst Bytes o.0 u)) in
    let more = entries_bytes (log_entries s.rest) in
    o.0 ∙ (ap (λ xs. first ++ xs) r ∙ (sym (append_assoc first more (log_rest s.rest)) ∙ (ap (λ es. entries_bytes es ++ log_rest s.rest) (sym e.0) ∙ ap (λ xs. entries_bytes (log_entries bs) ++ xs) (sym e.1)))))

pub rest_ends : (bs : List ℕ) → read_entry (log_rest bs) ≡ None
unfolding log_rest
rest_ends bs = scan_ends read_entry own bs
