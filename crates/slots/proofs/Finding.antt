use Rattle.std.proofs.Common.{◌≡◌, ℕ, zero, suc, ◌+◌, ◌≤◌, Bool, false, cond, List, length, Some, None, refl, ap, ◌∙◌, arith, nat_lt}
use Rattle.std.specs.List.{find, range_with_len}
use Rattle.std.specs.Option.{option_map_or}
use Rattle.std.proofs.lemmas.Bool.{cond-true, lt-ltb}
use Rattle.keys.specs.declared.key.Key.{Key}
use Rattle.slots.specs.Table.{slot_count, slot, slot_at, slot_has, first_slot}

-- whether the slot of that number is there and has a pair of a key
abbrev pub has_at : Key → List ℕ → ℕ → Bool
has_at k bs i = option_map_or (slot_has k) (slot_at i bs) false

-- the first of some slots that has a pair of a key is the first that is found among their numbers
pub find_first : (k : Key) (bs : List ℕ) (n i : ℕ) → i + n ≤ slot_count (length bs) → find (has_at k bs) (range_with_len i n) ≡ first_slot k n i bs
find_first k bs zero i h = refl
find_first k bs (suc n) i h =
    let own : has_at k bs i ≡ slot_has k (slot i bs) = ap (λ o. option_map_or (slot_has k) o false) (cond-true (nat_lt i (slot_count (length bs))) (Some (slot i bs)) None (lt-ltb i (slot_count (length bs)) (omega arith))) in
    ap (λ b. cond b (Some i) (find (has_at k bs) (range_with_len (i + 1) n))) own ∙ ap (cond (slot_has k (slot i bs)) (Some i)) (find_first k bs n (i + 1) (omega arith))
