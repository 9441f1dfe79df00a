use Rattle.std.proofs.Common.{◌≡◌, ℕ, zero, suc, ◌+◌, ◌-◌, ◌*◌, ◌<◌, ◌≤◌, Bool, true, false, cond, ◌&&◌, eqb, leb, List, [], ◌∷◌, ◌++◌, length, get_or, take, drop, replicate, Some, None, sym, refl, ap, ◌∙◌, inl, inr, arith}
use Rattle.std.proofs.lemmas.List.{append_assoc, append-nil, length-append, length-take, length-take-le, length-drop, length-replicate, take_at, drop_at, take-append-le, take-append-drop, drop_all, drop-drop, drop-take, take-take, drop-append-le, nil_from_length, take_all, ext_get_or, get_or-take, get_or-drop, get_or_past, get_or_append_left, get_or-append_right, get_or-replicate}
use Rattle.std.proofs.lemmas.Bool.{and_from, and_parts, eqb-true, leb-true, cases_lt}
use Rattle.std.proofs.lemmas.Option.{none-some, cond_some}
use Rattle.records.specs.declared.kind.Kind.TheVariants.{LogBlock}
use Rattle.records.specs.Records.{Split, record_bytes, begins_record, split_record}
use Rattle.records.proofs.Fronts.{begins_yes}
use Rattle.lists.specs.Each.{all_zero, zeros_to}
use Rattle.lists.proofs.Tests.{zeros_zero, zeros_only}
use Rattle.entries.specs.Blocks.{block_count, padded, blocks, whole_blocks, split_blocks, joined_bodies, bodies, place}

get_or-zeros : (n i : ℕ) → ◌≡◌ {A = ℕ} (get_or (replicate n 0) i 0) 0
get_or-zeros n i =
    elim (cases_lt i n) [
      | inl lt ↦ get_or-replicate n i 0 0 lt
      | inr ge ↦ get_or_past (replicate n 0) i 0 (simp length-replicate ge)
    ]

-- zeros that are not there read as those that are
pub get_or-zeros_to : (n : ℕ) (bs : List ℕ) (i : ℕ) → get_or (zeros_to n bs) i 0 ≡ get_or bs i 0
get_or-zeros_to n bs i =
    elim (cases_lt i (length bs)) [
      | inl lt ↦ get_or_append_left bs (replicate (n - length bs) 0) 0 i lt
      | inr ge ↦ get_or-append_right bs (replicate (n - length bs) 0) (length bs) i 0 refl ge ∙ (get_or-zeros (n - length bs) (i - length bs) ∙ sym (get_or_past bs i 0 ge))
    ]

pub length-padded : (v : List ℕ) → length (padded v) ≡ block_count (length v) * 32
length-padded v =
    let n = block_count (length v) * 32 in
    let a = length-append v (replicate (n - length v) 0) in
    let r = length-replicate {A = ℕ} (n - length v) 0 in
    omega arith

pub length-bodies : (n : ℕ) (bs : List ℕ) → n * 33 ≤ length bs → length (joined_bodies n bs) ≡ n * 32
length-bodies zero bs h = refl
length-bodies (suc n) bs h =
    let d = length-drop 1 bs in
    let e = length-drop 33 bs in
    let t = length-take-le 32 (drop 1 bs) (omega arith) in
    let r = length-bodies n (drop 33 bs) (omega arith) in
    let a = length-append (take 32 (drop 1 bs)) (joined_bodies n (drop 33 bs)) in
    omega arith

-- the byte i of the joined bodies stands at its place in the records
pub get_or-bodies : (n : ℕ) (bs : List ℕ) (i : ℕ) → n * 33 ≤ length bs → i < n * 32 → get_or (joined_bodies n bs) i 0 ≡ get_or bs (place i) 0
get_or-bodies zero bs i long h = absurd (omega arith)
get_or-bodies (suc n) bs i long h =
    let first = take 32 (drop 1 bs) in
    let more = joined_bodies n (drop 33 bs) in
    let d = length-drop 1 bs in
    let e = length-drop 33 bs in
    let t : length first ≡ 32 = length-take-le 32 (drop 1 bs) (omega arith) in
    elim (cases_lt i 32) [
      | inl low ↦ (
          let p : 1 + i ≡ place i = omega arith in
          get_or_append_left first more 0 i (omega arith) ∙ (get_or-take 32 (drop 1 bs) i 0 low ∙ (get_or-drop 1 bs i 0 ∙ ap (λ k. get_or bs k 0) p))
          )
      | inr high ↦ (
          let p : 33 + place (i - 32) ≡ place i = omega arith in
          get_or-append_right first more 32 i 0 t high
          ∙ (get_or-bodies n (drop 33 bs) (i - 32) (omega arith) (omega arith) ∙ (get_or-drop 33 bs (place (i - 32)) 0 ∙ ap (λ k. get_or bs k 0) p))
          )
    ]

-- one block record more
pub blocks_more : (i : ℕ) (bs : List ℕ) → blocks (i + 1) bs ≡ blocks i bs ++ record_bytes LogBlock (take 32 (drop (i * 32) bs))
blocks_more zero bs = append-nil (record_bytes LogBlock (take 32 bs))
blocks_more (suc i) bs =
    let first = record_bytes LogBlock (take 32 bs) in
    let r = blocks_more i (drop 32 bs) in
    let n : 32 + i * 32 ≡ suc i * 32 = omega arith in
    let e : drop (i * 32) (drop 32 bs) ≡ drop (suc i * 32) bs = drop-drop (i * 32) 32 bs ∙ ap (λ k. drop k bs) n in
    let s : suc i + 1 ≡ suc (i + 1) = omega arith in
    let last = ap (λ xs. record_bytes LogBlock (take 32 xs)) e in
    ap (λ k. blocks k bs) s ∙ (ap (λ xs. first ++ xs) (r ∙ ap (λ xs. blocks i (drop 32 bs) ++ xs) last)
    ∙ sym (append_assoc first (blocks i (drop 32 bs)) (record_bytes LogBlock (take 32 (drop (suc i * 32) bs)))))

pub length-blocks : (n : ℕ) (bs : List ℕ) → n * 32 ≤ length bs → length (blocks n bs) ≡ n * 33
length-blocks zero bs h = refl
length-blocks (suc n) bs h =
    let d = length-drop 32 bs in
    let t = length-take-le 32 bs (omega arith) in
    let r = length-blocks n (drop 32 bs) (omega arith) in
    let a = length-append (take 32 bs) (blocks n (drop 32 bs)) in
    omega arith

-- a test that lets nothing through fails
pub cond_none : {A : Type 0} (b : Bool) (x : A) → cond b (Some x) None ≡ None → b ≡ false
cond_none true x h = absurd (none-some x (sym h))
cond_none false x h = refl

-- whole block records take their bytes
pub whole_long : (n : ℕ) (bs : List ℕ) → whole_blocks n bs ≡ true → n * 33 ≤ length bs
whole_long zero bs t = omega arith
whole_long (suc n) [] t = let z : ◌≡◌ {A = ℕ} 0 1 = cc in absurd (omega arith)
whole_long (suc n) (b ∷ bs) t =
    let p = and_parts (begins_record LogBlock (b ∷ bs)) (whole_blocks n (drop 32 bs)) t in
    let q = and_parts (eqb b 6) (leb 32 (length bs)) p.0 in
    let l = leb-true 32 (length bs) q.1 in
    let d = length-drop 32 bs in
    let r = whole_long n (drop 32 bs) p.1 in
    omega arith

-- block records read back, whatever lies behind
pub whole_back : (n : ℕ) (bs rest : List ℕ) → length bs ≡ n * 32 → whole_blocks n (blocks n bs ++ rest) ≡ true
whole_back zero bs rest l = refl
whole_back (suc n) bs rest l =
    let more = blocks n (drop 32 bs) in
    let a = append_assoc (take 32 bs) more rest in
    let t = length-take-le 32 bs (omega arith) in
    let d = length-drop 32 bs in
    let la = length-append (take 32 bs ++ more) rest in
    let lb = length-append (take 32 bs) more in
    let e : drop 32 ((take 32 bs ++ more) ++ rest) ≡ more ++ rest = ap (drop 32) a ∙ drop_at (take 32 bs) (more ++ rest) 32 t in
    and_from (begins_record LogBlock (blocks (suc n) bs ++ rest)) (whole_blocks n (drop 32 ((take 32 bs ++ more) ++ rest)))
    (begins_yes LogBlock (blocks (suc n) bs ++ rest) (omega arith) refl (omega arith))
    (ap (whole_blocks n) e ∙ whole_back n (drop 32 bs) rest (omega arith))

pub bodies_back : (n : ℕ) (bs rest : List ℕ) → length bs ≡ n * 32 → joined_bodies n (blocks n bs ++ rest) ≡ bs
bodies_back zero bs rest l = sym (nil_from_length bs (omega arith))
bodies_back (suc n) bs rest l =
    let more = blocks n (drop 32 bs) in
    let whole = (take 32 bs ++ more) ++ rest in
    let a = append_assoc (take 32 bs) more rest in
    let t = length-take-le 32 bs (omega arith) in
    let d = length-drop 32 bs in
    let f : take 32 whole ≡ take 32 bs = ap (take 32) a ∙ take_at (take 32 bs) (more ++ rest) 32 t in
    let e : drop 32 whole ≡ more ++ rest = ap (drop 32) a ∙ drop_at (take 32 bs) (more ++ rest) 32 t in
    let r = ap (joined_bodies n) e ∙ bodies_back n (drop 32 bs) rest (omega arith) in
    ap (λ xs. xs ++ joined_bodies n (drop 32 whole)) f ∙ (ap (λ xs. take 32 bs ++ xs) r ∙ take-append-drop 32 bs)

-- whole block records are those of their bodies
blocks_only : (n : ℕ) (bs : List ℕ) → whole_blocks n bs ≡ true → bs ≡ blocks n (joined_bodies n bs) ++ drop (n * 33) bs
blocks_only zero bs t = refl
blocks_only (suc n) [] t = let z : ◌≡◌ {A = ℕ} 0 1 = cc in absurd (omega arith)
blocks_only (suc n) (b ∷ bs) t =
    let p = and_parts (begins_record LogBlock (b ∷ bs)) (whole_blocks n (drop 32 bs)) t in
    let q = and_parts (eqb b 6) (leb 32 (length bs)) p.0 in
    let six = eqb-true b 6 q.0 in
    let l = length-take-le 32 bs (leb-true 32 (length bs) q.1) in
    let r = blocks_only n (drop 32 bs) p.1 in
    let more = joined_bodies n (drop 32 bs) in
    let f = take_at (take 32 bs) more 32 l in
    let e = drop_at (take 32 bs) more 32 l in
    let k : suc n * 33 ≡ suc (32 + n * 33) = omega arith in
    let g : drop (n * 33) (drop 32 bs) ≡ drop (suc n * 33) (b ∷ bs) = drop-drop (n * 33) 32 bs ∙ sym (ap (λ j. drop j (b ∷ bs)) k) in
    let tail = drop (suc n * 33) (b ∷ bs) in
    let h : bs ≡ (take 32 bs ++ blocks n more) ++ tail =
    sym (take-append-drop 32 bs) ∙ (ap (λ xs. take 32 bs ++ xs) (r ∙ ap (λ xs. blocks n more ++ xs) g) ∙ sym (append_assoc (take 32 bs) (blocks n more) tail)) in
    let j : (take 32 bs ++ blocks n more) ≡ take 32 (take 32 bs ++ more) ++ blocks n (drop 32 (take 32 bs ++ more)) =
    ap (λ xs. xs ++ blocks n more) (sym f) ∙ ap (λ xs. take 32 (take 32 bs ++ more) ++ blocks n xs) (sym e) in
    ap (λ x. x ∷ bs) six ∙ ap (λ xs. 6 ∷ xs) (h ∙ ap (λ xs. xs ++ tail) j)

pub split_blocks_back : (n : ℕ) (bs rest : List ℕ) → length bs ≡ n * 32 → bodies n (blocks n bs ++ rest) ≡ Some (record { part = bs; rest = rest })
split_blocks_back n bs rest l =
    let t = whole_back n bs rest l in
    let p = bodies_back n bs rest l in
    let d : drop (n * 33) (blocks n bs ++ rest) ≡ rest = drop_at (blocks n bs) rest (n * 33) (length-blocks n bs (omega arith)) in
    rw (t, p, d)

pub split_blocks_only : (n : ℕ) (bs : List ℕ) (s : Split (List ℕ)) → bodies n bs ≡ Some s → (bs ≡ blocks n s.part ++ s.rest) × (length s.part ≡ n * 32)
split_blocks_only n bs s h =
    let w = cond_some (whole_blocks n bs) (record { part = joined_bodies n bs; rest = drop (n * 33) bs }) s h in
    let l = length-bodies n bs (whole_long n bs w.0) in
    let p : joined_bodies n bs ≡ s.part = ap (λ (x : Split (List ℕ)). x.part) w.1 in
    let r : drop (n * 33) bs ≡ s.rest = ap (λ (x : Split (List ℕ)). x.rest) w.1 in
    (blocks_only n bs w.0 ∙ (ap (λ xs. blocks n xs ++ drop (n * 33) bs) p ∙ ap (λ xs. blocks n s.part ++ xs) r), ap length (sym p) ∙ l)

-- a value padded, taken apart again
pub take-padded : (v : List ℕ) → take (length v) (padded v) ≡ v
take-padded v = take_at v _ (length v) refl

pub drop-padded : (v : List ℕ) → all_zero (drop (length v) (padded v)) ≡ true
drop-padded v =
    let n = block_count (length v) * 32 - length v in
    ap all_zero (drop_at v (replicate n 0) (length v) refl) ∙ zeros_zero n

-- whole blocks with nothing but zeros behind a value are the value padded
pub padded_only : (n : ℕ) (bs : List ℕ) → length bs ≡ block_count n * 32 → all_zero (drop n bs) ≡ true → (padded (take n bs) ≡ bs) × (length (take n bs) ≡ n)
padded_only n bs l z =
    let lt : length (take n bs) ≡ n = length-take-le n bs (omega arith) in
    let ld = length-drop n bs in
    let m : block_count (length (take n bs)) * 32 - length (take n bs) ≡ length (drop n bs) = omega arith in
    let e = zeros_only (drop n bs) z in
    (ap (λ k. take n bs ++ replicate k 0) m ∙ (ap (λ xs. take n bs ++ xs) (sym e) ∙ take-append-drop n bs), lt)

-- where no block record can be split off, one is missing
pub whole_none : (n m : ℕ) (bs : List ℕ) → m ≡ suc n → None ≡ split_record LogBlock bs → whole_blocks m bs ≡ false
whole_none n m bs e h =
    ap (λ k. whole_blocks k bs) e ∙ ap (λ b. b && whole_blocks n (drop 33 bs)) (cond_none (begins_record LogBlock bs) _ (sym h))

-- where one is split off, those behind it are left
pub whole_some : (n m : ℕ) (bs : List ℕ) (s : Split (List ℕ)) → m ≡ suc n → Some s ≡ split_record LogBlock bs → (whole_blocks m bs ≡ whole_blocks n s.rest) × (s.rest ≡ drop 33 bs)
whole_some n m bs s e h =
    let w = cond_some (begins_record LogBlock bs) (record { part = take 32 (drop 1 bs); rest = drop 33 bs }) s (sym h) in
    let r : drop 33 bs ≡ s.rest = ap (λ (x : Split (List ℕ)). x.rest) w.1 in
    (ap (λ k. whole_blocks k bs) e ∙ (ap (λ b. b && whole_blocks n (drop 33 bs)) w.0 ∙ ap (whole_blocks n) r), sym r)

-- all bytes are filled in
pub fill_done : (v xs : List ℕ) → length v ≤ length xs → ((k : ℕ) → k < length xs → get_or xs k 0 ≡ get_or v k 0) → xs ≡ zeros_to (length xs) v
fill_done v xs h inv =
    let a = length-append v (replicate (length xs - length v) 0) in
    let r = length-replicate {A = ℕ} (length xs - length v) 0 in
    ext_get_or 0 xs (zeros_to (length xs) v) (omega arith) (λ k lt. inv k lt ∙ sym (get_or-zeros_to (length xs) v k))

-- a piece of a value, filled up with zeros, is a block of the value padded
pub piece : (v : List ℕ) (i : ℕ) → i * 32 < length v → zeros_to 32 (take 32 (drop (i * 32) v)) ≡ take 32 (drop (i * 32) (padded v))
piece v i h =
    let z = block_count (length v) * 32 - length v in
    let zs : List ℕ = replicate z 0 in
    let ds = drop (i * 32) v in
    let l = length-drop (i * 32) v in
    let lz = length-replicate {A = ℕ} z 0 in
    let la = length-append ds zs in
    let lt = length-take 32 ds in
    let d : drop (i * 32) (padded v) ≡ ds ++ zs = drop-append-le (i * 32) v zs (omega arith) in
    elim (cases_lt (length ds) 32) [
      | inl short ↦ (
          let n : 32 - length (take 32 ds) ≡ z = omega arith in
          let t : take 32 (ds ++ zs) ≡ ds ++ zs = take_all 32 (ds ++ zs) (omega arith) in
          ap (λ k. take 32 ds ++ replicate k 0) n ∙ (ap (λ xs. xs ++ zs) (take_all 32 ds (omega arith)) ∙ sym (ap (take 32) d ∙ t))
          )
      | inr long ↦ (
          let n : 32 - length (take 32 ds) ≡ 0 = omega arith in
          ap (λ k. take 32 ds ++ replicate k 0) n ∙ (append-nil (take 32 ds) ∙ sym (ap (take 32) d ∙ take-append-le 32 ds zs long))
          )
    ]

-- the end of the last body is the end of its record
end_of_last : (n k : ℕ) (bs : List ℕ) → length bs ≡ suc n * 33 → drop (n * 32 + k) (joined_bodies (suc n) bs) ≡ drop (n * 33 + 1 + k) bs
end_of_last zero k bs l =
    let d = length-drop 1 bs in
    let t : take 32 (drop 1 bs) ++ [] ≡ drop 1 bs = append-nil (take 32 (drop 1 bs)) ∙ take_all 32 (drop 1 bs) (omega arith) in
    ap (drop (0 * 32 + k)) t ∙ drop-drop (0 * 32 + k) 1 bs ∙ ap (λ j. drop j bs) (omega arith)
end_of_last (suc n) k bs l =
    let first = take 32 (drop 1 bs) in
    let more = joined_bodies (suc n) (drop 33 bs) in
    let d = length-drop 1 bs in
    let e = length-drop 33 bs in
    let t : length first ≡ 32 = length-take-le 32 (drop 1 bs) (omega arith) in
    let m : suc n * 32 + k ≡ 32 + (n * 32 + k) = omega arith in
    let j : 33 + (n * 33 + 1 + k) ≡ suc n * 33 + 1 + k = omega arith in
    ap (λ i. drop i (first ++ more)) m ∙ (sym (drop-drop (n * 32 + k) 32 (first ++ more)) ∙ (ap (drop (n * 32 + k)) (drop_at first more 32 t)
    ∙ (end_of_last n k (drop 33 bs) (omega arith) ∙ (drop-drop (n * 33 + 1 + k) 33 bs ∙ ap (λ i. drop i bs) j))))

-- what lies behind a value in its bodies is the end of their records
pub padding_last : (c n : ℕ) (bs : List ℕ) → c ≡ block_count n → length bs ≡ c * 33 → drop n (joined_bodies c bs) ≡ drop (length bs - (c * 32 - n)) bs
padding_last zero n bs e l = drop_all n [] (omega arith) ∙ sym (drop_all (length bs - (0 * 32 - n)) bs (omega arith))
padding_last (suc c) n bs e l =
    let k = n - c * 32 in
    let m : n ≡ c * 32 + k = omega arith in
    let j : c * 33 + 1 + k ≡ length bs - (suc c * 32 - n) = omega arith in
    ap (λ i. drop i (joined_bodies (suc c) bs)) m ∙ (end_of_last c k bs l ∙ ap (λ i. drop i bs) j)

-- the bodies of so many blocks lie in the bytes of so many blocks
bodies_front : (n : ℕ) (bs : List ℕ) → joined_bodies n (take (n * 33) bs) ≡ joined_bodies n bs
bodies_front zero bs = refl
bodies_front (suc n) bs =
    let m : suc n * 33 ≡ 1 + (32 + n * 33) = omega arith in
    let k : suc n * 33 ≡ 33 + n * 33 = omega arith in
    let f = ap (λ j. drop 1 (take j bs)) m ∙ drop-take 1 (32 + n * 33) bs in
    let t : take 32 (drop 1 (take (suc n * 33) bs)) ≡ take 32 (drop 1 bs) = ap (take 32) f ∙ take-take 32 (32 + n * 33) (drop 1 bs) (omega arith) in
    let d : drop 33 (take (suc n * 33) bs) ≡ take (n * 33) (drop 33 bs) = ap (λ j. drop 33 (take j bs)) k ∙ drop-take 33 (n * 33) bs in
    ap (λ xs. xs ++ joined_bodies n (drop 33 (take (suc n * 33) bs))) t
    ∙ ap (λ xs. take 32 (drop 1 bs) ++ xs) (ap (joined_bodies n) d ∙ bodies_front n (drop 33 bs))

-- block records that are split off hold the bodies, and fill their bytes
pub split_some : (n : ℕ) (bs : List ℕ) (s : Split (List ℕ)) → Some s ≡ split_blocks n bs → (bodies n bs ≡ Some (record { part = joined_bodies n s.part; rest = s.rest })) × (length s.part ≡ n * 33)
split_some n bs s h =
    let w = cond_some (whole_blocks n bs) (record { part = take (n * 33) bs; rest = drop (n * 33) bs }) s (sym h) in
    let p : take (n * 33) bs ≡ s.part = ap (λ (x : Split (List ℕ)). x.part) w.1 in
    let r : drop (n * 33) bs ≡ s.rest = ap (λ (x : Split (List ℕ)). x.rest) w.1 in
    let j : joined_bodies n bs ≡ joined_bodies n s.part = sym (bodies_front n bs) ∙ ap (joined_bodies n) p in
    (rw (w.0, j, r) refl, ap length (sym p) ∙ length-take-le (n * 33) bs (whole_long n bs w.0))
