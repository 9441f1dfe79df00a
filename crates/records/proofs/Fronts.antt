use Rattle.std.proofs.Common.{◌≡◌, ℕ, suc, ◌+◌, ◌-◌, ◌<◌, ◌≤◌, Bool, true, false, cond, ◌&&◌, eqb, leb, List, [], ◌∷◌, ◌++◌, length, get_or, take, drop, Some, None, Option, sym, refl, ap, ◌∙◌, arith}
use lib.Seq.{paste}
use Rattle.std.proofs.lemmas.List.{take_at, drop_at, length-append, length-take-le, take_all, take-append-drop}
use Rattle.std.proofs.lemmas.Bool.{and_from, and_parts, eq-eqb, eqb-true, le-leb, leb-true}
use Rattle.records.specs.declared.kind.Kind.{Kind}
use Rattle.records.specs.Records.{Split, kind_number, body_length, record_size, record_bytes, begins_record, split_record, fits_at, record_fits}
use Rattle.records.specs.Results.{front_size, with_front}

-- where a whole record stands at the front, that is seen
pub begins_yes : (kind : Kind) (bs : List ℕ) → 0 < length bs → get_or bs 0 0 ≡ kind_number kind → body_length kind ≤ length bs - 1 → begins_record kind bs ≡ true
begins_yes kind [] some first long = absurd (omega arith)
begins_yes kind (b ∷ bs) some first long =
    and_from (eqb b (kind_number kind)) (leb (body_length kind) (length bs)) (eq-eqb b (kind_number kind) first) (le-leb (body_length kind) (length bs) (omega arith))

-- a record at the front reads as its body, with what lies behind
pub split_back : (kind : Kind) (body rest : List ℕ) → length body ≡ body_length kind → split_record kind (record_bytes kind body ++ rest) ≡ Some (record { part = body; rest = rest })
split_back kind body rest long =
    let l = length-append body rest in
    let t : begins_record kind (record_bytes kind body ++ rest) ≡ true =
    and_from (eqb (kind_number kind) (kind_number kind)) (leb (body_length kind) (length (body ++ rest))) (eq-eqb (kind_number kind) (kind_number kind) refl) (le-leb _ _ (omega arith)) in
    let p = take_at body rest (body_length kind) long in
    let n : record_size kind ≡ suc (body_length kind) = omega arith in
    let q : drop (record_size kind) (record_bytes kind body ++ rest) ≡ rest = ap (λ k. drop k (record_bytes kind body ++ rest)) n ∙ drop_at body rest (body_length kind) long in
    let made : List ℕ → List ℕ → Split (List ℕ) = λ x y. record { part = x; rest = y } in
    let whole : made (take (body_length kind) (body ++ rest)) (drop (record_size kind) (record_bytes kind body ++ rest)) ≡ made body rest =
    ap (λ x. made x (drop (record_size kind) (record_bytes kind body ++ rest))) p ∙ ap (made body) q in
    rw t (ap Some whole)

-- a record written at the front of a buffer
pub front_record : (kind : Kind) (body buffer out : List ℕ) (r : Option ℕ) → length body ≡ body_length kind → r ≡ cond (record_fits kind body 0 buffer) (Some (0 + record_size kind)) None → out ≡ cond (record_fits kind body 0 buffer) (paste buffer 0 (record_bytes kind body) (record_size kind)) buffer → (r ≡ front_size (record_bytes kind body) buffer) × (out ≡ with_front (record_bytes kind body) buffer)
front_record kind body buffer out r long er eo =
    let n : record_size kind ≡ length (record_bytes kind body) = omega arith in
    let m : 0 + record_size kind ≡ length (record_bytes kind body) = omega arith in
    let k : 0 + length (record_bytes kind body) ≡ length (record_bytes kind body) = omega arith in
    let e : record_fits kind body 0 buffer ≡ fits_at (length (record_bytes kind body)) 0 buffer =
    ap (λ b. b && fits_at (record_size kind) 0 buffer) (eq-eqb (length body) (body_length kind) long) ∙ ap (λ x. fits_at x 0 buffer) n in
    let s : take (record_size kind) (record_bytes kind body) ≡ record_bytes kind body = take_all _ (record_bytes kind body) (omega arith) in
    let d : drop (0 + record_size kind) buffer ≡ drop (length (record_bytes kind body)) buffer = ap (λ x. drop x buffer) m in
    let p : paste buffer 0 (record_bytes kind body) (record_size kind) ≡ record_bytes kind body ++ drop (length (record_bytes kind body)) buffer =
    ap (λ zs. zs ++ drop (0 + record_size kind) buffer) s ∙ ap (λ zs. record_bytes kind body ++ zs) d in (
      er ∙ (ap (λ b. cond b (Some (0 + record_size kind)) None) e ∙ ap (λ x. cond (fits_at (length (record_bytes kind body)) 0 buffer) (Some x) None) m),
      eo ∙ (ap (λ b. cond b (paste buffer 0 (record_bytes kind body) (record_size kind)) buffer) e ∙ ap (λ x. cond (fits_at (length (record_bytes kind body)) 0 buffer) x buffer) p),
    )

split_only_from : (kind : Kind) (b : ℕ) (bs : List ℕ) (s : Split (List ℕ)) (t : Bool) → t ≡ begins_record kind (b ∷ bs) → cond t (Some (record { part = take (body_length kind) bs; rest = drop (record_size kind) (b ∷ bs) })) None ≡ Some s → (b ∷ bs ≡ record_bytes kind s.part ++ s.rest) × (length s.part ≡ body_length kind)
split_only_from kind b bs s true t h =
    let n = body_length kind in
    let parts = and_parts (eqb b (kind_number kind)) (leb n (length bs)) (sym t) in
    let first = eqb-true b (kind_number kind) parts.0 in
    let long = leb-true n (length bs) parts.1 in
    let whole : ◌≡◌ {A = Split (List ℕ)} (record { part = take n bs; rest = drop (record_size kind) (b ∷ bs) }) s = cc in
    let p : take n bs ≡ s.part = ap (λ (x : Split (List ℕ)). x.part) whole in
    let r : drop (record_size kind) (b ∷ bs) ≡ s.rest = ap (λ (x : Split (List ℕ)). x.rest) whole in
    let m : record_size kind ≡ suc n = omega arith in
    let d : drop n bs ≡ s.rest = sym (ap (λ k. drop k (b ∷ bs)) m) ∙ r in (
      ap (λ x. x ∷ bs) first ∙ ap (λ xs. kind_number kind ∷ xs) (sym (take-append-drop n bs) ∙ (ap (λ xs. xs ++ drop n bs) p ∙ ap (λ xs. s.part ++ xs) d)),
      ap length (sym p) ∙ length-take-le n bs long,
    )
split_only_from kind b bs s false t h = let z : ◌≡◌ {A = ℕ} 0 1 = cc in absurd (omega arith)

-- bytes that split into a record and a rest are that record and that rest
pub split_only : (kind : Kind) (bs : List ℕ) (s : Split (List ℕ)) → split_record kind bs ≡ Some s → (bs ≡ record_bytes kind s.part ++ s.rest) × (length s.part ≡ body_length kind)
split_only kind [] s h = let z : ◌≡◌ {A = ℕ} 0 1 = cc in absurd (omega arith)
split_only kind (b ∷ bs) s h = split_only_from kind b bs s (begins_record kind (b ∷ bs)) refl h
