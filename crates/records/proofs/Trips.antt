use Rattle.std.proofs.Common.{◌≡◌, ℕ, Bool, true, false, cond, eqb, List, [], ◌∷◌, ◌++◌, length, Some, None, Option, sym, refl, ap, ◌∙◌, subst, arith}
use Rattle.std.specs.Int.Digits.{AllBelowBase}
use Rattle.std.proofs.lemmas.List.{append-nil, nil_from_length}
use Rattle.std.proofs.lemmas.Bool.{eqb-true}
use Rattle.keys.specs.Keys.{key_bytes, read_key}
use Rattle.keys.specs.declared.key.Key.{Key}
use Rattle.keys.proofs.Trips as KeysTrip
use Rattle.records.specs.declared.kind.Kind.{Kind}
use Rattle.records.specs.declared.kind.Kind.TheVariants.{Result}
use Rattle.records.specs.Records.{Split, record_bytes, split_record, and_then, alone}
use Rattle.records.specs.Results.{result_bytes, read_result}
use Rattle.records.proofs.Fronts.{split_back, split_only}

-- the parts of bytes that are bytes are bytes
pub under_right : (xs ys : List ℕ) → AllBelowBase 256 (xs ++ ys) → AllBelowBase 256 ys
under_right [] ys u = u
under_right (x ∷ xs) ys u = under_right xs ys u.1

pub under_left : (xs ys : List ℕ) → AllBelowBase 256 (xs ++ ys) → AllBelowBase 256 xs
under_left [] ys u = tt
under_left (x ∷ xs) ys u = (u.0, under_left xs ys u.1)

-- an answer that is there came from an answer that was there
pub then_some : {X Y : Type 0} (o : Option X) (f : X → Option Y) (y : Y) → and_then o f ≡ Some y → (x : X) × (o ≡ Some x) × (f x ≡ Some y)
then_some None f y h = let z : ◌≡◌ {A = ℕ} 0 1 = cc in absurd (omega arith)
then_some (Some x) f y h = (x, refl, h)

alone_from : {X : Type 0} (s : Split X) (x : X) (b : Bool) → b ≡ eqb (length s.rest) 0 → cond b (Some s.part) None ≡ Some x → (s.rest ≡ []) × (s.part ≡ x)
alone_from s x true t h = (nil_from_length s.rest (eqb-true (length s.rest) 0 (sym t)), cc)
alone_from s x false t h = let z : ◌≡◌ {A = ℕ} 0 1 = cc in absurd (omega arith)

-- a part that stands alone has nothing behind it
pub alone_some : {X : Type 0} (s : Split X) (x : X) → alone s ≡ Some x → (s.rest ≡ []) × (s.part ≡ x)
alone_some s x h = alone_from s x (eqb (length s.rest) 0) refl h

-- bytes that are one record and nothing else
pub alone_only : (kind : Kind) (bs body : List ℕ) → and_then (split_record kind bs) alone ≡ Some body → bs ≡ record_bytes kind body
alone_only kind bs body h =
    let s = then_some (split_record kind bs) alone body h in
    let o = split_only kind bs s.0 s.1 in
    let a = alone_some s.0 body s.2 in
    o.0 ∙ (ap (λ xs. record_bytes kind s.0.part ++ xs) a.0 ∙ (append-nil (record_bytes kind s.0.part) ∙ ap (record_bytes kind) a.1))

pub back : (k : Key) → read_result (result_bytes k) ≡ Some k
back k =
    let e : split_record Result (result_bytes k) ≡ Some (record { part = key_bytes k; rest = [] }) =
    ap (split_record Result) (sym (append-nil (result_bytes k))) ∙ split_back Result (key_bytes k) [] (KeysTrip.length-key_bytes k) in
    ap (λ o. and_then (and_then o alone) read_key) e ∙ KeysTrip.back k

pub only : (bs : List ℕ) (k : Key) → AllBelowBase 256 bs → read_result bs ≡ Some k → bs ≡ result_bytes k
only bs k u h =
    let p = then_some (and_then (split_record Result bs) alone) read_key k h in
    let e = alone_only Result bs p.0 p.1 in
    let Bytes : List ℕ → Type 0 = λ xs. AllBelowBase 256 xs in
    e ∙ ap (record_bytes Result) (KeysTrip.only p.0 k (subst Bytes e u).1 p.2)
