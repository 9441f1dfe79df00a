use Rattle.std.proofs.Common.{◌≡◌, ℕ, zero, suc, ◌-◌, ◌≤◌, true, false, cond, ◌&&◌, eqb, leb, List, [], ◌∷◌, ◌++◌, length, take, drop, replicate, Some, None, Option, sym, refl, ap, ◌∙◌, subst, arith}
use Rattle.std.specs.List.{flat_map, list_all, AllByRecursion as All}
use Rattle.std.specs.Option.{option_map}
use Rattle.std.specs.Int.Digits.{AllBelowBase}
use Rattle.std.proofs.lemmas.List.{append_assoc, length-append, length-drop, length-take-le, take_at, drop_at, take-append-drop, nil_from_length}
use Rattle.std.proofs.lemmas.Bool.{and_from, and_parts, and_left, le-leb, leb-true, ne_eqb}
use Rattle.std.proofs.lemmas.Option.{cond_some, none-some}
use Rattle.keys.specs.Keys.{key_bytes, read_key}
use Rattle.keys.specs.declared.key.Key.{Key}
use Rattle.keys.proofs.Trips as KeysTrip
use Rattle.records.specs.declared.kind.Kind.{Kind}
use Rattle.records.specs.declared.kind.Kind.TheVariants.{End, Operation, Argument, Input}
use Rattle.records.specs.Records.{Split, kind_number, body_length, record_size, record_bytes, begins_record, split_record, and_then, alone}
use Rattle.records.proofs.Fronts.{split_back, split_only}
use Rattle.records.proofs.Trips.{then_some, alone_only, alone_some, under_left, under_right}
use Rattle.lists.proofs.Tests.{zeros_zero, zeros_only}
use Rattle.actions.specs.Words.{is_letter, is_argument, argument_body, read_argument_body}
use Rattle.actions.specs.Actions.{Act, is_action, make_action, action_text, action_size, operation_record, argument_record, input_record, read_record, before, several, read_letter, read_argument, read_input, read_inputs, read_arguments, read_action, longest_text}
use Rattle.actions.proofs.Scans.{several_none, several_some}
use Rattle.actions.proofs.Sizes.{length-argument_body, length_text}
use Rattle.actions.proofs.Tests.{argument_parts}

-- an argument reads back from the body of its record, and the body is its own
body_back : (w : List ℕ) → is_argument w ≡ true → read_argument_body (argument_body w) ≡ Some w
body_back w t =
    let pad = replicate {A = ℕ} (16 - length w) 0 in
    let a = length-append w pad in
    let p = take_at w pad (length w) refl in
    let q = drop_at w pad (length w) refl in
    let test : (leb (length w) (length (w ++ pad)) && (is_argument (take (length w) (w ++ pad)) && list_all (eqb 0) (drop (length w) (w ++ pad)))) ≡ true =
    and_from (leb (length w) (length (w ++ pad))) _ (le-leb (length w) (length (w ++ pad)) (omega arith))
    (and_from _ _ (ap is_argument p ∙ t) (ap (list_all (eqb 0)) q ∙ zeros_zero (16 - length w))) in
    ap (λ b. cond b (Some (take (length w) (w ++ pad))) None) test ∙ ap Some p

body_only : (bs w : List ℕ) → length bs ≡ 17 → read_argument_body bs ≡ Some w → bs ≡ argument_body w
body_only [] w long h = absurd (omega arith)
body_only (n ∷ bs) w long h =
    let made = cond_some _ (take n bs) w h in
    let p = and_parts (leb n (length bs)) _ made.0 in
    let q = and_parts (is_argument (take n bs)) _ p.1 in
    let short = leb-true n (length bs) p.0 in
    let ln : length w ≡ n = ap length (sym made.1) ∙ length-take-le n bs short in
    let ld = length-drop n bs in
    let lz : length (drop n bs) ≡ 16 - length w = omega arith in
    let z : drop n bs ≡ replicate (16 - length w) 0 = zeros_only (drop n bs) q.1 ∙ ap (λ k. replicate k 0) lz in
    ap (λ k. k ∷ bs) (sym ln) ∙ ap (λ xs. length w ∷ xs) (sym (take-append-drop n bs) ∙ (ap (λ xs. xs ++ drop n bs) made.1 ∙ ap (λ xs. w ++ xs) z))

pub mapped_some : {X Y : Type 0} (f : X → Y) (o : Option X) (y : Y) → option_map f o ≡ Some y → (x : X) × (o ≡ Some x) × (f x ≡ y)
mapped_some f None y h = absurd (none-some y h)
mapped_some f (Some x) y h = (x, refl, cc)

-- what a record holds reads back, and bytes that read so begin with that record
record_back : {X : Type 0} (kind : Kind) (reader : List ℕ → Option X) (body rest : List ℕ) (x : X) → length body ≡ body_length kind → reader body ≡ Some x → read_record kind reader (record_bytes kind body ++ rest) ≡ Some (record { part = x; rest = rest })
record_back {X} kind reader body rest x long h =
    let made : Split (List ℕ) → Option (Split X) = λ s. option_map (λ y. record { part = y; rest = s.rest }) (reader s.part) in
    let with_rest : X → Split X = λ y. record { part = y; rest = rest } in
    ap (λ o. and_then o made) (split_back kind body rest long) ∙ ap (option_map with_rest) h

record_only : {X : Type 0} (kind : Kind) (reader : List ℕ → Option X) (bs : List ℕ) (s : Split X) → read_record kind reader bs ≡ Some s → (body : List ℕ) × (bs ≡ record_bytes kind body ++ s.rest) × (length body ≡ body_length kind) × (reader body ≡ Some s.part)
record_only {X} kind reader bs s h =
    let made : Split (List ℕ) → Option (Split X) = λ t. option_map (λ y. record { part = y; rest = t.rest }) (reader t.part) in
    let p = then_some (split_record kind bs) made s h in
    let q = mapped_some (λ y. record { part = y; rest = p.0.rest }) (reader p.0.part) s p.2 in
    let o = split_only kind bs p.0 p.1 in
    let er : p.0.rest ≡ s.rest = ap (λ (t : Split X). t.rest) q.2 in
    let ep : q.0 ≡ s.part = ap (λ (t : Split X). t.part) q.2 in
    (p.0.part, o.0 ∙ ap (λ xs. record_bytes kind p.0.part ++ xs) er, o.1, q.1 ∙ ap Some ep)

-- bytes of another kind are not read
other_kind : {X : Type 0} (kind : Kind) (reader : List ℕ → Option X) (b : ℕ) (bs : List ℕ) → (b ≡ kind_number kind → ⊥) → read_record kind reader (b ∷ bs) ≡ None
other_kind {X} kind reader b bs h =
    let made : Split (List ℕ) → Option (Split X) = λ s. option_map (λ y. record { part = y; rest = s.rest }) (reader s.part) in
    let f : begins_record kind (b ∷ bs) ≡ false = and_left _ _ (ne_eqb b (kind_number kind) h) in
    ap (λ t. and_then (cond t (Some (record { part = take (body_length kind) bs; rest = drop (record_size kind) (b ∷ bs) })) None) made) f

-- elements read back one after the other, up to where none is read
several_back : {X : Type 0} (item : List ℕ → Option (Split X)) (text : X → List ℕ) (n : ℕ) (xs : List X) (rest : List ℕ) → All (λ x. (r : List ℕ) → item (text x ++ r) ≡ Some (record { part = x; rest = r })) xs → length xs ≤ n → item rest ≡ None → several item n (flat_map text xs ++ rest) ≡ record { part = xs; rest = rest }
several_back item text n [] rest good few h = several_none item n rest h
several_back item text zero (x ∷ xs) rest good few h = absurd (omega arith)
several_back item text (suc n) (x ∷ xs) rest good few h =
    let a = append_assoc (text x) (flat_map text xs) rest in
    let e = ap item a ∙ good.0 (flat_map text xs ++ rest) in
    several_some item n ((text x ++ flat_map text xs) ++ rest) (record { part = x; rest = flat_map text xs ++ rest }) e
    ∙ ap (before x) (several_back item text n xs rest good.1 (omega arith) h)

-- what was read is what stands there
several_only : {X : Type 0} (item : List ℕ → Option (Split X)) (text : X → List ℕ) (n : ℕ) (bs : List ℕ) → ((cs : List ℕ) (s : Split X) → AllBelowBase 256 cs → item cs ≡ Some s → cs ≡ text s.part ++ s.rest) → AllBelowBase 256 bs → (o : Option (Split X)) → item bs ≡ o → bs ≡ flat_map text (several item n bs).part ++ (several item n bs).rest
several_only item text zero bs strict u o e = refl
several_only {X} item text (suc n) bs strict u None e =
    ap (λ (s : Split (List X)). flat_map text s.part ++ s.rest) (sym (several_none item (suc n) bs e))
several_only {X} item text (suc n) bs strict u (Some s) e =
    let f = strict bs s u e in
    let Bytes : List ℕ → Type 0 = λ xs. AllBelowBase 256 xs in
    let v = under_right (text s.part) s.rest (subst Bytes f u) in
    let r = several_only item text n s.rest strict v (item s.rest) refl in
    let t = several item n s.rest in
    f ∙ (ap (λ xs. text s.part ++ xs) r ∙ (sym (append_assoc (text s.part) (flat_map text t.part) t.rest) ∙ ap (λ (q : Split (List X)). flat_map text q.part ++ q.rest) (sym (several_some item n bs s e))))

-- arguments and inputs, one by one
argument_back : (w rest : List ℕ) → is_argument w ≡ true → read_argument (argument_record w ++ rest) ≡ Some (record { part = w; rest = rest })
argument_back w rest t =
    record_back Argument read_argument_body (argument_body w) rest w (length-argument_body w (argument_parts w t).1) (body_back w t)

arguments_back : (ws : List (List ℕ)) → list_all is_argument ws ≡ true → All (λ w. (r : List ℕ) → read_argument (argument_record w ++ r) ≡ Some (record { part = w; rest = r })) ws
arguments_back [] t = tt
arguments_back (w ∷ ws) t =
    let p = and_parts (is_argument w) (list_all is_argument ws) t in
    (λ r. argument_back w r p.0, arguments_back ws p.1)

inputs_back : (ks : List Key) → All (λ k. (r : List ℕ) → read_input (input_record k ++ r) ≡ Some (record { part = k; rest = r })) ks
inputs_back [] = tt
inputs_back (k ∷ ks) =
    (λ r. record_back Input read_key (key_bytes k) r k (KeysTrip.length-key_bytes k) (KeysTrip.back k), inputs_back ks)

argument_only : (bs : List ℕ) (s : Split (List ℕ)) → AllBelowBase 256 bs → read_argument bs ≡ Some s → bs ≡ argument_record s.part ++ s.rest
argument_only bs s u h =
    let p = record_only Argument read_argument_body bs s h in
    p.1 ∙ ap (λ xs. record_bytes Argument xs ++ s.rest) (body_only p.0 s.part p.2 p.3)

input_only : (bs : List ℕ) (s : Split Key) → AllBelowBase 256 bs → read_input bs ≡ Some s → bs ≡ input_record s.part ++ s.rest
input_only bs s u h =
    let p = record_only Input read_key bs s h in
    let Bytes : List ℕ → Type 0 = λ xs. AllBelowBase 256 xs in
    let v = under_left p.0 s.rest (subst Bytes p.1 u).1 in
    p.1 ∙ ap (λ xs. record_bytes Input xs ++ s.rest) (KeysTrip.only p.0 s.part v p.3)

-- behind the arguments of an action text no argument is read
no_argument : (ks : List Key) → read_argument (flat_map input_record ks ++ 0 ∷ []) ≡ None
no_argument [] = refl
no_argument (k ∷ ks) = other_kind Argument read_argument_body 3 ((key_bytes k ++ flat_map input_record ks) ++ 0 ∷ []) (λ e. omega arith)

pub back : (a : Act) → is_action a ≡ true → read_action (action_text a) ≡ Some a
back a t =
    let l = a.letter in
    let ws = a.arguments in
    let ks = a.inputs in
    let p = and_parts (is_letter l) _ t in
    let q = and_parts (leb (length ws) 2 && list_all is_argument ws) _ p.1 in
    let r = and_parts (leb (length ws) 2) (list_all is_argument ws) q.0 in
    let m = and_parts (leb 1 (length ks)) (leb (length ks) 4) q.1 in
    let inputs = flat_map input_record ks ++ 0 ∷ [] in
    let first : read_record Operation read_letter (action_text a) ≡ Some (record { part = l; rest = flat_map argument_record ws ++ inputs }) =
    record_back Operation read_letter (l ∷ []) (flat_map argument_record ws ++ inputs) l refl refl in
    let second = several_back read_argument argument_record 2 ws inputs (arguments_back ws r.1) (leb-true (length ws) 2 r.0) (no_argument ks) in
    let third = several_back read_input input_record 4 ks (0 ∷ []) (inputs_back ks) (leb-true (length ks) 4 m.1) refl in
    let behind : Split ℕ → Option Act = λ o. read_arguments o.part (several read_argument 2 o.rest) in
    ap (λ o. and_then o behind) first ∙ (ap (read_arguments l) second ∙ (ap (read_inputs l ws) third ∙ ap (λ b. cond b (Some a) None) t))

letter_only : (body : List ℕ) (l : ℕ) → length body ≡ 1 → read_letter body ≡ Some l → body ≡ l ∷ []
letter_only [] l long h = absurd (omega arith)
letter_only (x ∷ []) l long h = let e : x ≡ l = cc in ap (λ y. y ∷ []) e
letter_only (x ∷ y ∷ body) l long h = absurd (omega arith)

end_only : (bs : List ℕ) (e : List ℕ) → and_then (split_record End bs) alone ≡ Some e → bs ≡ 0 ∷ []
end_only bs e h =
    let p = then_some (split_record End bs) alone e h in
    let o = split_only End bs p.0 p.1 in
    let a = alone_only End bs e h in
    let s = alone_some p.0 e p.2 in
    let n : e ≡ [] = sym s.1 ∙ nil_from_length p.0.part o.1 in
    a ∙ ap (λ xs. 0 ∷ xs) n

pub only : (bs : List ℕ) (a : Act) → AllBelowBase 256 bs → read_action bs ≡ Some a → (bs ≡ action_text a) × (is_action a ≡ true)
only bs a u h =
    let behind : Split ℕ → Option Act = λ o. read_arguments o.part (several read_argument 2 o.rest) in
    let first = then_some (read_record Operation read_letter bs) behind a h in
    let o = first.0 in
    let op = record_only Operation read_letter bs o first.1 in
    let body = letter_only op.0 o.part op.2 op.3 in
    let Bytes : List ℕ → Type 0 = λ xs. AllBelowBase 256 xs in
    let u1 = under_right (record_bytes Operation op.0) o.rest (subst Bytes op.1 u) in
    let W = several read_argument 2 o.rest in
    let ws = several_only read_argument argument_record 2 o.rest argument_only u1 (read_argument o.rest) refl in
    let u2 = under_right (flat_map argument_record W.part) W.rest (subst Bytes ws u1) in
    let K = several read_input 4 W.rest in
    let ks = several_only read_input input_record 4 W.rest input_only u2 (read_input W.rest) refl in
    let last = then_some (and_then (split_record End K.rest) alone) (λ _. make_action o.part W.part K.part) a first.2 in
    let end = end_only K.rest last.0 last.1 in
    let made : Act = record { letter = o.part; arguments = W.part; inputs = K.part } in
    let m = cond_some (is_action made) made a last.2 in
    let text : bs ≡ action_text made =
    op.1 ∙ (ap (λ xs. record_bytes Operation xs ++ o.rest) body ∙ (ap (λ xs. operation_record o.part ++ xs) ws
    ∙ (ap (λ xs. operation_record o.part ++ (flat_map argument_record W.part ++ xs)) ks
    ∙ ap (λ xs. operation_record o.part ++ (flat_map argument_record W.part ++ (flat_map input_record K.part ++ xs))) end))) in
    (text ∙ ap action_text m.1, ap is_action (sym m.1) ∙ m.0)

-- different actions have different texts
pub apart : (a b : Act) → is_action a ≡ true → is_action b ≡ true → action_text a ≡ action_text b → a ≡ b
apart a b p q e =
    let s : ◌≡◌ {A = Option Act} (Some a) (Some b) = sym (back a p) ∙ (ap read_action e ∙ back b q) in
    cc

pub sizes : (a : Act) → is_action a ≡ true → (length (action_text a) ≡ action_size (length a.arguments) (length a.inputs)) × (length (action_text a) ≤ longest_text)
sizes a t =
    let p = and_parts (is_letter a.letter) _ t in
    let q = and_parts (leb (length a.arguments) 2 && list_all is_argument a.arguments) _ p.1 in
    let r = and_parts (leb (length a.arguments) 2) (list_all is_argument a.arguments) q.0 in
    let m = and_parts (leb 1 (length a.inputs)) (leb (length a.inputs) 4) q.1 in
    let l = length_text a r.1 in
    let x = leb-true (length a.arguments) 2 r.0 in
    let y = leb-true (length a.inputs) 4 m.1 in
    (l, omega arith)
