use Rattle.std.proofs.Common.{◌≡◌, ℕ, ◌+◌, ◌<◌, ◌≤◌, leb, List, [], ◌++◌, length, take, drop, Some, sym, refl, ap, ◌∙◌, subst, arith}
use borrow.Rule.Slice.PartMut.{put_mid}
use Rattle.std.specs.Int.Digits.{AllBelowBase}
use Rattle.std.proofs.ByRecursion.{All-take, All-drop}
use Rattle.std.proofs.lemmas.List.{length-append, length-drop, append-nil, take_at, drop_at, drop-drop, drop_all, take-append-drop}
use Rattle.std.proofs.lemmas.Bool.{le-leb, leb-true}
use Rattle.std.proofs.lemmas.Option.{cond_some}
use Rattle.numbers.specs.BigEndian.{big_endian, read_big_endian}
use Rattle.numbers.proofs.Trips.{length-big_endian}
use Rattle.numbers.proofs.Trips as NumbersTrip
use Rattle.keys.specs.Keys.{key_size, key_bytes, read_key}
use Rattle.keys.specs.declared.key.Key.{Key}
use Rattle.keys.proofs.Trips as KeysTrip
use Rattle.records.specs.declared.kind.Kind.TheVariants.{LogHead}
use Rattle.records.specs.Records.{Split, body_length, record_size, record_bytes, split_record, and_then}
use Rattle.records.proofs.Fronts.{split_back, split_only}
use Rattle.records.proofs.Trips.{then_some, under_left}
use Rattle.entries.specs.Heads.{Head, head_body, head_bytes, fitting_head, head_in, read_head}

pub length-head_body : (k : Key) (n : ℕ) → length (head_body k n) ≡ body_length LogHead
length-head_body k n =
    let e = length-append (key_bytes k) (big_endian 4 n) in
    let l = KeysTrip.length-key_bytes k in
    let b = length-big_endian 4 n in
    omega arith

-- what bytes that read as a head consist of
pub record HeadRead (bs : List ℕ) (s : Split Head) : Type 0 where
  pub body : List ℕ
  pub whole : bs ≡ record_bytes LogHead body ++ s.rest
  pub long : length body ≡ body_length LogHead
  pub key : read_key (take key_size body) ≡ Some s.part.key
  pub size : read_big_endian (drop key_size body) ≡ Some s.part.size
  pub short : s.part.size ≤ 2048

pub head_read : (bs : List ℕ) (s : Split Head) → read_head bs ≡ Some s → HeadRead bs s
head_read bs s h =
    let x = then_some (split_record LogHead bs) head_in s h in
    let body = x.0.part in
    let rest = x.0.rest in
    let y = then_some (read_key (take key_size body)) (λ j. and_then (read_big_endian (drop key_size body)) (fitting_head j rest)) s x.2 in
    let z = then_some (read_big_endian (drop key_size body)) (fitting_head y.0 rest) s y.2 in
    let o = split_only LogHead bs x.0 x.1 in
    let f = cond_some (leb z.0 2048) (record { part = record { key = y.0; size = z.0 }; rest = rest }) s z.2 in
    let ek : y.0 ≡ s.part.key = ap (λ (a : Split Head). a.part.key) f.1 in
    let en : z.0 ≡ s.part.size = ap (λ (a : Split Head). a.part.size) f.1 in
    let er : rest ≡ s.rest = ap (λ (a : Split Head). a.rest) f.1 in
    record {
      body = body;
      whole = o.0 ∙ ap (λ xs. record_bytes LogHead body ++ xs) er;
      long = o.1;
      key = y.1 ∙ ap Some ek;
      size = z.1 ∙ ap Some en;
      short = omega (arith, leb-true z.0 2048 f.0, en);
    }

-- a head is read from its own bytes, whatever lies behind them
pub head_again : (bs : List ℕ) (s : Split Head) (r : HeadRead bs s) (other : List ℕ) → read_head (record_bytes LogHead r.body ++ other) ≡ Some (record { part = s.part; rest = other })
head_again bs s r other =
    let t = le-leb s.part.size 2048 r.short in
    ap (λ o. and_then o head_in) (split_back LogHead r.body other r.long)
    ∙ (ap (λ o. and_then o (λ j. and_then (read_big_endian (drop key_size r.body)) (fitting_head j other))) r.key
    ∙ (ap (λ o. and_then o (fitting_head s.part.key other)) r.size ∙ rw t refl))

-- a head reads back, whatever lies behind it
pub head_back : (k : Key) (n : ℕ) (rest : List ℕ) → n ≤ 2048 → read_head (head_bytes k n ++ rest) ≡ Some (record { part = record { key = k; size = n }; rest = rest })
head_back k n rest small =
    let l = KeysTrip.length-key_bytes k in
    let s : Split Head = record { part = record { key = k; size = n }; rest = rest } in
    let r : HeadRead (head_bytes k n ++ rest) s =
    record {
      body = head_body k n;
      whole = refl;
      long = length-head_body k n;
      key = ap read_key (take_at (key_bytes k) (big_endian 4 n) key_size l) ∙ KeysTrip.back k;
      size = ap read_big_endian (drop_at (key_bytes k) (big_endian 4 n) key_size l) ∙ NumbersTrip.back 4 n (omega arith) (omega arith);
      short = small;
    } in
    head_again (head_bytes k n ++ rest) s r rest

-- bytes that read as a head are that head's own
pub head_only : (bs : List ℕ) (s : Split Head) → AllBelowBase 256 bs → read_head bs ≡ Some s → bs ≡ head_bytes s.part.key s.part.size ++ s.rest
head_only bs s u h =
    let r = head_read bs s h in
    let body = r.body in
    let n = s.part.size in
    let Bytes : List ℕ → Type 0 = λ xs. AllBelowBase 256 xs in
    let ub = under_left body s.rest (subst Bytes r.whole u).1 in
    let ld = length-drop key_size body in
    let long = r.long in
    let four : length (drop key_size body) ≡ 4 = omega arith in
    let key = KeysTrip.only (take key_size body) s.part.key (All-take (λ b. b < 256) key_size body ub) r.key in
    let num : drop key_size body ≡ big_endian 4 n = NumbersTrip.only (drop key_size body) n (All-drop (λ b. b < 256) key_size body ub) r.size ∙ ap (λ j. big_endian j n) four in
    let whole : body ≡ head_body s.part.key n = sym (take-append-drop key_size body) ∙ (ap (λ xs. xs ++ drop key_size body) key ∙ ap (λ xs. key_bytes s.part.key ++ xs) num) in
    r.whole ∙ ap (λ xs. record_bytes LogHead xs ++ s.rest) whole

-- a head takes its size
pub head_span : (bs : List ℕ) (s : Split Head) → HeadRead bs s → (length bs ≡ record_size LogHead + length s.rest) × (s.rest ≡ drop (record_size LogHead) bs)
head_span bs s r =
    let long = r.long in
    let l = ap length r.whole ∙ length-append (record_bytes LogHead r.body) s.rest in
    (omega arith, sym (ap (drop (record_size LogHead)) r.whole ∙ drop_at (record_bytes LogHead r.body) s.rest (record_size LogHead) (omega arith)))

-- a key's bytes and a number's, put into a body one after the other
pub head_put : (a z w xs out : List ℕ) → length a ≡ key_size → length z ≡ 4 → xs ≡ a ++ z → out ≡ put_mid key_size 4 xs w → out ≡ a ++ w
head_put a z w xs out la lz ex eo =
    let t : take key_size xs ≡ a = ap (take key_size) ex ∙ take_at a z key_size la in
    let l = length-append a z in
    let lx = ap length ex in
    let d : drop 4 (drop key_size xs) ≡ [] = drop-drop 4 key_size xs ∙ drop_all (body_length LogHead) xs (omega arith) in
    eo ∙ (ap (λ ys. ys ++ (w ++ drop 4 (drop key_size xs))) t ∙ (ap (λ ys. a ++ (w ++ ys)) d ∙ ap (λ ys. a ++ ys) (append-nil w)))

-- the body of a head record has its length
pub head_long : (bs body rest : List ℕ) → Some (record { part = body; rest = rest }) ≡ split_record LogHead bs → length body ≡ body_length LogHead
head_long bs body rest s = (split_only LogHead bs (record { part = body; rest = rest }) (sym s)).1
