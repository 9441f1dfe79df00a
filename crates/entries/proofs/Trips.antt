use Rattle.std.proofs.Common.{◌≡◌, ℕ, ◌+◌, ◌*◌, ◌≤◌, true, List, ◌++◌, length, take, drop, Some, sym, refl, ap, ◌∙◌, arith}
use Rattle.std.specs.Int.Digits.{AllBelowBase}
use Rattle.std.proofs.lemmas.List.{append_assoc, length-append, length-take-le, drop_at, drop-drop}
use Rattle.keys.specs.declared.key.Key.{Key}
use Rattle.records.specs.declared.kind.Kind.TheVariants.{LogHead}
use Rattle.records.specs.Records.{Split, record_size, and_then}
use Rattle.std.proofs.lemmas.Option.{cond_some}
use Rattle.records.proofs.Trips.{then_some}
use Rattle.lists.specs.Each.{all_zero}
use Rattle.entries.specs.Blocks.{block_count, entry_size, padded, blocks, bodies}
use Rattle.entries.specs.Heads.{Head, head_bytes, read_head}
use Rattle.entries.specs.Entries.{Logged, entry_bytes, unpadded, with_value, read_entry}
use Rattle.entries.proofs.Runs.{length-padded, length-blocks, split_blocks_back, split_blocks_only, take-padded, drop-padded, padded_only}
use Rattle.entries.proofs.Tops.{length-head_body, head_read, head_back, head_only, head_span}

pub sizes : (k : Key) (v : List ℕ) → length (entry_bytes k v) ≡ entry_size (length v)
sizes k v =
    let n = block_count (length v) in
    let a = length-append (head_bytes k (length v)) (blocks n (padded v)) in
    let h = length-head_body k (length v) in
    let p = length-padded v in
    let b = length-blocks n (padded v) (omega arith) in
    omega arith

pub back : (k : Key) (v rest : List ℕ) → length v ≤ 2048 → read_entry (entry_bytes k v ++ rest) ≡ Some (record { part = record { key = k; value = v }; rest = rest })
back k v rest small =
    let n = length v in
    let run = blocks (block_count n) (padded v) in
    let h : Head = record { key = k; size = n } in
    let a = ap read_head (append_assoc (head_bytes k n) run rest) ∙ head_back k n (run ++ rest) small in
    let b = split_blocks_back (block_count n) (padded v) rest (length-padded v) in
    let z = drop-padded v in
    let t = take-padded v in
    ap (λ o. and_then o with_value) a ∙ (ap (λ o. and_then o (unpadded h)) b ∙ rw (z, t) refl)

-- what bytes that read as an entry consist of
pub record EntryRead (bs : List ℕ) (e : Split Logged) : Type 0 where
  pub behind : List ℕ
  pub part : List ℕ
  pub head : read_head bs ≡ Some (record { part = record { key = e.part.key; size = length e.part.value }; rest = behind })
  pub run : bodies (block_count (length e.part.value)) behind ≡ Some (record { part = part; rest = e.rest })
  pub value : take (length e.part.value) part ≡ e.part.value
  pub zero : all_zero (drop (length e.part.value) part) ≡ true

pub entry_read : (bs : List ℕ) (e : Split Logged) → read_entry bs ≡ Some e → EntryRead bs e
entry_read bs e w =
    let x = then_some (read_head bs) with_value e w in
    let h = x.0.part in
    let n = h.size in
    let y = then_some (bodies (block_count n) x.0.rest) (unpadded h) e x.2 in
    let part = y.0.part in
    let f = cond_some (all_zero (drop n part)) (record { part = record { key = h.key; value = take n part }; rest = y.0.rest }) e y.2 in
    let run = split_blocks_only (block_count n) x.0.rest y.0 y.1 in
    let l = run.1 in
    let ek : h.key ≡ e.part.key = ap (λ (z : Split Logged). z.part.key) f.1 in
    let ev : take n part ≡ e.part.value = ap (λ (z : Split Logged). z.part.value) f.1 in
    let er : y.0.rest ≡ e.rest = ap (λ (z : Split Logged). z.rest) f.1 in
    let el : n ≡ length e.part.value = sym (length-take-le n part (omega arith)) ∙ ap length ev in
    let top : Key → ℕ → Split Head = λ k m. record { part = record { key = k; size = m }; rest = x.0.rest } in
    let split : List ℕ → Split (List ℕ) = λ xs. record { part = part; rest = xs } in
    record {
      behind = x.0.rest;
      part = part;
      head = x.1 ∙ ap Some (ap (λ k. top k n) ek ∙ ap (top e.part.key) el);
      run = ap (λ m. bodies (block_count m) x.0.rest) (sym el) ∙ (y.1 ∙ ap (λ xs. Some (split xs)) er);
      value = ap (λ m. take m part) (sym el) ∙ ev;
      zero = ap (λ m. all_zero (drop m part)) (sym el) ∙ f.0;
    }

pub only : (bs : List ℕ) (e : Split Logged) → AllBelowBase 256 bs → read_entry bs ≡ Some e → (bs ≡ entry_bytes e.part.key e.part.value ++ e.rest) × (length e.part.value ≤ 2048)
only bs e u w =
    let r = entry_read bs e w in
    let n = length e.part.value in
    let top = head_bytes e.part.key n in
    let run = split_blocks_only (block_count n) r.behind _ r.run in
    let p : r.part ≡ padded e.part.value = sym (padded_only n r.part run.1 r.zero).0 ∙ ap padded r.value in
    let tail : r.behind ≡ blocks (block_count n) (padded e.part.value) ++ e.rest = run.0 ∙ ap (λ xs. blocks (block_count n) xs ++ e.rest) p in (
      head_only bs _ u r.head ∙ (ap (λ xs. top ++ xs) tail ∙ sym (append_assoc top (blocks (block_count n) (padded e.part.value)) e.rest)),
      (head_read bs _ r.head).short,
    )

-- an entry's value is within its room, and the entry takes its size: no need to know that bytes are bytes
pub span : (bs : List ℕ) (e : Split Logged) → read_entry bs ≡ Some e → (length e.part.value ≤ 2048) × (length bs ≡ entry_size (length e.part.value) + length e.rest) × (e.rest ≡ drop (entry_size (length e.part.value)) bs)
span bs e w =
    let r = entry_read bs e w in
    let size = block_count (length e.part.value) * 33 in
    let head = head_read bs _ r.head in
    let top = head_span bs _ head in
    let run = split_blocks_only (block_count (length e.part.value)) r.behind _ r.run in
    let l = run.1 in
    let b = blocks (block_count (length e.part.value)) r.part in
    let lb : length b ≡ size = length-blocks (block_count (length e.part.value)) r.part (omega arith) in
    let lr = ap length run.0 ∙ length-append b e.rest in
    let first = top.0 in
    let d : drop size r.behind ≡ e.rest = ap (drop size) run.0 ∙ drop_at b e.rest size lb in
    (head.short, omega arith, sym d ∙ (ap (drop size) top.1 ∙ drop-drop size (record_size LogHead) bs))
