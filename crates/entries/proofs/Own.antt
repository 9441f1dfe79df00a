use Rattle.std.proofs.Common.{◌≡◌, ℕ, cond, List, ◌++◌, length, take, Some, None, sym, ap, ◌∙◌}
use Rattle.std.proofs.lemmas.List.{append_assoc}
use Rattle.records.specs.declared.kind.Kind.TheVariants.{LogHead}
use Rattle.records.specs.Records.{Split, record_bytes, and_then}
use Rattle.entries.specs.Blocks.{block_count, blocks}
use Rattle.entries.specs.Heads.{Head}
use Rattle.entries.specs.Entries.{Logged, unpadded, with_value, read_entry}
use Rattle.entries.proofs.Runs.{split_blocks_back, split_blocks_only}
use Rattle.entries.proofs.Tops.{head_read, head_again}
use Rattle.entries.proofs.Trips.{entry_read}

-- an entry is read from its own bytes: it reads the same whatever lies behind them
pub own_bytes : (bs : List ℕ) (e : Split Logged) → read_entry bs ≡ Some e → (front : List ℕ) × (bs ≡ front ++ e.rest) × ((other : List ℕ) → read_entry (front ++ other) ≡ Some (record { part = e.part; rest = other }))
own_bytes bs e w =
    let r = entry_read bs e w in
    let n = length e.part.value in
    let top : Head = record { key = e.part.key; size = n } in
    let head = head_read bs _ r.head in
    let run = split_blocks_only (block_count n) r.behind _ r.run in
    let first = record_bytes LogHead head.body in
    let more = blocks (block_count n) r.part in
    let logged : List ℕ → List ℕ → Split Logged = λ xs other. record { part = record { key = e.part.key; value = xs }; rest = other } in (
      first ++ more,
      head.whole ∙ (ap (λ xs. first ++ xs) run.0 ∙ sym (append_assoc first more e.rest)),
      λ other.
          let a = ap read_entry (append_assoc first more other) in
          let c = ap (λ o. and_then o with_value) (head_again bs _ head (more ++ other)) in
          let d = ap (λ o. and_then o (unpadded top)) (split_blocks_back (block_count n) r.part other run.1) in
          let z = ap (λ b. cond b (Some (logged (take n r.part) other)) None) r.zero in
          a ∙ (c ∙ (d ∙ (z ∙ ap (λ xs. Some (logged xs other)) r.value))),
    )
