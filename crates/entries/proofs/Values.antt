use Rattle.std.proofs.Common.{◌≡◌, ℕ, ◌<◌, Bool, true, false, cond, List, length, get_or, drop, Some, None, sym, refl, ap, ◌∙◌, arith}
use Rattle.std.specs.Bool.{then_some}
use Rattle.std.specs.Option.{option_map}
use Rattle.std.proofs.lemmas.List.{length-take-le, get_or-take}
use Rattle.lists.specs.Each.{all_zero}
use Rattle.records.specs.Records.{and_then}
use Rattle.entries.specs.Blocks.{block_count, split_blocks, place}
use Rattle.entries.specs.Heads.{Head, read_head}
use Rattle.entries.specs.Entries.{bodies_of, value_of, entry_of, unpadded, with_value, read_entry}
use Rattle.entries.specs.declared.entry.Entry.{Entry}
use Rattle.entries.proofs.Runs.{length-bodies, get_or-bodies, split_some}

-- the value of an entry has the length that its head says
pub length-value : (e : Entry) → length (value_of e) ≡ e.head.size
length-value e =
    let l = length-bodies (block_count e.head.size) e.blocks.now (omega arith) in
    length-take-le e.head.size (bodies_of e) (omega arith)

-- a byte of a value stands at its place in the blocks
pub byte_at : (e : Entry) (i : ℕ) → i < e.head.size → get_or e.blocks.now (place i) 0 ≡ get_or (value_of e) i 0
byte_at e i h =
    sym (get_or-take e.head.size (bodies_of e) i 0 h ∙ get_or-bodies (block_count e.head.size) e.blocks.now i (omega arith) (omega arith))

picked : (t : Bool) (e : Entry) → option_map entry_of (then_some t e) ≡ cond t (Some (entry_of e)) None
picked true e = refl
picked false e = refl

-- an entry, once its head is read, its blocks are split off and its padding is looked at
pub entry_made : (bs behind : List ℕ) (e : Entry) (t : Bool) → Some (record { part = record { key = e.head.key; size = e.head.size }; rest = behind }) ≡ read_head bs → Some (record { part = e.blocks.now; rest = e.rest.now }) ≡ split_blocks (block_count e.head.size) behind → t ≡ all_zero (drop e.head.size (bodies_of e)) → option_map entry_of (then_some t e) ≡ read_entry bs
entry_made bs behind e t h s z =
    let head : Head = record { key = e.head.key; size = e.head.size } in
    picked t e ∙ (ap (λ b. cond b (Some (entry_of e)) None) z
    ∙ sym (ap (λ o. and_then o with_value) (sym h) ∙ ap (λ o. and_then o (unpadded head)) (split_some (block_count e.head.size) behind _ s).0))
