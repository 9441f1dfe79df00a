use Rattle.std.proofs.Common.{◌≡◌, ℕ, ◌+◌, ◌*◌, ◌<◌, ◌≤◌, min, true, cond, eqb, leb, List, ◌++◌, length, take, drop, Some, None, sym, refl, ap, ◌∙◌, arith}
use lib.Seq.{paste}
use Rattle.std.proofs.lemmas.List.Edits.{paste-paste, paste_all}
use Rattle.std.proofs.lemmas.List.{take_at, drop_at, take_min, drop_min, drop-drop}
use Rattle.std.proofs.lemmas.Bool.{and_from, eq-eqb, le-leb}
use Rattle.std.proofs.lemmas.Option.{cond_some}
use Rattle.records.specs.declared.kind.Kind.{Kind}
use Rattle.keys.specs.declared.key.Key.{Key}
use Rattle.lists.specs.Each.{zeros_to}
use Rattle.records.specs.declared.kind.Kind.TheVariants.{LogHead, LogBlock}
use Rattle.records.specs.Records.{record_size, record_bytes, record_fits}
use Rattle.entries.specs.Blocks.{block_count, entry_size, padded, blocks}
use Rattle.entries.specs.Heads.{head_body}
use Rattle.entries.specs.Entries.{entry_bytes}
use Rattle.entries.proofs.Runs.{length-padded, length-blocks, blocks_more, piece}
use Rattle.entries.proofs.Tops.{length-head_body}
use Rattle.entries.proofs.Trips.{sizes}

-- a value that has a size is not too long
pub size_some : (n size : ℕ) → Some size ≡ cond (leb n 2048) (Some (entry_size n)) None → (leb n 2048 ≡ true) × (entry_size n ≡ size)
size_some n size h = cond_some (leb n 2048) (entry_size n) size (sym h)

-- where a record is put, the next goes behind it
pub put_some : (kind : Kind) (body xs out : List ℕ) (at end : ℕ) → Some end ≡ cond (record_fits kind body at xs) (Some (at + record_size kind)) None → out ≡ cond (record_fits kind body at xs) (paste xs at (record_bytes kind body) (record_size kind)) xs → (end ≡ at + record_size kind) × (out ≡ paste xs at (record_bytes kind body) (record_size kind))
put_some kind body xs out at end h e =
    let w = cond_some (record_fits kind body at xs) (at + record_size kind) end (sym h) in
    (sym w.1, e ∙ ap (λ b. cond b (paste xs at (record_bytes kind body) (record_size kind)) xs) w.0)

-- the next piece of a value, and what is left behind it
pub next_piece : (v xs piece rest : List ℕ) (i n : ℕ) → n ≡ 32 → xs ≡ drop (i * 32) v → xs ≡ piece ++ rest → length piece ≡ min n (length xs) → (piece ≡ take 32 (drop (i * 32) v)) × (rest ≡ drop ((i + 1) * 32) v)
next_piece v xs piece rest i n en ex e l =
    let m : length piece ≡ min 32 (length xs) = l ∙ ap (λ k. min k (length xs)) en in
    let t : piece ≡ take 32 xs = sym (take_at piece rest (length piece) refl) ∙ (ap (take (length piece)) (sym e) ∙ (ap (λ k. take k xs) m ∙ take_min 32 xs)) in
    let d : rest ≡ drop 32 xs = sym (drop_at piece rest (length piece) refl) ∙ (ap (drop (length piece)) (sym e) ∙ (ap (λ k. drop k xs) m ∙ drop_min 32 xs)) in
    let j : i * 32 + 32 ≡ (i + 1) * 32 = omega arith in
    (t ∙ ap (take 32) ex, d ∙ (ap (drop 32) ex ∙ (drop-drop 32 (i * 32) v ∙ ap (λ k. drop k v) j)))

-- a block of a value that fits as a whole fits
pub block_fits : (d xs v body : List ℕ) (i end : ℕ) → entry_size (length v) ≤ length d → i * 32 < length v → length xs ≡ length d → length body ≡ 32 → end ≡ record_size LogHead + i * 33 → record_fits LogBlock body end xs ≡ true
block_fits d xs v body i end room more lx lb e =
    and_from (eqb (length body) 32) (leb (end + 33) (length xs)) (eq-eqb (length body) 32 lb) (le-leb (end + 33) (length xs) (omega arith))

-- one block record more is written behind those before it
pub put_more : (d xs out v body : List ℕ) (i end : ℕ) → entry_size (length v) ≤ length d → i * 32 < length v → xs ≡ paste d (record_size LogHead) (blocks i (padded v)) (i * 33) → body ≡ zeros_to 32 (take 32 (drop (i * 32) v)) → end ≡ record_size LogHead + i * 33 → out ≡ paste xs end (record_bytes LogBlock body) 33 → length body ≡ 32 → out ≡ paste d (record_size LogHead) (blocks (i + 1) (padded v)) ((i + 1) * 33)
put_more d xs out v body i end room more ex eb ee eo lb =
    let lp = length-padded v in
    let ls = length-blocks i (padded v) (omega arith) in
    let r = record_bytes LogBlock body in
    let p = paste-paste d (record_size LogHead) (blocks i (padded v)) r (i * 33) 33 (omega arith) (omega arith) (omega arith) in
    let m : blocks i (padded v) ++ r ≡ blocks (i + 1) (padded v) =
    ap (λ ys. blocks i (padded v) ++ record_bytes LogBlock ys) (eb ∙ piece v i more) ∙ sym (blocks_more i (padded v)) in
    let n : i * 33 + 33 ≡ (i + 1) * 33 = omega arith in
    eo ∙ (ap (λ k. paste xs k r 33) ee ∙ (ap (λ ys. paste ys (record_size LogHead + i * 33) r 33) ex
    ∙ (p ∙ (ap (λ ys. paste d (record_size LogHead) ys (i * 33 + 33)) m ∙ ap (λ j. paste d (record_size LogHead) (blocks (i + 1) (padded v)) j) n))))

-- a head and the blocks behind it, written one after the other at the front of a buffer, are an entry written there
pub written : (k : Key) (v d e out : List ℕ) → entry_size (length v) ≤ length d → e ≡ paste d 0 (record_bytes LogHead (head_body k (length v))) (record_size LogHead) → out ≡ paste e (record_size LogHead) (blocks (block_count (length v)) (padded v)) (block_count (length v) * 33) → out ≡ entry_bytes k v ++ drop (length (entry_bytes k v)) d
written k v d e out room ee eo =
    let n = block_count (length v) in
    let run = blocks n (padded v) in
    let r = record_bytes LogHead (head_body k (length v)) in
    let lh = length-head_body k (length v) in
    let p = length-padded v in
    let b = length-blocks n (padded v) (omega arith) in
    let s = sizes k v in
    let q = paste-paste d 0 r run (record_size LogHead) (n * 33) (omega arith) (omega arith) (omega arith) in
    let m : record_size LogHead + n * 33 ≡ length (entry_bytes k v) = omega arith in
    let z : 0 + length (entry_bytes k v) ≡ length (entry_bytes k v) = omega arith in
    eo ∙ (ap (λ ys. paste ys (record_size LogHead) run (n * 33)) ee ∙ (q ∙ (ap (paste d 0 (r ++ run)) m
    ∙ (paste_all d 0 (r ++ run) (length (entry_bytes k v)) refl ∙ ap (λ j. entry_bytes k v ++ drop j d) z))))
