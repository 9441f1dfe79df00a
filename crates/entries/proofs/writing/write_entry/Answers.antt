use Rattle.std.proofs.Common.{◌≡◌, ◌+◌, ◌*◌, true, false, leb, [], length, drop, Some, sym, refl, ap, ◌∙◌, arith}
use Rattle.std.proofs.lemmas.List.{length-drop, length_push}
use Rattle.std.proofs.lemmas.List.Edits.{paste_none}
use Rattle.std.proofs.lemmas.Bool.{false≢true, le-leb, lt-leb}
use Rattle.std.specs.Slice.Iter.{chunks_rest, chunks_size}
use lib.Seq.{paste}
use Rattle.lists.specs.Each.{zeros_to}
use Rattle.records.specs.declared.kind.Kind.TheVariants.{LogHead, LogBlock}
use Rattle.records.specs.Records.{record_bytes, record_fits}
use Rattle.entries.specs.Blocks.{block_count, padded, blocks}
use Rattle.entries.proofs.Runs.{cond_none}
use Rattle.entries.specs.Entries.{entry_bytes}
use Rattle.entries.proofs.Trips.{sizes}
use Rattle.entries.proofs.Puts.{size_some, put_some, next_piece, block_fits, put_more, written}
use Rattle.entries.proofs.writing.write_entry.Goals as goal

pub returns-then-into-size : goal.returns-then-into-size
returns-then-into-size c =
    let k = c.args.key.now in
    let v = c.args.value.now in
    let s = size_some (length v) c.in_ok-size.size c.in_ok-size.ensures in
    let l = sizes k v in
    let f : leb (0 + length (entry_bytes k v)) (length c.args.into.now) ≡ false = lt-leb _ _ (omega arith) in
    rw (s.0, f) (record { answer = refl; after = refl })

pub loop-piece-init : goal.loop-piece-init
loop-piece-init c =
    let d = c.put_record.new.into in
    let t = put_some LogHead c.head_body.result c.args.into.now d 0 c.in_ok-end.end c.in_ok-end.ensures.answer c.in_ok-end.ensures.after in
    record {
      size = ap chunks_size c.into_iter-piece-iterator.ensures.into_iter_gives ∙ c.chunks-piece-items.ensures.size;
      left = ap chunks_rest c.into_iter-piece-iterator.ensures.into_iter_gives ∙ c.chunks-piece-items.ensures.rest;
      within = omega arith;
      place = t.0;
      written = paste_none d 41 [];
    }

pub returns-in_err-end-2 : goal.returns-in_err-end-2
returns-in_err-end-2 c =
    let v = c.args.value.now in
    let xs = c.loop-piece.into in
    let body = c.block_body.result in
    let end = c.loop-piece.end in
    let i = length c.loop-piece.yielded in
    let s = size_some (length v) c.in_ok-size.size c.in_ok-size.ensures in
    let r = ap length c.loop-piece.invariant.left in
    let l = length-drop (i * 32) v in
    let some = c.in-Some.ensures.steps.1.2 in
    let f = cond_none (record_fits LogBlock body end xs) (end + 33) (sym c.in_err-end-2.ensures.answer) in
    absurd (false≢true (sym f ∙ block_fits c.args.into.now xs v body i end (omega arith) (omega arith) (omega arith) (omega arith) c.loop-piece.invariant.place))

pub loop-piece-preserved : goal.loop-piece-preserved
loop-piece-preserved c =
    let v = c.args.value.now in
    let xs = c.loop-piece.into in
    let body = c.block_body.result in
    let end = c.loop-piece.end in
    let i = length c.loop-piece.yielded in
    let s = size_some (length v) c.in_ok-size.size c.in_ok-size.ensures in
    let steps = c.in-Some.ensures.steps.1 in
    let some = steps.2 in
    let r = ap length c.loop-piece.invariant.left in
    let l = length-drop (i * 32) v in
    let p = next_piece v (chunks_rest c.loop-piece.piece-iterator) c.in-Some.piece.now (chunks_rest c.next.new.self) i _ c.loop-piece.invariant.size c.loop-piece.invariant.left steps.0 steps.1 in
    let out = c.put_record-in-loop-piece.new.into in
    let f = put_some LogBlock body xs out end c.in_ok-end-2.end c.in_ok-end-2.ensures.answer c.in_ok-end-2.ensures.after in
    let e = f.0 in
    let w =
    put_more c.put_record.new.into xs out v body i end (omega arith) (omega arith) c.loop-piece.invariant.written (c.block_body.ensures ∙ ap (zeros_to 32) p.0) c.loop-piece.invariant.place f.1 (omega arith) in
    let n = length_push c.loop-piece.yielded c.in-Some.piece in
    record {
      size = c.in-Some.ensures.steps.0 ∙ c.loop-piece.invariant.size;
      left = p.1 ∙ ap (λ k. drop (k * 32) v) (sym n);
      within = omega arith;
      place = omega arith;
      written = w ∙ ap (λ k. paste c.put_record.new.into 41 (blocks k (padded v)) (k * 33)) (sym n);
    }

pub returns : goal.returns
returns c =
    let k = c.args.key.now in
    let v = c.args.value.now in
    let d = c.args.into.now in
    let i = length c.loop-piece.yielded in
    let head = c.head_body.result in
    let s = size_some (length v) c.in_ok-size.size c.in_ok-size.ensures in
    let first = (put_some LogHead head d c.put_record.new.into 0 c.in_ok-end.end c.in_ok-end.ensures.answer c.in_ok-end.ensures.after).1 ∙ ap (λ xs. paste d 0 (record_bytes LogHead xs) 41) c.head_body.ensures in
    let z = c.in-None.ensures.steps.1.0 in
    let r = ap length c.loop-piece.invariant.left in
    let l = length-drop (i * 32) v in
    let n : i ≡ block_count (length v) = omega arith in
    let w = written k v d c.put_record.new.into c.loop-piece.into (omega arith) first (c.loop-piece.invariant.written ∙ ap (λ j. paste c.put_record.new.into 41 (blocks j (padded v)) (j * 33)) n) in
    let e = sizes k v in
    let m : c.loop-piece.end ≡ length (entry_bytes k v) = omega arith in
    let f : leb (0 + length (entry_bytes k v)) (length d) ≡ true = le-leb _ _ (omega arith) in
    rw (s.0, f) (record { answer = ap Some m; after = w })
