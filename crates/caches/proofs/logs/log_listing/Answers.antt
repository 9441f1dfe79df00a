use Rattle.std.proofs.Common.{string_bytes, sym, refl, ap, ◌∙◌}
use Rattle.std.proofs.lemmas.Slice.{pushed}
use Rattle.entries.specs.Entries.{entry_of, read_entry}
use Rattle.log_store.proofs.Steps.{passed_rest}
use Rattle.caches.proofs.Lines.{at_rest, entry_more, listed}
use Rattle.caches.proofs.logs.log_listing.Goals as goal

pub loop-entry-preserved : goal.loop-entry-preserved
loop-entry-preserved g c =
    let bs = c.args.bytes.now in
    let rest = c.loop-entry.rest.now in
    let next = c.rest-rest.result.now in
    let e = entry_of c.in-Some.entry in
    let inv = c.loop-entry.invariant in
    let h = c.in-Some.ensures.steps.0 ∙ ap read_entry inv.at in
    record {
      at = c.in-Some.ensures.steps.1 ∙ sym c.rest-rest.ensures;
      lines =
          entry_more g.D.Digest.LONGEST g.D.Digest.words bs rest next (string_bytes c.loop-entry.text) c.as_str.result.now (string_bytes c.push_str.new.self) e h c.rest-rest.ensures
          (c.as_str.ensures.value ∙ c.in_ok-line.ensures) (pushed c.as_str.result.now refl c.in_ok-push_str.was c.push_str.ensures.bytes) inv.lines;
      rest = passed_rest bs rest next e h c.rest-rest.ensures inv.rest;
    }

pub overflow_sub-bytes : goal.overflow_sub-bytes
overflow_sub-bytes g c =
    let inv = c.loop-entry.invariant in
    (at_rest c.args.bytes.now c.loop-entry.rest.now (c.in-None.ensures.steps.0 ∙ ap read_entry inv.at) inv.rest).1

pub returns : goal.returns
returns g c =
    let inv = c.loop-entry.invariant in
    listed g.D.Digest.LONGEST g.D.Digest.words c.args.bytes.now c.loop-entry.rest.now (string_bytes c.loop-entry.text) c.as_str-2.result.now _ (c.in-None.ensures.steps.0 ∙ ap read_entry inv.at) inv.lines inv.rest
    (c.as_str-2.ensures.value ∙ c.in_ok-last.ensures) (pushed c.as_str-2.result.now refl c.in_ok-push_str-2.was c.push_str-2.ensures.bytes)
