use Rattle.std.proofs.Common.{◌++◌, take, ap, ◌∙◌, arith}
use Rattle.std.specs.List.{flat_map}
use Rattle.std.proofs.lemmas.List.{take_all}
use Rattle.lists.specs.Few.{few_items}
use Rattle.lists.proofs.Cuts.{length-few_items}
use Rattle.records.specs.Records.{record_bytes}
use Rattle.actions.specs.Actions.{longest_text}
use Rattle.actions.proofs.Appends.{append_none, append_more}
use Rattle.actions.proofs.part.append_parts.Goals as goal

pub loop-part-init : goal.loop-part-init
loop-part-init g c = append_none longest_text (few_items c.args.text.now) (length-few_items c.args.text.now)

pub loop-part-preserved : goal.loop-part-preserved
loop-part-preserved g c =
    let t = g.P.Part in
    append_more longest_text (λ x. record_bytes t.kind (t.body_of (t.seen x))) (few_items c.args.text.now) (few_items c.loop-part.text) _
    c.args.parts.now c.loop-part.part-index c.part-item.result (omega arith) c.part-item.is c.loop-part.invariant c.append_part.ensures

pub returns : goal.returns
returns g c =
    let t = g.P.Part in
    c.loop-part.invariant ∙ ap (λ xs. take longest_text (few_items c.args.text.now ++ flat_map (λ x. record_bytes t.kind (t.body_of (t.seen x))) xs)) (take_all c.loop-part.part-index c.args.parts.now (omega arith))
