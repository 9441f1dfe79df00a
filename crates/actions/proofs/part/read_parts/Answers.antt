use Rattle.std.proofs.Common.{◌+◌, ◌-◌, [], ◌∷◌, map, length, sym, ap, ◌∙◌, arith}
use Rattle.std.specs.Option.{option_map}
use Rattle.std.proofs.lemmas.List.{map_push, length-append}
use Rattle.lists.specs.Few.{few_items}
use Rattle.actions.specs.Actions.{several, all_before, read_record}
use Rattle.actions.specs.Views.{part_read}
use Rattle.actions.proofs.Scans.{read_stop, read_more, pushed}
use Rattle.actions.proofs.part.read_parts.Goals as goal

pub returns-in_default : goal.returns-in_default
returns-in_default g c =
    let t = g.P.Part in
    sym (c.loop.invariant.read ∙ read_stop (read_record t.kind t.from_body) _ c.loop.rest.now (map t.seen (few_items c.loop.parts)) (sym c.read_part.ensures ∙ ap (option_map (part_read t.seen)) c.in_default.is))

pub loop-preserved : goal.loop-preserved
loop-preserved g c =
    let t = g.P.Part in
    let parts = few_items c.loop.parts in
    let part = c.in-Some.front.0 in
    let left = g.row.N - (c.loop.counter + 1) in
    let more = pushed g.row.N c.loop.counter parts _ part c.loop.invariant.count c.loop-test.true c.push.ensures.after in
    let l = length-append parts (part ∷ []) in
    let m = ap length more in
    record {
      count = omega arith;
      read =
          c.loop.invariant.read
          ∙ (read_more (read_record t.kind t.from_body) (g.row.N - c.loop.counter) left c.loop.rest.now (map t.seen parts) _ (omega arith) (sym c.read_part.ensures ∙ ap (option_map (part_read t.seen)) c.in-Some.is)
          ∙ ap (λ ys. all_before ys (several (read_record t.kind t.from_body) left c.in-Some.front.1.now)) (sym (ap (map t.seen) more ∙ map_push t.seen parts part)));
    }
