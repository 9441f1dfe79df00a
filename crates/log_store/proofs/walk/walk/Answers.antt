use Rattle.std.proofs.Common.{◌≡◌, ◌-◌, length, sym, ap, ◌∙◌, arith}
use Rattle.std.specs.Option.{option_map}
use Rattle.std.proofs.lemmas.Bool.{both_ways}
use Rattle.entries.specs.Entries.{entry_of, value_of, read_entry}
use Rattle.log_store.specs.Contents.{log_entries, later, value_under, last_value}
use Rattle.log_store.specs.Lasts.{under_own, under_other}
use Rattle.log_store.specs.Appends.{entries_none, rest_within}
use Rattle.log_store.proofs.Steps.{passed, passed_rest}
use Rattle.log_store.proofs.walk.walk.Goals as goal
use Rattle.log_store.proofs.walk.walk.Goals.{then-eq, else-eq}

-- the last entry of the key so far, once one more is passed
last_step : (c : goal.After-rest-rest) → option_map value_of c.if-eq.last ≡ later (option_map value_of c.loop-entry.last) (value_under c.args.key.now (entry_of c.in-Some.entry).part)
last_step c =
    let e = (entry_of c.in-Some.entry).part in
    let old = option_map value_of c.loop-entry.last in
    elim c.if-eq.branch [
      | then-eq w ↦ ap (option_map value_of) w.last-is ∙ ap (later old) (sym (under_own c.args.key.now e (sym c.key.ensures ∙ c.eq.ensures.equal.0 w.if-eq.true)))
      | else-eq w ↦ ap (option_map value_of) w.last-is ∙ ap (later old) (sym (under_other c.args.key.now e (λ h. both_ways _ w.if-eq.false (c.eq.ensures.equal.1 (c.key.ensures ∙ h)))))
    ]

pub loop-entry-preserved : goal.loop-entry-preserved
loop-entry-preserved c =
    let bs = c.args.bytes.now in
    let rest = c.loop-entry.rest.now in
    let next = c.rest-rest.result.now in
    let e = entry_of c.in-Some.entry in
    let k = c.args.key.now in
    let inv = c.loop-entry.invariant in
    let h = c.in-Some.ensures.steps.0 ∙ ap read_entry inv.at in
    record {
      at = c.in-Some.ensures.steps.1 ∙ sym c.rest-rest.ensures;
      last =
          passed k bs rest next (option_map value_of c.loop-entry.last) e h c.rest-rest.ensures inv.last
          ∙ ap (λ o. later o (last_value k (log_entries next))) (sym (last_step c));
      rest = passed_rest bs rest next e h c.rest-rest.ensures inv.rest;
    }

pub overflow_sub-result : goal.overflow_sub-result
overflow_sub-result c =
    let inv = c.loop-entry.invariant in
    let n = entries_none c.loop-entry.rest.now (sym (c.in-None.ensures.steps.0 ∙ ap read_entry inv.at)) in
    omega (arith, ap length (inv.rest ∙ n.1), (rest_within c.args.bytes.now).0)

pub returns : goal.returns
returns c =
    let inv = c.loop-entry.invariant in
    let n = entries_none c.loop-entry.rest.now (sym (c.in-None.ensures.steps.0 ∙ ap read_entry inv.at)) in
    record {
      last = sym (inv.last ∙ ap (λ es. later (option_map value_of c.loop-entry.last) (last_value c.args.key.now es)) n.0);
      end = ap (λ xs. length c.args.bytes.now - length xs) (sym (inv.rest ∙ n.1));
    }
