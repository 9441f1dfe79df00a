use Rattle.std.proofs.Common.{ap, ◌∙◌, arith}
use Rattle.records.specs.declared.kind.Kind.TheVariants.{Result}
use Rattle.records.specs.Records.{record_bytes}
use Rattle.records.specs.Results.{front_size, with_front}
use Rattle.records.proofs.Fronts.{front_record}
use Rattle.records.proofs.results.write_result.Goals as goal

pub returns : goal.returns
returns c =
    let xs = c.args.into.now in
    let body = c.to_bytes.result in
    let e = c.to_bytes.ensures in
    let f = front_record Result body xs _ _ (omega arith) c.put_record.ensures.answer c.put_record.ensures.after in
    record {
      answer = f.0 ∙ ap (λ b. front_size (record_bytes Result b) xs) e;
      after = f.1 ∙ ap (λ b. with_front (record_bytes Result b) xs) e;
    }
