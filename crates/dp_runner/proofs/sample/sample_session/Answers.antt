use Rattle.std.proofs.Common.{◌≡◌, ◌∙◌, length, ap, arith}
use Rattle.dp_runner.specs.Sample.{sample_text}
use Rattle.dp_runner.proofs.SampleTexts.{text-length}
use Rattle.dp_runner.proofs.sample.sample_session.Goals as goal

pub store_of-requires-clause-short : goal.store_of-requires-clause-short
store_of-requires-clause-short c =
    let same : length c.as_slice.result.now ≡ length (sample_text c.args.records) = ap length (c.as_slice.ensures.value ∙ c.in_ok-text.ensures) in
    let short = text-length c.args.records in
    omega arith
