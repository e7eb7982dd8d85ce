use Rattle.std.proofs.Common.{◌∙◌, ◌^◌, ap, length}
use Rattle.dp_records.specs.RawRecords.{raw_up_to}
use Rattle.dp_runner.proofs.CountSteps.{counted-ok}
use Rattle.dp_runner.proofs.count.count_file.Goals as goal

pub returns-clause-answers : goal.returns-clause-answers
returns-clause-answers g c =
    counted-ok _ c.args.name.now c.in_ok-text.text.items _ c.in_ok-text.ensures.answers
    (c.in_ok-count_records.ensures.records ∙ ap (λ text. length (raw_up_to (2 ^ 30) text)) c.as_slice.ensures.value)
