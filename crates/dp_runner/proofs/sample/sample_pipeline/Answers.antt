use Rattle.dp_runner.proofs.SamplePipeline.{ok-is, not-refused}
use Rattle.dp_runner.proofs.sample.sample_pipeline.Goals as goal

pub unreachable-requires : goal.unreachable-requires
unreachable-requires c =
    not-refused c.in-Err-Refused.field-0 c.in-Err-Refused.field-0-0 c.as_bytes.result.now c.as_bytes.ensures.value c.in-Err-Refused.field-0-is c.in-Err-Refused.ensures.answers

pub returns-in-Ok : goal.returns-in-Ok
returns-in-Ok c = ok-is c.in-Ok.pipeline c.as_bytes.result.now c.as_bytes.ensures.value c.in-Ok.ensures.answers
