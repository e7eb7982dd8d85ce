-- The text of the pipeline of `sample` is accepted.
use Rattle.std.proofs.Common.{◌≡◌, ◌∙◌, ℕ, List, Ok, Err, refl, ap}
use Rattle.std.specs.Str.{is_utf8, chars}
use Rattle.serde_json.proofs.OnLiterals.{serde_json_on_literals}
use Rattle.dp_rowwise.specs.Categories.{are_different}
use Rattle.dp_pipeline.specs.declared.faults.PipelineFault.{PipelineFault}
use Rattle.dp_pipeline.specs.declared.faults.PipelineFault.TheVariants as fault
use Rattle.dp_pipeline.specs.Answers.{Answers}
use Rattle.dp_pipeline.specs.declared.content.Content.{Content}
use Rattle.dp_pipeline.specs.Accepted.{accepted, are_columns, is_in_range, plans_made}
use Rattle.dp_pipeline.specs.Contents.{content_of, pair_of, plans_in, has_only}
use Rattle.dp_pipeline.specs.Json.{json_of, array_of, object_of, member_at, text_of, count_of, all_of}
use Rattle.dp_pipeline.specs.RootForms.{rule_of, rule_by}
use Rattle.dp_runner.specs.Sample.{sample_pipeline, sample_pipeline_text}

pub sample-accepted : accepted sample_pipeline_text ≡ Ok sample_pipeline
unfolding serde_json_on_literals is_utf8 chars are_different accepted are_columns is_in_range plans_made content_of pair_of plans_in has_only json_of array_of object_of member_at text_of count_of all_of rule_of rule_by sample_pipeline
sample-accepted = refl

is-accepted : (text : List ℕ) → text ≡ sample_pipeline_text → accepted text ≡ Ok sample_pipeline
is-accepted text is = ap accepted is ∙ sample-accepted

-- what is read of it is that pipeline
pub ok-is : (pipeline : Content) (text : List ℕ) → text ≡ sample_pipeline_text → accepted text ≡ Ok pipeline → pipeline ≡ sample_pipeline
ok-is pipeline text is read =
    let right = is-accepted text is in
    cc

-- and it is not refused
pub not-refused : (reason : PipelineFault) (c : ℕ) (text : List ℕ) → text ≡ sample_pipeline_text → reason ≡ fault.Refused c
    → Answers (λ (pipeline : Content). pipeline) (Err reason) (accepted text) → ⊥
not-refused (fault.Refused d) c text is same answers =
    let right = is-accepted text is in
    cc
not-refused fault.NoMemory c text is same answers = cc
