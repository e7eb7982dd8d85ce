use Rattle.std.proofs.Common.{◌∙◌, Some, sym, ap}
use Rattle.serde_json.specs.View.{view}
use Rattle.dp_pipeline.specs.StageForms.{made_part, noise_of}
use Rattle.dp_pipeline.proofs.LastParts.{part-none, part-some}
use Rattle.dp_pipeline.proofs.spec.part_among.Goals as goal

pub returns-in_default : goal.returns-in_default
returns-in_default c = part-none view c.args.columns.now c.args.items.now c.in_default.len_below

pub returns-in_default-2 : goal.returns-in_default-2
returns-in_default-2 c =
    let last = c.last-item.result in
    let part = part-some view c.args.columns.now c.args.items.now last c.in-len1-up.len_at_least c.last-item.is in
    let stages = c.in_ok-stages.ensures in
    sym (part ∙ ap (λ s. made_part s (noise_of (view last))) (sym stages ∙ c.in_default-2.is))

pub returns-in_default-noise_from : goal.returns-in_default-noise_from
returns-in_default-noise_from c =
    let last = c.last-item.result in
    let part = part-some view c.args.columns.now c.args.items.now last c.in-len1-up.len_at_least c.last-item.is in
    let stages = c.in_ok-stages.ensures in
    sym (part ∙ ap (λ s. made_part s (noise_of (view last))) (sym stages ∙ c.in-Some.is)
    ∙ ap (made_part (Some c.in-Some.stages)) (sym c.noise_from.ensures ∙ c.in_default-noise_from.is))

pub returns : goal.returns
returns c =
    let last = c.last-item.result in
    let part = part-some view c.args.columns.now c.args.items.now last c.in-len1-up.len_at_least c.last-item.is in
    let stages = c.in_ok-stages.ensures in
    sym (part ∙ ap (λ s. made_part s (noise_of (view last))) (sym stages ∙ c.in-Some.is)
    ∙ ap (made_part (Some c.in-Some.stages)) (sym c.noise_from.ensures ∙ c.in-Some-noise_from.is))
