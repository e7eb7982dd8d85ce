use Rattle.std.proofs.Common.{◌≡◌, ◌++◌, option_map}
use Rattle.serde_json.specs.View.{members_view}
use Rattle.dp_pipeline.specs.Json.{members_of}
use Rattle.dp_pipeline.specs.Contents.{plans_in}
use Rattle.dp_pipeline.proofs.reading.plans_among.Given as goal

-- the plans so far, and then those of what is left
abbrev pub invariant-loop-name : goal.invariant-loop-name
invariant-loop-name l =
    plans_in l.columns (members_of (members_view l.members.entries))
    ≡ option_map (λ rest. l.plans.items ++ rest) (plans_in l.columns (members_of (members_view l.name-iterator)))
