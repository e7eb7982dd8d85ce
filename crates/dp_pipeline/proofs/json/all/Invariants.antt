use Rattle.std.proofs.Common.{◌≡◌, ◌++◌, drop, map, option_map}
use Rattle.serde_json.specs.View.{view}
use Rattle.dp_pipeline.specs.Json.{all_of}
use Rattle.dp_pipeline.proofs.json.all.Given as goal

abbrev pub invariant-loop-value : goal.invariant-loop-value
invariant-loop-value g l =
    all_of (g.T.FromJson.form l.columns) (map view l.values)
    ≡ option_map (λ rest. l.items.items ++ rest) (all_of (g.T.FromJson.form l.columns) (map view (drop l.value-index l.values)))
