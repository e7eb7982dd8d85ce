use Rattle.std.proofs.Common.{◌≡◌, ◌∙◌, List, map, Some, option_map, sym, ap}
use Rattle.serde_json.specs.Data.{Data}
use Rattle.serde_json.specs.Find.{as_array}
use Rattle.serde_json.specs.View.{view, items_view}
use Rattle.serde_json.specs.declared.value.Value.{Value}
use Rattle.dp_pipeline.specs.Json.{items_of, array_of}
use Rattle.dp_pipeline.proofs.Views.{items-view}
use Rattle.dp_pipeline.proofs.json.array.Goals as goal

of-array : (d : Data) (all values : List Value) → values ≡ all → Some (items_view all) ≡ as_array d → Some (map view values) ≡ array_of d
unfolding array_of
of-array d all values same is = ap (λ (vs : List Value). Some (map view vs)) same ∙ sym (ap (option_map items_of) (sym is) ∙ ap Some (items-view all))

pub returns-in-Some : goal.returns-in-Some
returns-in-Some c = of-array (view c.args.value.now) c.in-Some.items.now.items c.as_slice.result.now c.as_slice.ensures.value c.in-Some.ensures
