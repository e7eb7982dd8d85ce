-- JSON values, item by item.
use Rattle.std.proofs.Common.{◌≡◌, List, [], ◌∷◌, map, refl, ap}
use Rattle.serde_json.specs.View.{view, items_view}
use Rattle.serde_json.specs.declared.value.Value.{Value}
use Rattle.dp_pipeline.specs.Json.{items_of}

pub items-view : (values : List Value) → items_of (items_view values) ≡ map view values
items-view [] = refl
items-view (value ∷ values) = ap (λ rest. view value ∷ rest) (items-view values)
