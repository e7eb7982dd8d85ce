-- The JSON forms of budgets.
use Rattle.std.specs.Prelude.{ℕ, List, Option, None, if◌then◌else◌, codes}
use Rattle.std.specs.Str.{bytes_eq}
use Rattle.serde_json.specs.Data.{Data}
use Rattle.dp_budget.specs.declared.budget.Rule.{Rule}
use Rattle.dp_budget.specs.declared.budget.Rule.TheVariants as rule
use Rattle.dp_pipeline.specs.Json.{◌>>=◌, array_of, list_of, count_of}
use Rattle.dp_pipeline.specs.StageForms.{bare, one, after_word}

-- the budgets: a line a word
unfoldable pub rule_by : List ℕ → List Data → Option Rule
rule_by word args =
    if bytes_eq word (codes "compositor") then one (list_of count_of) rule.Compositor args
    else if bytes_eq word (codes "filter") then one count_of rule.Filter args
    else if bytes_eq word (codes "odometer") then bare rule.Odometer args
    else None

-- a budget, an array of its word and its arguments
unfoldable pub rule_of : Data → Option Rule
rule_of d = array_of d >>= after_word rule_by
