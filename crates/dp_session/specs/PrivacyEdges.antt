-- A pipeline at which the ratio is met with nothing to spare.
use Rattle.std.specs.Prelude.{◌≡◌, ℕ, ◌*◌, ◌^◌, pos, ℤ, false, List, [], ◌∷◌, Some, None, codes}
use Rattle.dp_budget.specs.declared.budget.Rule.TheVariants as rule
use Rattle.dp_chain.specs.declared.noise.Noise.TheVariants as noise
use Rattle.dp_chain.specs.declared.stage.Stage.TheVariants as stage
use Rattle.dp_count.specs.Ratios.{KeepsRatio}
use Rattle.dp_domain.specs.declared.values.Value.TheVariants as value
use Rattle.dp_domain.specs.Users.{distance}
use Rattle.dp_law.specs.declared.pieces.Piece.TheVariants as piece
use Rattle.dp_pipeline.specs.declared.content.Content.{Content}
use Rattle.dp_pipeline.specs.declared.query.Query.TheVariants as query
use Rattle.dp_pipeline.specs.Queries.{query_of}
use Rattle.dp_pipeline.specs.StageForms.{SpecValue}
use Rattle.dp_session.specs.Runs.{Reply, Answered, run_ways}
use Rattle.dp_session.specs.Verdicts.{units}

-- one column, the ratio 1 / 2, and a root that admits 10 units at the distance 1
abbrev pub counting : Content
counting = record {
  version = 1;
  columns = codes "a" ∷ [];
  header = false;
  p = 1;
  q = 2;
  distance = 1;
  root = rule.Filter 10;
  plans = [];
  user = None;
  siblings = None;
}

-- whether there is a record, with noise that loses 1 unit
abbrev pub counted : SpecValue
counted = record {
  parts = record { stages = stage.Count ∷ []; noise = noise.Geometric 1 (pos 0) (pos 1) } ∷ [];
  is_all = false;
}

-- a data set of one record
abbrev pub one_record : List (List (List ℕ))
one_record = (codes "x" ∷ []) ∷ []

-- that the answer is a number
abbrev pub answered : ℤ → Reply
answered z = Answered (piece.Int z ∷ [])

-- how many draw lists of one line give the replies, on no record and on one
abbrev pub none_ways : List ℕ → List Reply → ℕ
none_ways line wanted = run_ways counting (value.Rows []) (line ∷ []) wanted

abbrev pub one_ways : List ℕ → List Reply → ℕ
one_ways line wanted = run_ways counting (value.Rows one_record) (line ∷ []) wanted

-- one line that asks so costs 1 unit. Of its 6 draw lists 4 give the answer 0 on no record, and 2 on one record, which
-- are at the distance 1: the ratio is met with nothing to spare, and refused at no unit. No draw list gives two replies
abbrev pub EdgeLaw : Type 0
EdgeLaw = (line : List ℕ) → query_of counting line ≡ Some (query.Ask 0 counted)
    → (units counting (line ∷ []) ≡ 1) × (distance None [] one_record ≡ 1)
    × (none_ways line (answered (pos 0) ∷ []) ≡ 4) × (one_ways line (answered (pos 0) ∷ []) ≡ 2)
    × (none_ways line (answered (pos 0) ∷ []) * 1 ^ 1 ≡ 2 ^ 1 * one_ways line (answered (pos 0) ∷ []))
    × ¬ KeepsRatio 1 2 0 (none_ways line (answered (pos 0) ∷ [])) (one_ways line (answered (pos 0) ∷ []))
    × (none_ways line (answered (pos 0) ∷ answered (pos 0) ∷ []) ≡ 0)
