-- One measurement on each group of records, where a group is the records that have one text in a column.
use Rattle.std.specs.Prelude.{ℕ, ◌*◌, ◌==◌, ◌&&◌, Bool, true, List, [], ◌∷◌, ◌++◌, map, length, take, drop, Option, Some, Result, Err, if◌then◌else◌, nat_lt, option_and_then}
use Rattle.std.specs.List.{repeat}
use Rattle.dp_num.specs.Limits.{capped}
use Rattle.dp_domain.specs.Domains.{few_and_one}
use Rattle.dp_domain.specs.declared.domains.Domain.{Domain}
use Rattle.dp_domain.specs.declared.domains.Domain.TheVariants as domain
use Rattle.dp_domain.specs.declared.metrics.Metric.{Metric}
use Rattle.dp_domain.specs.declared.values.Value.{Value}
use Rattle.dp_law.specs.declared.pieces.Piece.{Piece}
use Rattle.dp_law.specs.declared.refusals.Refused.{Refused}
use Rattle.dp_law.specs.declared.refusals.Refused.TheVariants as refused
use Rattle.dp_law.specs.Making.{tested, is_symmetric}
use Rattle.dp_law.specs.Mechanism.{Mechanism}
use Rattle.dp_rowwise.specs.Categories.{are_different}
use Rattle.dp_rowwise.specs.Columns.{HasColumn}
use Rattle.dp_rowwise.specs.Filter.{filter_value}

-- the measurement takes records that have the column, counted from 0
abbrev pub TakesColumn : Mechanism → ℕ → Type 0
TakesColumn m column = HasColumn m.input_domain column

-- for each text the records whose cell in the column is the text, in order; records of no text are in no group
abbrev pub groups_of : ℕ → List (List ℕ) → Value → List Value
groups_of column texts v = map (λ text. filter_value column text v) texts

-- the answers on several values one after the other, each on its own part of the draws
unfoldable pub answers_on : Mechanism → List Value → List ℕ → List Piece
answers_on m [] draws = []
answers_on m (v ∷ values) draws =
    m.function v (take (length m.shape) draws) ++ answers_on m values (drop (length m.shape) draws)

-- nothing at the distance 0, and else the distance times the loss at 1, where that is a number and the product is at
-- most 2 ^ 32
abbrev pub grouped_loss : (ℕ → Option ℕ) → ℕ → Option ℕ
grouped_loss loss d = if d == 0 then Some 0 else option_and_then (λ once. capped (d * once)) (loss 1)

-- the measurement on the group of each text, at the loss of one group
abbrev pub grouped : ℕ → List (List ℕ) → Mechanism → Mechanism
grouped column texts m = record {
  input_domain = m.input_domain;
  input_metric = m.input_metric;
  ratio = m.ratio;
  shape = repeat (length texts) m.shape;
  function = λ v draws. answers_on m (groups_of column texts v) draws;
  pieces = length texts * m.pieces;
  privacy_map = grouped_loss m.privacy_map;
}

-- 1 to 1,023 texts, no two of them equal
abbrev pub are_group_texts : List (List ℕ) → Bool
are_group_texts texts = few_and_one (length texts) && are_different texts

-- the texts, where they may be those of groups
abbrev pub group_texts : List (List ℕ) → Result (List (List ℕ)) Refused
group_texts texts = tested true (are_group_texts texts) texts

-- what the measurement by groups is on the measurement's input
abbrev pub grouped_from : ℕ → List (List ℕ) → Mechanism → Domain → Metric → Result Mechanism Refused
grouped_from column texts m (domain.Rows columns) metric =
    tested (is_symmetric metric) (nat_lt column columns && are_group_texts texts) (grouped column texts m)
grouped_from column texts m _ metric = Err refused.Kind

abbrev pub grouped_on : ℕ → List (List ℕ) → Mechanism → Result Mechanism Refused
grouped_on column texts m = grouped_from column texts m m.input_domain m.input_metric
