-- What a measurement keeps of records in another order and of several steps, and that one measurement on each group of
-- records is private at the loss of one group.
use Rattle.std.specs.Prelude.{◌≡◌, ℕ, ◌*◌, ◌^◌, ◌≤◌, List, ◌∷◌, length, take, drop, Some, IsPermutation, true}
use Rattle.dp_count.specs.Ratios.{KeepsRatio}
use Rattle.dp_domain.specs.Distance.{diff, record_eq}
use Rattle.dp_domain.specs.Domains.{Has}
use Rattle.dp_domain.specs.declared.metrics.Metric.TheVariants as metrics
use Rattle.dp_domain.specs.declared.values.Value.{Value}
use Rattle.dp_domain.specs.declared.values.Value.TheVariants as value
use Rattle.dp_law.specs.declared.pieces.Piece.{Piece}
use Rattle.dp_law.specs.Mechanism.{Mechanism, IsPrivate, ways}
use Rattle.dp_rowwise.specs.Filter.{filter_value}
use Rattle.dp_group.specs.Grouped.{TakesColumn, grouped, are_group_texts}

-- records, each a list of cells, and each cell a list of bytes
abbrev pub Records : Type 0
Records = List (List (List ℕ))

-- the numbers of draw lists that give an answer on two values keep the measurement's ratio at k
abbrev pub AreNear : Mechanism → ℕ → List Piece → Value → Value → Type 0
AreNear m k answer v w = KeepsRatio m.ratio.p m.ratio.q k (ways m v answer) (ways m w answer)

-- a private measurement by the number of records, with no loss at the distance 0
pub record IsOfRecords (m : Mechanism) : Type 0 where
  pub private : IsPrivate m
  pub symmetric : m.input_metric ≡ metrics.Symmetric
  pub nothing_at_0 : m.privacy_map 0 ≡ Some 0

-- as many draw lists give an answer on records in another order
abbrev pub OrderLaw : Type 0
OrderLaw =
    (m : Mechanism) (xs ys : Records) (answer : List Piece) → IsOfRecords m
    → Has m.input_domain (value.Rows xs) → IsPermutation xs ys
    → ways m (value.Rows xs) answer ≡ ways m (value.Rows ys) answer

-- between records at any distance the loss is at most the distance times the loss at 1
abbrev pub StepsLaw : Type 0
StepsLaw =
    (m : Mechanism) (once : ℕ) (xs ys : Records) (answer : List Piece) → IsOfRecords m
    → m.privacy_map 1 ≡ Some once → Has m.input_domain (value.Rows xs) → Has m.input_domain (value.Rows ys)
    → AreNear m (diff record_eq xs ys * once) answer (value.Rows xs) (value.Rows ys)

-- the draw lists of a grouped answer: those of the first text's group that give the first pieces, times those of the
-- other texts' groups that give the other pieces
abbrev pub GroupedWaysLaw : Type 0
GroupedWaysLaw =
    (column : ℕ) (text : List ℕ) (texts : List (List ℕ)) (m : Mechanism) (v : Value) (answer : List Piece)
    → IsPrivate m → Has m.input_domain (filter_value column text v)
    → ways (grouped column (text ∷ texts) m) v answer
    ≡ ways m (filter_value column text v) (take m.pieces answer)
    * ways (grouped column texts m) v (drop m.pieces answer)

-- such a measurement on the group of each text is private, with the loss of one group
abbrev pub GroupedPrivateLaw : Type 0
GroupedPrivateLaw =
    (column : ℕ) (texts : List (List ℕ)) (m : Mechanism) → IsOfRecords m → TakesColumn m column
    → length m.shape ≤ 2 ^ 20 → m.pieces ≤ 2 ^ 20 → are_group_texts texts ≡ true
    → IsPrivate (grouped column texts m)
