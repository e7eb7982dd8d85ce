-- Truncated geometric noise on a number, and on each cell of a vector.
use Rattle.std.specs.Prelude.{ℕ, zero, suc, ◌*◌, ℤ, Bool, true, false, List, [], ◌∷◌, ◌++◌, map, Option, Some, None, Result, Ok, Err, if◌then◌else◌}
use Rattle.dp_count.specs.Slots.{Slot, replies}
use Rattle.dp_num.specs.Limits.{Fraction, capped, powers}
use Rattle.dp_domain.specs.declared.domains.Domain.{Domain}
use Rattle.dp_domain.specs.declared.domains.Domain.TheVariants as domain
use Rattle.dp_domain.specs.declared.metrics.Metric.{Metric}
use Rattle.dp_domain.specs.declared.metrics.Metric.TheVariants as metrics
use Rattle.dp_domain.specs.declared.values.Value.{Value}
use Rattle.dp_domain.specs.declared.values.Value.TheVariants as value
use Rattle.dp_domain.specs.Ranges.{is_narrow_range}
use Rattle.dp_law.specs.declared.pieces.Piece.{Piece}
use Rattle.dp_law.specs.declared.pieces.Piece.TheVariants as piece
use Rattle.dp_law.specs.declared.refusals.Refused.{Refused}
use Rattle.dp_law.specs.declared.refusals.Refused.TheVariants as refused
use Rattle.dp_law.specs.Making.{with_powers, is_absolute, is_l1}
use Rattle.dp_law.specs.Mechanism.{Mechanism}
use Rattle.dp_geometric.specs.OneCell.{CellNumbers, cell_shape, cell_out}

-- the shape of so many cells: that of one cell, repeated
unfoldable pub cells_shape : ℕ → CellNumbers → List ℕ
cells_shape zero cell = []
cells_shape (suc n) cell = cell_shape cell ++ cells_shape n cell

-- one cell on a number: its shape, and its answer to draws of that shape
abbrev pub cell_slot : CellNumbers → ℤ → Slot ℤ
cell_slot cell z = record { shape = cell_shape cell; out = cell_out cell z }

-- the answers of one cell on each number in order, each to its own part of the draws
unfoldable pub cells_out : CellNumbers → List ℤ → List ℕ → List ℤ
cells_out cell zs draws = replies (map (cell_slot cell) zs) draws

-- the answer on a value
abbrev pub add_noise : CellNumbers → Value → List ℕ → List Piece
add_noise cell (value.Int z) draws = piece.Int (cell_out cell z draws) ∷ []
add_noise cell (value.IntVec zs) draws = piece.IntVec (cells_out cell zs draws) ∷ []
add_noise cell _ draws = []

-- the domain is one of numbers, or of vectors of numbers
abbrev pub is_numeric : Domain → Bool
is_numeric (domain.Int least most) = true
is_numeric (domain.IntVec len least most) = true
is_numeric _ = false

-- the metric of such a domain
abbrev pub numeric_metric : Domain → Metric
numeric_metric (domain.IntVec len least most) = metrics.L1
numeric_metric _ = metrics.Absolute

-- the shape on such a domain: one cell, or as many as a vector has
abbrev pub noise_shape : Domain → CellNumbers → List ℕ
noise_shape (domain.IntVec len least most) cell = cells_shape len cell
noise_shape _ cell = cell_shape cell

-- u units of loss for each step of distance; the cell's low and high are the ratio's numbers to the power u
abbrev pub geometric : Domain → Fraction → ℕ → CellNumbers → Mechanism
geometric input ratio u cell = record {
  input_domain = input;
  input_metric = numeric_metric input;
  ratio = ratio;
  shape = noise_shape input cell;
  function = add_noise cell;
  pieces = 1;
  privacy_map = λ d. capped (u * d);
}

-- the bounds of the answers are in range
abbrev pub geometric_if : Domain → Fraction → ℕ → CellNumbers → Result Mechanism Refused
geometric_if input ratio u cell = if is_narrow_range cell.lo cell.hi
    then Ok (geometric input ratio u cell)
    else Err refused.Bound

-- the refusal by the domain's kind and the metric, if there is one
abbrev pub kind_refusal : Domain → Metric → Option Refused
kind_refusal (domain.Int least most) metric = if is_absolute metric then None else Some refused.Metric
kind_refusal (domain.IntVec len least most) metric = if is_l1 metric then None else Some refused.Metric
kind_refusal _ metric = Some refused.Kind

-- the kind and the metric are not refused, and the powers are there
abbrev pub geometric_unless : Option Refused → Domain → Fraction → ℕ → ℤ → ℤ → Result Mechanism Refused
geometric_unless (Some refusal) input ratio u lo hi = Err refusal
geometric_unless None input ratio u lo hi = with_powers (powers ratio.p ratio.q u)
    (λ both. geometric_if input ratio u (record { lo = lo; hi = hi; low = both.0; high = both.1 }))

-- what geometric noise is on a domain and a metric
abbrev pub geometric_from : Fraction → ℕ → ℤ → ℤ → Domain → Metric → Result Mechanism Refused
geometric_from ratio u lo hi input metric = geometric_unless (kind_refusal input metric) input ratio u lo hi
