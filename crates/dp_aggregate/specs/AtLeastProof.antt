-- Telling which edges a number reaches is stable.
use Rattle.std.proofs.Common.{◌≡◌, ℕ, ◌+◌, min, ℤ, List, length, Some, Option, inl, inr, ap, arith}
use Rattle.std.specs.Prelude.{int_le}
use Rattle.std.proofs.lemmas.Bool.{cases_lt}
use Rattle.std.proofs.lemmas.List.Sums.{count_by-le-length}
use Rattle.dp_domain.specs.declared.domains.Domain.TheVariants as domain
use Rattle.dp_domain.specs.declared.metrics.Metric.TheVariants as metrics
use Rattle.dp_domain.specs.declared.values.Value.{Value}
use Rattle.dp_domain.specs.declared.values.Value.TheVariants as value
use Rattle.dp_domain.specs.Domains.{Fits, Has}
use Rattle.dp_domain.specs.Edges.{edges_at_most}
use Rattle.dp_domain.specs.Metrics.{Within}
use Rattle.dp_domain.proofs.VectorDistance.{same-number}
use Rattle.dp_law.specs.Mapping.{IsStable}
use Rattle.dp_law.proofs.Suits.{both-hold}
use Rattle.dp_aggregate.specs.AtLeast.{at_least_value, at_least_mapping}

at_least_lands : (edges : List ℤ) (lo hi : ℤ) (v : Value) → Has (domain.Int lo hi) v → Has (domain.Cat (length edges + 1)) (at_least_value edges v)
at_least_lands edges lo hi (value.Int z) has = omega (arith, count_by-le-length (λ edge. int_le edge z) edges)
at_least_lands edges lo hi v has = absurd has

at_least_stable : (edges : List ℤ) (d e : ℕ) (v w : Value) → min d 1 ≡ e → Within metrics.Absolute d v w → Within metrics.Discrete e (at_least_value edges v) (at_least_value edges w)
at_least_stable edges d e (value.Int z) (value.Int w) map_is near = elim (cases_lt 0 d) [
  | inl far ↦ inr (omega arith)
  | inr same ↦ inl (ap (edges_at_most edges) (same-number z w (omega arith)))
]
at_least_stable edges d e v w map_is near = absurd near

map-is : (m e : ℕ) → ◌≡◌ {A = Option ℕ} (Some m) (Some e) → m ≡ e
map-is m e h = cc

pub at_least_law : (edges : List ℤ) (lo hi : ℤ) → Fits (domain.Int lo hi) → Fits (domain.Cat (length edges + 1)) → IsStable (at_least_mapping edges lo hi)
at_least_law edges lo hi input output = record {
  input_fits = input;
  output_fits = output;
  suits = both-hold tt tt;
  lands = at_least_lands edges lo hi;
  limited = λ d e map_is. let same = map-is (min d 1) e map_is in omega arith;
  stable = λ d e v w map_is has_v has_w near. at_least_stable edges d e v w (map-is (min d 1) e map_is) near;
}
