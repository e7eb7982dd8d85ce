-- Telling which edges a number reaches.
use Rattle.std.specs.Prelude.{ℤ, pos, ◌+◌, min, List, length, Some, Result, Err}
use Rattle.dp_domain.specs.Domains.{number_limit}
use Rattle.dp_domain.specs.Edges.{edges_at_most, are_edges}
use Rattle.dp_domain.specs.declared.domains.Domain.{Domain}
use Rattle.dp_domain.specs.declared.domains.Domain.TheVariants as domain
use Rattle.dp_domain.specs.declared.metrics.Metric.{Metric}
use Rattle.dp_domain.specs.declared.metrics.Metric.TheVariants as metrics
use Rattle.dp_domain.specs.declared.values.Value.{Value}
use Rattle.dp_domain.specs.declared.values.Value.TheVariants as value
use Rattle.dp_law.specs.declared.refusals.Refused.{Refused}
use Rattle.dp_law.specs.declared.refusals.Refused.TheVariants as refused
use Rattle.dp_law.specs.Mapping.{Mapping}
use Rattle.dp_law.specs.Making.{tested, is_absolute}

-- how many edges are at most the number, as a category
abbrev pub at_least_value : List ℤ → Value → Value
at_least_value edges (value.Int z) = value.Cat (edges_at_most edges z)
at_least_value edges v = v

-- a number from lo to hi to one more category than there are edges
abbrev pub at_least_mapping : List ℤ → ℤ → ℤ → Mapping
at_least_mapping edges lo hi = record {
  input_domain = domain.Int lo hi;
  input_metric = metrics.Absolute;
  output_domain = domain.Cat (length edges + 1);
  output_metric = metrics.Discrete;
  function = at_least_value edges;
  stability_map = λ d. Some (min d 1);
}

-- what telling the edges is on a domain and a metric
abbrev pub at_least_from : List ℤ → Domain → Metric → Result Mapping Refused
at_least_from edges (domain.Int lo hi) metric =
    tested (is_absolute metric) (are_edges (pos number_limit) edges) (at_least_mapping edges lo hi)
at_least_from edges _ metric = Err refused.Kind
