-- Putting numbers into bins.
use Rattle.std.specs.Prelude.{ℕ, ℤ, pos, ◌+◌, List, Option, Result, Err, map, length}
use Rattle.dp_num.specs.Limits.{capped}
use Rattle.dp_domain.specs.Domains.{item_limit}
use Rattle.dp_domain.specs.Edges.{edges_at_most, are_edges}
use Rattle.dp_domain.specs.declared.domains.Domain.{Domain}
use Rattle.dp_domain.specs.declared.domains.Domain.TheVariants as domain
use Rattle.dp_domain.specs.declared.metrics.Metric.{Metric}
use Rattle.dp_domain.specs.declared.values.Value.{Value}
use Rattle.dp_domain.specs.declared.values.Value.TheVariants as value
use Rattle.dp_law.specs.declared.refusals.Refused.{Refused}
use Rattle.dp_law.specs.declared.refusals.Refused.TheVariants as refused
use Rattle.dp_law.specs.Mapping.{Mapping}
use Rattle.dp_law.specs.Making.{tested, list_metric, is_list_metric}

-- the bin of each number
abbrev pub bins_value : List ℤ → Value → Value
bins_value edges (value.Ints xs) = value.Cats (map (edges_at_most edges) xs)
bins_value edges v = v

-- as many bins as there are edges, and one more
abbrev pub bins_domain : List ℤ → Option ℕ → Domain
bins_domain edges size = domain.Cats (length edges + 1) size

-- from numbers to one more bin than there are edges, of the same size by the same metric
abbrev pub bins_mapping : List ℤ → ℤ → ℤ → Option ℕ → Mapping
bins_mapping edges lo hi size = record {
  input_domain = domain.Ints lo hi size;
  input_metric = list_metric size;
  output_domain = bins_domain edges size;
  output_metric = list_metric size;
  function = bins_value edges;
  stability_map = capped;
}

-- what bins are on a domain and a metric
abbrev pub bins_from : List ℤ → Domain → Metric → Result Mapping Refused
bins_from edges (domain.Ints lo hi size) metric =
    tested (is_list_metric size metric) (are_edges (pos item_limit) edges) (bins_mapping edges lo hi size)
bins_from edges _ metric = Err refused.Kind
