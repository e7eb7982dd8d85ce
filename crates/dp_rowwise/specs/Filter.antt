-- Filtering records by the text in a column.
use Rattle.std.specs.Prelude.{ℕ, Bool, true, false, List, Result, Err, filter, nat_lt}
use Rattle.dp_domain.specs.Distance.{text_eq}
use Rattle.dp_domain.specs.Users.{cell}
use Rattle.dp_num.specs.Limits.{capped}
use Rattle.dp_domain.specs.declared.domains.Domain.{Domain}
use Rattle.dp_domain.specs.declared.domains.Domain.TheVariants as domain
use Rattle.dp_domain.specs.declared.metrics.Metric.{Metric}
use Rattle.dp_domain.specs.declared.metrics.Metric.TheVariants as metrics
use Rattle.dp_domain.specs.declared.values.Value.{Value}
use Rattle.dp_domain.specs.declared.values.Value.TheVariants as value
use Rattle.dp_law.specs.declared.refusals.Refused.{Refused}
use Rattle.dp_law.specs.declared.refusals.Refused.TheVariants as refused
use Rattle.dp_law.specs.Mapping.{Mapping}
use Rattle.dp_law.specs.Making.{tested}

-- the records whose cell in the column is the text, in order
abbrev pub filter_value : ℕ → List ℕ → Value → Value
filter_value column text (value.Rows rows) = value.Rows (filter (λ cells. text_eq (cell column cells) text) rows)
filter_value column text v = v

-- the metric is Symmetric, or Users of a column of records of so many cells
abbrev pub compares_rows : ℕ → Metric → Bool
compares_rows columns metrics.Symmetric = true
compares_rows columns (metrics.Users user) = nat_lt user columns
compares_rows columns _ = false

-- from records of so many cells to such records, by the same metric
abbrev pub filter_mapping : ℕ → List ℕ → ℕ → Metric → Mapping
filter_mapping column text columns metric = record {
  input_domain = domain.Rows columns;
  input_metric = metric;
  output_domain = domain.Rows columns;
  output_metric = metric;
  function = filter_value column text;
  stability_map = capped;
}

-- what filtering is on a domain and a metric
abbrev pub filter_from : ℕ → List ℕ → Domain → Metric → Result Mapping Refused
filter_from column text (domain.Rows columns) metric =
    tested (compares_rows columns metric) (nat_lt column columns) (filter_mapping column text columns metric)
filter_from column text _ metric = Err refused.Kind
