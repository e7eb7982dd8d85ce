-- Selecting a column of records.
use Rattle.std.specs.Prelude.{ℕ, Result, Err, map, nat_lt}
use Rattle.dp_num.specs.Limits.{capped}
use Rattle.dp_domain.specs.declared.domains.Domain.{Domain}
use Rattle.dp_domain.specs.declared.domains.Domain.TheVariants as domain
use Rattle.dp_domain.specs.declared.metrics.Metric.{Metric}
use Rattle.dp_domain.specs.declared.metrics.Metric.TheVariants as metrics
use Rattle.dp_domain.specs.declared.values.Value.{Value}
use Rattle.dp_domain.specs.declared.values.Value.TheVariants as value
use Rattle.dp_law.specs.declared.refusals.Refused.{Refused}
use Rattle.dp_law.specs.declared.refusals.Refused.TheVariants as refused
use Rattle.dp_law.specs.Mapping.{Mapping}
use Rattle.dp_law.specs.Making.{tested, is_symmetric}
use Rattle.dp_domain.specs.Users.{cell}

-- the cell in the column of each record
abbrev pub select_value : ℕ → Value → Value
select_value column (value.Rows rows) = value.Texts (map (cell column) rows)
select_value column v = v

-- from records of so many cells to texts
abbrev pub select_mapping : ℕ → ℕ → Mapping
select_mapping column columns = record {
  input_domain = domain.Rows columns;
  input_metric = metrics.Symmetric;
  output_domain = domain.Texts;
  output_metric = metrics.Symmetric;
  function = select_value column;
  stability_map = capped;
}

-- what selecting is on a domain and a metric
abbrev pub select_from : ℕ → Domain → Metric → Result Mapping Refused
select_from column (domain.Rows columns) metric =
    tested (is_symmetric metric) (nat_lt column columns) (select_mapping column columns)
select_from column _ metric = Err refused.Kind
