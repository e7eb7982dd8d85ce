-- Dropping the missing numbers.
use Rattle.std.specs.Prelude.{ℤ, true, None, Result, Err, filter_map}
use Rattle.dp_num.specs.Limits.{capped}
use Rattle.dp_domain.specs.declared.domains.Domain.{Domain}
use Rattle.dp_domain.specs.declared.domains.Domain.TheVariants as domain
use Rattle.dp_domain.specs.declared.metrics.Metric.{Metric}
use Rattle.dp_domain.specs.declared.metrics.Metric.TheVariants as metrics
use Rattle.dp_domain.specs.declared.values.Value.{Value}
use Rattle.dp_domain.specs.declared.values.Value.TheVariants as value
use Rattle.dp_law.specs.declared.refusals.Refused.{Refused}
use Rattle.dp_law.specs.declared.refusals.Refused.TheVariants as refused
use Rattle.dp_law.specs.Mapping.{Mapping}
use Rattle.dp_law.specs.Making.{tested, is_symmetric}

-- the numbers that are not missing, in order
abbrev pub drop_none_value : Value → Value
drop_none_value (value.OptInts xs) = value.Ints (filter_map (λ x. x) xs)
drop_none_value v = v

-- from numbers, some of them missing, to numbers in the same range
abbrev pub drop_none_mapping : ℤ → ℤ → Mapping
drop_none_mapping lo hi = record {
  input_domain = domain.OptInts lo hi;
  input_metric = metrics.Symmetric;
  output_domain = domain.Ints lo hi None;
  output_metric = metrics.Symmetric;
  function = drop_none_value;
  stability_map = capped;
}

-- what dropping is on a domain and a metric
abbrev pub drop_none_from : Domain → Metric → Result Mapping Refused
drop_none_from (domain.OptInts lo hi) metric = tested (is_symmetric metric) true (drop_none_mapping lo hi)
drop_none_from _ metric = Err refused.Kind
