-- Imputing a number for the missing ones.
use Rattle.std.specs.Prelude.{ℤ, ◌&&◌, Bool, None, Result, Err, map, int_le, unwrap_or}
use Rattle.dp_num.specs.Limits.{capped}
use Rattle.dp_domain.specs.declared.domains.Domain.{Domain}
use Rattle.dp_domain.specs.declared.domains.Domain.TheVariants as domain
use Rattle.dp_domain.specs.declared.metrics.Metric.{Metric}
use Rattle.dp_domain.specs.declared.metrics.Metric.TheVariants as metrics
use Rattle.dp_domain.specs.declared.values.Value.{Value}
use Rattle.dp_domain.specs.declared.values.Value.TheVariants as value
use Rattle.dp_law.specs.declared.refusals.Refused.{Refused}
use Rattle.dp_law.specs.declared.refusals.Refused.TheVariants as refused
use Rattle.dp_law.specs.Mapping.{Mapping}
use Rattle.dp_law.specs.Making.{tested, is_symmetric}

-- the number in the place of each missing one
abbrev pub impute_value : ℤ → Value → Value
impute_value number (value.OptInts xs) = value.Ints (map (λ x. unwrap_or x number) xs)
impute_value number v = v

-- the number is from lo to hi
abbrev pub is_between : ℤ → ℤ → ℤ → Bool
is_between lo hi number = int_le lo number && int_le number hi

-- from numbers, some of them missing, to numbers in the same range
abbrev pub impute_mapping : ℤ → ℤ → ℤ → Mapping
impute_mapping number lo hi = record {
  input_domain = domain.OptInts lo hi;
  input_metric = metrics.Symmetric;
  output_domain = domain.Ints lo hi None;
  output_metric = metrics.Symmetric;
  function = impute_value number;
  stability_map = capped;
}

-- what imputing is on a domain and a metric
abbrev pub impute_from : ℤ → Domain → Metric → Result Mapping Refused
impute_from number (domain.OptInts lo hi) metric =
    tested (is_symmetric metric) (is_between lo hi number) (impute_mapping number lo hi)
impute_from number _ metric = Err refused.Kind
