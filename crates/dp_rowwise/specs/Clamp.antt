-- Clamping the numbers of a list.
use Rattle.std.specs.Prelude.{ℕ, ℤ, Option, Result, Err, map}
use Rattle.dp_num.specs.Limits.{capped}
use Rattle.dp_domain.specs.Domains.{item_limit}
use Rattle.dp_domain.specs.Ranges.{is_range, clamped}
use Rattle.dp_domain.specs.declared.domains.Domain.{Domain}
use Rattle.dp_domain.specs.declared.domains.Domain.TheVariants as domain
use Rattle.dp_domain.specs.declared.metrics.Metric.{Metric}
use Rattle.dp_domain.specs.declared.values.Value.{Value}
use Rattle.dp_domain.specs.declared.values.Value.TheVariants as value
use Rattle.dp_law.specs.declared.refusals.Refused.{Refused}
use Rattle.dp_law.specs.declared.refusals.Refused.TheVariants as refused
use Rattle.dp_law.specs.Mapping.{Mapping}
use Rattle.dp_law.specs.Making.{tested, list_metric, is_list_metric}

-- each number clamped
abbrev pub clamp_value : ℤ → ℤ → Value → Value
clamp_value lo hi (value.Ints xs) = value.Ints (map (clamped lo hi) xs)
clamp_value lo hi v = v

-- numbers from from_lo to from_hi to numbers from lo to hi, of the same size by the same metric
abbrev pub clamp_mapping : ℤ → ℤ → ℤ → ℤ → Option ℕ → Mapping
clamp_mapping lo hi from_lo from_hi size = record {
  input_domain = domain.Ints from_lo from_hi size;
  input_metric = list_metric size;
  output_domain = domain.Ints lo hi size;
  output_metric = list_metric size;
  function = clamp_value lo hi;
  stability_map = capped;
}

-- what clamping is on a domain and a metric
abbrev pub clamp_from : ℤ → ℤ → Domain → Metric → Result Mapping Refused
clamp_from lo hi (domain.Ints from_lo from_hi size) metric =
    tested (is_list_metric size metric) (is_range item_limit lo hi) (clamp_mapping lo hi from_lo from_hi size)
clamp_from lo hi _ metric = Err refused.Kind
