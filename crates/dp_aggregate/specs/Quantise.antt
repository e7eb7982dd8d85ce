-- Rounding a number down to steps.
use Rattle.std.specs.Prelude.{ℕ, ℤ, pos, ◌^◌, ◌&&◌, Bool, Result, Err, nat_le}
use Rattle.std.specs.Int.{int_div_euclid, div_ceil}
use Rattle.dp_num.specs.Limits.{capped}
use Rattle.dp_domain.specs.declared.domains.Domain.{Domain}
use Rattle.dp_domain.specs.declared.domains.Domain.TheVariants as domain
use Rattle.dp_domain.specs.declared.metrics.Metric.{Metric}
use Rattle.dp_domain.specs.declared.metrics.Metric.TheVariants as metrics
use Rattle.dp_domain.specs.declared.values.Value.{Value}
use Rattle.dp_domain.specs.declared.values.Value.TheVariants as value
use Rattle.dp_law.specs.declared.refusals.Refused.{Refused}
use Rattle.dp_law.specs.declared.refusals.Refused.TheVariants as refused
use Rattle.dp_law.specs.Mapping.{Mapping}
use Rattle.dp_law.specs.Making.{tested, is_absolute}

-- how many whole steps a number is above 0, rounded down also below 0
abbrev pub quantised : ℕ → ℤ → ℤ
quantised step z = int_div_euclid z (pos step)

-- the number in steps
abbrev pub quantise_value : ℕ → Value → Value
quantise_value step (value.Int z) = value.Int (quantised step z)
quantise_value step v = v

-- a step is from 1 to 2 ^ 31
abbrev pub is_step : ℕ → Bool
is_step step = nat_le 1 step && nat_le step (2 ^ 31)

-- a number from lo to hi to that number in steps
abbrev pub quantise_mapping : ℤ → ℤ → ℕ → Mapping
quantise_mapping lo hi step = record {
  input_domain = domain.Int lo hi;
  input_metric = metrics.Absolute;
  output_domain = domain.Int (quantised step lo) (quantised step hi);
  output_metric = metrics.Absolute;
  function = quantise_value step;
  stability_map = λ d. capped (div_ceil d step);
}

-- what quantising is on a domain and a metric
abbrev pub quantise_from : ℕ → Domain → Metric → Result Mapping Refused
quantise_from step (domain.Int lo hi) metric = tested (is_absolute metric) (is_step step) (quantise_mapping lo hi step)
quantise_from step _ metric = Err refused.Kind
