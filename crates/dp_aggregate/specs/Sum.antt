-- Adding the numbers of a list.
use Rattle.std.specs.Prelude.{ℕ, ℤ, pos, neg_ℤ, ◌*◌, ◌*ℤ◌, ◌-ℤ◌, ◌^◌, max, nat_abs, true, Option, Some, None, Result, Err}
use Rattle.std.specs.Int.{int_min, int_max}
use Rattle.dp_num.specs.Limits.{capped}
use Rattle.dp_domain.specs.declared.domains.Domain.{Domain}
use Rattle.dp_domain.specs.declared.domains.Domain.TheVariants as domain
use Rattle.dp_domain.specs.declared.metrics.Metric.{Metric}
use Rattle.dp_domain.specs.declared.metrics.Metric.TheVariants as metrics
use Rattle.dp_domain.specs.declared.values.Value.{Value}
use Rattle.dp_domain.specs.declared.values.Value.TheVariants as value
use Rattle.dp_domain.specs.Domains.{item_limit, IsBetween}
use Rattle.dp_domain.specs.Sums.{int_sum}
use Rattle.dp_law.specs.declared.refusals.Refused.{Refused}
use Rattle.dp_law.specs.declared.refusals.Refused.TheVariants as refused
use Rattle.dp_law.specs.Mapping.{Mapping}
use Rattle.dp_law.specs.Making.{tested, list_metric, is_list_metric}

-- a number that a list may have is from -2 ^ 31 to 2 ^ 31
abbrev pub IsItem : ℤ → Type 0
IsItem z = IsBetween (neg_ℤ (pos item_limit)) (pos item_limit) z

-- the sum of a list
abbrev pub sum_value : Value → Value
sum_value (value.Ints xs) = value.Int (int_sum xs)
sum_value v = v

-- the least sum of numbers that are at least lo: of up to 2 ^ 30 numbers, or of as many as the size says
abbrev pub sum_low : ℤ → Option ℕ → ℤ
sum_low lo None = pos (2 ^ 30) *ℤ int_min (pos 0) lo
sum_low lo (Some size) = pos size *ℤ lo

-- the greatest sum of numbers that are at most hi
abbrev pub sum_high : ℤ → Option ℕ → ℤ
sum_high hi None = pos (2 ^ 30) *ℤ int_max (pos 0) hi
sum_high hi (Some size) = pos size *ℤ hi

-- how much a sum changes at most: by the absolute value of an element that comes or goes, and by the range where one
-- is changed
abbrev pub sum_factor : ℤ → ℤ → Option ℕ → ℕ
sum_factor lo hi None = max (nat_abs lo) (nat_abs hi)
sum_factor lo hi (Some size) = nat_abs (hi -ℤ lo)

-- numbers from lo to hi to their sum
abbrev pub sum_mapping : ℤ → ℤ → Option ℕ → Mapping
sum_mapping lo hi size = record {
  input_domain = domain.Ints lo hi size;
  input_metric = list_metric size;
  output_domain = domain.Int (sum_low lo size) (sum_high hi size);
  output_metric = metrics.Absolute;
  function = sum_value;
  stability_map = λ d. capped (d * sum_factor lo hi size);
}

-- what adding is on a domain and a metric
abbrev pub sum_from : Domain → Metric → Result Mapping Refused
sum_from (domain.Ints lo hi size) metric = tested (is_list_metric size metric) true (sum_mapping lo hi size)
sum_from _ metric = Err refused.Kind
