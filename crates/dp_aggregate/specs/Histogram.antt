-- Counting the elements of each category.
use Rattle.std.specs.Prelude.{ℕ, ℤ, pos, ◌*◌, ◌^◌, true, List, map, Option, Some, None, Result, Err, nat_eq}
use Rattle.std.specs.List.{range_with_len}
use Rattle.dp_num.specs.Limits.{capped}
use Rattle.dp_domain.specs.declared.domains.Domain.{Domain}
use Rattle.dp_domain.specs.declared.domains.Domain.TheVariants as domain
use Rattle.dp_domain.specs.declared.metrics.Metric.{Metric}
use Rattle.dp_domain.specs.declared.metrics.Metric.TheVariants as metrics
use Rattle.dp_domain.specs.declared.values.Value.{Value}
use Rattle.dp_domain.specs.declared.values.Value.TheVariants as value
use Rattle.dp_domain.specs.Distance.{occurrences}
use Rattle.dp_law.specs.declared.refusals.Refused.{Refused}
use Rattle.dp_law.specs.declared.refusals.Refused.TheVariants as refused
use Rattle.dp_law.specs.Mapping.{Mapping}
use Rattle.dp_law.specs.Making.{tested, list_metric, is_list_metric}

-- for each category below n, how many elements have it
unfoldable pub histogram : ℕ → List ℕ → List ℤ
histogram n xs = map (λ category. pos (occurrences nat_eq xs category)) (range_with_len 0 n)

-- the histogram of a list of categories
abbrev pub histogram_value : ℕ → Value → Value
histogram_value n (value.Cats xs) = value.IntVec (histogram n xs)
histogram_value n v = v

-- the most elements of one category: the size, where one is given, and else 2 ^ 30
abbrev pub histogram_most : Option ℕ → ℕ
histogram_most None = 2 ^ 30
histogram_most (Some size) = size

-- an element that comes or goes counts once, and one that is changed twice
abbrev pub histogram_factor : Option ℕ → ℕ
histogram_factor None = 1
histogram_factor (Some size) = 2

-- categories below n to their histogram
abbrev pub histogram_mapping : ℕ → Option ℕ → Mapping
histogram_mapping n size = record {
  input_domain = domain.Cats n size;
  input_metric = list_metric size;
  output_domain = domain.IntVec n (pos 0) (pos (histogram_most size));
  output_metric = metrics.L1;
  function = histogram_value n;
  stability_map = λ d. capped (histogram_factor size * d);
}

-- what a histogram is on a domain and a metric
abbrev pub histogram_from : Domain → Metric → Result Mapping Refused
histogram_from (domain.Cats n size) metric = tested (is_list_metric size metric) true (histogram_mapping n size)
histogram_from _ metric = Err refused.Kind
