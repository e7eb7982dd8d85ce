-- Casting texts to numbers.
use Rattle.std.specs.Prelude.{ℕ, ℤ, pos, neg_ℤ, true, List, Option, Result, Err, map, option_and_then}
use Rattle.dp_count.specs.AtMost.{at_most}
use Rattle.dp_count.specs.Digits.{decimal, by_sign}
use Rattle.dp_num.specs.Limits.{capped}
use Rattle.dp_domain.specs.Domains.{item_limit}
use Rattle.dp_domain.specs.declared.domains.Domain.{Domain}
use Rattle.dp_domain.specs.declared.domains.Domain.TheVariants as domain
use Rattle.dp_domain.specs.declared.metrics.Metric.{Metric}
use Rattle.dp_domain.specs.declared.metrics.Metric.TheVariants as metrics
use Rattle.dp_domain.specs.declared.values.Value.{Value}
use Rattle.dp_domain.specs.declared.values.Value.TheVariants as value
use Rattle.dp_law.specs.declared.refusals.Refused.{Refused}
use Rattle.dp_law.specs.declared.refusals.Refused.TheVariants as refused
use Rattle.dp_law.specs.Mapping.{Mapping}
use Rattle.dp_law.specs.Making.{tested, is_symmetric}

-- a number, where it is at most 2 ^ 31
abbrev pub small : Option ℕ → Option ℕ
small number = option_and_then (at_most item_limit) number

-- the number from -2 ^ 31 to 2 ^ 31 that an optional `-` and one or more digits spell
unfoldable pub cast : List ℕ → Option ℤ
cast text = by_sign (λ digits. small (decimal digits)) text

-- each text cast
abbrev pub cast_value : Value → Value
cast_value (value.Texts texts) = value.OptInts (map cast texts)
cast_value v = v

-- from texts to numbers, some of them missing
abbrev pub cast_mapping : Mapping
cast_mapping = record {
  input_domain = domain.Texts;
  input_metric = metrics.Symmetric;
  output_domain = domain.OptInts (neg_ℤ (pos item_limit)) (pos item_limit);
  output_metric = metrics.Symmetric;
  function = cast_value;
  stability_map = capped;
}

-- what casting is on a domain and a metric
abbrev pub cast_from : Domain → Metric → Result Mapping Refused
cast_from domain.Texts metric = tested (is_symmetric metric) true cast_mapping
cast_from _ metric = Err refused.Kind
