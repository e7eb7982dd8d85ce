-- Counting the elements of a list.
use Rattle.std.specs.Prelude.{pos, ◌^◌, ◌&&◌, Bool, true, false, Result, Err, length, if◌then◌else◌}
use Rattle.dp_num.specs.Limits.{capped}
use Rattle.dp_domain.specs.declared.domains.Domain.{Domain}
use Rattle.dp_domain.specs.declared.domains.Domain.TheVariants as domain
use Rattle.dp_domain.specs.declared.metrics.Metric.{Metric}
use Rattle.dp_domain.specs.declared.metrics.Metric.TheVariants as metrics
use Rattle.dp_domain.specs.declared.values.Value.{Value}
use Rattle.dp_domain.specs.declared.values.Value.TheVariants as value
use Rattle.dp_law.specs.declared.refusals.Refused.{Refused}
use Rattle.dp_law.specs.declared.refusals.Refused.TheVariants as refused
use Rattle.dp_law.specs.Mapping.{Mapping}
use Rattle.dp_law.specs.Making.{tested, is_symmetric, is_unsized}

-- the domain's values are lists
abbrev pub has_lists : Domain → Bool
has_lists (domain.Rows columns) = true
has_lists domain.Texts = true
has_lists (domain.OptInts lo hi) = true
has_lists (domain.Ints lo hi size) = true
has_lists (domain.Cats n size) = true
has_lists _ = false

-- the domain's values are lists, and no size is given
abbrev pub has_unsized_lists : Domain → Bool
has_unsized_lists (domain.Rows columns) = true
has_unsized_lists domain.Texts = true
has_unsized_lists (domain.OptInts lo hi) = true
has_unsized_lists (domain.Ints lo hi size) = is_unsized size
has_unsized_lists (domain.Cats n size) = is_unsized size
has_unsized_lists _ = false

-- the length of a list
abbrev pub count_value : Value → Value
count_value (value.Rows rows) = value.Int (pos (length rows))
count_value (value.Texts texts) = value.Int (pos (length texts))
count_value (value.OptInts xs) = value.Int (pos (length xs))
count_value (value.Ints xs) = value.Int (pos (length xs))
count_value (value.Cats xs) = value.Int (pos (length xs))
count_value v = v

-- lists without a size to their lengths
abbrev pub count_mapping : Domain → Mapping
count_mapping lists = record {
  input_domain = lists;
  input_metric = metrics.Symmetric;
  output_domain = domain.Int (pos 0) (pos (2 ^ 30));
  output_metric = metrics.Absolute;
  function = count_value;
  stability_map = capped;
}

-- what counting is on a domain and a metric
abbrev pub count_from : Domain → Metric → Result Mapping Refused
count_from lists metric =
    if has_lists lists then tested (has_unsized_lists lists && is_symmetric metric) true (count_mapping lists)
    else Err refused.Kind
