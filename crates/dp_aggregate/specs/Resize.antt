-- Cutting and padding a list to a size.
use Rattle.std.specs.Prelude.{ℕ, ℤ, ◌-◌, ◌^◌, ◌&&◌, Bool, cond, List, [], ◌∷◌, ◌++◌, length, take, replicate, Some, None, Result, Err, nat_le, int_le}
use Rattle.dp_num.specs.Limits.{capped}
use Rattle.dp_domain.specs.declared.domains.Domain.{Domain}
use Rattle.dp_domain.specs.declared.domains.Domain.TheVariants as domain
use Rattle.dp_domain.specs.declared.metrics.Metric.{Metric}
use Rattle.dp_domain.specs.declared.metrics.Metric.TheVariants as metrics
use Rattle.dp_domain.specs.declared.values.Value.{Value}
use Rattle.dp_domain.specs.declared.values.Value.TheVariants as value
use Rattle.dp_law.specs.declared.refusals.Refused.{Refused}
use Rattle.dp_law.specs.declared.refusals.Refused.TheVariants as refused
use Rattle.dp_law.specs.Mapping.{Mapping}
use Rattle.dp_law.specs.Making.{tested, is_symmetric, is_unsized}

-- the list with a number before the first one that is not less
abbrev pub put_in : ℤ → List ℤ → List ℤ
put_in z [] = z ∷ []
put_in z (x ∷ xs) = cond (int_le z x) (z ∷ x ∷ xs) (x ∷ put_in z xs)

-- the same numbers in rising order
unfoldable pub in_order : List ℤ → List ℤ
in_order [] = []
in_order (x ∷ xs) = put_in x (in_order xs)

-- the size least numbers in rising order, then fill up to the size
unfoldable pub resized : ℕ → ℤ → List ℤ → List ℤ
resized size fill xs = take size (in_order xs) ++ replicate (size - length xs) fill

-- a list at the size
abbrev pub resize_value : ℕ → ℤ → Value → Value
resize_value size fill (value.Ints xs) = value.Ints (resized size fill xs)
resize_value size fill v = v

-- the size is from 1 to 2 ^ 20, and the fill from lo to hi
abbrev pub can_resize : ℤ → ℤ → ℕ → ℤ → Bool
can_resize lo hi size fill = nat_le 1 size && nat_le size (2 ^ 20) && int_le lo fill && int_le fill hi

-- numbers from lo to hi without a size to as many as the size says
abbrev pub resize_mapping : ℤ → ℤ → ℕ → ℤ → Mapping
resize_mapping lo hi size fill = record {
  input_domain = domain.Ints lo hi None;
  input_metric = metrics.Symmetric;
  output_domain = domain.Ints lo hi (Some size);
  output_metric = metrics.ChangeOne;
  function = resize_value size fill;
  stability_map = capped;
}

-- what resizing is on a domain and a metric
abbrev pub resize_from : ℕ → ℤ → Domain → Metric → Result Mapping Refused
resize_from size fill (domain.Ints lo hi given) metric =
    tested (is_unsized given && is_symmetric metric) (can_resize lo hi size fill) (resize_mapping lo hi size fill)
resize_from size fill _ metric = Err refused.Kind
