-- Keeping few records of each person.
use Rattle.std.specs.Prelude.{◌≡◌, ℕ, ◌*◌, ◌^◌, ◌&&◌, ◌||◌, Bool, List, [], Result, Err, map, filter, length, count_by, nat_lt, nat_le, slice_index_or}
use Rattle.std.specs.List.{range_with_len}
use Rattle.std.specs.Ordering.{nat_cmp, is_lt}
use Rattle.std.specs.declared.cmp.Ordering.{Ordering}
use Rattle.std.specs.Cmp.Lexicographic.{slice_cmp}
use Rattle.dp_domain.specs.Distance.{text_eq, record_eq}
use Rattle.dp_domain.specs.Users.{cell}
use Rattle.dp_num.specs.Limits.{capped}
use Rattle.dp_domain.specs.declared.domains.Domain.{Domain}
use Rattle.dp_domain.specs.declared.domains.Domain.TheVariants as domain
use Rattle.dp_domain.specs.declared.metrics.Metric.{Metric}
use Rattle.dp_domain.specs.declared.metrics.Metric.TheVariants as metrics
use Rattle.dp_domain.specs.declared.values.Value.{Value}
use Rattle.dp_domain.specs.declared.values.Value.TheVariants as value
use Rattle.dp_law.specs.declared.refusals.Refused.{Refused}
use Rattle.dp_law.specs.declared.refusals.Refused.TheVariants as refused
use Rattle.dp_law.specs.Mapping.{Mapping}
use Rattle.dp_law.specs.Making.{tested}

-- texts compare by their bytes
abbrev pub text_cmp : List ℕ → List ℕ → Ordering
text_cmp = slice_cmp nat_cmp

-- records compare by their cells
abbrev pub record_cmp : List (List ℕ) → List (List ℕ) → Ordering
record_cmp = slice_cmp text_cmp

-- the places of a list, from 0
abbrev pub places : {E : Type 0} → List E → List ℕ
places xs = range_with_len 0 (length xs)

-- the record at a place
abbrev pub record_at : List (List (List ℕ)) → ℕ → List (List ℕ)
record_at rows place = slice_index_or rows place []

-- the records at two places have the same cell in the column
abbrev pub same_person : ℕ → List (List (List ℕ)) → ℕ → ℕ → Bool
same_person column rows j i = text_eq (cell column (record_at rows j)) (cell column (record_at rows i))

-- the record at place j is less than that at place i, or it is equal to it and stands before it
abbrev pub ranks_before : List (List (List ℕ)) → ℕ → ℕ → Bool
ranks_before rows j i =
    is_lt (record_cmp (record_at rows j) (record_at rows i)) ||
    (record_eq (record_at rows j) (record_at rows i) && nat_lt j i)

-- how many places of the same person rank before a place
unfoldable pub rank : ℕ → List (List (List ℕ)) → ℕ → ℕ
rank column rows i = count_by (λ j. same_person column rows j i && ranks_before rows j i) (places rows)

-- the places that fewer than so many of the same person rank before, in order
unfoldable pub kept_places : ℕ → ℕ → List (List (List ℕ)) → List ℕ
kept_places column most rows = filter (λ i. nat_lt (rank column rows i) most) (places rows)

-- the records at those places
abbrev pub truncated : ℕ → ℕ → List (List (List ℕ)) → List (List (List ℕ))
truncated column most rows = map (record_at rows) (kept_places column most rows)

-- at most so many records of each person, the least ones, in order
abbrev pub truncate_value : ℕ → ℕ → Value → Value
truncate_value column most (value.Rows rows) = value.Rows (truncated column most rows)
truncate_value column most v = v

-- 1 to 2 ^ 20
abbrev pub is_most : ℕ → Bool
is_most most = nat_le 1 most && nat_le most (2 ^ 20)

-- from records by persons to records: a person that differs changes at most 2 * most of the records that stay
abbrev pub truncate_mapping : ℕ → ℕ → ℕ → Mapping
truncate_mapping column most columns = record {
  input_domain = domain.Rows columns;
  input_metric = metrics.Users column;
  output_domain = domain.Rows columns;
  output_metric = metrics.Symmetric;
  function = truncate_value column most;
  stability_map = λ d. capped (2 * most * d);
}

-- the meaning is that of truncating to at most so many records of each person, by some column
abbrev pub Truncates : ℕ → Mapping → Type 0
Truncates most meaning = (column : ℕ) × (columns : ℕ) × (meaning ≡ truncate_mapping column most columns)

-- what truncating is on a domain and a metric
abbrev pub truncate_from : ℕ → Domain → Metric → Result Mapping Refused
truncate_from most (domain.Rows columns) (metrics.Users column) =
    tested (nat_lt column columns) (is_most most) (truncate_mapping column most columns)
truncate_from most (domain.Rows columns) _ = Err refused.Metric
truncate_from most _ _ = Err refused.Kind
