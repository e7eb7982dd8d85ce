-- How far two lists of records are from each other, in records or in persons.
use Rattle.std.specs.Prelude.{ℕ, Bool, List, [], ◌++◌, Option, Some, None, map, filter, count_by, nat_lt, slice_index_or}
use Rattle.dp_domain.specs.Distance.{distinct, diff, text_eq, record_eq}
use Rattle.dp_domain.specs.declared.metrics.Metric.{Metric}
use Rattle.dp_domain.specs.declared.metrics.Metric.TheVariants as metrics

-- the elements that have the key, in order
abbrev pub group : {E K : Type 0} → (K → K → Bool) → (E → K) → K → List E → List E
group same_key key k xs = filter (λ x. same_key (key x) k) xs

-- how many keys of the two lists have groups that differ
unfoldable pub groups_apart : {E K : Type 0} → (K → K → Bool) → (E → K) → (E → E → Bool) → List E → List E → ℕ
groups_apart same_key key same xs ys =
    count_by (λ k. nat_lt 0 (diff same (group same_key key k xs) (group same_key key k ys)))
    (distinct same_key (map key (xs ++ ys)))

-- the cell of a record in a column, from 0
abbrev pub cell : ℕ → List (List ℕ) → List ℕ
cell column cells = slice_index_or cells column []

-- how many persons' records differ, where the texts in the column name the persons
abbrev pub users_apart : ℕ → List (List (List ℕ)) → List (List (List ℕ)) → ℕ
users_apart column xs ys = groups_apart text_eq (cell column) record_eq xs ys

-- the distance of two lists of records: in persons where a column names them, else in records
abbrev pub distance : Option ℕ → List (List (List ℕ)) → List (List (List ℕ)) → ℕ
distance None xs ys = diff record_eq xs ys
distance (Some column) xs ys = users_apart column xs ys

-- the metric of that distance
abbrev pub user_metric : Option ℕ → Metric
user_metric None = metrics.Symmetric
user_metric (Some column) = metrics.Users column
