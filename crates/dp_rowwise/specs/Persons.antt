-- The order in which places are put so that those of a person stand together.
use Rattle.std.specs.Prelude.{ℕ, List}
use Rattle.std.specs.Ordering.{nat_cmp, ordering_then}
use Rattle.std.specs.declared.cmp.Ordering.{Ordering}
use Rattle.dp_domain.specs.Users.{cell}
use Rattle.dp_rowwise.specs.Truncate.{text_cmp, record_cmp, record_at}

-- two places by their cells in the column, and then by their records
abbrev pub person_cmp : ℕ → List (List (List ℕ)) → ℕ → ℕ → Ordering
person_cmp column rows i j =
    ordering_then (text_cmp (cell column (record_at rows i)) (cell column (record_at rows j)))
    (record_cmp (record_at rows i) (record_at rows j))

-- and places of equal records by themselves
abbrev pub place_cmp : ℕ → List (List (List ℕ)) → ℕ → ℕ → Ordering
place_cmp column rows i j = ordering_then (person_cmp column rows i j) (nat_cmp i j)
