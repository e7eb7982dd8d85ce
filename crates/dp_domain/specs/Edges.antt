-- Strictly rising edges, and how many of them are at most a number.
use Rattle.std.specs.Prelude.{ℕ, ℤ, ◌&&◌, Bool, true, List, [], ◌∷◌, length, count_by, int_le, int_lt}
use Rattle.std.specs.List.{list_all}
use Rattle.dp_domain.specs.Domains.{few_and_one}
use Rattle.dp_domain.specs.Ranges.{is_within}

-- how many edges are at most the number
abbrev pub edges_at_most : List ℤ → ℤ → ℕ
edges_at_most edges z = count_by (λ edge. int_le edge z) edges

-- each edge is below those after it
abbrev pub is_rising : List ℤ → Bool
is_rising [] = true
is_rising (edge ∷ edges) = list_all (int_lt edge) edges && is_rising edges

-- 1 to 1,023 strictly rising edges, each from -limit to limit
abbrev pub are_edges : ℤ → List ℤ → Bool
are_edges limit edges = few_and_one (length edges) && list_all (is_within limit) edges && is_rising edges
