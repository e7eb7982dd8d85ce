-- The laws of the distance of two lists in any order. `same` is a test that tells elements apart.
use Rattle.std.specs.Prelude.{◌≡◌, ℕ, ◌+◌, ◌*◌, ◌≤◌, max, Bool, ℤ, pos, ◌-ℤ◌, nat_abs, nat_eq, List, map, length, Option, filter, filter_map, Decides, IsPermutation, All}
use Rattle.std.specs.List.{range_with_len}
use Rattle.dp_domain.specs.Distance.{occurrences, Split, apart, diff, l1}
use Rattle.dp_domain.specs.Domains.{IsBetween, Has}
use Rattle.dp_domain.specs.Metrics.{Within, SuitsMetric}
use Rattle.dp_domain.specs.Sums.{int_sum_by}
use Rattle.dp_domain.specs.declared.domains.Domain.{Domain}
use Rattle.dp_domain.specs.declared.metrics.Metric.{Metric}
use Rattle.dp_domain.specs.declared.values.Value.{Value}

-- the test holds of equal elements and of no others
abbrev pub TellsApart : {E : Type 0} → (E → E → Bool) → Type 0
TellsApart {E} same = (x y : E) → Decides (same x y) (x ≡ y)

-- the distance is the same either way round
abbrev pub SymmetricLaw : Type 0 → Type 0
SymmetricLaw E = (same : E → E → Bool) → TellsApart same → (xs ys : List E) → diff same xs ys ≡ diff same ys xs

-- a way round is no shorter
abbrev pub TriangleLaw : Type 0 → Type 0
TriangleLaw E =
    (same : E → E → Bool) → TellsApart same → (xs ys zs : List E)
    → diff same xs zs ≤ diff same xs ys + diff same ys zs

-- order plays no part: a list may be put in another order
abbrev pub ReorderLaw : Type 0 → Type 0
ReorderLaw E =
    (same : E → E → Bool) → TellsApart same → (xs ys zs : List E) → IsPermutation xs ys
    → diff same xs zs ≡ diff same ys zs

-- lists have distance 0 where they are the same in another order, and nowhere else
abbrev pub OrderLaw : Type 0 → Type 0
OrderLaw E =
    (same : E → E → Bool) → TellsApart same → (xs ys : List E)
    → (IsPermutation xs ys → diff same xs ys ≡ 0) × (diff same xs ys ≡ 0 → IsPermutation xs ys)

-- some split leaves as many elements as the distance
abbrev pub SplitLaw : Type 0 → Type 0
SplitLaw E =
    (same : E → E → Bool) → TellsApart same → (xs ys : List E)
    → (s : Split xs ys) × (length s.left + length s.right ≡ diff same xs ys)

-- and no split leaves fewer
abbrev pub LeastSplitLaw : Type 0 → Type 0
LeastSplitLaw E =
    (same : E → E → Bool) → TellsApart same → (xs ys : List E) (s : Split xs ys)
    → diff same xs ys ≤ length s.left + length s.right

-- a map of each element to at most one element does not raise the distance
abbrev pub FilterMapLaw : Type 0 → Type 0 → Type 0
FilterMapLaw E F = (same : E → E → Bool) → TellsApart same → (other : F → F → Bool) → TellsApart other
    → (f : E → Option F) (xs ys : List E) → diff other (filter_map f xs) (filter_map f ys) ≤ diff same xs ys

-- nor does a map
abbrev pub MapLaw : Type 0 → Type 0 → Type 0
MapLaw E F = (same : E → E → Bool) → TellsApart same → (other : F → F → Bool) → TellsApart other
    → (f : E → F) (xs ys : List E) → diff other (map f xs) (map f ys) ≤ diff same xs ys

-- nor does a filter
abbrev pub FilterLaw : Type 0 → Type 0
FilterLaw E =
    (same : E → E → Bool) → TellsApart same → (p : E → Bool) (xs ys : List E)
    → diff same (filter p xs) (filter p ys) ≤ diff same xs ys

-- the lengths are apart by at most the distance
abbrev pub LengthLaw : Type 0 → Type 0
LengthLaw E =
    (same : E → E → Bool) → TellsApart same → (xs ys : List E) → apart (length xs) (length ys) ≤ diff same xs ys

-- each weight is from lo to hi
abbrev pub WeighBetween : {E : Type 0} → (E → ℤ) → ℤ → ℤ → List E → Type 0
WeighBetween weight lo hi xs = All (λ x. IsBetween lo hi (weight x)) xs

-- the sums of weights are apart by at most the distance times the greatest absolute bound
abbrev pub SumLaw : Type 0 → Type 0
SumLaw E = (same : E → E → Bool) → TellsApart same → (weight : E → ℤ) (lo hi : ℤ) (xs ys : List E)
    → WeighBetween weight lo hi xs → WeighBetween weight lo hi ys
    → nat_abs (int_sum_by weight xs -ℤ int_sum_by weight ys) ≤ diff same xs ys * max (nat_abs lo) (nat_abs hi)

-- over lists of one length that differ in d elements, the sums are apart by at most d times the range
abbrev pub EvenSumLaw : Type 0 → Type 0
EvenSumLaw E = (same : E → E → Bool) → TellsApart same → (weight : E → ℤ) (lo hi : ℤ) (d : ℕ) (xs ys : List E)
    → WeighBetween weight lo hi xs → WeighBetween weight lo hi ys → length xs ≡ length ys → diff same xs ys ≤ 2 * d
    → nat_abs (int_sum_by weight xs -ℤ int_sum_by weight ys) ≤ d * nat_abs (hi -ℤ lo)

-- histograms over n categories are apart by at most the distance
abbrev pub HistogramLaw : Type 0 → Type 0
HistogramLaw E = (same : E → E → Bool) → TellsApart same → (n : ℕ) (f : E → ℕ) (xs ys : List E)
    → l1 (map (λ k. pos (occurrences nat_eq (map f xs) k)) (range_with_len 0 n))
    (map (λ k. pos (occurrences nat_eq (map f ys) k)) (range_with_len 0 n)) ≤ diff same xs ys

-- values within a distance are within every greater one
abbrev pub WiderLaw : Type 0
WiderLaw = (m : Metric) (d e : ℕ) (v w : Value) → Within m d v w → d ≤ e → Within m e v w

-- a value of a domain is within 0 of itself by a metric that is used with the domain
abbrev pub SelfLaw : Type 0
SelfLaw = (d : Domain) (m : Metric) (v : Value) → SuitsMetric d m → Has d v → Within m 0 v v
