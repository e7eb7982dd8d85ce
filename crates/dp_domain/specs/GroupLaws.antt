-- The laws of groups by a key: how many groups of two lists differ, and by how much.
use Rattle.std.specs.Prelude.{◌≡◌, ℕ, ◌*◌, ◌≤◌, Bool, List, ◌++◌, map, length, filter, count_by, sum_by, nat_lt, IsPermutation}
use Rattle.dp_domain.specs.Distance.{occurrences, diff}
use Rattle.dp_domain.specs.DistanceLaws.{TellsApart}
use Rattle.dp_domain.specs.Users.{group, groups_apart}

-- a key for each element, and a test that tells keys apart and one that tells elements apart
pub record Grouping (E K : Type 0) : Type 0 where
  pub key : E → K
  pub same_key : K → K → Bool
  pub same : E → E → Bool
  pub tells_keys : TellsApart same_key
  pub tells : TellsApart same

-- the elements that have the key, in order
abbrev pub part : {E K : Type 0} → Grouping E K → List E → K → List E
part by xs k = group by.same_key by.key k xs

-- how far apart the groups of a key are
abbrev pub part_diff : {E K : Type 0} → Grouping E K → List E → List E → K → ℕ
part_diff by xs ys k = diff by.same (part by xs k) (part by ys k)

-- how many keys of the two lists have groups that differ
abbrev pub parts_apart : {E K : Type 0} → Grouping E K → List E → List E → ℕ
parts_apart by xs ys = groups_apart by.same_key by.key by.same xs ys

-- no key stands twice among the keys
abbrev pub AreDifferent : {E K : Type 0} → Grouping E K → List K → Type 0
AreDifferent {E} {K} by keys = (k : K) → occurrences by.same_key keys k ≤ 1

-- each key of the two lists' elements stands among the keys
abbrev pub CoverKeys : {E K : Type 0} → Grouping E K → List K → List E → List E → Type 0
CoverKeys {E} {K} by keys xs ys = (k : K) → 1 ≤ occurrences by.same_key (map by.key (xs ++ ys)) k
    → 1 ≤ occurrences by.same_key keys k

-- the number of groups that differ is the same either way round
abbrev pub PartsSymmetricLaw : Type 0 → Type 0 → Type 0
PartsSymmetricLaw E K = (by : Grouping E K) (xs ys : List E) → parts_apart by xs ys ≡ parts_apart by ys xs

-- order plays no part: a list may be put in another order
abbrev pub PartsReorderLaw : Type 0 → Type 0 → Type 0
PartsReorderLaw E K = (by : Grouping E K) (xs ys zs : List E) → IsPermutation xs ys
    → parts_apart by xs zs ≡ parts_apart by ys zs

-- no group differs where the lists are the same in another order, and nowhere else
abbrev pub PartsOrderLaw : Type 0 → Type 0 → Type 0
PartsOrderLaw E K = (by : Grouping E K) (xs ys : List E)
    → (IsPermutation xs ys → parts_apart by xs ys ≡ 0) × (parts_apart by xs ys ≡ 0 → IsPermutation xs ys)

-- no different keys are more keys whose groups differ
abbrev pub MostPartsLaw : Type 0 → Type 0 → Type 0
MostPartsLaw E K = (by : Grouping E K) (xs ys : List E) (keys : List K) → AreDifferent by keys
    → count_by (λ k. nat_lt 0 (part_diff by xs ys k)) keys ≤ parts_apart by xs ys

-- and different keys that cover both lists are as many
abbrev pub CoverPartsLaw : Type 0 → Type 0 → Type 0
CoverPartsLaw E K = (by : Grouping E K) (xs ys : List E) (keys : List K) → AreDifferent by keys
    → CoverKeys by keys xs ys
    → count_by (λ k. nat_lt 0 (part_diff by xs ys k)) keys ≡ parts_apart by xs ys

-- the groups of different keys are together no further apart than the lists
abbrev pub PartSumLaw : Type 0 → Type 0 → Type 0
PartSumLaw E K = (by : Grouping E K) (xs ys : List E) (keys : List K) → AreDifferent by keys
    → sum_by (part_diff by xs ys) keys ≤ diff by.same xs ys

-- and those of different keys that cover both lists are together as far apart as the lists
abbrev pub CoverSumLaw : Type 0 → Type 0 → Type 0
CoverSumLaw E K = (by : Grouping E K) (xs ys : List E) (keys : List K) → AreDifferent by keys
    → CoverKeys by keys xs ys
    → sum_by (part_diff by xs ys) keys ≡ diff by.same xs ys

-- a filter raises no number of groups that differ
abbrev pub PartsFilterLaw : Type 0 → Type 0 → Type 0
PartsFilterLaw E K = (by : Grouping E K) (p : E → Bool) (xs ys : List E)
    → parts_apart by (filter p xs) (filter p ys) ≤ parts_apart by xs ys

-- no group has more than so many elements
abbrev pub HasMost : {E K : Type 0} → Grouping E K → ℕ → List E → Type 0
HasMost {E} {K} by most xs = (k : K) → length (part by xs k) ≤ most

-- where us and vs have at most so many elements a group, and a group differs only where that of xs and ys does, us
-- and vs are apart by at most twice so many elements for each group of xs and ys that differs
abbrev pub FewLaw : Type 0 → Type 0 → Type 0
FewLaw E K = (by : Grouping E K) (most : ℕ) (xs ys us vs : List E) → HasMost by most us → HasMost by most vs
    → ((k : K) → part_diff by xs ys k ≡ 0 → part_diff by us vs k ≡ 0)
    → diff by.same us vs ≤ 2 * most * parts_apart by xs ys
