-- When two values are within a distance, and which metric is used with which domain.
use Rattle.std.specs.Prelude.{◌≡◌, ℕ, ◌*◌, ◌<◌, ◌≤◌, ◌-ℤ◌, nat_abs, ◌⊎◌, length, nat_eq, Some, None}
use Rattle.std.specs.Ordering.{int_eq}
use Rattle.dp_domain.specs.Distance.{diff, l1, text_eq, record_eq, opt_int_eq}
use Rattle.dp_domain.specs.Users.{users_apart}
use Rattle.dp_domain.specs.declared.domains.Domain.{Domain}
use Rattle.dp_domain.specs.declared.domains.Domain.TheVariants as domain
use Rattle.dp_domain.specs.declared.metrics.Metric.{Metric}
use Rattle.dp_domain.specs.declared.metrics.Metric.TheVariants as metrics
use Rattle.dp_domain.specs.declared.values.Value.{Value}
use Rattle.dp_domain.specs.declared.values.Value.TheVariants as value

-- the two values are within a distance d by a metric
abbrev pub Within : Metric → ℕ → Value → Value → Type 0
Within metrics.Symmetric d (value.Rows xs) (value.Rows ys) = diff record_eq xs ys ≤ d
Within metrics.Symmetric d (value.Texts xs) (value.Texts ys) = diff text_eq xs ys ≤ d
Within metrics.Symmetric d (value.OptInts xs) (value.OptInts ys) = diff opt_int_eq xs ys ≤ d
Within metrics.Symmetric d (value.Ints xs) (value.Ints ys) = diff int_eq xs ys ≤ d
Within metrics.Symmetric d (value.Cats xs) (value.Cats ys) = diff nat_eq xs ys ≤ d
Within (metrics.Users column) d (value.Rows xs) (value.Rows ys) = users_apart column xs ys ≤ d
Within metrics.ChangeOne d (value.Ints xs) (value.Ints ys) = (length xs ≡ length ys) × (diff int_eq xs ys ≤ 2 * d)
Within metrics.ChangeOne d (value.Cats xs) (value.Cats ys) = (length xs ≡ length ys) × (diff nat_eq xs ys ≤ 2 * d)
Within metrics.Absolute d (value.Int x) (value.Int y) = nat_abs (x -ℤ y) ≤ d
Within metrics.Discrete d (value.Cat x) (value.Cat y) = (x ≡ y) ⊎ (1 ≤ d)
Within metrics.L1 d (value.IntVec xs) (value.IntVec ys) = (length xs ≡ length ys) × (l1 xs ys ≤ d)
Within _ _ _ _ = ⊥

-- the metric is used with the domain: a list without a size is compared by Symmetric, one with a size by ChangeOne
abbrev pub SuitsMetric : Domain → Metric → Type 0
SuitsMetric (domain.Rows columns) metrics.Symmetric = Unit {0}
SuitsMetric (domain.Rows columns) (metrics.Users column) = column < columns
SuitsMetric domain.Texts metrics.Symmetric = Unit {0}
SuitsMetric (domain.OptInts lo hi) metrics.Symmetric = Unit {0}
SuitsMetric (domain.Ints lo hi None) metrics.Symmetric = Unit {0}
SuitsMetric (domain.Ints lo hi (Some size)) metrics.ChangeOne = Unit {0}
SuitsMetric (domain.Cats n None) metrics.Symmetric = Unit {0}
SuitsMetric (domain.Cats n (Some size)) metrics.ChangeOne = Unit {0}
SuitsMetric (domain.Int lo hi) metrics.Absolute = Unit {0}
SuitsMetric (domain.Cat n) metrics.Discrete = Unit {0}
SuitsMetric (domain.IntVec len lo hi) metrics.L1 = Unit {0}
SuitsMetric _ _ = ⊥
