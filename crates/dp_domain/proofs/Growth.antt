-- Values within a distance are within every greater one, and a value is within 0 of itself.
use Rattle.std.proofs.Common.{◌≡◌, ℕ, ◌≤◌, ℤ, Bool, List, [], ◌∷◌, ◌++◌, Some, None, cond, map, refl, inl, inr, ◌∙◌, arith}
use Rattle.std.specs.Prelude.{◌-ℤ◌, nat_abs, nat_lt, nat_eq, sum_by, zip}
use Rattle.std.proofs.lemmas.List.Sums.{sum_by-cons}
use Rattle.dp_domain.proofs.Occurrences.{sum_by-same, sum_by-zero}
use Rattle.std.specs.Ordering.{int_eq}
use Rattle.std.proofs.lemmas.Int.{ints}
use Rattle.dp_domain.specs.Distance.{distinct, diff, l1, apart, occurrences, text_eq, record_eq, opt_int_eq}
use Rattle.dp_domain.specs.Users.{group, groups_apart, cell}
use Rattle.dp_domain.specs.Domains.{Has}
use Rattle.dp_domain.specs.Metrics.{Within, SuitsMetric}
use Rattle.dp_domain.specs.declared.domains.Domain.{Domain}
use Rattle.dp_domain.specs.declared.domains.Domain.TheVariants as domain
use Rattle.dp_domain.specs.declared.metrics.Metric.{Metric}
use Rattle.dp_domain.specs.declared.metrics.Metric.TheVariants as metrics
use Rattle.dp_domain.specs.declared.values.Value.{Value}
use Rattle.dp_domain.specs.declared.values.Value.TheVariants as value

pub within-wider : (m : Metric) (d e : ℕ) (v w : Value) → Within m d v w → d ≤ e → Within m e v w
within-wider metrics.Symmetric d e (value.Rows xs) (value.Rows ys) h k = omega arith
within-wider metrics.Symmetric d e (value.Texts xs) (value.Texts ys) h k = omega arith
within-wider metrics.Symmetric d e (value.OptInts xs) (value.OptInts ys) h k = omega arith
within-wider metrics.Symmetric d e (value.Ints xs) (value.Ints ys) h k = omega arith
within-wider metrics.Symmetric d e (value.Cats xs) (value.Cats ys) h k = omega arith
within-wider (metrics.Users column) d e (value.Rows xs) (value.Rows ys) h k = omega arith
within-wider metrics.ChangeOne d e (value.Ints xs) (value.Ints ys) h k = (h.0, omega (arith, h.1))
within-wider metrics.ChangeOne d e (value.Cats xs) (value.Cats ys) h k = (h.0, omega (arith, h.1))
within-wider metrics.Absolute d e (value.Int x) (value.Int y) h k = omega arith
within-wider metrics.Discrete d e (value.Cat x) (value.Cat y) (inl h) k = inl h
within-wider metrics.Discrete d e (value.Cat x) (value.Cat y) (inr h) k = inr (omega arith)
within-wider metrics.L1 d e (value.IntVec xs) (value.IntVec ys) h k = (h.0, omega (arith, h.1))
within-wider m d e v w h k = absurd h

sum_by-zeros : {E : Type 0} (f : E → ℕ) (xs : List E) → ((x : E) → f x ≡ 0) → sum_by f xs ≡ 0
sum_by-zeros f xs none = sum_by-same f (λ _. 0) xs none ∙ sum_by-zero xs

-- a list is at the distance 0 of itself
pub diff-itself : {E : Type 0} (same : E → E → Bool) (xs : List E) → diff same xs xs ≡ 0
unfolding diff
diff-itself same xs =
    sum_by-zeros (λ e. apart (occurrences same xs e) (occurrences same xs e)) (distinct same (xs ++ xs)) (λ e. omega arith)

-- nor do groups of a list differ from its own
pub groups_apart-itself : {E K : Type 0} (same_key : K → K → Bool) (key : E → K) (same : E → E → Bool) (xs : List E) → groups_apart same_key key same xs xs ≡ 0
unfolding groups_apart
groups_apart-itself same_key key same xs =
    sum_by-zeros (λ k. cond (nat_lt 0 (diff same (group same_key key k xs) (group same_key key k xs))) 1 0) (distinct same_key (map key (xs ++ xs)))
    (λ k. rw (diff-itself same (group same_key key k xs)) refl)

l1-itself : (xs : List ℤ) → l1 xs xs ≡ 0
unfolding l1
l1-itself [] = refl
l1-itself (x ∷ xs) =
    let whole = sum_by-cons (λ (p : ℤ × ℤ). nat_abs (p.0 -ℤ p.1)) (x, x) (zip xs xs) in
    let ih = l1-itself xs in
    let here : nat_abs (x -ℤ x) ≡ 0 = omega (arith, ints) in
    omega arith

pub within-itself : (d : Domain) (m : Metric) (v : Value) → SuitsMetric d m → Has d v → Within m 0 v v
within-itself (domain.Rows columns) metrics.Symmetric (value.Rows xs) suits has = omega (arith, diff-itself record_eq xs)
within-itself (domain.Rows columns) metrics.Symmetric v suits has = absurd has
within-itself (domain.Rows columns) (metrics.Users column) (value.Rows xs) suits has = omega (arith, groups_apart-itself text_eq (cell column) record_eq xs)
within-itself (domain.Rows columns) (metrics.Users column) v suits has = absurd has
within-itself domain.Texts metrics.Symmetric (value.Texts xs) suits has = omega (arith, diff-itself text_eq xs)
within-itself domain.Texts metrics.Symmetric v suits has = absurd has
within-itself (domain.OptInts lo hi) metrics.Symmetric (value.OptInts xs) suits has = omega (arith, diff-itself opt_int_eq xs)
within-itself (domain.OptInts lo hi) metrics.Symmetric v suits has = absurd has
within-itself (domain.Ints lo hi None) metrics.Symmetric (value.Ints xs) suits has = omega (arith, diff-itself int_eq xs)
within-itself (domain.Ints lo hi None) metrics.Symmetric v suits has = absurd has
within-itself (domain.Ints lo hi (Some size)) metrics.ChangeOne (value.Ints xs) suits has = (refl, omega (arith, diff-itself int_eq xs))
within-itself (domain.Ints lo hi (Some size)) metrics.ChangeOne v suits has = absurd has
within-itself (domain.Cats n None) metrics.Symmetric (value.Cats xs) suits has = omega (arith, diff-itself nat_eq xs)
within-itself (domain.Cats n None) metrics.Symmetric v suits has = absurd has
within-itself (domain.Cats n (Some size)) metrics.ChangeOne (value.Cats xs) suits has = (refl, omega (arith, diff-itself nat_eq xs))
within-itself (domain.Cats n (Some size)) metrics.ChangeOne v suits has = absurd has
within-itself (domain.Int lo hi) metrics.Absolute (value.Int z) suits has = omega (arith, ints)
within-itself (domain.Int lo hi) metrics.Absolute v suits has = absurd has
within-itself (domain.Cat n) metrics.Discrete (value.Cat x) suits has = inl refl
within-itself (domain.Cat n) metrics.Discrete v suits has = absurd has
within-itself (domain.IntVec len lo hi) metrics.L1 (value.IntVec xs) suits has = (refl, omega (arith, l1-itself xs))
within-itself (domain.IntVec len lo hi) metrics.L1 v suits has = absurd has
within-itself d m v suits has = absurd suits
