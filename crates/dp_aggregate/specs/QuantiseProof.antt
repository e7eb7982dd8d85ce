-- Quantising is stable.
use Rattle.std.proofs.Common.{◌≡◌, ℕ, ◌+◌, ◌*◌, ◌/◌, ◌≤◌, ◌<◌, ◌^◌, ℤ, pos, negsuc, IsTrue, neg_ℤ, ◌+ℤ◌, ◌-ℤ◌, ◌≤ℤ◌, arith}
use Rattle.std.specs.Prelude.{nat_abs}
use Rattle.std.specs.Int.{div_ceil}
use Rattle.std.proofs.lemmas.Int.{ints}
use Rattle.std.proofs.lemmas.Grind.{div_ceil_times}
use Rattle.std.proofs.lemmas.Bool.Decides.{nat_tests}
use Rattle.std.proofs.Math.Nat.{div-mul-le_self, lt-div-mul-add, lt_of_mul-lt-mul_right, div-le_self, zero-div}
use Rattle.dp_domain.specs.declared.domains.Domain.TheVariants as domain
use Rattle.dp_domain.specs.declared.metrics.Metric.TheVariants as metrics
use Rattle.dp_domain.specs.declared.values.Value.{Value}
use Rattle.dp_domain.specs.declared.values.Value.TheVariants as value
use Rattle.dp_domain.specs.Domains.{Fits, Has}
use Rattle.dp_domain.specs.Metrics.{Within}
use Rattle.dp_law.specs.Mapping.{IsStable}
use Rattle.dp_law.proofs.Caps.{capped-same, capped-le}
use Rattle.dp_law.proofs.Suits.{both-hold}
use Rattle.dp_aggregate.specs.Quantise.{quantised, quantise_value, quantise_mapping, is_step}

-- numbers that are at most d apart are at most d, in steps and rounded up, apart in steps
quotients-near : (g a b d : ℕ) → 1 ≤ g → a ≤ b + d → a / g ≤ b / g + div_ceil d g
quotients-near g a b d h k =
    let low = div-mul-le_self a g in
    let high : b < b / g * g + g = lt-div-mul-add h in
    let most = div_ceil_times d g h in
    let less : a / g * g < (b / g + div_ceil d g + 1) * g = omega (arith, most.0) in
    let quotients = lt_of_mul-lt-mul_right g less in
    omega arith

quotients-across : (g a b d : ℕ) → 1 ≤ g → a + b + 1 ≤ d → a / g + b / g + 1 ≤ div_ceil d g
quotients-across g a b d h k =
    let first = div-mul-le_self a g in
    let second = div-mul-le_self b g in
    let most = div_ceil_times d g h in
    let less : (a / g + b / g) * g < div_ceil d g * g = omega (arith, most.0) in
    let quotients = lt_of_mul-lt-mul_right g less in
    omega arith

quantised-near : (g : ℕ) (z w : ℤ) (d : ℕ) → 1 ≤ g → z ≤ℤ (w +ℤ pos d) → quantised g z ≤ℤ (quantised g w +ℤ pos (div_ceil d g))
quantised-near g (pos a) (pos b) d h k = let near = quotients-near g a b d h (omega (arith, ints)) in omega (arith, ints)
quantised-near g (pos a) (negsuc b) d h k = let near = quotients-across g a b d h (omega (arith, ints)) in omega (arith, ints)
quantised-near g (negsuc a) (pos b) d h k = omega (arith, ints)
quantised-near g (negsuc a) (negsuc b) d h k = let near = quotients-near g b a d h (omega (arith, ints)) in omega (arith, ints)

-- rounding down keeps the order
quantised-rises : (g : ℕ) (z w : ℤ) → 1 ≤ g → z ≤ℤ w → quantised g z ≤ℤ quantised g w
quantised-rises g z w h k =
    let near = quantised-near g z w 0 h (omega (arith, ints)) in
    let none : div_ceil 0 g ≡ 0 = omega (arith, zero-div g) in
    omega (arith, ints)

quantised-limits : (g : ℕ) (z : ℤ) (limit : ℕ) → neg_ℤ (pos limit) ≤ℤ z → z ≤ℤ pos limit → (neg_ℤ (pos limit) ≤ℤ quantised g z) × (quantised g z ≤ℤ pos limit)
quantised-limits g (pos a) limit h k = let least = div-le_self a g in (omega (arith, ints), omega (arith, ints))
quantised-limits g (negsuc a) limit h k = let least = div-le_self a g in (omega (arith, ints), omega (arith, ints))

pub quantise_fits : (lo hi : ℤ) (g : ℕ) → 1 ≤ g → Fits (domain.Int lo hi) → Fits (domain.Int (quantised g lo) (quantised g hi))
quantise_fits lo hi g h fits =
    let low = quantised-limits g lo (2 ^ 61) fits.0 (omega (arith, ints, fits.1, fits.2)) in
    let high = quantised-limits g hi (2 ^ 61) (omega (arith, ints, fits.0, fits.1)) fits.2 in
    (low.0, quantised-rises g lo hi h fits.1, high.1)

pub quantise_lands : (lo hi : ℤ) (g : ℕ) → 1 ≤ g → (v : Value) → Has (domain.Int lo hi) v → Has (domain.Int (quantised g lo) (quantised g hi)) (quantise_value g v)
quantise_lands lo hi g h (value.Int z) has = (quantised-rises g lo z h has.0, quantised-rises g z hi h has.1)
quantise_lands lo hi g h v has = absurd has

quantised-apart : (g : ℕ) (z w : ℤ) (d : ℕ) → 1 ≤ g → nat_abs (z -ℤ w) ≤ d → nat_abs (quantised g z -ℤ quantised g w) ≤ div_ceil d g
quantised-apart g z w d h k =
    let forth = quantised-near g z w d h (omega (arith, ints)) in
    let back = quantised-near g w z d h (omega (arith, ints)) in
    omega (arith, ints)

quantise_stable : (g d e : ℕ) (v w : Value) → 1 ≤ g → div_ceil d g ≡ e → Within metrics.Absolute d v w → Within metrics.Absolute e (quantise_value g v) (quantise_value g w)
quantise_stable g d e (value.Int z) (value.Int w) h same near = let far = quantised-apart g z w d h near in omega arith
quantise_stable g d e v w h same near = absurd near

step-positive : (g : ℕ) → IsTrue (is_step g) → 1 ≤ g
step-positive g h = grind (arith, nat_tests)

pub quantise_law : (lo hi : ℤ) (step : ℕ) → Fits (domain.Int lo hi) → IsTrue (is_step step) → IsStable (quantise_mapping lo hi step)
quantise_law lo hi step input good =
    let positive = step-positive step good in
    record {
      input_fits = input;
      output_fits = quantise_fits lo hi step positive input;
      suits = both-hold tt tt;
      lands = quantise_lands lo hi step positive;
      limited = λ d e map_is. capped-le (div_ceil d step) e map_is;
      stable = λ d e v w map_is has_v has_w near. quantise_stable step d e v w positive (capped-same (div_ceil d step) e map_is) near;
    }
