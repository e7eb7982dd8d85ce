-- Adding is stable.
use Rattle.std.proofs.Common.{◌≡◌, ℕ, suc, ◌*◌, ◌^◌, ◌≤◌, max, ℤ, pos, negsuc, neg_ℤ, ◌-ℤ◌, ◌*ℤ◌, ◌≤ℤ◌, length, Option, Some, None, subst, arith}
use Rattle.std.specs.Prelude.{nat_abs}
use Rattle.std.specs.Int.{int_min, int_max}
use Rattle.std.specs.Ordering.{int_eq}
use Rattle.std.proofs.Math.Nat.{mul-le-mul, mul-le-mul_right}
use Rattle.std.proofs.lemmas.Int.{ints, clamps}
use Rattle.std.proofs.lemmas.List.Elements.{All-weaker}
use Rattle.dp_count.proofs.SignedProducts.{times-order, times-rise, times-fall}
use Rattle.dp_domain.specs.declared.domains.Domain.TheVariants as domain
use Rattle.dp_domain.specs.declared.metrics.Metric.TheVariants as metrics
use Rattle.dp_domain.specs.declared.values.Value.{Value}
use Rattle.dp_domain.specs.declared.values.Value.TheVariants as value
use Rattle.dp_domain.specs.Distance.{diff}
use Rattle.dp_domain.specs.Domains.{Fits, Has, IsBetween}
use Rattle.dp_domain.specs.Metrics.{Within}
use Rattle.dp_domain.specs.Sums.{int_sum}
use Rattle.dp_domain.proofs.Equality.{int_eq-decides}
use Rattle.dp_domain.proofs.ListSums.{sum-between}
use Rattle.dp_domain.proofs.WeightedSums.{sums-apart, even-sums-apart}
use Rattle.dp_law.specs.Making.{list_metric}
use Rattle.dp_law.specs.Mapping.{IsStable}
use Rattle.dp_law.proofs.Caps.{capped-same, capped-le}
use Rattle.dp_law.proofs.Suits.{both-hold, ints-suit}
use Rattle.dp_aggregate.specs.Sum.{IsItem, sum_value, sum_low, sum_high, sum_factor, sum_mapping}

-- up to 2 ^ 30 times a number of a list is from -2 ^ 61 to 2 ^ 61
times-limits : (n : ℕ) (z : ℤ) → n ≤ 2 ^ 30 → IsItem z → IsBetween (neg_ℤ (pos (2 ^ 61))) (pos (2 ^ 61)) (pos n *ℤ z)
times-limits n (pos a) h k = let l = mul-le-mul {n₁ = n} {m₁ = a} {n₂ = 2 ^ 30} {m₂ = 2 ^ 31} h (omega (arith, ints, k.1)) in (omega (arith, ints), omega (arith, ints))
times-limits n (negsuc a) h k = let l = mul-le-mul {n₁ = n} {m₁ = suc a} {n₂ = 2 ^ 30} {m₂ = 2 ^ 31} h (omega (arith, ints, k.0)) in (omega (arith, ints), omega (arith, ints))

min-zero : (lo : ℤ) → (int_min (pos 0) lo ≤ℤ pos 0) × (int_min (pos 0) lo ≤ℤ lo)
min-zero lo = (omega (arith, ints, clamps), omega (arith, ints, clamps))

max-zero : (hi : ℤ) → (pos 0 ≤ℤ int_max (pos 0) hi) × (hi ≤ℤ int_max (pos 0) hi)
max-zero hi = (omega (arith, ints, clamps), omega (arith, ints, clamps))

min-limits : (lo : ℤ) → IsItem lo → IsItem (int_min (pos 0) lo)
min-limits lo h = (omega (arith, ints, clamps, h.0, h.1), omega (arith, ints, clamps, h.0, h.1))

max-limits : (hi : ℤ) → IsItem hi → IsItem (int_max (pos 0) hi)
max-limits hi h = (omega (arith, ints, clamps, h.0, h.1), omega (arith, ints, clamps, h.0, h.1))

le-through : (a b c : ℤ) → a ≤ℤ b → b ≤ℤ c → a ≤ℤ c
le-through a b c h k = omega (arith, ints)

wider : (lo hi low high : ℤ) → low ≤ℤ lo → hi ≤ℤ high → (z : ℤ) → IsBetween lo hi z → IsBetween low high z
wider lo hi low high h k z between = (omega (arith, ints, between.0), omega (arith, ints, between.1))

sum_lands : (lo hi : ℤ) (size : Option ℕ) (v : Value) → Has (domain.Ints lo hi size) v → Has (domain.Int (sum_low lo size) (sum_high hi size)) (sum_value v)
sum_lands lo hi None (value.Ints xs) has =
    let low = int_min (pos 0) lo in
    let high = int_max (pos 0) hi in
    let n = length xs in
    let least = min-zero lo in
    let most = max-zero hi in
    let bounds = sum-between low high xs (All-weaker (IsBetween lo hi) (IsBetween low high) (wider lo hi low high least.1 most.1) xs has.1) in (
      le-through (pos (2 ^ 30) *ℤ low) (pos n *ℤ low) (int_sum xs) (times-fall n (2 ^ 30) low has.0 least.0) bounds.0,
      le-through (int_sum xs) (pos n *ℤ high) (pos (2 ^ 30) *ℤ high) bounds.1 (times-rise n (2 ^ 30) high has.0 most.0),
    )
sum_lands lo hi (Some size) (value.Ints xs) has =
    subst (λ (n : ℕ). IsBetween (pos n *ℤ lo) (pos n *ℤ hi) (int_sum xs)) has.0 (sum-between lo hi xs has.1)
sum_lands lo hi size v has = absurd has

range-limits : (lo hi : ℤ) → neg_ℤ (pos (2 ^ 31)) ≤ℤ lo → lo ≤ℤ hi → hi ≤ℤ pos (2 ^ 31) →
    IsItem lo × IsItem hi
range-limits lo hi h k l = ((h, omega (arith, ints)), (omega (arith, ints), l))

sum_fits : (lo hi : ℤ) (size : Option ℕ) → Fits (domain.Ints lo hi size) → Fits (domain.Int (sum_low lo size) (sum_high hi size))
sum_fits lo hi None fits =
    let limits = range-limits lo hi fits.0.0 fits.0.1 fits.0.2 in
    let low = int_min (pos 0) lo in
    let high = int_max (pos 0) hi in (
      (times-limits (2 ^ 30) low (omega arith) (min-limits lo limits.0)).0,
      times-order (2 ^ 30) low high (le-through low (pos 0) high (min-zero lo).0 (max-zero hi).0),
      (times-limits (2 ^ 30) high (omega arith) (max-limits hi limits.1)).1,
    )
sum_fits lo hi (Some size) fits =
    let limits = range-limits lo hi fits.0.0 fits.0.1 fits.0.2 in
    let most = fits.1.1 in
    ((times-limits size lo (omega arith) limits.0).0, times-order size lo hi fits.0.1, (times-limits size hi (omega arith) limits.1).1)

far : (n d m e : ℕ) → n ≤ d * m → d * m ≡ e → n ≤ e
far n d m e h k = omega arith

sum_stable : (lo hi : ℤ) (size : Option ℕ) (d e : ℕ) (v w : Value) → d * sum_factor lo hi size ≡ e → Has (domain.Ints lo hi size) v → Has (domain.Ints lo hi size) w
    → Within (list_metric size) d v w → Within metrics.Absolute e (sum_value v) (sum_value w)
sum_stable lo hi None d e (value.Ints xs) (value.Ints ys) map_is has_v has_w near =
    let m = max (nat_abs lo) (nat_abs hi) in
    let apart = sums-apart int_eq int_eq-decides (λ z. z) lo hi xs ys has_v.1 has_w.1 in
    let grows = mul-le-mul_right {m = diff int_eq xs ys} {n = d} m near in
    far (nat_abs (int_sum xs -ℤ int_sum ys)) d m e (omega (arith, apart, grows)) map_is
sum_stable lo hi (Some size) d e (value.Ints xs) (value.Ints ys) map_is has_v has_w near =
    far (nat_abs (int_sum xs -ℤ int_sum ys)) d (nat_abs (hi -ℤ lo)) e (even-sums-apart int_eq int_eq-decides (λ z. z) lo hi d xs ys has_v.1 has_w.1 near.0 near.1) map_is
sum_stable lo hi size d e (value.Ints xs) w map_is has_v has_w near = absurd has_w
sum_stable lo hi size d e v w map_is has_v has_w near = absurd has_v

pub sum_law : (lo hi : ℤ) (size : Option ℕ) → Fits (domain.Ints lo hi size) → IsStable (sum_mapping lo hi size)
sum_law lo hi size input = record {
  input_fits = input;
  output_fits = sum_fits lo hi size input;
  suits = both-hold (ints-suit lo hi size) tt;
  lands = sum_lands lo hi size;
  limited = λ d e map_is. capped-le (d * sum_factor lo hi size) e map_is;
  stable = λ d e v w map_is. sum_stable lo hi size d e v w (capped-same (d * sum_factor lo hi size) e map_is);
}
