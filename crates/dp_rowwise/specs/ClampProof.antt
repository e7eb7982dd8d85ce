-- Clamping is stable.
use Rattle.std.proofs.Common.{◌≡◌, ℕ, ℤ, List, Option, Some, None, subst, arith}
use Rattle.std.specs.Prelude.{◌≤ℤ◌}
use Rattle.std.specs.Ordering.{int_eq}
use Rattle.std.proofs.lemmas.Int.{ints, clamps}
use Rattle.std.proofs.lemmas.List.{length-map}
use Rattle.std.proofs.lemmas.List.Elements.{All-map, All-weaker}
use Rattle.dp_domain.specs.declared.domains.Domain.TheVariants as domain
use Rattle.dp_domain.specs.declared.values.Value.{Value}
use Rattle.dp_domain.specs.declared.values.Value.TheVariants as value
use Rattle.dp_domain.proofs.Distance.{diff-map}
use Rattle.dp_domain.proofs.Equality.{int_eq-decides}
use Rattle.dp_domain.specs.Domains.{Fits, Has, IsBetween}
use Rattle.dp_domain.specs.Ranges.{clamped}
use Rattle.dp_domain.specs.Metrics.{Within}
use Rattle.dp_law.specs.Making.{list_metric}
use Rattle.dp_law.specs.Mapping.{IsStable}
use Rattle.dp_law.proofs.Caps.{capped-same, capped-le}
use Rattle.dp_law.proofs.Suits.{both-hold, ints-suit}
use Rattle.dp_rowwise.specs.Clamp.{clamp_mapping, clamp_value}

clamped-between : (lo hi z : ℤ) → lo ≤ℤ hi → IsBetween lo hi (clamped lo hi z)
clamped-between lo hi z h = (omega (arith, ints, clamps), omega (arith, ints, clamps))

-- clamped numbers lie between the limits
pub clamp_lands : (lo hi from_lo from_hi : ℤ) (size : Option ℕ) → lo ≤ℤ hi → (v : Value) → Has (domain.Ints from_lo from_hi size) v → Has (domain.Ints lo hi size) (clamp_value lo hi v)
clamp_lands lo hi from_lo from_hi size order (value.Ints xs) has =
    (rw length-map has.0, All-map (IsBetween lo hi) (clamped lo hi) xs (All-weaker (IsBetween from_lo from_hi) (λ z. IsBetween lo hi (clamped lo hi z)) (λ z _. clamped-between lo hi z order) xs has.1))
clamp_lands lo hi from_lo from_hi size order v has = absurd has

clamp_stable : (lo hi : ℤ) (size : Option ℕ) (d : ℕ) (xs ys : List ℤ) → Within (list_metric size) d (value.Ints xs) (value.Ints ys) → Within (list_metric size) d (clamp_value lo hi (value.Ints xs)) (clamp_value lo hi (value.Ints ys))
clamp_stable lo hi None d xs ys near = omega (arith, diff-map int_eq int_eq-decides int_eq int_eq-decides (clamped lo hi) xs ys)
clamp_stable lo hi (Some size) d xs ys near = (simp length-map near.0, omega (arith, near.1, diff-map int_eq int_eq-decides int_eq int_eq-decides (clamped lo hi) xs ys))

clamp_stable_at : (lo hi from_lo from_hi : ℤ) (size : Option ℕ) (d e : ℕ) (v w : Value) → d ≡ e → Has (domain.Ints from_lo from_hi size) v → Has (domain.Ints from_lo from_hi size) w → Within (list_metric size) d v w → Within (list_metric size) e (clamp_value lo hi v) (clamp_value lo hi w)
clamp_stable_at lo hi from_lo from_hi size d e (value.Ints xs) (value.Ints ys) same has_v has_w near = subst (λ (n : ℕ). Within (list_metric size) n (clamp_value lo hi (value.Ints xs)) (clamp_value lo hi (value.Ints ys))) same (clamp_stable lo hi size d xs ys near)
clamp_stable_at lo hi from_lo from_hi size d e (value.Ints xs) w same has_v has_w near = absurd has_w
clamp_stable_at lo hi from_lo from_hi size d e v w same has_v has_w near = absurd has_v

pub clamp_law : (lo hi from_lo from_hi : ℤ) (size : Option ℕ) → Fits (domain.Ints from_lo from_hi size) → Fits (domain.Ints lo hi size) → IsStable (clamp_mapping lo hi from_lo from_hi size)
clamp_law lo hi from_lo from_hi size input output = record {
  input_fits = input;
  output_fits = output;
  suits = both-hold (ints-suit from_lo from_hi size) (ints-suit lo hi size);
  lands = clamp_lands lo hi from_lo from_hi size output.0.1;
  limited = capped-le;
  stable = λ d e v w map_is has_v has_w near. clamp_stable_at lo hi from_lo from_hi size d e v w (capped-same d e map_is) has_v has_w near;
}
