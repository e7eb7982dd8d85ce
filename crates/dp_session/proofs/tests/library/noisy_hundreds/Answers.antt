use Rattle.std.proofs.Common.{◌≡◌, ℕ, ℤ, pos, Option, Some, Result, Ok, refl, sym, ◌∙◌, ap, subst}
use Rattle.std.specs.Option.{option_and_then}
use Rattle.dp_domain.specs.declared.domains.Domain.{Domain}
use Rattle.dp_domain.specs.declared.domains.Domain.TheVariants as domain
use Rattle.dp_domain.specs.declared.metrics.Metric.{Metric}
use Rattle.dp_domain.specs.declared.metrics.Metric.TheVariants as metrics
use Rattle.dp_law.specs.declared.refusals.Refused.{Refused}
use Rattle.dp_law.specs.Mechanism.{Mechanism}
use Rattle.dp_num.specs.Limits.{Fraction}
use Rattle.dp_geometric.specs.contracts.geometric.GeometricMeasurement.TheImpl.{ghosts as noise_ghosts}
use Rattle.dp_geometric.specs.Geometric.{geometric, geometric_from}
use Rattle.dp_chain.proofs.NoiseMaking.{cell_with, geometric-made}
use Rattle.dp_session.proofs.tests.library.noisy_hundreds.Goals as goal

-- a mechanism of the ratio that loses 5 units at the distance 1
abbrev IsFive : Fraction → Mechanism → Type 0
IsFive ratio m = (m.ratio ≡ ratio) × (m.privacy_map 1 ≡ Some 5)

abbrev FiveIfMade : Fraction → Mechanism → Result Mechanism Refused → Type 0
FiveIfMade ratio wanted r = r ≡ Ok wanted → IsFive ratio wanted

five-made : (ratio : Fraction) (made wanted : Mechanism) → IsFive ratio made → FiveIfMade ratio wanted (Ok made)
five-made ratio made wanted five same = let one : made ≡ wanted = cc in subst (IsFive ratio) one five

five-once : (lo hi : ℤ) (ratio : Fraction) (from : Domain) (metric : Metric) (made : Mechanism)
    → from ≡ domain.Int lo hi → metric ≡ metrics.Absolute
    → geometric_from ratio 5 (pos 0) (pos 200) from metric ≡ Ok made → IsFive ratio made
five-once lo hi ratio from metric made is_number is_absolute is_made =
    let there : geometric_from ratio 5 (pos 0) (pos 200) (domain.Int lo hi) metrics.Absolute ≡ Ok made =
    ap (λ (d : Domain). geometric_from ratio 5 (pos 0) (pos 200) d metrics.Absolute) (sym is_number)
    ∙ ap (geometric_from ratio 5 (pos 0) (pos 200) from) (sym is_absolute) ∙ is_made in
    geometric-made (FiveIfMade ratio made) ratio 5 (λ h. absurd (cc)) (domain.Int lo hi) (pos 0) (pos 200)
    (λ both is_both good. five-made ratio (geometric (domain.Int lo hi) ratio 5 (cell_with (pos 0) (pos 200) both)) made (refl, refl)) there

-- what 1 comes to through a transformation and then a noise
through : (out one : Option ℕ) (noise : Mechanism) → one ≡ Some 1
    → out ≡ option_and_then noise.privacy_map one → noise.privacy_map 1 ≡ Some 5 → out ≡ Some 5
through out one noise is_1 is_out five = is_out ∙ ap (option_and_then noise.privacy_map) is_1 ∙ five

nine-tenths : (p q : ℕ) → p ≡ 9 → q ≡ 10 → ◌≡◌ {A = Fraction} (record { p = p; q = q }) (record { p = 9; q = 10 })
nine-tenths p q h k = rw (h, k) refl

pub returns-clause-ratio : goal.returns-clause-ratio
returns-clause-ratio c =
    ap (λ (m : Mechanism). m.ratio) c.in-Ok-new-2.ensures.2
    ∙ (five-once _ _ _ _ _ _ (c.out_domain.ensures ∙ c.hundreds_of_ages-hundreds.ensures.range) c.out_metric.ensures c.in-Ok-new.ensures).0
    ∙ nine-tenths c.in-Ok.ratio.p c.in-Ok.ratio.q c.in-Ok.ensures.numbers.0 c.in-Ok.ensures.numbers.1

pub returns-clause-loss : goal.returns-clause-loss
returns-clause-loss c =
    through _ _ (noise_ghosts.mechanism c.in-Ok-new.noise) c.hundreds_of_ages-hundreds.ensures.stable
    (ap (λ (m : Mechanism). m.privacy_map 1) c.in-Ok-new-2.ensures.2)
    (five-once _ _ _ _ _ _ (c.out_domain.ensures ∙ c.hundreds_of_ages-hundreds.ensures.range) c.out_metric.ensures c.in-Ok-new.ensures).1
