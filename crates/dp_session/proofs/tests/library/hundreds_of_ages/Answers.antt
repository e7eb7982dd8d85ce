use Rattle.std.proofs.Common.{◌≡◌, ℕ, ℤ, Option, Some, Result, Ok, refl, sym, ◌∙◌, ap}
use Rattle.std.specs.Option.{option_and_then}
use Rattle.dp_domain.specs.declared.domains.Domain.{Domain}
use Rattle.dp_domain.specs.declared.domains.Domain.TheVariants as domain
use Rattle.dp_domain.specs.declared.metrics.Metric.{Metric}
use Rattle.dp_domain.specs.declared.metrics.Metric.TheVariants as metrics
use Rattle.dp_law.specs.Mapping.{Mapping}
use Rattle.dp_aggregate.specs.contracts.quantise.QuantiseTransformation.TheImpl.{ghosts as quantise_ghosts}
use Rattle.dp_aggregate.specs.Quantise.{quantise_from, quantise_mapping}
use Rattle.dp_session.proofs.tests.library.hundreds_of_ages.Goals as goal

-- quantising by 100 makes at most 1 of a distance of 100
hundred-once : (lo hi : ℤ) (from : Domain) (metric : Metric) (made : Mapping)
    → from ≡ domain.Int lo hi → metric ≡ metrics.Absolute → quantise_from 100 from metric ≡ Ok made
    → made.stability_map 100 ≡ Some 1
hundred-once lo hi from metric made is_number is_absolute is_made =
    let there : quantise_from 100 (domain.Int lo hi) metrics.Absolute ≡ Ok made =
    ap (λ (d : Domain). quantise_from 100 d metrics.Absolute) (sym is_number)
    ∙ ap (quantise_from 100 from) (sym is_absolute) ∙ is_made in
    let same : quantise_mapping lo hi 100 ≡ made = cc in
    ap (λ (m : Mapping). m.stability_map 100) (sym same)

-- what 100 comes to through a second transformation
through : (out one : Option ℕ) (second : Mapping) → one ≡ Some 100
    → out ≡ option_and_then second.stability_map one → second.stability_map 100 ≡ Some 1 → out ≡ Some 1
through out one second is_100 is_out two = is_out ∙ ap (option_and_then second.stability_map) is_100 ∙ two

pub returns-clause-stable : goal.returns-clause-stable
returns-clause-stable c =
    through _ _ (quantise_ghosts.mapping c.in-Ok.quantise) c.sum_of_ages-sum.ensures.stable
    (ap (λ (m : Mapping). m.stability_map 1) c.in-Ok-new.ensures.2)
    (hundred-once _ _ _ _ _ (c.out_domain.ensures ∙ c.sum_of_ages-sum.ensures.range) c.out_metric.ensures c.in-Ok.ensures)
