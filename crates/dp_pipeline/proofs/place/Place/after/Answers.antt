use Rattle.std.proofs.Common.{sym, subst}
use Rattle.dp_domain.specs.declared.domains.Domain.{Domain}
use Rattle.dp_domain.specs.Domains.{Fits}
use Rattle.dp_chain.specs.contracts.any_transformation.AnyTransformationTransformation.TheImpl.Laws.{law-law}
use Rattle.dp_pipeline.proofs.place.Place.after.Goals as goal

pub invariant_of-result : goal.invariant_of-result
invariant_of-result c =
    let law = law-law c.in-Ok.made in
    (subst (λ (d : Domain). Fits d) (sym c.out_domain.ensures) law.output_fits, law.limited c.self.inside.distance c.in-Ok-map.distance (sym c.in-Ok-map.ensures))
