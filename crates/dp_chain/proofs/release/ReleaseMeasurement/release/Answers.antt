use Rattle.std.proofs.Common.{List, map, sym, subst}
use Rattle.dp_domain.specs.declared.domains.Domain.{Domain}
use Rattle.dp_domain.specs.Domains.{Has}
use Rattle.dp_chain.specs.Releases.{TakeAll}
use Rattle.dp_chain.specs.PartMeanings.{MeasuredLine, part_mechanism}
use Rattle.dp_chain.proofs.ReleaseSteps.{alike-input}
use Rattle.dp_chain.proofs.release.ReleaseMeasurement.release.Goals as goal

pub release_each-requires : goal.release_each-requires
release_each-requires g c =
    let r = c.args.self.now in
    subst (λ (parts : List MeasuredLine). TakeAll (λ (d : Domain). Has d c.args.v.now) (map part_mechanism parts)) (sym c.as_slice.ensures.value)
    (alike-input record { p = r.ratio.p; q = r.ratio.q } r.domain r.metric (map part_mechanism r.parts.items) (λ (d : Domain). Has d c.args.v.now) r.alike c.requires)
