use Rattle.std.proofs.Common.{List, map, sym, subst}
use Rattle.dp_chain.specs.Releases.{TakeAll}
use Rattle.dp_chain.specs.PartMeanings.{MeasuredLine, part_mechanism}
use Rattle.dp_chain.proofs.ReleaseSteps.{alike-input}
use Rattle.dp_chain.proofs.release.Release.release_from.Goals as goal

pub release_each-requires : goal.release_each-requires
release_each-requires g c =
    let r = c.args.self.now in
    subst (λ (parts : List MeasuredLine). TakeAll (g.I.Input.takes c.args.input.now) (map part_mechanism parts)) (sym c.as_slice.ensures.value)
    (alike-input record { p = r.ratio.p; q = r.ratio.q } r.domain r.metric (map part_mechanism r.parts.items) (g.I.Input.takes c.args.input.now) r.alike c.requires)
