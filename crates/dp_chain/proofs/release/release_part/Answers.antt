use Rattle.std.proofs.Common.{◌≡◌, subst}
use Rattle.dp_domain.specs.declared.domains.Domain.{Domain}
use Rattle.dp_domain.specs.declared.values.Value.{Value}
use Rattle.dp_domain.specs.Domains.{Has}
use Rattle.dp_law.proofs.Taking.{takes-nothing}
use Rattle.dp_chain.specs.contracts.line.LineTransformation.TheImpl.{ghosts as line_ghosts}
use Rattle.dp_chain.specs.contracts.line.LineTransformation.TheImpl.Laws.{law-law as line_law}
use Rattle.dp_chain.specs.contracts.any_measurement.AnyMeasurementMeasurement.TheImpl.{ghosts as noise_ghosts}
use Rattle.dp_chain.specs.declared.any_measurement.AnyMeasurement.{AnyMeasurement}
use Rattle.dp_chain.specs.declared.line.Line.{Line}
use Rattle.dp_chain.specs.PartMeanings.{MeasuredLine, part_mechanism}
use Rattle.dp_chain.proofs.release.release_part.Goals as goal

pub returns-in-Err-clause-released : goal.returns-in-Err-clause-released
returns-in-Err-clause-released g c = takes-nothing _ _ _

-- what a part's line gives is what its measurement takes
lands : (part : MeasuredLine) (line : Line) (noise : AnyMeasurement) (v between : Value) → line ≡ part.first → noise ≡ part.second
    → between ≡ (line_ghosts.mapping line).function v → Has (part_mechanism part).input_domain v → Has (noise_ghosts.mechanism noise).input_domain between
lands part line noise v between same_line same_noise is h =
    let there : Has (line_ghosts.mapping part.first).output_domain ((line_ghosts.mapping part.first).function v) = (line_law part.first).lands v h in
    let taken : Has (noise_ghosts.mechanism part.second).input_domain ((line_ghosts.mapping part.first).function v) =
    subst (λ (d : Domain). Has d ((line_ghosts.mapping part.first).function v)) part.domains there in
    rw (same_noise, is, same_line) taken

pub release-requires : goal.release-requires
release-requires g c =
    lands c.args.part.now c.first.result.now c.second.result.now (g.I.Input.stands_for c.args.input.now) c.in-Ok.between c.first.ensures c.second.ensures
    c.in-Ok.ensures (g.met.I.Input.has_value c.args.input.now (part_mechanism c.args.part.now).input_domain c.requires)
