use Rattle.std.proofs.Common.{◌≡◌, ◌∙◌, sym, subst, ap, Ok, Err}
use Rattle.dp_num.specs.Limits.{Fraction}
use Rattle.dp_domain.specs.declared.domains.Domain.{Domain}
use Rattle.dp_domain.specs.declared.metrics.Metric.{Metric}
use Rattle.dp_domain.specs.Domains.{Fits}
use Rattle.dp_law.specs.Making.{MakesOr}
use Rattle.dp_law.specs.Joining.{measured}
use Rattle.dp_chain.specs.declared.any_measurement.AnyMeasurement.{AnyMeasurement}
use Rattle.dp_chain.specs.declared.line.Line.{Line}
use Rattle.dp_chain.specs.Releases.{IsLike}
use Rattle.dp_chain.specs.Stages.{noise_on}
use Rattle.dp_chain.specs.contracts.line.LineTransformation.TheImpl.{ghosts as line_ghosts}
use Rattle.dp_chain.specs.contracts.any_measurement.AnyMeasurementMeasurement.TheImpl.{ghosts as noise_ghosts}
use Rattle.dp_chain.specs.PartMeanings.{part_mechanism}
use Rattle.dp_chain.proofs.ReleaseMaking.{part-made, line-fault, noise-fault, noise-takes, noise-at, line-input}
use Rattle.dp_chain.proofs.release.make_part.Goals as goal

pub returns-in-Err-clause-made : goal.returns-in-Err-clause-made
returns-in-Err-clause-made c =
    let ratio : Fraction = record { p = c.args.ratio.p; q = c.args.ratio.q } in
    line-fault line_ghosts.mapping part_mechanism ratio c.args.part.now c.args.domain c.args.metric c.in-Err.fault c.in-Err.ensures

pub joined-requires-clause-domains : goal.joined-requires-clause-domains
joined-requires-clause-domains c =
    let ratio : Fraction = record { p = c.args.ratio.p; q = c.args.ratio.q } in
    let to_is : c.in-Ok.line.to_domain ≡ c.out_domain-to_domain.result = sym c.in-Ok.line.ends ∙ sym c.out_domain-to_domain.ensures in
    let like = noise-takes ratio c.args.part.now.noise c.out_domain-to_domain.result c.out_metric-to_metric.result (noise_ghosts.mechanism c.in-Ok-make.noise)
    (subst (λ (d : Domain). Fits d) to_is c.in-Ok.line.end_fits) c.in-Ok-make.ensures in
    sym (like.input_domain ∙ c.out_domain-to_domain.ensures)

pub joined-requires-clause-metrics : goal.joined-requires-clause-metrics
joined-requires-clause-metrics c =
    let ratio : Fraction = record { p = c.args.ratio.p; q = c.args.ratio.q } in
    let to_is : c.in-Ok.line.to_domain ≡ c.out_domain-to_domain.result = sym c.in-Ok.line.ends ∙ sym c.out_domain-to_domain.ensures in
    let like = noise-takes ratio c.args.part.now.noise c.out_domain-to_domain.result c.out_metric-to_metric.result (noise_ghosts.mechanism c.in-Ok-make.noise)
    (subst (λ (d : Domain). Fits d) to_is c.in-Ok.line.end_fits) c.in-Ok-make.ensures in
    sym (like.input_metric ∙ c.out_metric-to_metric.ensures)

pub returns-in-Ok-make-clause-made : goal.returns-in-Ok-make-clause-made
returns-in-Ok-make-clause-made c =
    let ratio : Fraction = record { p = c.args.ratio.p; q = c.args.ratio.q } in
    let noise_is = noise-at ratio c.args.part.now.noise _ _ _ _ (Ok (noise_ghosts.mechanism c.in-Ok-make.noise))
    c.out_domain-to_domain.ensures c.out_metric-to_metric.ensures c.in-Ok-make.ensures in
    part-made ratio c.args.part.now c.args.domain c.args.metric (line_ghosts.mapping c.in-Ok.line) (noise_ghosts.mechanism c.in-Ok-make.noise) c.in-Ok.ensures noise_is
    ∙ sym (ap (λ (line : Line). Ok (measured (line_ghosts.mapping line) (noise_ghosts.mechanism c.joined.result.second))) c.joined.ensures.first
    ∙ ap (λ (noise : AnyMeasurement). Ok (measured (line_ghosts.mapping c.in-Ok.line) (noise_ghosts.mechanism noise))) c.joined.ensures.second)

pub returns-in-Err-make-clause-made : goal.returns-in-Err-make-clause-made
returns-in-Err-make-clause-made c =
    let ratio : Fraction = record { p = c.args.ratio.p; q = c.args.ratio.q } in
    let line = line_ghosts.mapping c.in-Ok.line in
    noise-fault noise_ghosts.mechanism part_mechanism ratio c.args.part.now c.args.domain c.args.metric line c.in-Err-make.fault c.in-Ok.ensures
    (subst (λ (d : Domain). MakesOr noise_ghosts.mechanism (Err c.in-Err-make.fault) (noise_on ratio c.args.part.now.noise d line.output_metric)) c.out_domain-to_domain.ensures
    (subst (λ (m : Metric). MakesOr noise_ghosts.mechanism (Err c.in-Err-make.fault) (noise_on ratio c.args.part.now.noise c.out_domain-to_domain.result m)) c.out_metric-to_metric.ensures
    c.in-Err-make.ensures))

pub returns-in-Ok-make-clause-alike : goal.returns-in-Ok-make-clause-alike
returns-in-Ok-make-clause-alike c =
    let ratio : Fraction = record { p = c.args.ratio.p; q = c.args.ratio.q } in
    let to_is : c.in-Ok.line.to_domain ≡ c.out_domain-to_domain.result = sym c.in-Ok.line.ends ∙ sym c.out_domain-to_domain.ensures in
    let like = noise-takes ratio c.args.part.now.noise c.out_domain-to_domain.result c.out_metric-to_metric.result (noise_ghosts.mechanism c.in-Ok-make.noise)
    (subst (λ (d : Domain). Fits d) to_is c.in-Ok.line.end_fits) c.in-Ok-make.ensures in
    let input = line-input c.args.part.now.stages c.args.domain c.args.metric (line_ghosts.mapping c.in-Ok.line) c.in-Ok.ensures in
    subst (λ (line : Line). IsLike ratio c.args.domain c.args.metric (measured (line_ghosts.mapping line) (noise_ghosts.mechanism c.joined.result.second))) (sym c.joined.ensures.first)
    (subst (λ (noise : AnyMeasurement). IsLike ratio c.args.domain c.args.metric (measured (line_ghosts.mapping c.in-Ok.line) (noise_ghosts.mechanism noise))) (sym c.joined.ensures.second)
    record {
      input_domain = input.0;
      input_metric = input.1;
      one_ratio = like.one_ratio;
      few_draws = like.few_draws;
      few_pieces = like.few_pieces;
    })
