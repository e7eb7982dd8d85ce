use Rattle.std.proofs.Common.{◌≡◌, ◌∙◌, List, map, ap, sym, subst}
use Rattle.std.proofs.lemmas.Result.{IfOk-weaker}
use Rattle.dp_domain.specs.Domains.{Has}
use Rattle.dp_law.proofs.Landing.{lands_at}
use Rattle.dp_chain.specs.declared.any_transformation.AnyTransformation.{AnyTransformation}
use Rattle.dp_chain.specs.Lines.{Runs, line_value, composed}
use Rattle.dp_chain.specs.LinesProof.{line_law}
use Rattle.dp_chain.specs.contracts.any_transformation.AnyTransformationTransformation.TheImpl.{mapping-value}
use Rattle.dp_chain.specs.contracts.any_transformation.AnyTransformationTransformation.TheImpl.Laws.{law-law}
use Rattle.dp_chain.proofs.LineSteps.{joined-runs}
use Rattle.dp_chain.proofs.line.LineTransformation.apply.Goals as goal

pub apply_line-requires : goal.apply_line-requires
apply_line-requires c =
    let line = c.args.self.now in
    subst (λ (xs : List AnyTransformation). Runs (map mapping-value.it xs) c.args.v.now) (sym c.as_slice.ensures.value)
    (joined-runs mapping-value.it law-law line.domain line.metric line.stages.items c.args.v.now line.joined c.requires)

pub returns-clause-within : goal.returns-clause-within
returns-clause-within c =
    let line = c.args.self.now in
    let m = composed line.domain line.metric (map mapping-value.it line.stages.items) in
    IfOk-weaker c.apply_line.result (λ w. w ≡ line_value (map mapping-value.it c.as_slice.result.now) c.args.v.now) (λ w. Has m.output_domain w)
    (λ w same. lands_at m (line_law mapping-value.it law-law line.domain line.metric line.stages.items line.fits line.joined) c.args.v.now w
    (same ∙ ap (λ (xs : List AnyTransformation). line_value (map mapping-value.it xs) c.args.v.now) c.as_slice.ensures.value) c.requires)
    c.apply_line.ensures
