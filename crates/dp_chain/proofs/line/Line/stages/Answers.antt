use Rattle.std.proofs.Common.{List, map, sym, subst}
use Rattle.dp_chain.specs.declared.any_transformation.AnyTransformation.{AnyTransformation}
use Rattle.dp_chain.specs.Lines.{Runs}
use Rattle.dp_chain.specs.contracts.any_transformation.AnyTransformationTransformation.TheImpl.{mapping-value}
use Rattle.dp_chain.specs.contracts.any_transformation.AnyTransformationTransformation.TheImpl.Laws.{law-law}
use Rattle.dp_chain.proofs.LineSteps.{joined-runs}
use Rattle.dp_chain.proofs.line.Line.stages.Goals as goal

pub returns-clause-runs : goal.returns-clause-runs
returns-clause-runs c = λ v has.
    let line = c.args.self.now in
    subst (λ (xs : List AnyTransformation). Runs (map mapping-value.it xs) v) (sym c.as_slice.ensures.value)
    (joined-runs mapping-value.it law-law line.domain line.metric line.stages.items v line.joined has)
