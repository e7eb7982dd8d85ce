use Rattle.std.proofs.Common.{◌≡◌, ◌++◌, map, drop}
use Rattle.dp_count.specs.Results.{on_ok}
use Rattle.dp_domain.specs.Domains.{Fits}
use Rattle.dp_chain.specs.Lines.{stages_on, end_domain, end_metric}
use Rattle.dp_chain.specs.contracts.any_transformation.AnyTransformationTransformation.TheImpl.{mapping-value}
use Rattle.dp_chain.proofs.line.make_line.Given as goal

abbrev pub invariant-loop-stage : goal.invariant-loop-stage
invariant-loop-stage l = record {
  fits : Fits l.at;
  ends : end_domain l.domain (map mapping-value.it l.made.items) ≡ l.at;
  ends_by : end_metric l.metric (map mapping-value.it l.made.items) ≡ l.at_metric;
  forward : stages_on l.stages l.domain l.metric ≡
      on_ok (λ rest. map mapping-value.it l.made.items ++ rest) (stages_on (drop l.stage-index l.stages) l.at l.at_metric);
}
