use Rattle.std.proofs.Common.{◌≡◌, map, drop}
use Rattle.dp_chain.specs.Lines.{line_value, Runs}
use Rattle.dp_chain.specs.contracts.any_transformation.AnyTransformationTransformation.TheImpl.{mapping-value}
use Rattle.dp_chain.proofs.line.apply_all.Given as goal

abbrev pub invariant-loop-stage : goal.invariant-loop-stage
invariant-loop-stage l = record {
  runs : Runs (map mapping-value.it (drop l.stage-index l.stages)) l.at;
  forward : line_value (map mapping-value.it l.stages) l.fn.v ≡ line_value (map mapping-value.it (drop l.stage-index l.stages)) l.at;
}
