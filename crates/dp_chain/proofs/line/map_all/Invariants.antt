use Rattle.std.proofs.Common.{◌≡◌, ◌≤◌, ◌^◌, map, drop}
use Rattle.dp_chain.specs.Lines.{line_map}
use Rattle.dp_chain.specs.contracts.any_transformation.AnyTransformationTransformation.TheImpl.{mapping-value}
use Rattle.dp_chain.proofs.line.map_all.Given as goal

abbrev pub invariant-loop-stage : goal.invariant-loop-stage
invariant-loop-stage l = record {
  few : l.at ≤ 2 ^ 32;
  forward : line_map (map mapping-value.it l.stages) l.d ≡ line_map (map mapping-value.it (drop l.stage-index l.stages)) l.at;
}
