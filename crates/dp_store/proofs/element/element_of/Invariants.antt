use Rattle.std.proofs.Common.{◌≡◌, [], ◌∷◌, drop}
use Rattle.dp_domain.specs.declared.values.Value.TheVariants as value
use Rattle.dp_rowwise.specs.Truncate.{record_at}
use Rattle.dp_store.proofs.Passes.{given_of}
use Rattle.dp_store.specs.Elements.{element_value, IsStoredElement}
use Rattle.dp_store.proofs.element.element_of.Given as goal

abbrev pub invariant-loop-stage : goal.invariant-loop-stage
invariant-loop-stage l = record {
  stored : IsStoredElement l.store.records l.element;
  forward : given_of l.stages (value.Rows (record_at l.store.records l.number ∷ []))
      ≡ given_of (drop l.stage-index l.stages) (element_value l.store.records l.element);
}
