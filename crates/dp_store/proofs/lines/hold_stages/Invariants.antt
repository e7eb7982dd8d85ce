use Rattle.std.proofs.Common.{length, ◌-◌, ◌≡◌, ◌≤◌, drop}
use Rattle.dp_domain.specs.declared.values.Value.TheVariants as value
use Rattle.dp_chain.specs.Lines.{Runs}
use Rattle.dp_chain.specs.Meanings.{stage_mappings}
use Rattle.dp_store.specs.Held.{held_value, IsHeld}
use Rattle.dp_store.specs.Selections.{selected}
use Rattle.dp_store.proofs.Passes.{given_of}
use Rattle.dp_store.proofs.lines.hold_stages.Given as goal

abbrev pub invariant-loop-place : goal.invariant-loop-place
invariant-loop-place l = record {
  within : l.place ≤ length l.stages;
  held : IsHeld l.store.records l.held;
  runs : Runs (stage_mappings (drop l.place l.stages)) (held_value l.store.records l.held);
  forward : given_of l.stages (value.Rows (selected l.store.records l.base))
      ≡ given_of (drop l.place l.stages) (held_value l.store.records l.held);
}

abbrev pub decreases-loop-place : goal.decreases-loop-place
decreases-loop-place l = length l.stages - l.place
