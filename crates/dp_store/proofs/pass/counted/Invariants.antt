use Rattle.std.proofs.Common.{◌≡◌, ◌≤◌, take}
use Rattle.dp_domain.specs.declared.values.Value.TheVariants as value
use Rattle.dp_store.specs.Rowwise.{list_len}
use Rattle.dp_store.specs.Selections.{selected}
use Rattle.dp_store.proofs.Passes.{given_of}
use Rattle.dp_store.proofs.pass.counted.Given as goal

abbrev pub invariant-loop-k : goal.invariant-loop-k
invariant-loop-k l = record {
  few : l.count ≤ l.k;
  value : l.count ≡ list_len (given_of l.stages (value.Rows (selected l.store.records (take l.k l.base))));
}
