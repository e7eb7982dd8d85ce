use Rattle.std.proofs.Common.{◌≡◌, take}
use Rattle.std.specs.Prelude.{filter}
use Rattle.dp_store.specs.Selections.{has_text}
use Rattle.dp_store.proofs.store.matching.Given as goal

abbrev pub invariant-loop-k : goal.invariant-loop-k
invariant-loop-k l = l.chosen.items ≡ filter (has_text l.store.records l.column l.text) (take l.k l.base)
