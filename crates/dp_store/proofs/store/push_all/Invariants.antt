use Rattle.std.proofs.Common.{◌≡◌, ◌++◌, take}
use Rattle.dp_store.proofs.store.push_all.Given as goal

abbrev pub invariant-loop-text : goal.invariant-loop-text
invariant-loop-text l = l.cells ≡ l.initial.cells ++ take l.text-index l.texts
