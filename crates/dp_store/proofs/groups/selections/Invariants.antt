use Rattle.std.proofs.Common.{◌≡◌, take, length}
use Rattle.dp_store.proofs.groups.selections.Given as goal

abbrev pub invariant-loop-list : goal.invariant-loop-list
invariant-loop-list l = record { front : l.chosen.items ≡ l.yielded; taken : l.yielded ≡ take (length l.yielded) l.fn.lists.items }
