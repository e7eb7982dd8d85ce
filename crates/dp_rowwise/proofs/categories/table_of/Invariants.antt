use Rattle.std.proofs.Common.{◌≡◌, true, take, length}
use Rattle.dp_rowwise.specs.Categories.{are_different}
use Rattle.dp_rowwise.proofs.categories.table_of.Given as goal

abbrev pub invariant-loop-text : goal.invariant-loop-text
invariant-loop-text l = record { front : l.table ≡ l.yielded; taken : l.yielded ≡ take (length l.yielded) l.fn.texts; different : are_different l.table ≡ true }
