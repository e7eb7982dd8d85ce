-- What is left of a slot that was read to its end.
use Rattle.std.proofs.Common.{◌≡◌, List, ℕ, [], Option, Some, sym, ap}
use Rattle.std.specs.Option.{ForSome}
use Rattle.std.proofs.lemmas.List.{append-nil}
use Rattle.dp_io.specs.Shelf.{KeepsRest}

-- nothing is a rest of what was left
pub emptied-keeps : (old new : Option (List ℕ)) → ForSome old (λ left. new ≡ Some []) → ForSome old (λ left. KeepsRest (Some left) new)
emptied-keeps old new h = λ left is. rw (h left is) record { front = left; split = ap Some (sym (append-nil left)) }
