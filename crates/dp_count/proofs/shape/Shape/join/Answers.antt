use Rattle.dp_count.proofs.Runs.{AreRuns-append, bounds-append}
use Rattle.dp_count.proofs.shape.Shape.join.Goals as goal

pub invariant_of-self-2 : goal.invariant_of-self-2
invariant_of-self-2 c =
    let few = rw (← c.self.view_is, ← c.other.view_is) at c.requires in
    rw (c.in_ok-extend_from_slice.ensures.items, c.as_slice.ensures.value) (AreRuns-append _ _ _ _ c.self.invariant c.other.invariant few)

pub returns-clause-ok : goal.returns-clause-ok
returns-clause-ok c =
    rw (c.in_ok-extend_from_slice.ensures.items, c.as_slice.ensures.value, ← c.self.view_is, ← c.other.view_is) (bounds-append _ _)
