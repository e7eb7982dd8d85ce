use Rattle.std.proofs.Common.{◌≡◌, ◌∙◌, ◌<◌, length, ap, arith}
use Rattle.std.specs.Prelude.{slice_index}
use Rattle.dp_tree.proofs.Rows.{place-found}
use Rattle.dp_session.proofs.HeldPlaces.{kept}
use Rattle.dp_session.proofs.values.Values.keep_to.Goals as goal

pub returns : goal.returns
returns c = λ i.
    let names = c.self.inside.numbers.items in
    let place = rw c.as_slice.ensures.value at c.in-Some.ensures in
    let within : c.in-Some.place < length names = omega (arith, place.0, place.1) in
    let at : slice_index names c.in-Some.place ≡ c.args.node = ap (slice_index names) place.0 ∙ place-found names c.args.node place.1 in
    rw (← c.self.view_is, c.truncate.ensures.items, c.truncate-2.ensures.items)
    (kept names c.self.inside.held.items c.in-Some.place i c.args.node c.self.invariant.0 c.self.invariant.1 within at)
