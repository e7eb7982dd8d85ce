use Rattle.std.proofs.Common.{rules, ℕ, ◌<◌, ◌≤◌, sym, arith, Ok, Err, ◌⊎◌, inl, inr}
use Rattle.std.proofs.lemmas.List.Sorted.{searched}
use Rattle.dp_tree.proofs.Lists.{rise-ge, rise-place, rise-weakly}
use Rattle.dp_tree.proofs.Rows.{place-none}
use Rattle.dp_tree.proofs.places.place.Goals as goal

-- src/places.rt:12:9
pub returns-in_default : goal.returns-in_default
returns-in_default c = place-none c.args.numbers.now c.args.node (λ j l e. let i = c.type_inv.numbers j in let h = c.in_default.ensures in omega (arith, i, h, e))

-- src/places.rt:15:27
pub overflow_cast-result : goal.overflow_cast-result
overflow_cast-result c =
    let found = searched c.args.numbers.now c.in-Ok.number (Ok c.in-Ok-binary_search.place) c.in-Ok-binary_search.ensures.position (rise-weakly c.args.numbers.now c.requires) in
    let small = rise-ge c.args.numbers.now c.requires c.in-Ok-binary_search.place found.0 in
    let fits = c.type_inv.numbers c.in-Ok-binary_search.place in
    omega (arith, small, fits)

-- src/places.rt:5:1
pub returns-in-Ok-binary_search : goal.returns-in-Ok-binary_search
returns-in-Ok-binary_search c =
    let found = searched c.args.numbers.now c.in-Ok.number (Ok c.in-Ok-binary_search.place) c.in-Ok-binary_search.ensures.position (rise-weakly c.args.numbers.now c.requires) in
    let at = rise-place c.args.numbers.now c.in-Ok-binary_search.place c.in-Ok.number c.requires found.0 found.1 in
    let n = c.in-Ok.ensures in
    rw (← n.1) (sym at, rw at found.0)

-- src/places.rt:5:1
pub returns-in-Err : goal.returns-in-Err
returns-in-Err c =
    let found = searched c.args.numbers.now c.in-Ok.number (Err c.in-Err.field-0) c.in-Err.ensures.position (rise-weakly c.args.numbers.now c.requires) in
    let n = c.in-Ok.ensures in
    place-none c.args.numbers.now c.args.node (λ j l e. elim (cut j c.in-Err.field-0) [
      | inl h ↦ let less = found.1 j h in omega (arith, less, n.1, e)
      | inr h ↦ let more = found.2 j h l in omega (arith, more, n.1, e)
    ])
  where
    cut : (a b : ℕ) → (a < b) ⊎ (b ≤ a)
    cut a b = search rules
