use Rattle.std.proofs.Common.{rules, ◌≡◌, ◌∙◌, ◌∷◌, ◌++◌, [], ℕ, List, true, ap}
use Rattle.std.specs.Result.{is_ok}
use Rattle.dp_session.proofs.HeldPlaces.{pushed, more-rise, pushed-size}
use Rattle.dp_session.proofs.values.Values.push.Goals as goal

pub invariant_of-self-2 : goal.invariant_of-self-2
invariant_of-self-2 c =
    let good : is_ok c.push.result ≡ true = search rules in
    let items = rw good at c.push.ensures.items in
    let names = items ∙ ap (λ (l : List ℕ). l ++ c.args.number ∷ []) c.reserve.ensures.items in
    let above = rw (← c.self.view_is) at c.requires in
    rw (names, c.in_ok-append.ensures.ok) (
      more-rise c.self.inside.numbers.items c.self.inside.held.items c.args.number c.self.invariant.0 c.self.invariant.1 above,
      pushed-size c.self.inside.numbers.items c.self.inside.held.items c.args.number c.args.held c.self.invariant.1,
    )

pub returns : goal.returns
returns c = λ i.
    let good : is_ok c.push.result ≡ true = search rules in
    let items = rw good at c.push.ensures.items in
    let names = items ∙ ap (λ (l : List ℕ). l ++ c.args.number ∷ []) c.reserve.ensures.items in
    let above = rw (← c.self.view_is) at c.requires in
    rw (← c.self.view_is, names, c.in_ok-append.ensures.ok)
    (pushed c.self.inside.numbers.items c.self.inside.held.items c.args.number c.args.held i c.self.invariant.0 c.self.invariant.1 above)
