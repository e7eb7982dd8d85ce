use Rattle.std.proofs.Common.{◌≡◌, ◌++◌, ◌∷◌, [], ◌+◌, length, true, ◌∙◌, ap, List, ℕ, rules}
use Rattle.std.specs.Result.{is_ok}
use Rattle.dp_records.proofs.PackedPlaces.{packed-more, cut-push}
use Rattle.dp_records.proofs.packed.Packed.push.Goals as goal

pub invariant_of-self-2 : goal.invariant_of-self-2
invariant_of-self-2 c =
    let good : is_ok c.push.result ≡ true = search rules in
    let ends : c.push.new.self.items ≡ c.self.inside.ends.items ++ c.in-Some.end ∷ [] =
    (rw good at c.push.ensures.items) ∙ ap (λ (l : List ℕ). l ++ c.in-Some.end ∷ []) c.reserve.ensures.items in
    let end : c.in-Some.end ≡ length c.self.inside.bytes.items + length c.args.text.now = rw (← c.self.inside.bytes.ok.0, ← c.len.ensures) c.in-Some.ensures in
    rw (ends, c.in_ok-extend_from_slice.ensures.items) (packed-more c.self.inside.ends.items c.self.inside.bytes.items c.args.text.now c.in-Some.end c.self.invariant end)

pub returns-clause-ok : goal.returns-clause-ok
returns-clause-ok c =
    let good : is_ok c.push.result ≡ true = search rules in
    let ends : c.push.new.self.items ≡ c.self.inside.ends.items ++ c.in-Some.end ∷ [] =
    (rw good at c.push.ensures.items) ∙ ap (λ (l : List ℕ). l ++ c.in-Some.end ∷ []) c.reserve.ensures.items in
    let end : c.in-Some.end ≡ length c.self.inside.bytes.items + length c.args.text.now = rw (← c.self.inside.bytes.ok.0, ← c.len.ensures) c.in-Some.ensures in
    rw (ends, c.in_ok-extend_from_slice.ensures.items, ← c.self.view_is) (cut-push c.self.inside.ends.items c.self.inside.bytes.items c.args.text.now c.in-Some.end c.self.invariant end)
