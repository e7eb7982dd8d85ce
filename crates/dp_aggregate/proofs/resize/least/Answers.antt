use Rattle.std.proofs.Common.{◌≡◌, ℕ, ℤ, ◌-◌, List, take, replicate, ◌++◌, w64, to_z, of_z, vec_len, length, ap, ◌∙◌, subst, rules}
use Rattle.std.specs.List.Sorted.{IsPermutation}
use Rattle.std.specs.Int.RustNames.{FitsSigned}
use Rattle.std.proofs.lemmas.Int.{to_z-of_z}
use Rattle.dp_aggregate.specs.Resize.{in_order, resized}
use Rattle.dp_aggregate.specs.RisingOrderProof.{sorted-in_order}
use Rattle.dp_aggregate.proofs.resize.least.Goals as goal

pub returns : goal.returns
unfolding resized
returns c =
    let xs = c.args.numbers.now in
    let size = c.args.size in
    let sorted = c.sort_unstable.new.self in
    let moved : IsPermutation xs sorted.items = subst (λ (l : List ℤ). IsPermutation l sorted.items) c.in_ok-least.ensures.items c.sort_unstable.ensures.permutation in
    let ordered = sorted-in_order xs sorted.items moved c.sort_unstable.ensures.sorted in
    let fits : FitsSigned w64 c.args.fill.now = search rules in
    let fill : to_z w64 (of_z w64 c.args.fill.now) ≡ c.args.fill.now = to_z-of_z w64 c.args.fill.now fits in
    let missing : size - vec_len sorted ≡ size - length xs = ap (λ (n : ℕ). size - n) (c.sort_unstable.ensures.len ∙ c.in_ok-least.ensures.len) in
    c.in_ok-resize.ensures.items
    ∙ ap (λ (l : List ℤ). take size l ++ replicate (size - vec_len sorted) (to_z w64 (of_z w64 c.args.fill.now))) ordered
    ∙ ap (λ (n : ℕ). take size (in_order xs) ++ replicate n (to_z w64 (of_z w64 c.args.fill.now))) missing
    ∙ ap (λ (z : ℤ). take size (in_order xs) ++ replicate (size - length xs) z) fill
