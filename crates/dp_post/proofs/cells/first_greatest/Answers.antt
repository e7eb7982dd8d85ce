use Rattle.std.proofs.Common.{◌≡◌, ◌≤◌, ℕ, length, arith, rules, subst}
use Rattle.std.specs.List.{IsFirstBest}
use Rattle.dp_post.proofs.Greatest.{is_greater, greatest-place}
use Rattle.dp_post.proofs.cells.first_greatest.Goals as goal

pub returns : goal.returns
returns c =
    let some : 1 ≤ length c.args.cells.now = search rules in
    let all : c.loop-k.k ≡ length c.args.cells.now = omega arith in
    greatest-place c.args.cells.now c.loop-k.best
    (subst (λ (n : ℕ). IsFirstBest is_greater c.args.cells.now n c.loop-k.best) all c.loop-k.invariant)
