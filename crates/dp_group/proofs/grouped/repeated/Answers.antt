use Rattle.std.proofs.Common.{◌≡◌, ◌+◌, ◌*◌, ◌≤◌, ◌++◌, ap, ◌∙◌, length, arith}
use Rattle.std.proofs.Math.Nat.{mul-le-mul_right, add-mul}
use Rattle.dp_count.proofs.Repeats.{length-repeat}
use Rattle.dp_group.proofs.Repeating.{repeat-more}
use Rattle.dp_group.proofs.grouped.repeated.Goals as goal

pub join-requires : goal.join-requires
join-requires c =
    let turn = c.loop-turn._turn in
    let n = length c.args.shape.now in
    let whole : length c.loop-turn.whole ≡ turn * n =
    ap length c.loop-turn.invariant ∙ length-repeat turn c.args.shape.now in
    let most : (turn + 1) * n ≤ c.args.times * n = mul-le-mul_right {m = turn + 1} {n = c.args.times} n (omega arith) in
    let spread = add-mul turn 1 n in
    omega arith

pub loop-turn-preserved : goal.loop-turn-preserved
loop-turn-preserved c =
    c.in_ok-join.ensures.ok ∙ ap (λ whole. whole ++ c.args.shape.now) c.loop-turn.invariant
    ∙ repeat-more c.loop-turn._turn c.args.shape.now
