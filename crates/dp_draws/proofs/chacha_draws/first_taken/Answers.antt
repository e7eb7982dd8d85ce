use Rattle.std.proofs.Common.{◌≡◌, ℕ, ◌+◌, ◌-◌, ◌*◌, ◌/◌, ◌^◌, ◌<◌, ◌≤◌, arith, ap, ◌∙◌, subst}
use Rattle.dp_draws.specs.ChaChaDraws.{taken_below, first_taken, most_turns}
use Rattle.dp_draws.proofs.Turns.{first_taken-now, first_taken-later, first_taken-none}
use Rattle.dp_draws.proofs.chacha_draws.first_taken.Goals as goal

pub returns-then-from-taken_below : goal.returns-then-from-taken_below
returns-then-from-taken_below c =
    let below : c.next_u64_via_u32-number.result < taken_below c.args.m = subst (λ (m : ℕ). c.next_u64_via_u32-number.result < m * (2 ^ 64 / m)) c.from-bound.ensures (omega arith) in
    c.loop-turn.invariant ∙ first_taken-now _ _ _ _ _ (omega arith) c.next_u64_via_u32-number.ensures below

pub loop-turn-preserved : goal.loop-turn-preserved
loop-turn-preserved c =
    let above : taken_below c.args.m ≤ c.next_u64_via_u32-number.result = subst (λ (m : ℕ). m * (2 ^ 64 / m) ≤ c.next_u64_via_u32-number.result) c.from-bound.ensures (omega arith) in
    let left : (most_turns - c.loop-turn._turn) - 1 ≡ most_turns - (c.loop-turn._turn + 1) = omega arith in
    c.loop-turn.invariant ∙ first_taken-later _ _ _ _ _ (omega arith) c.next_u64_via_u32-number.ensures above ∙ ap (λ k. first_taken k c.args.m c.next_u64_via_u32-number.new.rng) left

pub returns : goal.returns
returns c = c.loop-turn.invariant ∙ first_taken-none _ _ _ (omega arith)
