use Rattle.std.proofs.Common.{◌≡◌, ◌∙◌, ◌-◌, ◌+◌, ◌^◌, arith, ap, sym, Ok, Err, refl}
use Rattle.std.proofs.lemmas.Result.{err_from_is_err_and}
use Rattle.dp_io.specs.declared.faults.LineFault.TheVariants as line_fault
use Rattle.dp_runner.specs.declared.stop.Stop.TheVariants as stop
use Rattle.dp_runner.proofs.AnsweringSteps.{ends-over}
use Rattle.dp_runner.proofs.AnsweringEnds.{turn-none, turn-some, turn-read, turn-ends, err-same, read-failed, next-ends, end-ends, more-some, more-none, turn-taken, taken-so_far}
use Rattle.dp_runner.proofs.Interruptions.{reached-none, reached-more, cut-off}
use Rattle.dp_runner.proofs.answering.answer_lines.Goals as goal

pub loop-turn-init : goal.loop-turn-init
loop-turn-init g c = record {
  reached = reached-none (g.A.Answerer.stands c.args.answerer.now) (g.A.Answerer.answering c.args.answerer.now)
      g.D.Draws.step (g.D.Draws.state c.args.draws.now) _ _ _ c.requires.stands;
  answering = refl;
  slot = refl;
  slots = refl;
  faults = refl;
  draw_faults = refl;
  out_faults = refl;
}

pub returns-in_err-answer_next-clause-runs : goal.returns-in_err-answer_next-clause-runs
returns-in_err-answer_next-clause-runs g c =
    let p = err_from_is_err_and c.from_residual.result c.from_residual.ensures.1 in
    let s = c.loop-turn.invariant.reached.standing in
    let turned = rw (c.loop-turn.invariant.slot, c.loop-turn.invariant.answering) at
    (c.in_err-answer_next.ensures.turns s.past s.stands_at) in
    rw (p.1, p.2) (turn-ends c.in_err-answer_next.field-0.0 (g.A.Answerer.stands c.loop-turn.answerer)
    (g.A.Answerer.stands c.answer_next.new.answerer)
    _ _ _ _ _ _ _ _ _ c.loop-turn._turn (2 ^ 20 - c.loop-turn._turn) (2 ^ 20 - (c.loop-turn._turn + 1)) _ _ (omega arith) s turned
    (λ e. rw c.loop-turn.invariant.faults at (c.in_err-answer_next.ensures.rose (ap Err e))))

pub returns-in_err-answer_next-clause-taken : goal.returns-in_err-answer_next-clause-taken
returns-in_err-answer_next-clause-taken g c = λ other.
    let p = err_from_is_err_and c.from_residual.result c.from_residual.ensures.1 in
    let s = c.loop-turn.invariant.reached.standing in
    let turned = rw (c.loop-turn.invariant.slot, c.loop-turn.invariant.answering) at
    (c.in_err-answer_next.ensures.turns s.past s.stands_at) in
    turn-taken c.in_err-answer_next.field-0.0 (g.A.Answerer.stands c.loop-turn.answerer) (g.A.Answerer.stands c.answer_next.new.answerer)
    _ _ _ _ _ _ _ _ _ c.loop-turn._turn (2 ^ 20 - c.loop-turn._turn) (2 ^ 20 - (c.loop-turn._turn + 1)) (omega arith) s turned
    (λ e. other (p.1 ∙ ap Err (p.2 ∙ e)))

pub returns-then-not-branch-clause-runs : goal.returns-then-not-branch-clause-runs
returns-then-not-branch-clause-runs g c =
    let s = c.loop-turn.invariant.reached.standing in
    let turned = turn-none c.in_ok-answer_next.field-0 _ _ _ _ _ _ _ _ c.if-not-branch.true
    (rw (c.loop-turn.invariant.slot, c.loop-turn.invariant.answering) at (c.in_ok-answer_next.ensures.turns s.past s.stands_at)) in
    rw turned.1.0 (end-ends c.write_last.result (g.A.Answerer.stands c.loop-turn.answerer) _ _ _ _ _ _ _ _ c.loop-turn._turn
    (2 ^ 20 - c.loop-turn._turn) _ _
    (g.met.A.Answerer.whole_lines c.args.answerer.now) s turned.0 turned.1.1
    (rw (c.in_ok-answer_next.ensures.same, c.loop-turn.invariant.answering) at (c.write_last.ensures.ends s.past turned.2)))

pub returns-then-not-branch-clause-taken : goal.returns-then-not-branch-clause-taken
returns-then-not-branch-clause-taken g c = λ other.
    let s = c.loop-turn.invariant.reached.standing in
    let turned = turn-none c.in_ok-answer_next.field-0 _ _ _ _ _ _ _ _ c.if-not-branch.true
    (rw (c.loop-turn.invariant.slot, c.loop-turn.invariant.answering) at (c.in_ok-answer_next.ensures.turns s.past s.stands_at)) in
    taken-so_far (g.A.Answerer.stands c.loop-turn.answerer) _ _ _ _ _ _ _ c.loop-turn._turn (2 ^ 20 - c.loop-turn._turn) s turned.1.0

pub loop-turn-preserved : goal.loop-turn-preserved
loop-turn-preserved g c =
    let s = c.loop-turn.invariant.reached.standing in
    let answered = turn-some c.in_ok-answer_next.field-0 _ _ _ _ _ _ _ _ c.if-not-branch.false
    (rw (c.loop-turn.invariant.slot, c.loop-turn.invariant.answering) at (c.in_ok-answer_next.ensures.turns s.past s.stands_at)) in
    record {
      reached = reached-more (g.A.Answerer.stands c.loop-turn.answerer) (g.A.Answerer.stands c.answer_next.new.answerer) _ _ _ _ _ _ _ _ _
          c.loop-turn._turn (2 ^ 20 - c.loop-turn._turn) (2 ^ 20 - (c.loop-turn._turn + 1)) c.loop-turn.lines.at_end _
          (g.met.A.Answerer.whole_lines c.args.answerer.now) (omega arith) c.loop-turn.invariant.reached answered
          c.answer_next.ensures.end_stays
          (rw c.loop-turn.invariant.slot at (c.in_ok-answer_next.ensures.unended (ap Ok c.if-not-branch.false)));
      answering = c.in_ok-answer_next.ensures.same ∙ c.loop-turn.invariant.answering;
      slot = c.answer_next.ensures.same_slot ∙ c.loop-turn.invariant.slot;
      slots = c.answer_next.ensures.same_slots ∙ c.loop-turn.invariant.slots;
      faults = c.in_ok-answer_next.ensures.kept ∙ c.loop-turn.invariant.faults;
      draw_faults = c.in_ok-answer_next.ensures.draws_kept (λ e. absurd (cc)) ∙ c.loop-turn.invariant.draw_faults;
      out_faults = c.in_ok-answer_next.ensures.out_kept (λ e. absurd (cc)) ∙ c.loop-turn.invariant.out_faults;
    }

pub returns-in_err-next-clause-runs : goal.returns-in_err-next-clause-runs
returns-in_err-next-clause-runs g c =
    let p = err_from_is_err_and c.from_residual-in_err-next.result c.from_residual-in_err-next.ensures.1 in
    let s = c.loop-turn.invariant.reached.standing in
    rw (p.1, p.2) (next-ends c.in_err-next.field-0.0 (g.A.Answerer.stands c.loop-turn.answerer) _ _ _ _ _ _ c.loop-turn._turn
    (2 ^ 20 - c.loop-turn._turn) _ _ s
    (λ e. rw c.loop-turn.invariant.slot at (c.in_err-next.ensures.too_long (ap Err e)))
    (λ e. rw c.loop-turn.invariant.faults at (c.in_err-next.ensures.cause (ap Err e))))

pub returns-in_err-next-clause-taken : goal.returns-in_err-next-clause-taken
returns-in_err-next-clause-taken g c = λ other.
    let s = c.loop-turn.invariant.reached.standing in
    taken-so_far (g.A.Answerer.stands c.loop-turn.answerer) _ _ _ _ _ _ _ c.loop-turn._turn (2 ^ 20 - c.loop-turn._turn) s refl

pub returns-then-branch-clause-runs : goal.returns-then-branch-clause-runs
returns-then-branch-clause-runs g c =
    let s = c.loop-turn.invariant.reached.standing in
    let more = rw c.loop-turn.invariant.slot at c.in_ok-next.ensures.more in
    ends-over (g.A.Answerer.stands c.loop-turn.answerer) _ _ _ _ _ _ _ c.loop-turn._turn (2 ^ 20 - c.loop-turn._turn) s (omega arith)
    (λ text is. more-some c.in_ok-next.field-0 text (more text is) c.if-branch.true) refl

pub returns-then-branch-clause-taken : goal.returns-then-branch-clause-taken
returns-then-branch-clause-taken g c = λ other.
    let s = c.loop-turn.invariant.reached.standing in
    taken-so_far (g.A.Answerer.stands c.loop-turn.answerer) _ _ _ _ _ _ _ c.loop-turn._turn (2 ^ 20 - c.loop-turn._turn) s refl

pub returns-clause-runs : goal.returns-clause-runs
returns-clause-runs g c =
    let s = c.loop-turn.invariant.reached.standing in
    let more = rw c.loop-turn.invariant.slot at c.in_ok-next.ensures.more in
    end-ends c.write_last-2.result (g.A.Answerer.stands c.loop-turn.answerer) _ _ _ _ _ _ _ _ c.loop-turn._turn
    (2 ^ 20 - c.loop-turn._turn) _ _
    (g.met.A.Answerer.whole_lines c.args.answerer.now) s
    (λ text is. more-none c.in_ok-next.field-0 text (more text is) c.if-branch.false) refl
    (rw c.loop-turn.invariant.answering at (c.write_last-2.ensures.ends s.past s.stands_at))

pub returns-clause-taken : goal.returns-clause-taken
returns-clause-taken g c = λ other.
    let s = c.loop-turn.invariant.reached.standing in
    taken-so_far (g.A.Answerer.stands c.loop-turn.answerer) _ _ _ _ _ _ _ c.loop-turn._turn (2 ^ 20 - c.loop-turn._turn) s refl

pub returns-in_err-answer_next-clause-interrupted : goal.returns-in_err-answer_next-clause-interrupted
returns-in_err-answer_next-clause-interrupted g c = λ failed.
    let s = c.loop-turn.invariant.reached.standing in
    let p = err_from_is_err_and c.from_residual.result c.from_residual.ensures.1 in
    let reason : c.in_err-answer_next.field-0.0 ≡ stop.ReadFault = sym p.2 ∙ err-same _ _ _ p.1 failed in
    let turned = rw (c.loop-turn.invariant.slot, c.loop-turn.invariant.answering) at
    (c.in_err-answer_next.ensures.turns s.past s.stands_at) in
    let nothing = turn-read c.in_err-answer_next.field-0.0 _ _ _ _ _ _ _ _ reason turned in
    cut-off (g.A.Answerer.stands c.loop-turn.answerer) _ _ _ _ _ _ _ _ c.loop-turn._turn (2 ^ 20 - c.loop-turn._turn)
    c.loop-turn.lines.at_end c.answer_next.new.lines _ c.loop-turn.invariant.reached
    (c.in_err-answer_next.ensures.failed (ap Err reason)) c.answer_next.ensures.end_stays
    (sym (rw c.loop-turn.invariant.slot at (c.in_err-answer_next.ensures.same_text (ap Err reason)))) nothing.1 nothing.0

pub returns-in_err-next-clause-interrupted : goal.returns-in_err-next-clause-interrupted
returns-in_err-next-clause-interrupted g c = λ failed.
    let p = err_from_is_err_and c.from_residual-in_err-next.result c.from_residual-in_err-next.ensures.1 in
    let reason : c.in_err-next.field-0.0 ≡ line_fault.Failed = read-failed _ (sym p.2 ∙ err-same _ _ _ p.1 failed) in
    cut-off (g.A.Answerer.stands c.loop-turn.answerer) _ _ _ _ _ _ _ _ c.loop-turn._turn (2 ^ 20 - c.loop-turn._turn)
    c.loop-turn.lines.at_end c.next.new.self _ c.loop-turn.invariant.reached
    (c.in_err-next.ensures.failed_ahead (ap Err reason)) c.next.ensures.end_stays
    (sym (rw c.loop-turn.invariant.slot at c.in_err-next.ensures.kept)) refl refl
