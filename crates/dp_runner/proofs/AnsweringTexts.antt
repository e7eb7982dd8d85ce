-- What is yet to be written of a text of queries, line by line.
use Rattle.std.proofs.Common.{◌≡◌, ◌∙◌, ◌<◌, ◌≤◌, ◌^◌, ℕ, suc, Bool, true, false, List, [], ◌∷◌, ◌++◌, length, Some, None, refl, ap, append_assoc}
use mathlib.Core.List.{reverse_aux}
use Rattle.dp_count.specs.Slots.{Slot, joined_shape}
use Rattle.dp_draws.specs.Taking.{Turn, take_draws}
use Rattle.dp_io.specs.Lines.{first_line, after_first_line, lines_within, has_line_over}
use Rattle.dp_io.proofs.TextLines.{within-first, within-none, within-long, within-zero, over-first, over-none, over-long, over-zero}
use Rattle.dp_session.specs.SessionLines.{Ran, line_slots, run_slots, preceded, after_taken}
use Rattle.dp_runner.specs.declared.stop.Stop.TheVariants as stop
use Rattle.dp_runner.specs.Answering.{Answering, ends, answered, answered_shape}
use Rattle.dp_runner.specs.Outcome.{Source, Outcome, preceded_by}

-- what is yet to come of a text with at most so many lines, after some lines, newest first, and from a state of the
-- draw source
pub to_come : (List ℕ → ℕ → Turn) → Answering → ℕ → List (List ℕ) → List ℕ → List ℕ → Outcome
to_come step answering most past text state =
    ends (run_slots step (line_slots answering.slot past (lines_within most text)) state) (has_line_over most text)
    (answering.last_line (reverse_aux (lines_within most text) past))

-- the bounds of its draws
pub shape_to_come : Answering → ℕ → List (List ℕ) → List ℕ → List ℕ
shape_to_come answering most past text = joined_shape (line_slots answering.slot past (lines_within most text))

ends-by : (enough over : Bool) (bytes more last_line last : List ℕ)
    → ends (record { bytes = bytes ++ more; enough = enough; last = last }) over last_line
    ≡ preceded_by bytes (ends (record { bytes = more; enough = enough; last = last }) over last_line)
ends-by false over bytes more last_line last = refl
ends-by true true bytes more last_line last = refl
ends-by true false bytes more last_line last =
    ap (λ b. let done : Outcome = record { bytes = b; stop = None; last = last } in done) (append_assoc bytes more last_line)

ends-more : (bytes : List ℕ) (ran : Ran) (over : Bool) (last_line : List ℕ)
    → ends (preceded bytes ran) over last_line ≡ preceded_by bytes (ends ran over last_line)
ends-more bytes ran over last_line = ends-by ran.enough over bytes ran.bytes last_line ran.last

-- a first line whose draws are given, and then the rest
pub to_come-line : (step : List ℕ → ℕ → Turn) (answering : Answering) (most : ℕ) (past : List (List ℕ)) (text state after draws : List ℕ)
    → 0 < length text → length (first_line text) ≤ 65536
    → take_draws step state (answering.slot past (first_line text)).shape ≡ record { draws = Some draws; last = after }
    → to_come step answering (suc most) past text state
    ≡ preceded_by ((answering.slot past (first_line text)).out draws)
    (to_come step answering most (first_line text ∷ past) (after_first_line text) after)
unfolding to_come line_slots run_slots
to_come-line step answering most past text state after draws some short taken =
    let slot : Slot (List ℕ) = answering.slot past (first_line text) in
    let rest : List ℕ → Ran =
    run_slots step (line_slots answering.slot (first_line text ∷ past) (lines_within most (after_first_line text))) in
    let end : List ℕ = answering.last_line (reverse_aux (lines_within most (after_first_line text)) (first_line text ∷ past)) in
    rw (over-first most text some short, within-first most text some short)
    (ap (λ t. ends (after_taken t slot.out rest) (has_line_over most (after_first_line text)) end) taken
    ∙ ends-more (slot.out draws) (rest after) (has_line_over most (after_first_line text)) end)

-- a first line whose draws are not given
pub to_come-fails : (step : List ℕ → ℕ → Turn) (answering : Answering) (most : ℕ) (past : List (List ℕ)) (text state after : List ℕ)
    → 0 < length text → length (first_line text) ≤ 65536
    → take_draws step state (answering.slot past (first_line text)).shape ≡ record { draws = None; last = after }
    → to_come step answering (suc most) past text state ≡ record { bytes = []; stop = Some stop.DrawFault; last = after }
unfolding to_come line_slots run_slots
to_come-fails step answering most past text state after some short failed =
    let slot : Slot (List ℕ) = answering.slot past (first_line text) in
    let rest : List ℕ → Ran =
    run_slots step (line_slots answering.slot (first_line text ∷ past) (lines_within most (after_first_line text))) in
    let end : List ℕ = answering.last_line (reverse_aux (lines_within most (after_first_line text)) (first_line text ∷ past)) in
    rw (over-first most text some short, within-first most text some short)
    (ap (λ t. ends (after_taken t slot.out rest) (has_line_over most (after_first_line text)) end) failed)

-- no line any more: the last line
pub to_come-none : (step : List ℕ → ℕ → Turn) (answering : Answering) (most : ℕ) (past : List (List ℕ)) (text state : List ℕ) → text ≡ []
    → to_come step answering most past text state ≡ record { bytes = answering.last_line past; stop = None; last = state }
unfolding to_come line_slots run_slots
to_come-none step answering most past text state none = rw (none, over-none most, within-none most) refl

-- a line that is too long
pub to_come-long : (step : List ℕ → ℕ → Turn) (answering : Answering) (most : ℕ) (past : List (List ℕ)) (text state : List ℕ)
    → 65536 < length (first_line text)
    → to_come step answering most past text state ≡ record { bytes = []; stop = Some stop.QueryLimit; last = state }
unfolding to_come line_slots run_slots
to_come-long step answering most past text state long = rw (over-long most text long, within-long most text long) refl

-- a line too many
pub to_come-zero : (step : List ℕ → ℕ → Turn) (answering : Answering) (past : List (List ℕ)) (text state : List ℕ) → 0 < length text
    → to_come step answering 0 past text state ≡ record { bytes = []; stop = Some stop.QueryLimit; last = state }
unfolding to_come line_slots run_slots
to_come-zero step answering past text state some = rw (over-zero text some, within-zero text) refl

-- at first all is to come
pub answered-is : (source : Source) (answering : Answering) (text : List ℕ)
    → answered source answering text ≡ to_come source.step answering (2 ^ 20) [] text source.state
unfolding answered to_come
answered-is source answering text = refl

-- the bounds of a first line's draws, and then those of the rest
pub shape-line : (answering : Answering) (most : ℕ) (past : List (List ℕ)) (text : List ℕ)
    → 0 < length text → length (first_line text) ≤ 65536
    → shape_to_come answering (suc most) past text
    ≡ (answering.slot past (first_line text)).shape ++ shape_to_come answering most (first_line text ∷ past) (after_first_line text)
unfolding shape_to_come line_slots joined_shape
shape-line answering most past text some short = rw (within-first most text some short) refl

pub answered_shape-is : (answering : Answering) (text : List ℕ)
    → answered_shape answering text ≡ shape_to_come answering (2 ^ 20) [] text
unfolding answered_shape shape_to_come
answered_shape-is answering text = refl
