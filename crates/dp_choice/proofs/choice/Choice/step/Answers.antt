use Rattle.std.proofs.Common.{refl}
use Rattle.std.proofs.lemmas.Result.{err_from_is_err_and}
use Rattle.dp_law.proofs.Taking.{take_draws-turn}
use Rattle.dp_choice.proofs.choice.Choice.step.Goals as goal

pub returns-in_err-draw-clause-place : goal.returns-in_err-draw-clause-place
returns-in_err-draw-clause-place g c =
    let p = err_from_is_err_and c.from_residual.result c.from_residual.ensures.1 in
    rw (p.1, take_draws-turn _ _ _ _ _ _ refl c.in_err-draw.ensures.step) refl

pub returns-in_err-draw-clause-last : goal.returns-in_err-draw-clause-last
returns-in_err-draw-clause-last g c =
    rw (take_draws-turn _ _ _ _ _ _ refl c.in_err-draw.ensures.step) refl

pub returns-clause-place : goal.returns-clause-place
returns-clause-place g c =
    rw (take_draws-turn _ _ _ _ _ _ refl c.in_ok-draw.ensures.step, c.place.ensures, c.as_slice-2.ensures) refl

pub returns-clause-last : goal.returns-clause-last
returns-clause-last g c =
    rw (take_draws-turn _ _ _ _ _ _ refl c.in_ok-draw.ensures.step) refl
