use Rattle.std.proofs.Common.{refl}
use Rattle.std.proofs.lemmas.Result.{err_from_is_err_and}
use Rattle.dp_law.proofs.Taking.{take_draws-turn}
use Rattle.dp_response.proofs.response.Response.step.Goals as goal

pub returns-in_err-draw-clause-reply : goal.returns-in_err-draw-clause-reply
returns-in_err-draw-clause-reply g c =
    let p = err_from_is_err_and c.from_residual.result c.from_residual.ensures.1 in
    rw (p.1, take_draws-turn _ _ _ _ _ _ c.draw_bound.ensures.value c.in_err-draw.ensures.step) refl

pub returns-in_err-draw-clause-last : goal.returns-in_err-draw-clause-last
returns-in_err-draw-clause-last g c =
    rw (take_draws-turn _ _ _ _ _ _ c.draw_bound.ensures.value c.in_err-draw.ensures.step) refl

pub returns-clause-reply : goal.returns-clause-reply
returns-clause-reply g c =
    rw (take_draws-turn _ _ _ _ _ _ c.draw_bound.ensures.value c.in_ok-draw.ensures.step, c.reply.ensures) refl

pub returns-clause-last : goal.returns-clause-last
returns-clause-last g c =
    rw (take_draws-turn _ _ _ _ _ _ c.draw_bound.ensures.value c.in_ok-draw.ensures.step) refl
