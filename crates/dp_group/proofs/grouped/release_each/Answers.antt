use Rattle.std.proofs.Common.{◌≡◌, ◌+◌, ◌++◌, map, drop, length, ap, ◌∙◌, Ok, Err, arith}
use Rattle.std.proofs.lemmas.Result.{err_from_is_err_and}
use Rattle.std.proofs.lemmas.List.{drop_all}
use Rattle.dp_law.specs.declared.faults.ReleaseFault.TheVariants as fault
use Rattle.dp_group.proofs.EachRelease.{leads-stop, leads-next, leads-memory, leads-last, part-whole, next-input, input-takes, released-as}
use Rattle.dp_group.proofs.grouped.release_each.Goals as goal

pub returns-in_err-reserve-clause-released : goal.returns-in_err-reserve-clause-released
returns-in_err-reserve-clause-released g c =
    let m = g.M.Measurement.mechanism c.args.inner.now in
    let value = g.I.ReleaseInput.stands_for in
    let inputs = c.args.inputs.now in
    let p = err_from_is_err_and c.from_residual.result c.from_residual.ensures.1 in
    rw (p.1, p.2)
    (released-as g.D.Draws.step m value inputs (g.D.Draws.state c.args.draws.now) (Err fault.NoMemory)
    (g.D.Draws.state c.loop-input.draws)
    (leads-memory g.D.Draws.step m (map value inputs) (map value (drop c.loop-input.input-index inputs))
    c.loop-input.answer.items (g.D.Draws.state c.args.draws.now) (g.D.Draws.state c.loop-input.draws)
    c.loop-input.invariant.leads))

pub returns-in_err-part-clause-released : goal.returns-in_err-part-clause-released
returns-in_err-part-clause-released g c =
    let m = g.M.Measurement.mechanism c.args.inner.now in
    let value = g.I.ReleaseInput.stands_for in
    let inputs = c.args.inputs.now in
    let i = c.loop-input.input-index in
    let input = c.input-item.result in
    let p = err_from_is_err_and c.from_residual-in_err-part.result c.from_residual-in_err-part.ensures.1 in
    let next = next-input value inputs i input c.loop-input-test.true c.input-item.is in
    rw (p.1, p.2)
    (released-as g.D.Draws.step m value inputs (g.D.Draws.state c.args.draws.now) (Err c.in_err-part.field-0.0)
    (g.D.Draws.state c.released.new.draws)
    (leads-stop g.D.Draws.step m (map value inputs) (map value (drop i inputs)) (value input)
    (map value (drop (i + 1) inputs)) c.loop-input.answer.items
    (g.D.Draws.state c.args.draws.now) (g.D.Draws.state c.loop-input.draws) (g.D.Draws.state c.released.new.draws)
    c.in_err-part.field-0.0 next c.loop-input.invariant.leads c.in_err-part.ensures.released))

pub unwrap-requires : goal.unwrap-requires
unwrap-requires g c =
    let m = g.M.Measurement.mechanism c.args.inner.now in
    let input = c.input-item.result in
    let takes = input-takes (λ i. g.I.ReleaseInput.takes i m.input_domain) c.args.inputs.now c.loop-input.input-index input
    c.requires c.loop-input-test.true c.input-item.is in
    let has = g.met.I.ReleaseInput.has_value input m.input_domain takes in
    let whole : length c.in_ok-part.part ≡ m.pieces =
    part-whole g.D.Draws.step m g.met.D.Draws.draw_below (g.met.M.Measurement.law c.args.inner.now)
    (g.I.ReleaseInput.stands_for input) has
    (g.D.Draws.state c.loop-input.draws) (g.D.Draws.state c.released.new.draws) c.in_ok-part.part c.in_ok-part.ensures.released in
    let items : length c.into_vec.result.items ≡ length c.in_ok-part.part = ap length c.into_vec.ensures in
    let room = c.in_ok-reserve.ensures.ok in
    c.append.ensures.succeeds (omega (arith, c.into_vec.result.ok.0, c.pieces.ensures))

pub loop-input-preserved : goal.loop-input-preserved
loop-input-preserved g c =
    let m = g.M.Measurement.mechanism c.args.inner.now in
    let value = g.I.ReleaseInput.stands_for in
    let inputs = c.args.inputs.now in
    let i = c.loop-input.input-index in
    let input = c.input-item.result in
    let next = next-input value inputs i input c.loop-input-test.true c.input-item.is in
    let grown = rw c.unwrap.ensures at c.append.ensures.items in
    let joined : c.append.new.self.items ≡ c.loop-input.answer.items ++ c.in_ok-part.part =
    grown ∙ ap (λ front. front ++ c.into_vec.result.items) c.in_ok-reserve.ensures.items
    ∙ ap (λ back. c.loop-input.answer.items ++ back) c.into_vec.ensures in
    record {
      leads = leads-next g.D.Draws.step m (map value inputs) (map value (drop i inputs)) (value input)
          (map value (drop (i + 1) inputs)) c.loop-input.answer.items c.in_ok-part.part
          c.append.new.self.items (g.D.Draws.state c.args.draws.now) (g.D.Draws.state c.loop-input.draws)
          (g.D.Draws.state c.released.new.draws) next joined c.loop-input.invariant.leads c.in_ok-part.ensures.released;
      still = c.in_ok-part.ensures.cause.failed ∙ c.loop-input.invariant.still;
    }

pub returns-clause-released : goal.returns-clause-released
returns-clause-released g c =
    let m = g.M.Measurement.mechanism c.args.inner.now in
    let value = g.I.ReleaseInput.stands_for in
    let inputs = c.args.inputs.now in
    rw c.from_vec.ensures
    (released-as g.D.Draws.step m value inputs (g.D.Draws.state c.args.draws.now) (Ok c.loop-input.answer.items)
    (g.D.Draws.state c.loop-input.draws)
    (leads-last g.D.Draws.step m (map value inputs) (map value (drop c.loop-input.input-index inputs))
    c.loop-input.answer.items (g.D.Draws.state c.args.draws.now) (g.D.Draws.state c.loop-input.draws)
    c.loop-input.invariant.leads (ap (map value) (drop_all c.loop-input.input-index inputs c.loop-input-test.false))))
