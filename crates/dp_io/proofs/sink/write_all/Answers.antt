use Rattle.std.proofs.Common.{rules, ℕ, ◌-◌, ◌≤◌, length, arith, length-take, length-drop}
use Rattle.dp_io.specs.Sink.{AddsFront}
use Rattle.dp_io.proofs.Pieces.{appended-next, AddsFront-taken}
use Rattle.dp_io.proofs.sink.write_all.Goals as goal

pub returns-in_err-done-clause-front : goal.returns-in_err-done-clause-front
returns-in_err-done-clause-front g c =
    let gained : AddsFront (g.K.Sink.held c.args.sink.now) (g.K.Sink.held c.write.new.self) c.args.bytes.now =
    AddsFront-taken _ _ c.loop-done.done _ (rw (c.in_err-done.ensures.kept) c.loop-done.invariant.1) in
    search (rules, gained)

pub loop-done-preserved : goal.loop-done-preserved
loop-done-preserved g c =
    let few : c.in_ok-done.field-0 ≤ length c.args.bytes.now - c.loop-done.done = omega (arith, c.in_ok-done.ensures.fits, length-take {A = ℕ}, length-drop {A = ℕ}) in (
      omega (arith, few, c.loop-done-test.true),
      rw (c.in_ok-done.ensures.gained, c.loop-done.invariant.1) (appended-next _ c.loop-done.done _ c.args.bytes.now),
      omega (arith, c.in_ok-done.ensures.cause.kept, c.loop-done.invariant.2),
      λ none. absurd (omega (arith, c.in_ok-done.ensures.some)),
    )
