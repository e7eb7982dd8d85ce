use Rattle.std.proofs.Common.{◌≡◌, ◌-◌, ◌^◌}
use Rattle.dp_io.specs.Lines.{remaining}
use Rattle.dp_runner.proofs.Interruptions.{Reached}
use Rattle.dp_runner.proofs.answering.answer_lines.Given as goal

abbrev pub invariant-loop-turn : goal.invariant-loop-turn
invariant-loop-turn g l = record {
  reached : Reached (g.A.Answerer.stands l.answerer) (g.A.Answerer.answering l.initial.answerer)
      (record { step = g.D.Draws.step; before = g.D.Draws.state l.initial.draws; after = g.D.Draws.state l.draws })
      (remaining l.initial.lines (g.S.Shelf.left l.initial.shelf l.initial.lines.slot))
      (remaining l.lines (g.S.Shelf.left l.shelf l.initial.lines.slot))
      (g.K.Sink.held l.initial.out) (g.K.Sink.held l.out) l._turn (2 ^ 20 - l._turn)
      l.lines.at_end;
  answering : g.A.Answerer.answering l.answerer ≡ g.A.Answerer.answering l.initial.answerer;
  slot : l.lines.slot ≡ l.initial.lines.slot;
  slots : g.S.Shelf.slots l.shelf ≡ g.S.Shelf.slots l.initial.shelf;
  faults : g.S.Shelf.faults l.shelf ≡ g.S.Shelf.faults l.initial.shelf;
  draw_faults : g.D.Draws.faults l.draws ≡ g.D.Draws.faults l.initial.draws;
  out_faults : g.K.Sink.faults l.out ≡ g.K.Sink.faults l.initial.out;
}
