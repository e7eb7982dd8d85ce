use Rattle.std.proofs.Common.{◌≡◌, take}
use Rattle.std.specs.List.{concat}
use Rattle.dp_io.specs.Sink.{appended}
use Rattle.dp_pipeline.proofs.lines.Lines.write.Given as goal

-- the lines so far were written
abbrev pub invariant-loop-line : goal.invariant-loop-line
invariant-loop-line g l =
    (g.K.Sink.held l.out ≡ appended (g.K.Sink.held l.initial.out) (concat (take l.line-index l.self)))
    × (g.K.Sink.faults l.out ≡ g.K.Sink.faults l.initial.out)
