use Rattle.std.proofs.Common.{◌≡◌, ◌≤◌, ◌-◌, length, take}
use Rattle.dp_io.specs.Sink.{appended}
use Rattle.dp_io.proofs.sink.write_all.Given as goal

abbrev pub invariant-loop-done : goal.invariant-loop-done
invariant-loop-done g l =
    (l.done ≤ length l.bytes)
    × (g.K.Sink.held l.sink ≡ appended (g.K.Sink.held l.initial.sink) (take l.done l.bytes))
    × (g.K.Sink.faults l.sink ≡ g.K.Sink.faults l.initial.sink)
    × (l.done ≡ 0 → l.sink ≡ l.initial.sink)

abbrev pub decreases-loop-done : goal.decreases-loop-done
decreases-loop-done g l = length l.bytes - l.done
