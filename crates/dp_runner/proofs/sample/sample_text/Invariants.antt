use Rattle.std.proofs.Common.{◌≡◌}
use Rattle.dp_runner.specs.Sample.{sample_text}
use Rattle.dp_runner.proofs.sample.sample_text.Given as goal

abbrev pub invariant-loop-i : goal.invariant-loop-i
invariant-loop-i l = l.text.items ≡ sample_text l.i
