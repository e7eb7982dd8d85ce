-- What one release writes is whole lines: the last line ends them.
use Rattle.std.proofs.Common.{◌≡◌, ℕ, true, List, Result, Ok, Err}
use Rattle.dp_domain.specs.declared.values.Value.{Value}
use Rattle.dp_session.specs.declared.refusal.Refusal.{Refusal}
use Rattle.dp_session.specs.QueryLines.{end_line}
use Rattle.dp_session.specs.Singles.{Single, single_text}
use Rattle.dp_runner.specs.AnsweringProof.{end-ended}
use Rattle.dp_runner.specs.WrittenLines.{are_lines}
use Rattle.dp_runner.specs.WrittenLinesProof.{ended-more, ended-lines}

pub single_lines : (verdict : Result Single Refusal) (v : Value) (draws : List ℕ)
    → are_lines (single_text verdict v draws) ≡ true
single_lines (Ok single) v draws =
    ended-lines (single_text (Ok single) v draws) (ended-more _ (end_line 1 single.cost) (end-ended 1 single.cost))
single_lines (Err refused) v draws =
    ended-lines (single_text (Err refused) v draws) (ended-more _ (end_line 1 0) (end-ended 1 0))
