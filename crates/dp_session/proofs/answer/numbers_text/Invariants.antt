use Rattle.std.proofs.Common.{◌≡◌, ◌++◌, drop}
use Rattle.std.specs.Prelude.{string_bytes}
use Rattle.dp_session.proofs.AnswerTexts.{numbers_behind}
use Rattle.dp_session.proofs.answer.numbers_text.Given as goal

-- the text so far, and then what is left
abbrev pub invariant-loop-cell : goal.invariant-loop-cell
invariant-loop-cell l =
    string_bytes l.initial.text ++ numbers_behind l.rest ≡ string_bytes l.text ++ numbers_behind (drop l.cell-index l.rest)
