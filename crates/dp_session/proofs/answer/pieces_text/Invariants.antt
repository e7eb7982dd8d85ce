use Rattle.std.proofs.Common.{◌≡◌, ◌++◌, drop}
use Rattle.std.specs.Prelude.{string_bytes}
use Rattle.dp_session.proofs.AnswerTexts.{pieces_behind}
use Rattle.dp_session.proofs.answer.pieces_text.Given as goal

-- the text so far, and then what is left
abbrev pub invariant-loop-piece : goal.invariant-loop-piece
invariant-loop-piece l =
    string_bytes l.initial.text ++ pieces_behind l.rest ≡ string_bytes l.text ++ pieces_behind (drop l.piece-index l.rest)
