-- What an account and a session write of a text of queries are whole lines: each ends with a line feed.
use Rattle.std.proofs.Common.{◌≡◌, ℕ, true, List, [], Result, Ok, Err, refl}
use Rattle.std.specs.Prelude.{codes}
use Rattle.std.specs.Fmt as fmt
use Rattle.dp_domain.specs.declared.values.Value.{Value}
use Rattle.dp_law.specs.Mechanism.{Mechanism}
use Rattle.dp_pipeline.specs.declared.content.Content.{Content}
use Rattle.dp_session.specs.declared.refusal.Refusal.{Refusal}
use Rattle.dp_session.specs.QueryLines.{Work, admitted_text, cost_text, end_line, numbered, query_line, refusal_text, task_text, verdict_text}
use Rattle.dp_session.specs.SessionLines.{released_text}
use Rattle.dp_runner.specs.Answering.{account_answering, session_answering}
use Rattle.dp_runner.specs.Turns.{WritesLines}
use Rattle.dp_runner.specs.WrittenLines.{are_lines}
use Rattle.dp_runner.specs.WrittenLinesProof.{IsEnded, ended-more, ended-lines}

feed-ended : IsEnded (codes "\n")
feed-ended = ([], refl)

cost-ended : (cost spent : ℕ) → IsEnded (cost_text cost spent)
cost-ended cost spent =
    ended-more (codes " cost ") _ (ended-more (fmt.decimal cost) _ (ended-more (codes " spent ") _
    (ended-more (fmt.decimal spent) (codes "\n") feed-ended)))

verdict-ended : (answered : ℕ → Mechanism → List ℕ) (spent : ℕ) (result : Result Work Refusal)
    → IsEnded (verdict_text answered spent result)
verdict-ended answered spent (Ok work) =
    ended-more (task_text answered work.node work.task) _ (cost-ended work.cost spent)
verdict-ended answered spent (Err refused) =
    ended-more (codes "refused ") _ (ended-more (refusal_text refused) (codes "\n") feed-ended)

numbered-ended : (number : ℕ) (text : List ℕ) → IsEnded text → IsEnded (numbered number text)
numbered-ended number text h = ended-more (fmt.decimal number) _ (ended-more (codes " ") text h)

query-line : (answered : ℕ → Mechanism → List ℕ) (pipeline : Content) (past : List (List ℕ)) (line : List ℕ)
    → are_lines (query_line answered pipeline past line) ≡ true
query-line answered pipeline past line =
    ended-lines (query_line answered pipeline past line) (numbered-ended _ _ (verdict-ended answered _ _))

pub end-ended : (queries spent : ℕ) → IsEnded (end_line queries spent)
end-ended queries spent =
    ended-more (codes "end ") _ (ended-more (fmt.decimal queries) _ (ended-more (codes " spent ") _
    (ended-more (fmt.decimal spent) (codes "\n") feed-ended)))

end-line : (queries spent : ℕ) → are_lines (end_line queries spent) ≡ true
end-line queries spent = ended-lines (end_line queries spent) (end-ended queries spent)

pub account_lines_whole : (pipeline : Content) → WritesLines (account_answering pipeline)
account_lines_whole pipeline = record {
  each = λ past line draws. query-line admitted_text pipeline past line;
  last = λ past. end-line _ _;
}

pub session_lines_whole : (pipeline : Content) (root : Value) → WritesLines (session_answering pipeline root)
session_lines_whole pipeline root = record {
  each = λ past line draws. query-line (released_text pipeline root past draws) pipeline past line;
  last = λ past. end-line _ _;
}
