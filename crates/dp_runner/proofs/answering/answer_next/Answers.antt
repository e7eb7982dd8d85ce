use Rattle.std.proofs.Common.{◌≡◌, ◌∙◌, ◌<◌, ℕ, List, Bool, true, length, nat_lt, arith}
use Rattle.std.proofs.lemmas.Bool.Decides.{nat_tests}
use Rattle.dp_runner.proofs.answering.answer_next.Goals as goal

some-more : (more : Bool) (text : List ℕ) → more ≡ nat_lt 0 (length text) → more ≡ true → 0 < length text
some-more more text is was = grind (arith, nat_tests)

pub returns-clause-turns : goal.returns-clause-turns
returns-clause-turns g c = λ past s. record {
  reads = record {
    line = c.line.result.now;
    first = λ text is. record {
      some = some-more _ text (c.in_ok-next.ensures.more text is) c.if-not-branch.false;
      line_is = c.line.ensures ∙ c.in_ok-next.ensures.line text is;
      short = rw c.line.ensures c.next.ensures.short;
    };
    answers = c.in_ok-answer_line.ensures.line past s;
  };
  rest_is = c.in_ok-next.ensures.rest;
  stands_at = c.in_ok-answer_line.ensures.answered past s;
}
