use Rattle.std.proofs.Common.{◌≡◌, ◌∙◌, sym, arith, ◌≢◌, length}
use Rattle.std.specs.Prelude.{string_bytes}
use Rattle.std.proofs.lemmas.Bool.Decides.{nat_tests}
use Rattle.dp_runner.proofs.WordForms.{three-words, not_three-words}
use Rattle.dp_runner.proofs.sessions.run_form.Goals as goal
use Rattle.dp_runner.proofs.sessions.run_form.Goals.{in_default-via-then-words-lt3, in_default-via-else-words-lt3+else-words-lt4}

pub returns-in_default : goal.returns-in_default
returns-in_default c =
    let other : length c.args.words.now ≢ 3 = elim c.in_default.branch [
      | in_default-via-then-words-lt3 w ↦ grind (arith, nat_tests)
      | in_default-via-else-words-lt3+else-words-lt4 w ↦ grind (arith, nat_tests)
    ] in
    sym (not_three-words string_bytes c.args.words.now other)

pub returns : goal.returns
returns c =
    let three : length c.args.words.now ≡ 3 = omega arith in
    c.session_form_of.ensures ∙ (cc)
    ∙ sym (three-words string_bytes c.args.words.now _ _ _ three c.pipeline_name-item.is c.data_name-item.is c.queries_name-item.is)
