use Rattle.std.proofs.Common.{◌≡◌, ◌∙◌, sym, ap, arith, rules, ◌≢◌, length, Some, None}
use Rattle.std.specs.Prelude.{string_bytes, option_and_then}
use Rattle.std.proofs.lemmas.Bool.Decides.{nat_tests}
use Rattle.dp_runner.specs.Sessions.{SessionForm, session_form_of, replay_form_of}
use Rattle.dp_runner.proofs.WordForms.{replay-words, not_replay-words}
use Rattle.dp_runner.proofs.sessions.replay_form.Goals as goal
use Rattle.dp_runner.proofs.sessions.replay_form.Goals.{in_default-via-then-words-lt4, in_default-via-else-words-lt4+else-words-lt5}

pub returns-in_default : goal.returns-in_default
returns-in_default c =
    let other : length c.args.words.now ≢ 4 = elim c.in_default.branch [
      | in_default-via-then-words-lt4 w ↦ grind (arith, nat_tests)
      | in_default-via-else-words-lt4+else-words-lt5 w ↦ grind (arith, nat_tests)
    ] in
    sym (not_replay-words string_bytes c.args.words.now other)

pub returns-in_err-session : goal.returns-in_err-session
returns-in_err-session c =
    let four : length c.args.words.now ≡ 4 = omega arith in
    let none : None ≡ session_form_of (string_bytes c.pipeline_name-item.result) (string_bytes c.data_name-item.result)
    (string_bytes c.queries_name-item.result) =
    rw (c.as_str.ensures.value, c.as_str-2.ensures.value, c.as_str-3.ensures.value) at c.in_err-session.ensures in
    (search rules) ∙ sym (replay-words string_bytes c.args.words.now _ _ _ _ four c.pipeline_name-item.is c.data_name-item.is
    c.queries_name-item.is c.draws_name-item.is
    ∙ ap (option_and_then (λ (session : SessionForm). replay_form_of session (string_bytes c.draws_name-item.result))) (sym none))

pub returns : goal.returns
returns c =
    let four : length c.args.words.now ≡ 4 = omega arith in
    let some : Some c.in_ok-session.session ≡ session_form_of (string_bytes c.pipeline_name-item.result)
    (string_bytes c.data_name-item.result)
    (string_bytes c.queries_name-item.result) =
    rw (c.as_str.ensures.value, c.as_str-2.ensures.value, c.as_str-3.ensures.value) at c.in_ok-session.ensures in
    (rw c.as_str-4.ensures.value at c.replay_form_of.ensures)
    ∙ sym (replay-words string_bytes c.args.words.now _ _ _ _ four c.pipeline_name-item.is c.data_name-item.is c.queries_name-item.is
    c.draws_name-item.is
    ∙ ap (option_and_then (λ (session : SessionForm). replay_form_of session (string_bytes c.draws_name-item.result))) (sym some))
