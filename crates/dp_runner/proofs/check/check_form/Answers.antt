use Rattle.std.proofs.Common.{◌∙◌, ◌≡◌, sym, ap, arith, ◌≢◌, length}
use Rattle.std.specs.Prelude.{string_bytes}
use Rattle.std.proofs.lemmas.Bool.Decides.{nat_tests}
use Rattle.dp_runner.specs.Check.{check_form_of}
use Rattle.dp_runner.proofs.WordForms.{one-word, not_one-word}
use Rattle.dp_runner.proofs.check.check_form.Goals as goal
use Rattle.dp_runner.proofs.check.check_form.Goals.{in_default-via-then-words-lt1, in_default-via-else-words-lt1+else-words-lt2}

pub returns-in_default : goal.returns-in_default
returns-in_default c =
    let other : length c.args.words.now ≢ 1 = elim c.in_default.branch [
      | in_default-via-then-words-lt1 w ↦ grind (arith, nat_tests)
      | in_default-via-else-words-lt1+else-words-lt2 w ↦ grind (arith, nat_tests)
    ] in
    sym (not_one-word string_bytes c.args.words.now other)

pub returns : goal.returns
returns c =
    let one : length c.args.words.now ≡ 1 = omega arith in
    c.check_form_of.ensures ∙ ap check_form_of c.as_str.ensures.value
    ∙ sym (one-word string_bytes c.args.words.now _ one c.pipeline_name-item.is)
