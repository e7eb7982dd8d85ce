use Rattle.std.proofs.Common.{◌≡◌, ◌∙◌, sym, arith, ◌≢◌, length}
use Rattle.std.specs.Prelude.{string_bytes}
use Rattle.std.proofs.lemmas.Bool.Decides.{nat_tests}
use Rattle.dp_runner.proofs.WordForms.{two-words, not_two-words}
use Rattle.dp_runner.proofs.account.account_form.Goals as goal
use Rattle.dp_runner.proofs.account.account_form.Goals.{in_default-via-then-words-lt2, in_default-via-else-words-lt2+else-words-lt3}

pub returns-in_default : goal.returns-in_default
returns-in_default c =
    let other : length c.args.words.now ≢ 2 = elim c.in_default.branch [
      | in_default-via-then-words-lt2 w ↦ grind (arith, nat_tests)
      | in_default-via-else-words-lt2+else-words-lt3 w ↦ grind (arith, nat_tests)
    ] in
    sym (not_two-words string_bytes c.args.words.now other)

pub returns : goal.returns
returns c =
    let two : length c.args.words.now ≡ 2 = omega arith in
    c.account_form_of.ensures ∙ (cc) ∙ sym (two-words string_bytes c.args.words.now _ _ two c.pipeline_name-item.is c.queries_name-item.is)
