use Rattle.std.proofs.Common.{◌≡◌, ◌∙◌, sym, arith, ◌≢◌, length}
use Rattle.std.specs.Prelude.{string_bytes}
use Rattle.std.proofs.lemmas.Bool.Decides.{nat_tests}
use Rattle.dp_runner.proofs.WordForms.{four-words, other-words}
use Rattle.dp_runner.proofs.count.count_form.Goals as goal
use Rattle.dp_runner.proofs.count.count_form.Goals.{in_default-via-then-words-lt4, in_default-via-else-words-lt4+else-words-lt5}

pub returns-in_default : goal.returns-in_default
returns-in_default c =
    let other : length c.args.words.now ≢ 4 = elim c.in_default.branch [ in_default-via-then-words-lt4 w ↦ grind (arith, nat_tests) | in_default-via-else-words-lt4+else-words-lt5 w ↦ grind (arith, nat_tests) ] in
    sym (other-words string_bytes c.args.words.now other)

pub returns : goal.returns
returns c =
    let four : length c.args.words.now ≡ 4 = omega arith in
    c.count_form_of.ensures ∙ (cc) ∙ sym (four-words string_bytes c.args.words.now _ _ _ _ four c.data_name-item.is c.draws_name-item.is c.lo-item.is c.hi-item.is)
