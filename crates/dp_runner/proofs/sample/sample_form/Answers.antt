use Rattle.std.proofs.Common.{◌∙◌, ◌≡◌, sym, ap, arith, length}
use Rattle.std.specs.Prelude.{string_bytes}
use Rattle.dp_runner.specs.Sample.{record_count_of}
use Rattle.dp_runner.proofs.WordForms.{number-word, not_number-word}
use Rattle.dp_runner.proofs.sample.sample_form.Goals as goal

pub returns-in_default : goal.returns-in_default
returns-in_default c = sym (not_number-word string_bytes c.args.words.now (omega arith))

pub returns-in_default-2 : goal.returns-in_default-2
returns-in_default-2 c = sym (not_number-word string_bytes c.args.words.now (omega arith))

pub returns : goal.returns
returns c =
    let one : length c.args.words.now ≡ 1 = omega arith in
    c.record_count_of.ensures ∙ ap record_count_of c.as_str.ensures.value
    ∙ sym (number-word string_bytes c.args.words.now _ one c.number-item.is)
