use Rattle.std.proofs.Common.{◌∙◌, sym, ap, map, take, drop, length, ◌-◌, arith}
use Rattle.std.specs.Prelude.{string_bytes}
use Rattle.dp_runner.specs.Forms.{form_after}
use Rattle.dp_runner.proofs.WordForms.{first-word, no-word, take-rest}
use Rattle.dp_runner.proofs.form.form_of.Goals as goal

pub returns-in_default : goal.returns-in_default
returns-in_default c = sym (no-word string_bytes c.args.words.now (omega arith))

pub returns : goal.returns
returns c = c.form_after.ensures ∙ ap (λ w. form_after w (map string_bytes (take (length c.args.words.now - 1) (drop 1 c.args.words.now)))) c.as_str.ensures.value ∙ ap (form_after (string_bytes c.command-item.result)) (ap (map string_bytes) (take-rest 1 c.args.words.now)) ∙ sym (first-word string_bytes c.args.words.now _ (omega arith) c.command-item.is)
