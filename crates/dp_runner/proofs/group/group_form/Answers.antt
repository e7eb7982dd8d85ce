use Rattle.std.proofs.Common.{◌∙◌, sym, arith}
use Rattle.std.specs.Prelude.{string_bytes}
use Rattle.dp_runner.proofs.WordForms.{group-words, not_group-words, take-rest}
use Rattle.dp_runner.proofs.group.group_form.Goals as goal

pub returns-in_default : goal.returns-in_default
returns-in_default c = sym (not_group-words string_bytes c.args.words.now (omega arith))

pub returns : goal.returns
returns c =
    (rw (
      c.as_str.ensures.value,
      c.as_str-2.ensures.value,
      c.as_str-3.ensures.value,
      c.as_str-4.ensures.value,
      take-rest 4 c.args.words.now,
    )
    at c.group_form_of.ensures)
    ∙ sym (group-words string_bytes c.args.words.now _ _ _ _ (omega arith) c.pipeline_name-item.is c.data_name-item.is
    c.plan-item.is c.column-item.is)
