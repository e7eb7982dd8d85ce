use Rattle.std.proofs.Common.{◌∙◌, sym, arith}
use Rattle.std.specs.Prelude.{string_bytes}
use Rattle.dp_runner.proofs.WordForms.{post-words, not_post-words, take-rest}
use Rattle.dp_runner.proofs.post.post_form.Goals as goal

pub returns-in_default : goal.returns-in_default
returns-in_default c = sym (not_post-words string_bytes c.args.words.now (omega arith))

pub returns : goal.returns
returns c =
    (rw (c.as_str.ensures.value, c.as_str-2.ensures.value, c.as_str-3.ensures.value, take-rest 3 c.args.words.now)
    at c.post_form_of.ensures)
    ∙ sym (post-words string_bytes c.args.words.now _ _ _ (omega arith) c.pipeline_name-item.is c.data_name-item.is
    c.plan-item.is)
