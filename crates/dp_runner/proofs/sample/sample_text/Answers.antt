use Rattle.std.proofs.Common.{◌∙◌, ap, ◌++◌, sym}
use Rattle.dp_runner.specs.Sample.{sample_line}
use Rattle.dp_runner.proofs.SampleTexts.{text-none, text-more}
use Rattle.dp_runner.proofs.sample.sample_text.Goals as goal

pub loop-i-init : goal.loop-i-init
loop-i-init c = cc text-none

pub loop-i-preserved : goal.loop-i-preserved
loop-i-preserved c =
    c.in_ok-extend_from_slice.ensures.items
    ∙ ap (λ line. c.loop-i.text.items ++ line) (c.as_bytes.ensures.value ∙ c.in_ok-line.ensures)
    ∙ ap (λ text. text ++ sample_line c.loop-i.i) c.loop-i.invariant ∙ sym (text-more c.loop-i.i)
