use Rattle.std.proofs.Common.{take, sym, ap, subst, ◌∙◌}
use Rattle.dp_chain.specs.Lines.{Runs}
use Rattle.dp_chain.specs.Meanings.{stage_mappings}
use Rattle.dp_store.specs.declared.held.Held.{Held}
use Rattle.dp_store.specs.Held.{held_value}
use Rattle.dp_store.proofs.Passes.{given_of}
use Rattle.dp_store.proofs.LineParts.{first-given, first-has}
use Rattle.dp_store.proofs.lines.hold_next.Goals as goal

pub apply-requires : goal.apply-requires
apply-requires c =
    first-has c.args.stages.now c.index-stages-0.result c.in-Plain.v c.requires.some c.index-stages-0.is
    (subst (λ (h : Held). Runs (stage_mappings c.args.stages.now) (held_value c.args.store.now.records h)) c.in-Plain.is c.requires.runs)

pub returns-in_ok-apply-in-Plain-clause-value : goal.returns-in_ok-apply-in-Plain-clause-value
returns-in_ok-apply-in-Plain-clause-value c =
    c.in_ok-apply-in-Plain.ensures.value
    ∙ sym (first-given c.args.stages.now c.index-stages-0.result c.in-Plain.v c.requires.some c.index-stages-0.is)
    ∙ ap (λ (h : Held). given_of (take 1 c.args.stages.now) (held_value c.args.store.now.records h)) (sym c.in-Plain.is)
