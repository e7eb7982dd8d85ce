use Rattle.std.proofs.Common.{◌≡◌, true, sym, ◌∙◌, ap}
use Rattle.std.proofs.lemmas.List.Elements.{All-more}
use Rattle.dp_chain.specs.declared.any_transformation.AnyTransformation.{AnyTransformation}
use Rattle.dp_store.specs.Rowwise.{is_rowwise}
use Rattle.dp_store.proofs.lines.rowwise_len.Goals as goal

pub loop-k-preserved : goal.loop-k-preserved
loop-k-preserved c =
    All-more (λ (stage : AnyTransformation). is_rowwise stage ≡ true) c.args.stages.now c.loop-k.k c.index-stages-k.result
    c.loop-k-test.true c.loop-k.invariant
    (ap is_rowwise (sym c.index-stages-k.is) ∙ sym c.is_rowwise.ensures ∙ c.if-not-is_rowwise.false)
