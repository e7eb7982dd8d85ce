use Rattle.std.proofs.Common.{◌∙◌}
use Rattle.dp_pipeline.proofs.Fronts.{lines-more, lines-front, on-err}
use Rattle.dp_pipeline.proofs.lines.Lines.write.Goals as goal

pub returns-in_err-write_all-clause-front : goal.returns-in_err-write_all-clause-front
returns-in_err-write_all-clause-front g c =
    on-err c.from_residual.result _ (lines-front _ _ _ _ _ c.loop-line.line-index c.line-item.result c.as_slice.result.now (c.as_slice-line-items.ensures.value ∙ c.self.view_is)
    c.loop-line-test.true c.line-item.is c.as_slice.ensures c.loop-line.invariant.0 c.in_err-write_all.ensures.front)

pub loop-line-preserved : goal.loop-line-preserved
loop-line-preserved g c = (
  lines-more _ _ _ _ _ c.loop-line.line-index c.line-item.result c.as_slice.result.now (c.as_slice-line-items.ensures.value ∙ c.self.view_is)
      c.loop-line-test.true c.line-item.is c.as_slice.ensures c.loop-line.invariant.0 c.in_ok-write_all.ensures.written,
  c.in_ok-write_all.ensures.cause.kept ∙ c.loop-line.invariant.1,
)
