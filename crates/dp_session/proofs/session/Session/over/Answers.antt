use Rattle.std.proofs.Common.{[], refl}
use Rattle.dp_session.proofs.ServedLines.{start-values, start-at}
use Rattle.dp_session.proofs.session.Session.over.Goals as goal

pub invariant_of-result : goal.invariant_of-result
invariant_of-result c = λ live. record {
  past = [];
  at = start-at c.args.pipeline c.in_ok-queries.queries c.args.store c.in_ok-values.values c.in_ok-whole.whole c.domain-domain.result c.in_ok-queries.ensures.pipeline c.in_ok-queries.ensures.stands
      c.requires c.domain-domain.ensures.domain c.domain-domain.ensures.fits c.domain-domain.ensures.records
      (start-values c.args.pipeline c.args.store.records c.in_ok-values.values c.in_ok-whole.whole c.in_ok-values.ensures.root c.in_ok-values.ensures.others
      c.in_ok-whole.ensures.records c.in_ok-whole.ensures.selection);
}

pub returns : goal.returns
returns c = record {
  live = refl;
  pipeline_is = c.in_ok-queries.ensures.pipeline;
  records_are = refl;
  at = start-at c.args.pipeline c.in_ok-queries.queries c.args.store c.in_ok-values.values c.in_ok-whole.whole c.domain-domain.result c.in_ok-queries.ensures.pipeline c.in_ok-queries.ensures.stands
      c.requires c.domain-domain.ensures.domain c.domain-domain.ensures.fits c.domain-domain.ensures.records
      (start-values c.args.pipeline c.args.store.records c.in_ok-values.values c.in_ok-whole.whole c.in_ok-values.ensures.root c.in_ok-values.ensures.others
      c.in_ok-whole.ensures.records c.in_ok-whole.ensures.selection);
}
