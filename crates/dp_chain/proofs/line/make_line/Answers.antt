use Rattle.std.proofs.Common.{◌∙◌, List, map, sym, subst, ap}
use Rattle.dp_domain.specs.declared.domains.Domain.{Domain}
use Rattle.dp_domain.specs.Domains.{Fits}
use Rattle.dp_chain.specs.contracts.any_transformation.AnyTransformationTransformation.TheImpl.{mapping-value}
use Rattle.dp_chain.specs.contracts.any_transformation.AnyTransformationTransformation.TheImpl.Laws.{law-law}
use Rattle.dp_chain.specs.contracts.line.LineTransformation.TheImpl.{mapping-value as line_mapping-value}
use Rattle.dp_chain.specs.declared.any_transformation.AnyTransformation.{AnyTransformation}
use Rattle.dp_chain.specs.Lines.{end_domain, end_metric}
use Rattle.dp_chain.specs.LinesProof.{nothing-ends, nothing-ends_by}
use Rattle.dp_chain.proofs.LineSteps.{makes-start, makes-more_as, makes-fault, makes-all, makes-line, ends-more, ends_by-more}
use Rattle.dp_chain.proofs.Making.{stages-joined}
use Rattle.dp_chain.proofs.line.make_line.Goals as goal

pub loop-stage-init : goal.loop-stage-init
loop-stage-init c =
    let none = c.new-made.ensures.items in
    record {
      fits = c.requires;
      ends = ap (λ (ts : List AnyTransformation). end_domain c.args.domain (map mapping-value.it ts)) none ∙ nothing-ends c.args.domain;
      ends_by = ap (λ (ts : List AnyTransformation). end_metric c.args.metric (map mapping-value.it ts)) none ∙ nothing-ends_by c.args.metric;
      forward = makes-start mapping-value.it c.args.stages.now c.args.domain c.args.metric c.new-made.result.items none;
    }

pub returns-in-Err : goal.returns-in-Err
returns-in-Err c =
    let at = c.loop-stage in
    makes-fault mapping-value.it line_mapping-value.it c.args.stages.now at.stage-index c.stage-item.result
    c.args.domain at.at c.args.metric at.at_metric at.made.items c.in-Err.fault
    c.loop-stage-test.true c.stage-item.is at.invariant.forward c.in-Err.ensures

pub loop-stage-preserved : goal.loop-stage-preserved
loop-stage-preserved c =
    let at = c.loop-stage in
    let next = c.in-Ok.next in
    let grown = c.in_ok-append.ensures.ok in
    record {
      fits = subst (λ (d : Domain). Fits d) (sym c.out_domain-at.ensures) (law-law next).output_fits;
      ends = ap (λ (ts : List AnyTransformation). end_domain c.args.domain (map mapping-value.it ts)) grown
          ∙ ends-more mapping-value.it c.args.domain at.made.items next ∙ sym c.out_domain-at.ensures;
      ends_by = ap (λ (ts : List AnyTransformation). end_metric c.args.metric (map mapping-value.it ts)) grown
          ∙ ends_by-more mapping-value.it c.args.metric at.made.items next ∙ sym c.out_metric-at_metric.ensures;
      forward = makes-more_as mapping-value.it c.args.stages.now at.stage-index c.stage-item.result c.args.domain at.at c.out_domain-at.result
          c.args.metric at.at_metric c.out_metric-at_metric.result at.made.items c.append.new.list.items next
          c.loop-stage-test.true c.stage-item.is at.invariant.forward c.in-Ok.ensures grown c.out_domain-at.ensures c.out_metric-at_metric.ensures;
    }

pub invariant_of-result : goal.invariant_of-result
invariant_of-result c =
    let at = c.loop-stage in
    record {
      fits = c.requires;
      end_fits = at.invariant.fits;
      joined = stages-joined c.args.stages.now c.args.domain c.args.metric (map mapping-value.it at.made.items)
          (makes-all mapping-value.it c.args.stages.now at.stage-index c.args.domain at.at c.args.metric at.at_metric at.made.items
          c.loop-stage-test.false at.invariant.forward);
      ends = at.invariant.ends;
      ends_by = at.invariant.ends_by;
    }

pub returns : goal.returns
returns c =
    let at = c.loop-stage in
    makes-line mapping-value.it c.args.stages.now at.stage-index c.args.domain at.at c.args.metric at.at_metric
    at.made.items c.loop-stage-test.false at.invariant.forward
