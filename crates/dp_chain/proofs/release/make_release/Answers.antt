use Rattle.std.proofs.Common.{◌∙◌, ◌∷◌, [], List, map, length, ap, sym, subst, arith, length-append}
use Rattle.std.specs.Prelude.{Result}
use Rattle.dp_num.specs.Limits.{Fraction}
use Rattle.dp_law.specs.declared.refusals.Refused.{Refused}
use Rattle.dp_law.specs.Mechanism.{Mechanism}
use Rattle.dp_count.specs.Results.{on_ok}
use Rattle.dp_chain.specs.Releases.{joined, AreAlike}
use Rattle.dp_chain.specs.contracts.release.ReleaseMeasurement.TheImpl.{ghosts as release_ghosts}
use Rattle.dp_chain.specs.PartMeanings.{MeasuredLine, part_mechanism}
use Rattle.dp_chain.proofs.MeasuredLines.{part_law}
use Rattle.dp_chain.proofs.SmallReleases.{parts-pieces}
use Rattle.dp_chain.proofs.ReleaseMaking.{parts-start, parts-next, parts-end, parts-zero, release-fault, alike-nil, alike-more, made-suits}
use Rattle.dp_chain.proofs.release.make_release.Goals as goal

pub loop-part-init : goal.loop-part-init
loop-part-init c =
    let ratio : Fraction = record { p = c.args.ratio.p; q = c.args.ratio.q } in
    let none = c.new-made.ensures.items in
    record {
      many = ap length none;
      alike = subst (λ (ts : List MeasuredLine). AreAlike ratio c.args.domain c.args.metric (map part_mechanism ts)) (sym none) (alike-nil ratio c.args.domain c.args.metric);
      forward = parts-start part_mechanism ratio c.args.parts.now c.args.domain c.args.metric c.new-made.result.items none;
    }

pub returns-in-Err-clause-made : goal.returns-in-Err-clause-made
returns-in-Err-clause-made c =
    let ratio : Fraction = record { p = c.args.ratio.p; q = c.args.ratio.q } in
    release-fault part_mechanism release_ghosts.mechanism ratio c.args.parts.now c.loop-part.part-index c.part-item.result c.args.domain c.args.metric
    c.loop-part.made.items c.in-Err.fault c.loop-part-test.true c.part-item.is c.loop-part.invariant.forward c.in-Err.ensures.made

pub loop-part-preserved : goal.loop-part-preserved
loop-part-preserved c =
    let ratio : Fraction = record { p = c.args.ratio.p; q = c.args.ratio.q } in
    let grown = c.in_ok-append.ensures.ok in
    let made = c.loop-part.made.items in
    let next = c.in-Ok.next in
    let many = c.loop-part.invariant.many in
    let longer = ap length grown ∙ length-append made (next ∷ []) in
    record {
      many = omega arith;
      alike = alike-more part_mechanism ratio c.args.domain c.args.metric made c.append.new.list.items next c.loop-part.invariant.alike c.in-Ok.ensures.alike grown;
      forward = parts-next part_mechanism ratio c.args.parts.now c.loop-part.part-index c.part-item.result c.args.domain c.args.metric made
          c.append.new.list.items next c.loop-part-test.true c.part-item.is c.loop-part.invariant.forward c.in-Ok.ensures.made grown;
    }

pub invariant_of-result : goal.invariant_of-result
invariant_of-result c =
    let ratio : Fraction = record { p = c.args.ratio.p; q = c.args.ratio.q } in
    let many = c.loop-part.invariant.many in
    let end = c.loop-part-test.false in
    let some = c.requires.some in
    let few = c.requires.few in
    let few_index = c.loop-part.auto.part-index-end in
    record {
      fits = c.requires.fits;
      suits = made-suits part_mechanism part_law ratio c.args.domain c.args.metric c.loop-part.made.items (omega arith) c.loop-part.invariant.alike;
      few = omega arith;
      alike = c.loop-part.invariant.alike;
    }

pub returns-clause-made : goal.returns-clause-made
returns-clause-made c =
    let ratio : Fraction = record { p = c.args.ratio.p; q = c.args.ratio.q } in
    ap (λ (r : Result (List Mechanism) Refused). on_ok (joined ratio c.args.domain c.args.metric) r)
    (parts-end part_mechanism ratio c.args.parts.now c.loop-part.part-index c.args.domain c.args.metric c.loop-part.made.items
    c.loop-part-test.false c.loop-part.invariant.forward)

pub returns-clause-nothing_at_0 : goal.returns-clause-nothing_at_0
returns-clause-nothing_at_0 c =
    let ratio : Fraction = record { p = c.args.ratio.p; q = c.args.ratio.q } in
    parts-zero ratio c.args.parts.now c.args.domain c.args.metric (map part_mechanism c.loop-part.made.items)
    (parts-end part_mechanism ratio c.args.parts.now c.loop-part.part-index c.args.domain c.args.metric c.loop-part.made.items
    c.loop-part-test.false c.loop-part.invariant.forward)

pub returns-clause-few_pieces : goal.returns-clause-few_pieces
returns-clause-few_pieces c =
    let ratio : Fraction = record { p = c.args.ratio.p; q = c.args.ratio.q } in
    let few = c.requires.few in
    let many = parts-pieces ratio c.args.parts.now c.args.domain c.args.metric (map part_mechanism c.loop-part.made.items)
    (parts-end part_mechanism ratio c.args.parts.now c.loop-part.part-index c.args.domain c.args.metric c.loop-part.made.items
    c.loop-part-test.false c.loop-part.invariant.forward) in
    omega arith
