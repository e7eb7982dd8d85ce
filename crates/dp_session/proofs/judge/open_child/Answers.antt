use Rattle.std.proofs.Common.{ap, subst, sym, ◌∙◌, IsSome, List, slice_get}
use Rattle.dp_tree.specs.History.{given}
use Rattle.dp_tree.specs.Table.{Row, TreeValue, place_of, numbers, row_of, IsNext}
use Rattle.dp_tree.proofs.Standing.{next-opened}
use Rattle.dp_session.specs.Settling.{IsReady}
use Rattle.dp_session.proofs.Roots.{root-opened}
use Rattle.dp_session.proofs.judge.open_child.Goals as goal

pub returns-in-Ok-open-clause-ready : goal.returns-in-Ok-open-clause-ready
returns-in-Ok-open-clause-ready g c =
    let rows = sym c.reserve.ensures.rows in
    let next : IsNext c.reserve.new.self c.args.number = λ place row h. c.requires.next place row (ap (λ rs. slice_get rs place) rows ∙ h) in
    let root : IsSome (row_of c.reserve.new.self 0) = subst (λ (rs : List Row). IsSome (slice_get rs (place_of (numbers rs) 0))) rows c.requires.root in
    subst (λ (t : TreeValue). IsReady t c.args.number) (sym c.in-Ok-open.ensures.opened) (record {
      next = next-opened c.reserve.new.self c.args.node c.args.number (given c.out_domain.result c.out_metric.result c.args.distance c.args.budget) next;
      root = root-opened c.reserve.new.self c.args.node c.args.number (given c.out_domain.result c.out_metric.result c.args.distance c.args.budget) root;
    })
