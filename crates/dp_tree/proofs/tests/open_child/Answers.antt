use Rattle.std.proofs.Common.{◌≡◌, ℕ, ◌+◌, sym, subst, ap, ◌∙◌, slice_get}
use Rattle.dp_domain.specs.declared.domains.Domain.TheVariants as domain
use Rattle.dp_domain.specs.declared.metrics.Metric.TheVariants as metrics
use Rattle.dp_tree.specs.History.{given}
use Rattle.dp_tree.specs.Table.{TreeValue, IsNext}
use Rattle.dp_tree.proofs.Standing.{next-opened}
use Rattle.dp_tree.proofs.tests.open_child.Goals as goal

-- a tree of the same rows has the same next query
same-next : (t more : TreeValue) (number : ℕ) → more.rows ≡ t.rows → IsNext t number → IsNext more number
same-next t more number e next = λ place row h. next place row (ap (λ rows. slice_get rows place) (sym e) ∙ h)

pub returns-in-Ok : goal.returns-in-Ok
returns-in-Ok c =
    subst (λ (t : TreeValue). IsNext t (c.args.query + 1)) (sym c.in-Ok.ensures.opened)
    (next-opened c.reserve.new.self c.args.node c.args.query
    (given (domain.Rows 2) metrics.Symmetric c.args.distance c.filter.result)
    (same-next c.args.tree.now c.reserve.new.self c.args.query c.reserve.ensures.rows c.requires.next))
