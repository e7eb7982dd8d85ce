use Rattle.std.proofs.Common.{sym, ap, subst}
use Rattle.dp_tree.specs.Table.{TreeValue}
use Rattle.dp_tree.specs.Lists.{NameLive}
use Rattle.dp_tree.proofs.Kept.{Keeps, keeps-numbers, keeps-parents, keeps-lasts}
use Rattle.dp_tree.proofs.tree.Tree.trail.Goals as goal

pub returns : goal.returns
returns c =
    let lists = c.self.inside in
    let keeps : Keeps c.args.self.now lists.numbers.items lists.trail.links lists.states.items
    = record { rows = ap (λ (t : TreeValue). t.rows) (sym c.self.view_is); hold = c.self.invariant } in
    record {
      parents = sym (keeps-parents c.args.self.now lists.numbers.items lists.trail.links lists.states.items keeps);
      lasts = sym (keeps-lasts c.args.self.now lists.numbers.items lists.trail.links lists.states.items keeps);
      live = λ _. subst (λ names. NameLive names lists.trail.links) (sym (keeps-numbers c.args.self.now lists.numbers.items lists.trail.links lists.states.items keeps)) c.self.invariant.live;
    }
