use Rattle.std.proofs.Common.{ap, ◌∙◌}
use Rattle.std.specs.Prelude.{not}
use Rattle.dp_rowwise.proofs.Ordered.{early-first, early-later}
use Rattle.dp_rowwise.proofs.persons.is_early.Goals as goal

pub returns-then-index-most : goal.returns-then-index-most
returns-then-index-most g c =
    early-first (g.R.Records.column c.args.records.now) (g.R.Records.rows c.args.records.now) c.args.ordered.now c.requires.all c.requires.sorted
    c.args.index c.args.most c.requires.most c.requires.within c.if-index-most.true

pub returns-else-index-most : goal.returns-else-index-most
returns-else-index-most g c =
    let all = early-later (g.R.Records.column c.args.records.now) (g.R.Records.rows c.args.records.now) c.args.ordered.now c.requires.all c.requires.sorted
    c.args.index c.args.most c.requires.most c.requires.within c.if-index-most.false in
    ap not c.same_person.ensures ∙ all
