use Rattle.std.proofs.Common.{◌≡◌, ◌+◌, ℕ, [], ◌∷◌, sym, ◌∙◌, ap, subst}
use Rattle.dp_ledger.specs.Disk.{put_at, Torn}
use Rattle.dp_ledger.specs.Image.{place_of, other}
use Rattle.dp_ledger.specs.Ledger.{BeforeOrAfter}
use Rattle.dp_ledger.specs.Steps.{IsFilled, IsRaised}
use Rattle.dp_ledger.proofs.Rows.{open_torn, opened}
use Rattle.dp_ledger.proofs.StepLaws.{step_rests, step_passes, both_ok}
use Rattle.dp_ledger.proofs.ledger.Ledger.open_gate.Goals as goal

pub returns-clause-raised : goal.returns-clause-raised
returns-clause-raised g c =
    let d = g.B.Disk in
    let ledger = c.args.self.now in
    let place : c.place.result ≡ place_of (other ledger.current) = c.place.ensures ∙ ap place_of c.other.ensures in
    let total = ledger.total + c.args.by in
    both_ok c.settle.result c.settle.ensures.reads c.settle.ensures.alone (λ written alone.
    step_rests d.reads d.may_leave d.moment d.left_since c.args.disk.now c.settle.new.disk (IsFilled ledger total) (IsRaised ledger total) (c.place.result + 8) (1 ∷ []) c.requires.rests written alone
    (λ was filled. subst (λ (p : ℕ). IsRaised ledger total (put_at (p + 8) (1 ∷ []) was)) (sym place) (opened ledger c.args.by was c.requires.some c.requires.small filled)))

pub returns-clause-passes : goal.returns-clause-passes
returns-clause-passes g c =
    let d = g.B.Disk in
    let ledger = c.args.self.now in
    let place : c.place.result ≡ place_of (other ledger.current) = c.place.ensures ∙ ap place_of c.other.ensures in
    step_passes d.reads d.may_leave d.moment d.left_since c.args.disk.now c.settle.new.disk (IsFilled ledger (ledger.total + c.args.by)) (BeforeOrAfter ledger.ratio ledger.total c.args.by) (c.place.result + 8) 1 c.requires.rests c.settle.ensures.any_moment c.settle.ensures.telling
    (λ was now filled torn. open_torn ledger c.args.by was now c.requires.small filled (subst (λ (p : ℕ). Torn (p + 8) 1 was now) place torn))
