use Rattle.std.proofs.Common.{◌≡◌, ◌+◌, ℕ, [], ◌∷◌, sym, ◌∙◌, ap, subst}
use Rattle.dp_ledger.specs.Disk.{put_at, Torn}
use Rattle.dp_ledger.specs.Image.{place_of, other}
use Rattle.dp_ledger.specs.Ledger.{Shows, HasTotal}
use Rattle.dp_ledger.specs.Steps.{IsShut}
use Rattle.dp_ledger.proofs.Rows.{gate_torn, gate_shut, was_shut}
use Rattle.dp_ledger.proofs.StepLaws.{step_rests, step_passes, still_passes, both_ok}
use Rattle.dp_ledger.proofs.ledger.Ledger.shut.Goals as goal

pub returns-then-not-self-clause-shut : goal.returns-then-not-self-clause-shut
returns-then-not-self-clause-shut g c = λ was told.
    let rests = c.requires was told in
    (was_shut c.args.self.now was rests.0 c.if-not-self.true, rests.1)

pub returns-then-not-self-clause-passes : goal.returns-then-not-self-clause-passes
returns-then-not-self-clause-passes g c =
    let d = g.B.Disk in
    let ledger = c.args.self.now in
    still_passes d.reads d.may_leave d.moment d.left_since c.args.disk.now (Shows ledger) (HasTotal ledger.ratio ledger.total) c.requires (g.met.B.Disk.only_now c.args.disk.now) (λ was shows. shows.total)

pub returns-clause-shut : goal.returns-clause-shut
returns-clause-shut g c =
    let d = g.B.Disk in
    let ledger = c.args.self.now in
    let place : c.place.result ≡ place_of (other ledger.current) = c.place.ensures ∙ ap place_of c.other.ensures in
    both_ok c.settle.result c.settle.ensures.reads c.settle.ensures.alone (λ written alone.
    step_rests d.reads d.may_leave d.moment d.left_since c.args.disk.now c.settle.new.disk (Shows ledger) (IsShut ledger) (c.place.result + 8) (0 ∷ []) c.requires written alone
    (λ was shows. subst (λ (p : ℕ). IsShut ledger (put_at (p + 8) (0 ∷ []) was)) (sym place) (gate_shut ledger was shows)))

pub returns-clause-passes : goal.returns-clause-passes
returns-clause-passes g c =
    let d = g.B.Disk in
    let ledger = c.args.self.now in
    let place : c.place.result ≡ place_of (other ledger.current) = c.place.ensures ∙ ap place_of c.other.ensures in
    step_passes d.reads d.may_leave d.moment d.left_since c.args.disk.now c.settle.new.disk (Shows ledger) (HasTotal ledger.ratio ledger.total) (c.place.result + 8) 1 c.requires c.settle.ensures.any_moment c.settle.ensures.telling
    (λ was now shows torn. gate_torn ledger was now shows c.if-not-self.false (subst (λ (p : ℕ). Torn (p + 8) 1 was now) place torn))
