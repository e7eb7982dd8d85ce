use Rattle.std.proofs.Common.{◌≡◌, ◌⊎◌, inl, inr, ◌+◌, ◌∙◌, ℕ, List, true, false, sym, ap, subst, Option, IsSome, add-zero}
use Rattle.dp_ledger.specs.Ledger.{Shows, HasTotal, BeforeOrAfter, IsOn, is_closed, Rests}
use Rattle.dp_ledger.specs.declared.ledger.Ledger.{Ledger}
use Rattle.dp_ledger.specs.Image.{entry_at, is_open, other}
use Rattle.dp_ledger.specs.declared.slot.Slot.{Slot}
use Rattle.dp_ledger.proofs.Rows.{twice}
use Rattle.dp_ledger.proofs.StepLaws.{still_passes, some_of, at_not_err}
use Rattle.dp_ledger.proofs.ledger.Ledger.charge.Goals as goal

-- a ledger that is not closed stands
stands : {D : Type 0} (reads : D → _) (may_leave : D → List ℕ → Type 0) (disk : D) (ledger : Ledger) → IsOn reads may_leave disk ledger ⊎ (is_closed ledger ≡ true) → is_closed ledger ≡ false → Rests reads may_leave disk (Shows ledger)
stands reads may_leave disk ledger (inl on) not = on.rests
stands reads may_leave disk ledger (inr shut) not = absurd (cc)

pub returns-then-self-by-gt-MOST_UNITS-clause-any_moment : goal.returns-then-self-by-gt-MOST_UNITS-clause-any_moment
returns-then-self-by-gt-MOST_UNITS-clause-any_moment g c = λ not tells.
    let d = g.B.Disk in
    let ledger = c.args.self.now in
    let disk = c.args.disk.now in
    (still_passes d.reads d.may_leave d.moment d.left_since disk (Shows ledger) (BeforeOrAfter ledger.ratio ledger.total c.args.by) (stands d.reads d.may_leave disk ledger c.requires.stands not) (g.met.B.Disk.only_now disk) (λ was shows. inl shows.total)).any_moment tells

pub returns-then-by-eq0-clause-any_moment : goal.returns-then-by-eq0-clause-any_moment
returns-then-by-eq0-clause-any_moment g c = λ not tells.
    let d = g.B.Disk in
    let ledger = c.args.self.now in
    let disk = c.args.disk.now in
    (still_passes d.reads d.may_leave d.moment d.left_since disk (Shows ledger) (BeforeOrAfter ledger.ratio ledger.total c.args.by) (stands d.reads d.may_leave disk ledger c.requires.stands not) (g.met.B.Disk.only_now disk) (λ was shows. inl shows.total)).any_moment tells

pub returns-then-by-eq0-clause-acknowledged : goal.returns-then-by-eq0-clause-acknowledged
returns-then-by-eq0-clause-acknowledged g c = λ tells content left.
    let d = g.B.Disk in
    let ledger = c.args.self.now in
    let disk = c.args.disk.now in
    let was = some_of (d.reads disk) tells in
    let rests = stands d.reads d.may_leave disk ledger c.requires.stands c.if-self.false was.0 was.1 in
    let total : HasTotal ledger.ratio ledger.total content = subst (HasTotal ledger.ratio ledger.total) (sym (rests.1 content left)) rests.0.total in
    subst (λ (t : ℕ). HasTotal ledger.ratio t content) (sym (ap (λ (b : ℕ). ledger.total + b) c.if-by-eq0.true ∙ add-zero ledger.total)) total

pub raise-requires-clause-rests : goal.raise-requires-clause-rests
raise-requires-clause-rests g c =
    let d = g.B.Disk in
    stands d.reads d.may_leave c.args.disk.now c.args.self.now c.requires.stands c.if-self.false

pub returns-clause-stands : goal.returns-clause-stands
returns-clause-stands g c = λ _ not. record {
  not_closed = not;
  rests = λ now told.
      let raised = at_not_err c.raise.result (sym c.if-is_err.ensures.value) c.raise.ensures.raised now told in (
        record {
          total = raised.0.total_is;
          current = raised.0.current ∙ sym c.other-self.ensures;
          other_gate = ap (λ (s : Slot). is_open (entry_at (other s) now)) c.other-self.ensures ∙ ap (λ (s : Slot). is_open (entry_at s now)) (twice c.args.self.now.current) ∙ raised.0.other_gate;
        },
        raised.1,
      );
}

pub returns-clause-acknowledged : goal.returns-clause-acknowledged
returns-clause-acknowledged g c = λ tells content left.
    let ledger = c.args.self.now in
    let now = some_of (g.B.Disk.reads c.raise.new.disk) (c.raise.ensures.passes.telling tells) in
    let raised = at_not_err c.raise.result (sym c.if-is_err.ensures.value) c.raise.ensures.raised now.0 now.1 in
    subst (HasTotal ledger.ratio (ledger.total + c.args.by)) (sym (raised.1 content left)) raised.0.total_is

-- a ledger that stands is what each crash leaves
left_now : {D : Type 0} (reads : D → Option (List ℕ)) (may_leave : D → List ℕ → Type 0) (disk : D) (ledger : Ledger) (by : ℕ) → Rests reads may_leave disk (Shows ledger) → IsSome (reads disk) → (c : List ℕ) → may_leave disk c → BeforeOrAfter ledger.ratio ledger.total by c
left_now reads may_leave disk ledger by rests tells c left =
    let was = some_of (reads disk) tells in
    let is = rests was.0 was.1 in
    inl (subst (HasTotal ledger.ratio ledger.total) (sym (is.1 c left)) is.0.total)

pub returns-then-self-by-gt-MOST_UNITS-clause-at_exit : goal.returns-then-self-by-gt-MOST_UNITS-clause-at_exit
returns-then-self-by-gt-MOST_UNITS-clause-at_exit g c = λ not tells.
    let d = g.B.Disk in
    left_now d.reads d.may_leave c.args.disk.now c.args.self.now c.args.by (stands d.reads d.may_leave c.args.disk.now c.args.self.now c.requires.stands not) tells

pub returns-then-by-eq0-clause-at_exit : goal.returns-then-by-eq0-clause-at_exit
returns-then-by-eq0-clause-at_exit g c = λ not tells.
    let d = g.B.Disk in
    left_now d.reads d.may_leave c.args.disk.now c.args.self.now c.args.by (stands d.reads d.may_leave c.args.disk.now c.args.self.now c.requires.stands not) tells
