use Rattle.std.proofs.Common.{◌≡◌, ◌∙◌, ℕ, List, length, refl, sym, ap, Some, None, arith}
use Rattle.dp_ledger.specs.Image.{ledger_total, current_slot, entry_at, is_open, other}
use Rattle.dp_ledger.proofs.Looking.{seen_is, seen_total, seen_none}
use Rattle.dp_ledger.proofs.StepLaws.{some_of}
use Rattle.dp_ledger.proofs.Totals.{total_small}
use Rattle.dp_ledger.proofs.ledger.Ledger.open.Goals as goal

pub returns-in_default-clause-none : goal.returns-in_default-clause-none
returns-in_default-clause-none g c = λ _ content told.
    let fills = c.in_ok-n.ensures.fills content told in
    let room : length c.look.new.buf ≡ 27 = omega (arith, c.look.auto.buf) in
    seen_none c.args.ratio content c.look.new.buf c.in_ok-n.n room fills (sym c.in_default.ensures.total)

pub invariant_of-result : goal.invariant_of-result
invariant_of-result g c = record { in_range = total_small c.args.ratio _ c.in-Some.reading.total (sym c.in-Some.ensures.total) }

pub returns-clause-found : goal.returns-clause-found
returns-clause-found g c = λ content told.
    let fills = c.in_ok-n.ensures.fills content told in
    let room : length c.look.new.buf ≡ 27 = omega (arith, c.look.auto.buf) in
    seen_total c.args.ratio content c.look.new.buf c.in_ok-n.n room fills c.in-Some.reading.total (sym c.in-Some.ensures.total)

pub returns-clause-stands : goal.returns-clause-stands
returns-clause-stands g c = record {
  not_closed = refl;
  rests = λ content told.
      let fills = c.in_ok-n.ensures.fills content (sym c.look.ensures.same ∙ told) in
      let room : length c.look.new.buf ≡ 27 = omega (arith, c.look.auto.buf) in
      let is = seen_is c.args.ratio content c.look.new.buf c.in_ok-n.n room fills c.in-Some.reading.total (sym c.in-Some.ensures.total) in (
        record {
          total = ap (ledger_total c.args.ratio) (sym is) ∙ sym c.in-Some.ensures.total;
          current = ap current_slot (sym is) ∙ sym c.in-Some.ensures.current;
          other_gate = ap (λ (l : List ℕ). is_open (entry_at (other c.in-Some.reading.current) l)) (sym is) ∙ sym c.in-Some.ensures.other_gate;
        },
        c.in_ok-n.ensures.alone content told,
      );
}

pub returns-clause-acknowledged : goal.returns-clause-acknowledged
returns-clause-acknowledged g c = λ tells left_content left.
    let content = some_of (g.B.Disk.reads c.args.disk.now) tells in
    let fills = c.in_ok-n.ensures.fills content.0 content.1 in
    let room : length c.look.new.buf ≡ 27 = omega (arith, c.look.auto.buf) in
    let total = seen_total c.args.ratio content.0 c.look.new.buf c.in_ok-n.n room fills c.in-Some.reading.total (sym c.in-Some.ensures.total) in
    ap (ledger_total c.args.ratio) (c.in_ok-n.ensures.alone content.0 (c.look.ensures.same ∙ content.1) left_content left) ∙ total

pub returns-clause-only_none : goal.returns-clause-only_none
returns-clause-only_none g c = λ content told none _.
    let fills = c.in_ok-n.ensures.fills content told in
    let room : length c.look.new.buf ≡ 27 = omega (arith, c.look.auto.buf) in
    let total = seen_total c.args.ratio content c.look.new.buf c.in_ok-n.n room fills c.in-Some.reading.total (sym c.in-Some.ensures.total) in
    let wrong : None ≡ Some c.in-Some.reading.total = sym none ∙ total in
    absurd (cc)
