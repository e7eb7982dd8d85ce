use Rattle.std.proofs.Common.{rules, ◌≡◌, ℕ, subst, inr, true, false, option_map, ap, sym, ◌∙◌, arith}
use Rattle.dp_io.specs.Lines.{LinesValue, is_line_feed, first_line, after_first_line, ReadsAhead}
use Rattle.dp_io.proofs.FirstPlaces.{none-before}
use Rattle.dp_io.proofs.RemainingText.{is_first_known, line-known, remaining-line, line-long, unended-at_end, more-unknown, needs_read-unknown, emptied-at_end, remaining-read}
use Rattle.dp_io.proofs.lines.Lines.next.Goals as goal

pub returns-then-end-gt-MOST_LINE_BYTES-clause-too_long : goal.returns-then-end-gt-MOST_LINE_BYTES-clause-too_long
returns-then-end-gt-MOST_LINE_BYTES-clause-too_long g c _ text h =
    let long = line-long c.pieces.self _ text (c.pieces.invariant.text ∙ h) in
    omega (arith, long, c.first_line_end-end.ensures.place)

pub returns-then-is_line_end-clause-line : goal.returns-then-is_line_end-clause-line
returns-then-is_line_end-clause-line g c text h =
    let known : is_first_known c.pieces.self ≡ true = rw (c.first_line_end-end.ensures.same, c.first_line_end-end.ensures.place) at (sym c.if-is_line_end.ensures) in
    let taken : c.take_line.new.self.line ≡ first_line c.pieces.self.read_ahead =
    ap (λ (lines : LinesValue). lines.line) c.take_line.ensures.line ∙ ap (λ (lines : LinesValue). first_line lines.read_ahead) c.first_line_end-end.ensures.same in
    taken ∙ line-known c.pieces.self _ text known (c.pieces.invariant.text ∙ h)

pub returns-then-is_line_end-clause-rest : goal.returns-then-is_line_end-clause-rest
returns-then-is_line_end-clause-rest g c =
    let known : is_first_known c.pieces.self ≡ true = rw (c.first_line_end-end.ensures.same, c.first_line_end-end.ensures.place) at (sym c.if-is_line_end.ensures) in
    let end : c.take_line.new.self.at_end ≡ c.pieces.self.at_end =
    ap (λ (lines : LinesValue). lines.at_end) c.take_line.ensures.line ∙ ap (λ (lines : LinesValue). lines.at_end) c.first_line_end-end.ensures.same in
    let ahead : c.take_line.new.self.read_ahead ≡ after_first_line c.pieces.self.read_ahead =
    ap (λ (lines : LinesValue). lines.read_ahead) c.take_line.ensures.line ∙ ap (λ (lines : LinesValue). after_first_line lines.read_ahead) c.first_line_end-end.ensures.same in
    remaining-line c.pieces.self c.take_line.new.self _ known end ahead ∙ ap (option_map after_first_line) c.pieces.invariant.text

pub returns-then-is_line_end-clause-no_line_feed : goal.returns-then-is_line_end-clause-no_line_feed
returns-then-is_line_end-clause-no_line_feed g c =
    let taken : c.take_line.new.self.line ≡ first_line c.pieces.self.read_ahead =
    ap (λ (lines : LinesValue). lines.line) c.take_line.ensures.line ∙ ap (λ (lines : LinesValue). first_line lines.read_ahead) c.first_line_end-end.ensures.same in
    rw taken (none-before is_line_feed c.pieces.self.read_ahead)

pub returns-then-is_line_end-clause-unended : goal.returns-then-is_line_end-clause-unended
returns-then-is_line_end-clause-unended g c = λ more text h none.
    let known : is_first_known c.pieces.self ≡ true = rw (c.first_line_end-end.ensures.same, c.first_line_end-end.ensures.place) at (sym c.if-is_line_end.ensures) in
    let end : c.take_line.new.self.at_end ≡ c.pieces.self.at_end =
    ap (λ (lines : LinesValue). lines.at_end) c.take_line.ensures.line ∙ ap (λ (lines : LinesValue). lines.at_end) c.first_line_end-end.ensures.same in
    end ∙ unended-at_end c.pieces.self _ text known (c.pieces.invariant.text ∙ h) none

pub pieces-preserved : goal.pieces-preserved
pieces-preserved g c =
    let unknown : is_first_known c.pieces.self ≡ false = rw (c.first_line_end-end.ensures.same, c.first_line_end-end.ensures.place) at (sym c.if-is_line_end.ensures) in
    let slot : c.first_line_end-end.new.self.slot ≡ c.args.self.now.slot =
    ap (λ (lines : LinesValue). lines.slot) c.first_line_end-end.ensures.same ∙ c.pieces.invariant.slot in
    let ReadsAt : ℕ → LinesValue → Type 0 =
    λ at lines. ReadsAhead (g.S.Shelf.left c.pieces.shelf at) (g.S.Shelf.left c.read_ahead.new.shelf at) lines c.read_ahead.new.self in
    let read : ReadsAt c.args.self.now.slot c.pieces.self =
    subst (λ at. ReadsAt at c.pieces.self) slot (subst (ReadsAt c.first_line_end-end.new.self.slot) c.first_line_end-end.ensures.same c.in_ok-read_ahead.ensures.ahead) in
    record {
      slot = read.slot ∙ c.pieces.invariant.slot;
      slots = search rules;
      files = search rules;
      faults = search rules;
      others = λ n other. c.read_ahead.ensures.others n (λ same. other (same ∙ slot)) ∙ c.pieces.invariant.others n other;
      text = remaining-read c.pieces.self c.read_ahead.new.self _ _ (more-unknown c.pieces.self unknown) read ∙ c.pieces.invariant.text;
      end = λ end. inr (emptied-at_end c.pieces.self c.read_ahead.new.self _ _ read end);
      end_stays = λ ended. let more = more-unknown c.pieces.self unknown in let none = c.pieces.invariant.end_stays ended in absurd (cc);
      no_read = λ none. let needed = needs_read-unknown c.pieces.self unknown in let not_needed = (c.pieces.invariant.no_read none).1 in absurd (cc);
    }

pub returns-in_err-read_ahead-clause-no_read : goal.returns-in_err-read_ahead-clause-no_read
returns-in_err-read_ahead-clause-no_read g c none =
    let unknown : is_first_known c.pieces.self ≡ false = rw (c.first_line_end-end.ensures.same, c.first_line_end-end.ensures.place) at (sym c.if-is_line_end.ensures) in
    let needed = needs_read-unknown c.pieces.self unknown in
    let not_needed = (c.pieces.invariant.no_read none).1 in
    absurd (cc)

pub returns-in_err-read_ahead-clause-failed_ahead : goal.returns-in_err-read_ahead-clause-failed_ahead
returns-in_err-read_ahead-clause-failed_ahead g c _ =
    let unknown : is_first_known c.pieces.self ≡ false = rw (c.first_line_end-end.ensures.same, c.first_line_end-end.ensures.place) at (sym c.if-is_line_end.ensures) in
    let needed = needs_read-unknown c.pieces.self unknown in
    search (rules, needed)
