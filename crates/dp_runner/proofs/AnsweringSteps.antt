-- Where what answers query lines stands between two turns, and how a run of it ends.
use Rattle.std.proofs.Common.{◌≡◌, ◌∙◌, ◌+◌, ◌<◌, ◌≤◌, ◌^◌, ℕ, suc, true, List, [], ◌∷◌, ◌++◌, length, Option, Some, None, option_map, Ok, Err, refl, sym, ap, arith, append_assoc, append-nil, subst}
use Rattle.std.specs.Option.{ForSome}
use Rattle.dp_draws.specs.Taking.{Turn, take_draws}
use Rattle.dp_draws.proofs.Taking.{joining, take_draws-none, take_draws-append}
use Rattle.dp_io.specs.Lines.{first_line, after_first_line}
use Rattle.dp_io.specs.Sink.{appended, AddsFront}
use Rattle.dp_io.proofs.Pieces.{appended-append}
use Rattle.dp_session.specs.Sessions.{Drawing, Gives}
use Rattle.dp_runner.specs.declared.stop.Stop.{Stop}
use Rattle.dp_runner.specs.declared.stop.Stop.TheVariants as stop
use Rattle.dp_runner.specs.Answering.{Answering, answered}
use Rattle.dp_runner.specs.Causes.{HasDone}
use Rattle.dp_runner.specs.Outcome.{Outcome, source_at, preceded_by}
use Rattle.dp_runner.specs.Turns.{WritesLines, AnswersSlot, IsFirst, Reads, Answered}
use Rattle.dp_runner.specs.WrittenLines.{are_lines, AddsLines}
use Rattle.dp_runner.specs.WrittenLinesProof.{lines-append}
use Rattle.dp_runner.proofs.AnsweringTexts.{to_come, shape_to_come, to_come-line, to_come-fails, to_come-none, to_come-long, to_come-zero, answered-is, shape-line}
use Rattle.dp_runner.proofs.WritesLast.{nothing-gained}

-- what answers stands at the lines so far, of which all were written by the draws that were taken; what is to come at the
-- start are these lines, and then what is to come of the rest, where the texts are told
pub record Standing (stands : List (List ℕ) → Type 0) (answering : Answering) (source : Drawing)
    (start rest old held : Option (List ℕ)) (turn most : ℕ) : Type 0 where
  pub past : List (List ℕ)
  pub bytes : List ℕ
  pub shape : List ℕ
  pub draws : List ℕ
  pub stands_at : stands past
  pub count : length past ≡ turn
  pub gained : held ≡ appended old bytes
  pub whole : are_lines bytes ≡ true
  pub taken : take_draws source.step source.before shape ≡ record { draws = Some draws; last = source.after }
  pub coming : option_map (λ text. to_come source.step answering (2 ^ 20) [] text source.before) start
      ≡ option_map (λ text. preceded_by bytes (to_come source.step answering most past text source.after)) rest
  pub shapes : option_map (λ text. shape_to_come answering (2 ^ 20) [] text) start
      ≡ option_map (λ text. shape ++ shape_to_come answering most past text) rest

-- a source that gave no draw
abbrev pub unused : (List ℕ → ℕ → Turn) → List ℕ → Drawing
unused step state = record { step = step; before = state; after = state }

-- two calls of a source, one after the other
abbrev pub through : Drawing → List ℕ → Drawing
through source last = record { step = source.step; before = source.before; after = last }

abbrev pub from : Drawing → List ℕ → Drawing
from source last = record { step = source.step; before = source.after; after = last }

pub same-coming : (f : List ℕ → Outcome) (start : Option (List ℕ)) → option_map f start ≡ option_map (λ text. preceded_by [] (f text)) start
same-coming f None = refl
same-coming f (Some text) = refl

pub same-shapes : (f : List ℕ → List ℕ) (start : Option (List ℕ)) → option_map f start ≡ option_map (λ text. [] ++ f text) start
same-shapes f None = refl
same-shapes f (Some text) = refl

unfoldable pub standing-none : (stands : List (List ℕ) → Type 0) (answering : Answering) (step : List ℕ → ℕ → Turn) (state : List ℕ)
    (start held : Option (List ℕ)) → stands [] → Standing stands answering (unused step state) start start held held 0 (2 ^ 20)
standing-none stands answering step state start held none = record {
  past = [];
  bytes = [];
  shape = [];
  draws = [];
  stands_at = none;
  count = refl;
  gained = nothing-gained held;
  whole = refl;
  taken = take_draws-none step state;
  coming = same-coming (λ text. to_come step answering (2 ^ 20) [] text state) start;
  shapes = same-shapes (λ text. shape_to_come answering (2 ^ 20) [] text) start;
}

-- draws that were taken one after the other
pub taken-both : (step : List ℕ → ℕ → Turn) (first mid last shape more draws ds : List ℕ)
    → take_draws step first shape ≡ record { draws = Some draws; last = mid }
    → take_draws step mid more ≡ record { draws = Some ds; last = last }
    → take_draws step first (shape ++ more) ≡ record { draws = Some (draws ++ ds); last = last }
taken-both step first mid last shape more draws ds one two =
    take_draws-append step first shape more
    ∙ ap (λ t. joining t.draws t.last (λ next. take_draws step next more)) one
    ∙ ap (λ t. record { draws = option_map (λ es. draws ++ es) t.draws; last = t.last }) two

twice : (a b : List ℕ) (outcome : Outcome) → preceded_by a (preceded_by b outcome) ≡ preceded_by (a ++ b) outcome
twice a b outcome =
    ap (λ bytes. let done : Outcome = record { bytes = bytes; stop = outcome.stop; last = outcome.last } in done)
    (sym (append_assoc a b outcome.bytes))

line-comes : (answering : Answering) (source : Drawing) (most : ℕ) (past : List (List ℕ)) (bytes line text draws : List ℕ)
    → IsFirst line text
    → Gives source (answering.slot past line).shape (Some draws)
    → preceded_by bytes (to_come source.step answering (suc most) past text source.before)
    ≡ preceded_by (bytes ++ (answering.slot past line).out draws)
    (to_come source.step answering most (line ∷ past) (after_first_line text) source.after)
line-comes answering source most past bytes line text draws first taken =
    let short : length (first_line text) ≤ 65536 = rw first.line_is at first.short in
    let given : Gives source (answering.slot past (first_line text)).shape (Some draws) = rw first.line_is at taken in
    ap (preceded_by bytes) (to_come-line source.step answering most past text source.before source.after draws first.some short given)
    ∙ twice bytes ((answering.slot past (first_line text)).out draws)
    (to_come source.step answering most (first_line text ∷ past) (after_first_line text) source.after)
    ∙ ap (λ l. preceded_by (bytes ++ (answering.slot past l).out draws)
    (to_come source.step answering most (l ∷ past) (after_first_line text) source.after)) (sym first.line_is)

pub lines-come : (answering : Answering) (source : Drawing) (most : ℕ) (past : List (List ℕ)) (bytes line draws : List ℕ)
    (left rest : Option (List ℕ))
    → ForSome left (λ text. IsFirst line text) → rest ≡ option_map after_first_line left
    → Gives source (answering.slot past line).shape (Some draws)
    → option_map (λ text. preceded_by bytes (to_come source.step answering (suc most) past text source.before)) left
    ≡ option_map (λ text. preceded_by (bytes ++ (answering.slot past line).out draws)
    (to_come source.step answering most (line ∷ past) text source.after)) rest
lines-come answering source most past bytes line draws None rest first is taken = rw is refl
lines-come answering source most past bytes line draws (Some text) rest first is taken =
    rw is (ap Some (line-comes answering source most past bytes line text draws (first text refl) taken))

line-shapes : (answering : Answering) (most : ℕ) (past : List (List ℕ)) (shape line text : List ℕ) → IsFirst line text
    → shape ++ shape_to_come answering (suc most) past text
    ≡ (shape ++ (answering.slot past line).shape) ++ shape_to_come answering most (line ∷ past) (after_first_line text)
line-shapes answering most past shape line text first =
    let short : length (first_line text) ≤ 65536 = rw first.line_is at first.short in
    ap (λ s. shape ++ s) (shape-line answering most past text first.some short)
    ∙ ap (λ l. shape ++ ((answering.slot past l).shape ++ shape_to_come answering most (l ∷ past) (after_first_line text)))
    (sym first.line_is)
    ∙ sym (append_assoc shape (answering.slot past line).shape (shape_to_come answering most (line ∷ past) (after_first_line text)))

pub shapes-come : (answering : Answering) (most : ℕ) (past : List (List ℕ)) (shape line : List ℕ) (left rest : Option (List ℕ))
    → ForSome left (λ text. IsFirst line text) → rest ≡ option_map after_first_line left
    → option_map (λ text. shape ++ shape_to_come answering (suc most) past text) left
    ≡ option_map (λ text. (shape ++ (answering.slot past line).shape) ++ shape_to_come answering most (line ∷ past) text) rest
shapes-come answering most past shape line None rest first is = rw is refl
shapes-come answering most past shape line (Some text) rest first is =
    rw is (ap Some (line-shapes answering most past shape line text (first text refl)))

unfoldable pub standing-more : (stands next : List (List ℕ) → Type 0) (answering : Answering) (source : Drawing) (last : List ℕ)
    (start left rest old held new : Option (List ℕ)) (turn before after : ℕ)
    → WritesLines answering → before ≡ suc after → (s : Standing stands answering source start left old held turn before)
    → Answered next answering s.past (from source last) left rest held new
    → Standing next answering (through source last) start rest old new (turn + 1) after
standing-more stands next answering source last start left rest old held new turn before after writes one s answered =
    let line : List ℕ = answered.reads.line in
    let given : AnswersSlot (Ok tt) (from source last) (answering.slot s.past line) held new = answered.reads.answers in
    let text : List ℕ = (answering.slot s.past line).out given.0 in
    record {
      past = line ∷ s.past;
      bytes = s.bytes ++ text;
      shape = s.shape ++ (answering.slot s.past line).shape;
      draws = s.draws ++ given.0;
      stands_at = answered.stands_at;
      count = let count = s.count in omega arith;
      gained = given.2 ∙ ap (λ h. appended h text) s.gained ∙ appended-append old s.bytes text;
      whole = lines-append s.bytes text s.whole (writes.each s.past line given.0);
      taken = taken-both source.step source.before source.after last s.shape
          (answering.slot s.past line).shape s.draws given.0 s.taken given.1;
      coming = (rw one at s.coming)
          ∙ lines-come answering (from source last) after s.past s.bytes line given.0 left rest answered.reads.first answered.rest_is
          given.1;
      shapes = (rw one at s.shapes) ∙ shapes-come answering after s.past s.shape line left rest answered.reads.first answered.rest_is;
    }

-- ---- the ends

told-one : {B : Type 0} (f : List ℕ → B) (P : B → Type 0) (told : Option B) (rest : Option (List ℕ)) → told ≡ option_map f rest
    → ((text : List ℕ) → rest ≡ Some text → P (f text)) → ForSome told P
told-one f P told None is h = λ outcome e. absurd (cc)
told-one f P told (Some text) is h = λ outcome e.
    let same : f text ≡ outcome = cc in
    subst P same (h text refl)

-- what is told at the start
start-told : (answering : Answering) (source : Drawing) (start : Option (List ℕ))
    → option_map (answered (source_at source.step source.before) answering) start
    ≡ option_map (λ text. to_come source.step answering (2 ^ 20) [] text source.before) start
start-told answering source None = refl
start-told answering source (Some text) = ap Some (answered-is (source_at source.step source.before) answering text)

-- what holds of the lines so far before what is to come holds of what is told
told-coming : (stands : List (List ℕ) → Type 0) (answering : Answering) (source : Drawing) (start rest old held : Option (List ℕ))
    (turn most : ℕ)
    (P : Outcome → Type 0) → (s : Standing stands answering source start rest old held turn most)
    → ((text : List ℕ) → rest ≡ Some text → P (preceded_by s.bytes (to_come source.step answering most s.past text source.after)))
    → ForSome (option_map (answered (source_at source.step source.before) answering) start) P
told-coming stands answering source start rest old held turn most P s h =
    told-one (λ text. preceded_by s.bytes (to_come source.step answering most s.past text source.after)) P _ rest
    (start-told answering source start ∙ s.coming) h

-- some of the lines
pub ends-early : (stands : List (List ℕ) → Type 0) (answering : Answering) (source : Drawing)
    (start rest old held new : Option (List ℕ)) (turn most : ℕ)
    → Standing stands answering source start rest old held turn most → new ≡ held
    → ForSome (option_map (answered (source_at source.step source.before) answering) start) (λ outcome. AddsLines old new outcome.bytes)
ends-early stands answering source start rest old held new turn most s same =
    told-coming stands answering source start rest old held turn most (λ outcome. AddsLines old new outcome.bytes) s
    (λ text is. record {
      gains = record {
        front = s.bytes;
        rest = (to_come source.step answering most s.past text source.after).bytes;
        split = refl;
        gained = same ∙ s.gained;
      };
      whole = s.whole;
    })

stop-done : (reason : Stop) (come : Outcome) (last bytes : List ℕ) (old held new : Option (List ℕ))
    → come ≡ record { bytes = []; stop = Some reason; last = last }
    → held ≡ appended old bytes → new ≡ held → are_lines bytes ≡ true
    → HasDone (preceded_by bytes come) (Some reason) old new last
stop-done reason come last bytes old held new is gained same whole = rw is (record {
  gained = same ∙ gained ∙ ap (appended old) (sym (append-nil bytes));
  whole = ap are_lines (append-nil bytes) ∙ whole;
  stop_is = refl;
  last_is = refl;
})

-- a line that is too long
pub ends-long : (stands : List (List ℕ) → Type 0) (answering : Answering) (source : Drawing)
    (start rest old held new : Option (List ℕ)) (turn most : ℕ)
    → Standing stands answering source start rest old held turn most → ForSome rest (λ text. 65536 < length (first_line text)) → new ≡ held
    → ForSome (option_map (answered (source_at source.step source.before) answering) start)
    (λ outcome. HasDone outcome (Some stop.QueryLimit) old new source.after)
ends-long stands answering source start rest old held new turn most s long same =
    told-coming stands answering source start rest old held turn most
    (λ outcome. HasDone outcome (Some stop.QueryLimit) old new source.after) s
    (λ text is. stop-done stop.QueryLimit (to_come source.step answering most s.past text source.after) source.after s.bytes old held new
    (to_come-long source.step answering most s.past text source.after (long text is)) s.gained same s.whole)

-- a line too many
pub ends-over : (stands : List (List ℕ) → Type 0) (answering : Answering) (source : Drawing)
    (start rest old held new : Option (List ℕ)) (turn most : ℕ)
    → Standing stands answering source start rest old held turn most → most ≡ 0 → ForSome rest (λ text. 0 < length text) → new ≡ held
    → ForSome (option_map (answered (source_at source.step source.before) answering) start)
    (λ outcome. HasDone outcome (Some stop.QueryLimit) old new source.after)
ends-over stands answering source start rest old held new turn most s zero some same =
    told-coming stands answering source start rest old held turn most
    (λ outcome. HasDone outcome (Some stop.QueryLimit) old new source.after) s
    (λ text is. stop-done stop.QueryLimit (to_come source.step answering most s.past text source.after) source.after s.bytes old held new
    (rw zero (to_come-zero source.step answering s.past text source.after (some text is))) s.gained same s.whole)

-- a draw that is not given
pub ends-failed : (stands : List (List ℕ) → Type 0) (answering : Answering) (source : Drawing) (last : List ℕ)
    (start rest old held new : Option (List ℕ)) (turn before after : ℕ)
    → before ≡ suc after → (s : Standing stands answering source start rest old held turn before)
    → Reads (Err stop.DrawFault) answering s.past (from source last) rest held new
    → ForSome (option_map (answered (source_at source.step source.before) answering) start)
    (λ outcome. HasDone outcome (Some stop.DrawFault) old new last)
ends-failed stands answering source last start rest old held new turn before after one s reads =
    told-coming stands answering source start rest old held turn before (λ outcome. HasDone outcome (Some stop.DrawFault) old new last) s
    (λ text is. let first = reads.first text is in
    let short : length (first_line text) ≤ 65536 = rw first.line_is at first.short in
    stop-done stop.DrawFault (to_come source.step answering before s.past text source.after) last s.bytes old held new
    (rw one (to_come-fails source.step answering after s.past text source.after last first.some short
    (rw first.line_is at reads.answers.0)))
    s.gained reads.answers.1 s.whole)

end-done : (come : Outcome) (last bytes end : List ℕ) (old held new : Option (List ℕ))
    → come ≡ record { bytes = end; stop = None; last = last }
    → held ≡ appended old bytes → new ≡ appended held end → are_lines bytes ≡ true → are_lines end ≡ true
    → HasDone (preceded_by bytes come) None old new last
end-done come last bytes end old held new is gained written whole ended = rw is (record {
  gained = written ∙ ap (λ h. appended h end) gained ∙ appended-append old bytes end;
  whole = lines-append bytes end whole ended;
  stop_is = refl;
  last_is = refl;
})

-- the last line was written
pub ends-done : (stands : List (List ℕ) → Type 0) (answering : Answering) (source : Drawing)
    (start rest old held new : Option (List ℕ)) (turn most : ℕ)
    → WritesLines answering → (s : Standing stands answering source start rest old held turn most) → ForSome rest (λ text. text ≡ [])
    → new ≡ appended held (answering.last_line s.past)
    → ForSome (option_map (answered (source_at source.step source.before) answering) start)
    (λ outcome. HasDone outcome None old new source.after)
ends-done stands answering source start rest old held new turn most writes s none written =
    told-coming stands answering source start rest old held turn most (λ outcome. HasDone outcome None old new source.after) s
    (λ text is. end-done (to_come source.step answering most s.past text source.after) source.after s.bytes
    (answering.last_line s.past) old held new
    (to_come-none source.step answering most s.past text source.after (none text is)) s.gained written s.whole (writes.last s.past))

front-after : (bytes front rest more : List ℕ) (old held new : Option (List ℕ)) → held ≡ appended old bytes → new ≡ appended held front
    → AddsFront old new (bytes ++ ((front ++ rest) ++ more))
front-after bytes front rest more old held new gained written = record {
  front = bytes ++ front;
  rest = rest ++ more;
  split = ap (λ b. bytes ++ b) (append_assoc front rest more) ∙ sym (append_assoc bytes front (rest ++ more));
  gained = written ∙ ap (λ h. appended h front) gained ∙ appended-append old bytes front;
}

front-more : (bytes line more : List ℕ) (old held new : Option (List ℕ)) → held ≡ appended old bytes → AddsFront held new line
    → AddsFront old new (bytes ++ (line ++ more))
front-more bytes line more old held new gained h =
    rw h.split (front-after bytes h.front h.rest more old held new gained h.gained)

-- a front of the last line was written
pub ends-cut : (stands : List (List ℕ) → Type 0) (answering : Answering) (source : Drawing) (start rest old held new : Option (List ℕ))
    (turn most : ℕ)
    → (s : Standing stands answering source start rest old held turn most) → ForSome rest (λ text. text ≡ [])
    → AddsFront held new (answering.last_line s.past)
    → ForSome (option_map (answered (source_at source.step source.before) answering) start) (λ outcome. AddsFront old new outcome.bytes)
ends-cut stands answering source start rest old held new turn most s none h =
    told-coming stands answering source start rest old held turn most (λ outcome. AddsFront old new outcome.bytes) s
    (λ text is. rw (to_come-none source.step answering most s.past text source.after (none text is))
    (subst (λ end. AddsFront old new (s.bytes ++ end)) (append-nil (answering.last_line s.past))
    (front-more s.bytes (answering.last_line s.past) [] old held new s.gained h)))

-- a front of a line was written
pub ends-broken : (stands : List (List ℕ) → Type 0) (answering : Answering) (source : Drawing) (last : List ℕ)
    (start rest old held new : Option (List ℕ)) (turn before after : ℕ)
    → before ≡ suc after → (s : Standing stands answering source start rest old held turn before)
    → Reads (Err stop.WriteFault) answering s.past (from source last) rest held new
    → ForSome (option_map (answered (source_at source.step source.before) answering) start) (λ outcome. AddsFront old new outcome.bytes)
ends-broken stands answering source last start rest old held new turn before after one s reads =
    told-coming stands answering source start rest old held turn before (λ outcome. AddsFront old new outcome.bytes) s
    (λ text is. let first = reads.first text is in
    let short : length (first_line text) ≤ 65536 = rw first.line_is at first.short in
    let given = reads.answers in
    rw (one, to_come-line source.step answering after s.past text source.after last given.0 first.some short (rw first.line_is at given.1))
    (front-more s.bytes ((answering.slot s.past (first_line text)).out given.0) _ old held new s.gained (rw first.line_is at given.2)))
