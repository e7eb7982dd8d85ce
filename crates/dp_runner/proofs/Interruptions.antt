-- What was answered of the queries where a read of them fails.
use Rattle.std.proofs.Common.{◌≡◌, ◌∙◌, ◌⊎◌, ◌+◌, ◌<◌, ◌≤◌, ◌^◌, ◌&&◌, not, ℕ, suc, Bool, true, false, List, [], ◌∷◌, ◌++◌, length, Option, Some, None, option_map, Ok, Err, inl, inr, refl, sym, ap, append_assoc, append-nil}
use mathlib.Core.List.{reverse_aux}
use Rattle.std.specs.List.{list_any}
use Rattle.std.specs.Option.{ForSome}
use Rattle.dp_draws.specs.Taking.{Turn}
use Rattle.dp_io.specs.Lines.{LinesValue, is_line_feed, first_line, after_first_line, ended_lines, remaining, needs_read}
use Rattle.dp_io.specs.Sink.{appended}
use Rattle.dp_io.proofs.FirstPlaces.{none-before}
use Rattle.dp_io.proofs.TextLines.{ended-none, ended-first, text-fed}
use Rattle.dp_session.specs.Sessions.{Drawing, Gives}
use Rattle.dp_session.specs.SessionLines.{Ran, preceded, after_taken, line_slots, run_slots}
use Rattle.dp_runner.specs.declared.stop.Stop.TheVariants as stop
use Rattle.dp_runner.specs.Answering.{Answering, interrupted}
use Rattle.dp_runner.specs.Causes.{HasDone, IsInterrupted}
use Rattle.dp_runner.specs.Outcome.{Source, Outcome, source_at}
use Rattle.dp_runner.specs.Turns.{WritesLines, IsFirst, Answered}
use Rattle.dp_runner.specs.WrittenLines.{are_lines}
use Rattle.dp_runner.proofs.AnsweringSteps.{Standing, unused, through, from, standing-none, standing-more}

-- what was read of a text before the rest are some lines, newest first, each with its line feed
pub record ReadLines (text : List ℕ) (rest : Option (List ℕ)) (past : List (List ℕ)) : Type 0 where
  pub front : List ℕ
  pub text_is : Some text ≡ option_map (λ left. front ++ left) rest
  pub ended : (more : List ℕ) → ended_lines (front ++ more) ≡ reverse_aux past (ended_lines more)

-- what answers stands somewhere, the source gave all draws of the lines so far, and these are what was read of the text,
-- each with its line feed, unless the reader came to the end
pub record Reached (stands : List (List ℕ) → Type 0) (answering : Answering) (source : Drawing)
    (start rest old held : Option (List ℕ)) (turn most : ℕ) (at_end : Bool) : Type 0 where
  pub standing : Standing stands answering source start rest old held turn most
  pub ran : (lines : List (List ℕ))
      → run_slots source.step (line_slots answering.slot [] (reverse_aux standing.past lines)) source.before
      ≡ preceded standing.bytes (run_slots source.step (line_slots answering.slot standing.past lines) source.after)
  pub read : ForSome start (λ text. (at_end ≡ true) ⊎ ReadLines text rest standing.past)

none-read : (start : Option (List ℕ)) (text : List ℕ) → start ≡ Some text → ReadLines text start []
none-read start text is = record { front = []; text_is = rw is refl; ended = λ more. refl }

pub reached-none : (stands : List (List ℕ) → Type 0) (answering : Answering) (step : List ℕ → ℕ → Turn) (state : List ℕ)
    (start held : Option (List ℕ)) (at_end : Bool) → stands []
    → Reached stands answering (unused step state) start start held held 0 (2 ^ 20) at_end
unfolding standing-none
reached-none stands answering step state start held at_end none = record {
  standing = standing-none stands answering step state start held none;
  ran = λ lines. refl;
  read = λ text is. inr (none-read start text is);
}

-- a first line whose draws are given, and then the rest
slot-ran : (answering : Answering) (source : Drawing) (past lines : List (List ℕ)) (line draws : List ℕ)
    → Gives source (answering.slot past line).shape (Some draws)
    → run_slots source.step (line_slots answering.slot past (line ∷ lines)) source.before
    ≡ preceded ((answering.slot past line).out draws)
    (run_slots source.step (line_slots answering.slot (line ∷ past) lines) source.after)
unfolding run_slots line_slots
slot-ran answering source past lines line draws taken =
    ap (λ t. after_taken t (answering.slot past line).out (run_slots source.step (line_slots answering.slot (line ∷ past) lines))) taken

both-preceded : (a b : List ℕ) (ran : Ran) → preceded a (preceded b ran) ≡ preceded (a ++ b) ran
both-preceded a b ran =
    ap (λ bytes. let all : Ran = record { bytes = bytes; enough = ran.enough; last = ran.last } in all)
    (sym (append_assoc a b ran.bytes))

text-split : (front line rest : List ℕ) → front ++ (line ++ 10 ∷ rest) ≡ (front ++ (line ++ 10 ∷ [])) ++ rest
text-split front line rest =
    ap (λ t. front ++ t) (sym (append_assoc line (10 ∷ []) rest)) ∙ sym (append_assoc front (line ++ 10 ∷ []) rest)

-- a line and its line feed more
line-more : (text line left : List ℕ) (rest : Option (List ℕ)) (past : List (List ℕ)) → line ≡ first_line left
    → rest ≡ Some (after_first_line left) → list_any is_line_feed left ≡ true
    → ReadLines text (Some left) past → ReadLines text rest (line ∷ past)
line-more text line left rest past is rest_is fed read =
    let whole : list_any is_line_feed line ≡ false = rw is (none-before is_line_feed left) in
    let split : left ≡ line ++ 10 ∷ after_first_line left = rw is (text-fed left fed) in
    record {
      front = read.front ++ (line ++ 10 ∷ []);
      text_is = read.text_is
          ∙ ap (λ t. Some (read.front ++ t)) split
          ∙ ap Some (text-split read.front line (after_first_line left))
          ∙ ap (option_map (λ more. (read.front ++ (line ++ 10 ∷ [])) ++ more)) (sym rest_is);
      ended = λ more. ap ended_lines (sym (text-split read.front line more))
          ∙ read.ended (line ++ 10 ∷ more)
          ∙ ap (reverse_aux past) (ended-first line more whole);
    }

read-by : (fed : Bool) (text line left : List ℕ) (rest : Option (List ℕ)) (past : List (List ℕ)) (before after : Bool)
    → list_any is_line_feed left ≡ fed → line ≡ first_line left → rest ≡ Some (after_first_line left)
    → (before ≡ true → after ≡ true) → (list_any is_line_feed left ≡ false → after ≡ true)
    → (before ≡ true) ⊎ ReadLines text (Some left) past → (after ≡ true) ⊎ ReadLines text rest (line ∷ past)
read-by fed text line left rest past before after has is rest_is stays unended (inl end) = inl (stays end)
read-by true text line left rest past before after has is rest_is stays unended (inr read) =
    inr (line-more text line left rest past is rest_is has read)
read-by false text line left rest past before after has is rest_is stays unended (inr read) = inl (unended has)

read-more : (text line : List ℕ) (left rest : Option (List ℕ)) (past : List (List ℕ)) (before after : Bool)
    → ForSome left (λ t. IsFirst line t) → rest ≡ option_map after_first_line left
    → (before ≡ true → after ≡ true) → ForSome left (λ t. list_any is_line_feed t ≡ false → after ≡ true)
    → (before ≡ true) ⊎ ReadLines text left past → (after ≡ true) ⊎ ReadLines text rest (line ∷ past)
read-more text line None rest past before after first rest_is stays unended (inl end) = inl (stays end)
read-more text line None rest past before after first rest_is stays unended (inr read) = let is = read.text_is in absurd (cc)
read-more text line (Some left) rest past before after first rest_is stays unended read =
    read-by (list_any is_line_feed left) text line left rest past before after refl (first left refl).line_is rest_is stays
    (unended left refl) read

pub reached-more : (stands next : List (List ℕ) → Type 0) (answering : Answering) (source : Drawing) (last : List ℕ)
    (start left rest old held new : Option (List ℕ)) (turn before after : ℕ) (end_before end_after : Bool)
    → WritesLines answering → before ≡ suc after
    → (r : Reached stands answering source start left old held turn before end_before)
    → Answered next answering r.standing.past (from source last) left rest held new
    → (end_before ≡ true → end_after ≡ true)
    → ForSome left (λ text. list_any is_line_feed text ≡ false → end_after ≡ true)
    → Reached next answering (through source last) start rest old new (turn + 1) after end_after
unfolding standing-more
reached-more stands next answering source last start left rest old held new turn before after end_before end_after writes one r answered
    stays unended =
    let s = r.standing in
    let line : List ℕ = answered.reads.line in
    let draws : List ℕ = answered.reads.answers.0 in
    let bytes : List ℕ = (answering.slot s.past line).out draws in
    record {
      standing = standing-more stands next answering source last start left rest old held new turn before after writes one s answered;
      ran = λ lines. r.ran (line ∷ lines)
          ∙ ap (preceded s.bytes) (slot-ran answering (from source last) s.past lines line draws answered.reads.answers.1)
          ∙ both-preceded s.bytes bytes (run_slots source.step (line_slots answering.slot (line ∷ s.past) lines) last);
      read = λ text is. read-more text line left rest s.past end_before end_after answered.reads.first answered.rest_is stays unended
          (r.read text is);
    }

-- ---- a read that fails

-- of the lines so far all draws were given
all-ran : (answering : Answering) (source : Drawing) (past : List (List ℕ)) (bytes : List ℕ)
    → ((lines : List (List ℕ)) → run_slots source.step (line_slots answering.slot [] (reverse_aux past lines)) source.before
    ≡ preceded bytes (run_slots source.step (line_slots answering.slot past lines) source.after))
    → run_slots source.step (line_slots answering.slot [] (reverse_aux past [])) source.before
    ≡ record { bytes = bytes; enough = true; last = source.after }
unfolding run_slots line_slots
all-ran answering source past bytes ran =
    ran [] ∙ ap (λ b. let all : Ran = record { bytes = b; enough = true; last = source.after } in all) (append-nil bytes)

stopped : (answering : Answering) (source : Drawing) (given bytes : List ℕ) (lines : List (List ℕ)) → ended_lines given ≡ lines
    → run_slots source.step (line_slots answering.slot [] lines) source.before
    ≡ record { bytes = bytes; enough = true; last = source.after }
    → interrupted (source_at source.step source.before) answering given
    ≡ record { bytes = bytes; stop = Some stop.ReadFault; last = source.after }
unfolding interrupted
stopped answering source given bytes lines is ran = rw (is, ran) refl

stopped-done : (outcome : Outcome) (bytes last : List ℕ) (old held new : Option (List ℕ)) (now : List ℕ)
    → outcome ≡ record { bytes = bytes; stop = Some stop.ReadFault; last = last }
    → held ≡ appended old bytes → new ≡ held → are_lines bytes ≡ true → now ≡ last
    → HasDone outcome (Some stop.ReadFault) old new now
stopped-done outcome bytes last old held new now is gained same whole state =
    rw is (record { gained = same ∙ gained; whole = whole; stop_is = refl; last_is = state })

no-end : (end any : Bool) → (not end && not any) ≡ true → (end ≡ false) × (any ≡ false)
no-end false false is = (refl, refl)
no-end false true is = absurd (cc)
no-end true any is = absurd (cc)

not-ended : (before after : Bool) (text : List ℕ) (rest : Option (List ℕ)) (past : List (List ℕ)) → (before ≡ true → after ≡ true)
    → after ≡ false → (before ≡ true) ⊎ ReadLines text rest past → ReadLines text rest past
not-ended before after text rest past stays more (inl end) = let ended = stays end in absurd (cc)
not-ended before after text rest past stays more (inr read) = read

read-rest : (lines : LinesValue) (left : List ℕ) (found : Option (List ℕ)) → lines.at_end ≡ false
    → found ≡ remaining lines (Some left) → found ≡ Some (lines.read_ahead ++ left)
read-rest lines left found more is = is ∙ (rw more refl)

cut-read : (answering : Answering) (source : Drawing) (last text : List ℕ) (rest old held new : Option (List ℕ)) (lines : LinesValue)
    (left : Option (List ℕ)) (past : List (List ℕ)) (bytes : List ℕ)
    → run_slots source.step (line_slots answering.slot [] (reverse_aux past [])) source.before
    ≡ record { bytes = bytes; enough = true; last = source.after }
    → held ≡ appended old bytes → are_lines bytes ≡ true
    → (lines.at_end ≡ false) × (list_any is_line_feed lines.read_ahead ≡ false)
    → rest ≡ remaining lines left → new ≡ held → last ≡ source.after
    → ReadLines text rest past
    → IsInterrupted (Some text) left (interrupted (source_at source.step source.before) answering) old new last
cut-read answering source last text rest old held new lines None past bytes ran gained whole unread is same state read =
    let text_is = read.text_is ∙ ap (option_map (λ more. read.front ++ more)) is in
    absurd (cc)
cut-read answering source last text rest old held new lines (Some left) past bytes ran gained whole unread is same state read =
    record {
      given = read.front ++ lines.read_ahead;
      rest = left;
      text_is = read.text_is
          ∙ ap (option_map (λ more. read.front ++ more)) (read-rest lines left rest unread.0 is)
          ∙ ap Some (sym (append_assoc read.front lines.read_ahead left));
      left_is = refl;
      has_done = stopped-done (interrupted (source_at source.step source.before) answering (read.front ++ lines.read_ahead)) bytes
          source.after old held new last
          (stopped answering source (read.front ++ lines.read_ahead) bytes (reverse_aux past [])
          (read.ended lines.read_ahead ∙ ap (reverse_aux past) (ended-none lines.read_ahead unread.1)) ran)
          gained same whole state;
    }

pub cut-off : (stands : List (List ℕ) → Type 0) (answering : Answering) (source : Drawing) (last : List ℕ)
    (start rest old held new : Option (List ℕ)) (turn most : ℕ) (at_end : Bool) (lines : LinesValue) (left : Option (List ℕ))
    → Reached stands answering source start rest old held turn most at_end
    → needs_read lines ≡ true → (at_end ≡ true → lines.at_end ≡ true) → rest ≡ remaining lines left → new ≡ held → last ≡ source.after
    → ForSome start (λ text. IsInterrupted (Some text) left
    (interrupted (source_at source.step source.before) answering) old new last)
cut-off stands answering source last start rest old held new turn most at_end lines left r needs stays is same state = λ text start_is.
    cut-read answering source last text rest old held new lines left r.standing.past r.standing.bytes
    (all-ran answering source r.standing.past r.standing.bytes r.ran) r.standing.gained r.standing.whole
    (no-end lines.at_end (list_any is_line_feed lines.read_ahead) needs) is same state
    (not-ended at_end lines.at_end text rest r.standing.past stays (no-end _ _ needs).0 (r.read text start_is))
