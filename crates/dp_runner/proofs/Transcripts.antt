-- A session whose source gives all draws of its queries writes their transcript.
use Rattle.std.proofs.Common.{◌≡◌, ◌∙◌, ◌≤◌, ◌^◌, ℕ, true, false, List, [], ◌∷◌, ◌++◌, length, take, drop, Option, Some, None, option_map, Ok, refl, sym, ap, arith}
use Rattle.std.specs.Prelude.{reverse, codes}
use mathlib.Core.List.{reverse_aux}
use Rattle.std.specs.List.{concat}
use Rattle.std.proofs.lemmas.List.{length-reverse, take-append-le, take_all, drop-append-le, drop_all}
use Rattle.dp_count.specs.Slots.{Slot, joined_shape, replies}
use Rattle.dp_domain.specs.declared.values.Value.{Value}
use Rattle.dp_draws.specs.Numbers.{drawn_numbers}
use Rattle.dp_draws.specs.Sources.{replay_step}
use Rattle.dp_draws.specs.Taking.{Turn, Taken, take_draws}
use Rattle.dp_draws.proofs.Taking.{joining, take_draws-append, take_draws-length}
use Rattle.dp_io.specs.Lines.{lines_of, lines_within, has_line_over}
use Rattle.dp_io.specs.Shelf.{Files}
use Rattle.dp_io.proofs.TextLines.{within-all}
use Rattle.dp_pipeline.specs.declared.content.Content.{Content}
use Rattle.dp_session.specs.Privacy.{text_records}
use Rattle.dp_session.specs.QueryLines.{end_line}
use Rattle.dp_session.specs.Runs.{query_shape, query_slots, run_shape}
use Rattle.dp_session.specs.SessionLines.{Ran, preceded, after_taken, session_slot, line_slots, run_slots, transcript}
use Rattle.dp_session.specs.Verdicts.{root_spent, verdict}
use Rattle.dp_runner.specs.declared.form.Form.TheVariants as form
use Rattle.dp_runner.specs.declared.stop.Stop.TheVariants as stop
use Rattle.dp_runner.specs.Answering.{ends, answered, session_answering}
use Rattle.dp_runner.specs.Forms.{form_of, outcome}
use Rattle.dp_runner.specs.Laws.{IsDone, HasData, HasFiles, GivesAll, data_root}
use Rattle.dp_runner.specs.Outcome.{Source, Outcome, source_at, or_stop, once_read, preceded_by, by_own_draws}
use Rattle.dp_runner.specs.SessionLaws.{session_lines}
use Rattle.dp_runner.specs.Sessions.{SessionForm, ReplayForm, RehearseForm, Opened, opened_at, opened, queried, run_outcome, replay_outcome, rehearse_outcome, seeded}
use Rattle.dp_runner.specs.Texts.{file_text, drawn}
use Rattle.dp_runner.proofs.CountSteps.{file-read}
use Rattle.dp_runner.proofs.FormRuns.{form-done}
use Rattle.dp_runner.proofs.PipelineSteps.{pipeline-read}
use Rattle.dp_runner.proofs.SessionRuns.{opened-data}
use Rattle.dp_runner.proofs.Steps.{bind-ok}

-- ---- slots

-- a first part of the draws, and the rest
pub record Parts (step : List ℕ → ℕ → Turn) (state shape more draws last : List ℕ) : Type 0 where
  pub front : List ℕ
  pub rest : List ℕ
  pub mid : List ℕ
  pub split : draws ≡ front ++ rest
  pub first : take_draws step state shape ≡ record { draws = Some front; last = mid }
  pub second : take_draws step mid more ≡ record { draws = Some rest; last = last }

parts-rest : (step : List ℕ → ℕ → Turn) (state shape more draws last front mid : List ℕ) (rest : Option (List ℕ)) (end : List ℕ)
    → take_draws step state shape ≡ record { draws = Some front; last = mid }
    → take_draws step mid more ≡ record { draws = rest; last = end }
    → (let t : Taken = record { draws = option_map (λ ds. front ++ ds) rest; last = end } in t) ≡ record { draws = Some draws; last = last }
    → Parts step state shape more draws last
parts-rest step state shape more draws last front mid None end first second e = absurd (cc (ap (λ (t : Taken). t.draws) e))
parts-rest step state shape more draws last front mid (Some rest) end first second e = record {
  front = front;
  rest = rest;
  mid = mid;
  split = (cc (ap (λ (t : Taken). t.draws) e));
  first = first;
  second = second ∙ ap (λ (l : List ℕ). let t : Taken = record { draws = Some rest; last = l } in t) (ap (λ (t : Taken). t.last) e);
}

parts-first : (step : List ℕ → ℕ → Turn) (state shape more draws last : List ℕ) (front : Option (List ℕ)) (mid : List ℕ)
    → take_draws step state shape ≡ record { draws = front; last = mid }
    → joining front mid (λ next. take_draws step next more) ≡ record { draws = Some draws; last = last }
    → Parts step state shape more draws last
parts-first step state shape more draws last None mid first e = absurd (cc (ap (λ (t : Taken). t.draws) e))
parts-first step state shape more draws last (Some front) mid first e =
    parts-rest step state shape more draws last front mid (take_draws step mid more).draws (take_draws step mid more).last first refl e

parts : (step : List ℕ → ℕ → Turn) (state shape more draws last : List ℕ)
    → take_draws step state (shape ++ more) ≡ record { draws = Some draws; last = last } → Parts step state shape more draws last
parts step state shape more draws last e =
    parts-first step state shape more draws last (take_draws step state shape).draws (take_draws step state shape).last refl
    (sym (take_draws-append step state shape more) ∙ e)

take-front : (n : ℕ) (front rest : List ℕ) → length front ≡ n → take n (front ++ rest) ≡ front
take-front n front rest is = take-append-le n front rest (omega arith) ∙ take_all n front (omega arith)

drop-front : (n : ℕ) (front rest : List ℕ) → length front ≡ n → drop n (front ++ rest) ≡ rest
drop-front n front rest is = drop-append-le n front rest (omega arith) ∙ ap (λ (d : List ℕ). d ++ rest) (drop_all n front (omega arith))

slot-bytes : (slot : Slot (List ℕ)) (slots : List (Slot (List ℕ))) (draws front rest : List ℕ) → draws ≡ front ++ rest
    → length front ≡ length slot.shape
    → slot.out front ++ concat (replies slots rest) ≡ concat (replies (slot ∷ slots) draws)
unfolding replies
slot-bytes slot slots draws front rest split is =
    let n : ℕ = length slot.shape in
    let one : take n draws ≡ front = ap (take n) split ∙ take-front n front rest is in
    let two : drop n draws ≡ rest = ap (drop n) split ∙ drop-front n front rest is in
    rw (one, two) refl

-- the draws of all slots are given: each is written by its own part of them
pub ran-all : (step : List ℕ → ℕ → Turn) (slots : List (Slot (List ℕ))) (state draws last : List ℕ)
    → take_draws step state (joined_shape slots) ≡ record { draws = Some draws; last = last }
    → run_slots step slots state ≡ record { bytes = concat (replies slots draws); enough = true; last = last }
unfolding run_slots joined_shape replies take_draws
ran-all step [] state draws last e =
    ap (λ (l : List ℕ). let ran : Ran = record { bytes = []; enough = true; last = l } in ran) (ap (λ (t : Taken). t.last) e)
ran-all step (slot ∷ slots) state draws last e =
    let p = parts step state slot.shape (joined_shape slots) draws last e in
    ap (λ t. after_taken t slot.out (run_slots step slots)) p.first
    ∙ ap (preceded (slot.out p.front)) (ran-all step slots p.mid p.rest last p.second)
    ∙ ap (λ b. let ran : Ran = record { bytes = b; enough = true; last = last } in ran)
    (slot-bytes slot slots draws p.front p.rest p.split
    (take_draws-length step state slot.shape p.front (ap (λ (t : Taken). t.draws) p.first)))

-- the draws of the slots before one are given, and its own not: those before are written
ran-out : (step : List ℕ → ℕ → Turn) (before : List (Slot (List ℕ))) (slot : Slot (List ℕ)) (after : List (Slot (List ℕ)))
    (state draws mid last : List ℕ)
    → take_draws step state (joined_shape before) ≡ record { draws = Some draws; last = mid }
    → take_draws step mid slot.shape ≡ record { draws = None; last = last }
    → run_slots step (before ++ slot ∷ after) state ≡ record { bytes = concat (replies before draws); enough = false; last = last }
unfolding run_slots joined_shape replies take_draws
ran-out step [] slot after state draws mid last e failed =
    let same : state ≡ mid = ap (λ (t : Taken). t.last) e in
    ap (λ t. after_taken t slot.out (run_slots step after)) (ap (λ (s : List ℕ). take_draws step s slot.shape) same ∙ failed)
ran-out step (one ∷ before) slot after state draws mid last e failed =
    let p = parts step state one.shape (joined_shape before) draws mid e in
    ap (λ t. after_taken t one.out (run_slots step (before ++ slot ∷ after))) p.first
    ∙ ap (preceded (one.out p.front)) (ran-out step before slot after p.mid p.rest mid last p.second failed)
    ∙ ap (λ b. let ran : Ran = record { bytes = b; enough = false; last = last } in ran)
    (slot-bytes one before draws p.front p.rest p.split
    (take_draws-length step state one.shape p.front (ap (λ (t : Taken). t.draws) p.first)))

-- the slots of some lines, of one more and of others
slots-append : (slot : List (List ℕ) → List ℕ → Slot (List ℕ)) (past before : List (List ℕ)) (line : List ℕ) (after : List (List ℕ))
    → line_slots slot past (before ++ line ∷ after)
    ≡ line_slots slot past before ++ slot (reverse_aux before past) line ∷ line_slots slot (line ∷ reverse_aux before past) after
unfolding line_slots
slots-append slot past [] line after = refl
slots-append slot past (one ∷ before) line after = ap (λ slots. slot past one ∷ slots) (slots-append slot (one ∷ past) before line after)

-- lines and replies have the same draws
pub shapes-same : (pipeline : Content) (root : Value) (past lines : List (List ℕ))
    → joined_shape (line_slots (session_slot pipeline root) past lines) ≡ joined_shape (query_slots pipeline root past lines)
unfolding joined_shape line_slots query_slots
shapes-same pipeline root past [] = refl
shapes-same pipeline root past (line ∷ lines) =
    ap (λ s. query_shape (verdict pipeline past line) ++ s) (shapes-same pipeline root (line ∷ past) lines)

-- ---- a text of queries

all-done : (source : Source) (pipeline : Content) (root : Value) (lines : List (List ℕ)) (draws last : List ℕ)
    → take_draws source.step source.state (run_shape pipeline root lines) ≡ record { draws = Some draws; last = last }
    → ends (run_slots source.step (line_slots (session_slot pipeline root) [] lines) source.state) false
    (end_line (length (reverse lines)) (root_spent pipeline (reverse lines)))
    ≡ record { bytes = transcript pipeline root lines draws; stop = None; last = last }
all-done source pipeline root lines draws last e =
    ap (λ ran. ends ran false (end_line (length (reverse lines)) (root_spent pipeline (reverse lines))))
    (ran-all source.step (line_slots (session_slot pipeline root) [] lines) source.state draws last
    (ap (take_draws source.step source.state) (shapes-same pipeline root [] lines) ∙ e))
    ∙ ap (λ n. ends (record {
      bytes = concat (replies (line_slots (session_slot pipeline root) [] lines) draws);
      enough = true;
      last = last;
    }) false
    (end_line n (root_spent pipeline (reverse lines)))) (length-reverse lines)

-- the draws run out
pub answered-out : (source : Source) (pipeline : Content) (root : Value) (text line : List ℕ) (before after : List (List ℕ))
    (draws mid last : List ℕ)
    → lines_within (2 ^ 20) text ≡ before ++ line ∷ after
    → take_draws source.step source.state (run_shape pipeline root before) ≡ record { draws = Some draws; last = mid }
    → take_draws source.step mid (query_shape (verdict pipeline (reverse before) line)) ≡ record { draws = None; last = last }
    → answered source (session_answering pipeline root) text
    ≡ record { bytes = session_lines pipeline root before draws; stop = Some stop.DrawFault; last = last }
unfolding answered
answered-out source pipeline root text line before after draws mid last is given failed =
    let slot : List (List ℕ) → List ℕ → Slot (List ℕ) = session_slot pipeline root in
    ap (λ ran. ends ran (has_line_over (2 ^ 20) text) ((session_answering pipeline root).last_line (reverse (lines_within (2 ^ 20) text))))
    (ap (λ (lines : List (List ℕ)). run_slots source.step (line_slots slot [] lines) source.state) is
    ∙ ap (λ (slots : List (Slot (List ℕ))). run_slots source.step slots source.state) (slots-append slot [] before line after)
    ∙ ran-out source.step (line_slots slot [] before) (slot (reverse before) line) (line_slots slot (line ∷ reverse before) after)
    source.state draws mid last
    (ap (take_draws source.step source.state) (shapes-same pipeline root [] before) ∙ given) failed)

-- a line is over
pub answered-over : (source : Source) (pipeline : Content) (root : Value) (text draws last : List ℕ)
    → has_line_over (2 ^ 20) text ≡ true
    → take_draws source.step source.state (run_shape pipeline root (lines_within (2 ^ 20) text))
    ≡ record { draws = Some draws; last = last }
    → answered source (session_answering pipeline root) text
    ≡ record { bytes = session_lines pipeline root (lines_within (2 ^ 20) text) draws; stop = Some stop.QueryLimit; last = last }
unfolding answered
answered-over source pipeline root text draws last over e =
    let lines : List (List ℕ) = lines_within (2 ^ 20) text in
    let end : List ℕ = (session_answering pipeline root).last_line (reverse lines) in
    ap (λ o. ends (run_slots source.step (line_slots (session_slot pipeline root) [] lines) source.state) o end) over
    ∙ ap (λ ran. ends ran true end)
    (ran-all source.step (line_slots (session_slot pipeline root) [] lines) source.state draws last
    (ap (take_draws source.step source.state) (shapes-same pipeline root [] lines) ∙ e))

pub answered-all : (source : Source) (pipeline : Content) (root : Value) (text draws last : List ℕ) → has_line_over (2 ^ 20) text ≡ false
    → take_draws source.step source.state (run_shape pipeline root (lines_of text)) ≡ record { draws = Some draws; last = last }
    → answered source (session_answering pipeline root) text
    ≡ record { bytes = transcript pipeline root (lines_of text) draws; stop = None; last = last }
unfolding answered
answered-all source pipeline root text draws last none e =
    rw (none, within-all (2 ^ 20) text none) (all-done source pipeline root (lines_of text) draws last e)

-- ---- the three commands

-- the files of a pipeline and of data are read
pub data-complete : (pipeline_name data_name : List ℕ) (files : Files) (content : Content) (text : List ℕ)
    → HasData pipeline_name data_name files content text
    → opened_at pipeline_name data_name files ≡ Ok (record { pipeline = content; rows = text_records content text })
data-complete pipeline_name data_name files content text h =
    opened-data pipeline_name data_name files content
    (pipeline-read files pipeline_name h.text content h.pipeline_file h.is_accepted)
    ∙ bind-ok (file_text files data_name (2 ^ 30)) _ text (file-read files data_name text (2 ^ 30) h.data_file h.data_short)

opened-complete : (form : SessionForm) (files : Files) (content : Content) (text queries : List ℕ)
    → HasFiles form files content text queries
    → opened form files ≡ Ok (record { pipeline = content; rows = text_records content text })
opened-complete form files content text queries h = data-complete form.pipeline_name form.data_name files content text h.opened

queried-complete : (form : SessionForm) (files : Files) (source : Source) (content : Content) (text queries draws last : List ℕ)
    → HasFiles form files content text queries → GivesAll source content text queries draws last
    → queried form files source (record { pipeline = content; rows = text_records content text })
    ≡ record { bytes = transcript content (data_root content text) (lines_of queries) draws; stop = None; last = last }
queried-complete form files source content text queries draws last h gives =
    ap (λ found. once_read source (answered source (session_answering content (data_root content text)))
    (or_stop stop.ReadFault found)) h.queries_file
    ∙ answered-all source content (data_root content text) queries draws last h.none_over gives

pub done-is : (one : Outcome) (bytes last : List ℕ) → one ≡ record { bytes = bytes; stop = None; last = last } → IsDone one bytes last
done-is one bytes last e = rw e (record { bytes_are = refl; stop_is = refl; last_is = refl })

pub run-done : (words : List (List ℕ)) (files : Files) (source : Source) (run : SessionForm) (content : Content)
    (text queries draws last : List ℕ)
    → form_of words ≡ Some (form.Run run) → HasFiles run files content text queries → GivesAll source content text queries draws last
    → IsDone (outcome words files source) (transcript content (data_root content text) (lines_of queries) draws) last
unfolding run_outcome
run-done words files source run content text queries draws last is h gives =
    form-done words (form.Run run) files source _ last is
    (done-is _ _ last (ap (once_read source (queried run files source)) (opened-complete run files content text queries h)
    ∙ queried-complete run files source content text queries draws last h gives))

pub replay-done : (words : List (List ℕ)) (files : Files) (source : Source) (replay : ReplayForm) (content : Content)
    (text queries numbers draws last : List ℕ)
    → form_of words ≡ Some (form.Replay replay) → HasFiles replay.session files content text queries
    → files replay.draws_name ≡ Some numbers → length numbers ≤ 2 ^ 26
    → GivesAll (source_at replay_step (drawn_numbers numbers)) content text queries draws last
    → IsDone (outcome words files source) (transcript content (data_root content text) (lines_of queries) draws) source.state
unfolding replay_outcome
replay-done words files source replay content text queries numbers draws last is h has_draws short gives =
    let found : Opened = record { pipeline = content; rows = text_records content text } in
    let by : List ℕ → Outcome = λ ns. by_own_draws source (queried replay.session files (source_at replay_step ns) found) in
    form-done words (form.Replay replay) files source _ source.state is
    (done-is _ _ source.state
    (ap (once_read source (λ o. once_read source (λ ns. by_own_draws source
    (queried replay.session files (source_at replay_step ns) o)) (drawn files replay.draws_name)))
    (opened-complete replay.session files content text queries h)
    ∙ ap (once_read source by) (bind-ok (file_text files replay.draws_name (2 ^ 26)) _ numbers
    (file-read files replay.draws_name numbers (2 ^ 26) has_draws short))
    ∙ ap (by_own_draws source) (queried-complete replay.session files
    (source_at replay_step (drawn_numbers numbers)) content text queries draws last h gives)))

pub rehearse-done : (words : List (List ℕ)) (files : Files) (source : Source) (rehearse : RehearseForm) (content : Content)
    (text queries draws last : List ℕ)
    → form_of words ≡ Some (form.Rehearse rehearse) → HasFiles rehearse.session files content text queries
    → GivesAll (seeded rehearse.seed) content text queries draws last
    → IsDone (outcome words files source) (codes "rehearsal\n" ++ transcript content (data_root content text) (lines_of queries) draws)
    source.state
unfolding rehearse_outcome
rehearse-done words files source rehearse content text queries draws last is h gives =
    form-done words (form.Rehearse rehearse) files source _ source.state is
    (done-is _ _ source.state
    (ap (once_read source (λ o. by_own_draws source
    (preceded_by (codes "rehearsal\n") (queried rehearse.session files (seeded rehearse.seed) o))))
    (opened-complete rehearse.session files content text queries h)
    ∙ ap (λ o. by_own_draws source (preceded_by (codes "rehearsal\n") o))
    (queried-complete rehearse.session files (seeded rehearse.seed) content text queries draws last h gives)))
