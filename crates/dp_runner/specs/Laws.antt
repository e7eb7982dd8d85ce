-- Where a run does its work: a law a command. Its words are of its form, its files are there and within their limits,
-- its pipeline is accepted, and its draws are enough.
use Rattle.std.specs.Prelude.{◌≡◌, ◌<◌, ◌≤◌, ◌^◌, ◌++◌, ℕ, List, [], false, length, Some, None, Ok, Err, codes}
use Rattle.dp_domain.specs.declared.values.Value.{Value}
use Rattle.dp_domain.specs.declared.values.Value.TheVariants as value
use Rattle.dp_io.specs.Lines.{lines_of, has_line_over}
use Rattle.dp_io.specs.Shelf.{Files}
use Rattle.dp_draws.specs.Numbers.{drawn_numbers}
use Rattle.dp_draws.specs.Sources.{replay_step}
use Rattle.dp_draws.specs.Taking.{take_draws}
use Rattle.dp_pipeline.specs.declared.content.Content.{Content}
use Rattle.dp_pipeline.specs.Accepted.{accepted}
use Rattle.dp_pipeline.specs.Printing.{check_text}
use Rattle.dp_runner.specs.declared.form.Form.TheVariants as form
use Rattle.dp_runner.specs.declared.stop.Stop.TheVariants as stop
use Rattle.dp_runner.specs.Outcome.{Source, Outcome, source_at}
use Rattle.dp_session.specs.Privacy.{text_records}
use Rattle.dp_session.specs.QueryLines.{account_lines, end_line}
use Rattle.dp_session.specs.Runs.{run_shape}
use Rattle.dp_session.specs.SessionLines.{transcript}
use Rattle.dp_session.specs.Verdicts.{units}
use Rattle.dp_runner.specs.Account.{AccountForm}
use Rattle.dp_runner.specs.Check.{CheckForm}
use Rattle.dp_runner.specs.Count.{CountForm, cell_draws, cell_answer, answer_line}
use Rattle.dp_runner.specs.Forms.{form_of, outcome}
use Rattle.dp_runner.specs.Pipelines.{IsNumber}
use Rattle.dp_runner.specs.Sessions.{SessionForm, ReplayForm, RehearseForm, seeded}
use Rattle.dp_records.specs.RawRecords.{raw}

-- what a run did that nothing stopped
pub record IsDone (outcome : Outcome) (bytes last : List ℕ) : Type 0 where
  pub bytes_are : outcome.bytes ≡ bytes
  pub stop_is : outcome.stop ≡ None
  pub last_is : outcome.last ≡ last

-- `count` writes the line of its answer, ends with 0 and leaves the draw source that is handed in as it was
abbrev pub CountLaw : Type 0
CountLaw = (words : List (List ℕ)) (files : Files) (source : Source) (count : CountForm) (text numbers draws : List ℕ)
    → form_of words ≡ Some (form.Count count)
    → files count.data_name ≡ Some text → length text ≤ 2 ^ 30
    → files count.draws_name ≡ Some numbers → length numbers ≤ 2 ^ 26
    → cell_draws count (drawn_numbers numbers) ≡ Some draws
    → IsDone (outcome words files source) (answer_line (cell_answer count (length (raw text)) draws)) source.state

-- `check` writes the stages of its pipeline, ends with 0 and leaves the draw source that is handed in as it was
abbrev pub CheckLaw : Type 0
CheckLaw = (words : List (List ℕ)) (files : Files) (source : Source) (check : CheckForm)
    → (text : List ℕ) (content : Content)
    → form_of words ≡ Some (form.Check check)
    → files check.pipeline_name ≡ Some text → accepted text ≡ Ok content
    → IsDone (outcome words files source) (check_text content) source.state

-- `account` writes the line of each query and the end line, ends with 0 and leaves the draw source that is handed in as
-- it was
abbrev pub AccountLaw : Type 0
AccountLaw = (words : List (List ℕ)) (files : Files) (source : Source) (account : AccountForm)
    → (text queries : List ℕ) (content : Content)
    → form_of words ≡ Some (form.Account account)
    → files account.pipeline_name ≡ Some text → accepted text ≡ Ok content
    → files account.queries_name ≡ Some queries → has_line_over (2 ^ 20) queries ≡ false
    → let lines = lines_of queries in
    IsDone (outcome words files source)
    (account_lines content [] lines ++ end_line (length lines) (units content lines)) source.state

-- what the files of a pipeline and of data have: an accepted pipeline, and a data text of at most 2 ^ 30 bytes
pub record HasData (pipeline_name data_name : List ℕ) (files : Files) (content : Content) (data_text : List ℕ)
    : Type 0 where
  pub text : List ℕ
  pub pipeline_file : files pipeline_name ≡ Some text
  pub is_accepted : accepted text ≡ Ok content
  pub data_file : files data_name ≡ Some data_text
  pub data_short : length data_text ≤ 2 ^ 30

-- what the three files of a session have: these, and queries of which no line is over
pub record HasFiles (session : SessionForm) (files : Files) (content : Content) (data_text queries : List ℕ)
    : Type 0 where
  pub opened : HasData session.pipeline_name session.data_name files content data_text
  pub queries_file : files session.queries_name ≡ Some queries
  pub none_over : has_line_over (2 ^ 20) queries ≡ false

-- the root's value on a data text: its records
abbrev pub data_root : Content → List ℕ → Value
data_root content data_text = value.Rows (text_records content data_text)

-- a source gives these draws for all queries of a text, in order, and is left in this state
abbrev pub GivesAll : Source → Content → List ℕ → List ℕ → List ℕ → List ℕ → Type 0
GivesAll source content data_text queries draws last =
    take_draws source.step source.state (run_shape content (data_root content data_text) (lines_of queries))
    ≡ record { draws = Some draws; last = last }

-- `run` writes the transcript of its queries by the draws that are handed in, ends with 0 and leaves their
-- source in the state after them
abbrev pub RunLaw : Type 0
RunLaw = (words : List (List ℕ)) (files : Files) (source : Source) (run : SessionForm) (content : Content)
    → (data_text queries draws last : List ℕ)
    → form_of words ≡ Some (form.Run run) → HasFiles run files content data_text queries
    → GivesAll source content data_text queries draws last
    → IsDone (outcome words files source)
    (transcript content (data_root content data_text) (lines_of queries) draws) last

-- `replay` writes it by the numbers of its file of draws, ends with 0 and leaves the draw source that is handed
-- in as it was
abbrev pub ReplayLaw : Type 0
ReplayLaw = (words : List (List ℕ)) (files : Files) (source : Source) (replay : ReplayForm) (content : Content)
    → (data_text queries numbers draws last : List ℕ)
    → form_of words ≡ Some (form.Replay replay) → HasFiles replay.session files content data_text queries
    → files replay.draws_name ≡ Some numbers → length numbers ≤ 2 ^ 26
    → GivesAll (source_at replay_step (drawn_numbers numbers)) content data_text queries draws last
    → IsDone (outcome words files source)
    (transcript content (data_root content data_text) (lines_of queries) draws) source.state

-- `rehearse` writes it after a line that says so, by the draws of its seed, ends with 0 and leaves the draw
-- source that is handed in as it was
abbrev pub RehearseLaw : Type 0
RehearseLaw = (words : List (List ℕ)) (files : Files) (source : Source) (rehearse : RehearseForm) (content : Content)
    → (data_text queries draws last : List ℕ)
    → form_of words ≡ Some (form.Rehearse rehearse) → HasFiles rehearse.session files content data_text queries
    → GivesAll (seeded rehearse.seed) content data_text queries draws last
    → IsDone (outcome words files source)
    (codes "rehearsal\n" ++ transcript content (data_root content data_text) (lines_of queries) draws) source.state

-- what a run did that a refused pipeline stopped: nothing was written, and its number has one digit
pub record IsRefusedBy (outcome : Outcome) (c : ℕ) (last : List ℕ) : Type 0 where
  pub bytes_are : outcome.bytes ≡ []
  pub stop_is : outcome.stop ≡ Some (stop.Pipeline c)
  pub last_is : outcome.last ≡ last
  pub number : IsNumber c

-- `check` of a text that is refused stops with the number of its refusal, which is from 1 to 9
abbrev pub RefusalLaw : Type 0
RefusalLaw = (words : List (List ℕ)) (files : Files) (source : Source) (check : CheckForm) (text : List ℕ) (c : ℕ)
    → form_of words ≡ Some (form.Check check)
    → files check.pipeline_name ≡ Some text → accepted text ≡ Err c
    → IsRefusedBy (outcome words files source) c source.state

-- a text of more than 2 ^ 20 bytes is refused with 9
abbrev pub LongLaw : Type 0
LongLaw = (text : List ℕ) → 2 ^ 20 < length text → accepted text ≡ Err 9
