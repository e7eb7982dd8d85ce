-- The commands that answer queries on data: `run P DATA QUERIES`, `replay P DATA QUERIES DRAWS` and
-- `rehearse P DATA QUERIES SEED`.
use Rattle.std.specs.Prelude.{ℕ, ◌&&◌, ◌^◌, ◌++◌, true, false, List, [], ◌∷◌, replicate, Option, Some, None, Result, Ok, Err, if◌then◌else◌, option_map, option_and_then, codes}
use Rattle.std.specs.Int.{w64, to_le_bytes}
use Rattle.dp_count.specs.Digits.{short_decimal}
use Rattle.dp_count.specs.Results.{◌>>=◌}
use Rattle.dp_domain.specs.declared.values.Value.TheVariants as value
use Rattle.dp_draws.specs.ChaChaDraws.{chacha_step, seed_state}
use Rattle.dp_draws.specs.Sources.{replay_step}
use Rattle.dp_io.specs.Shelf.{Files}
use Rattle.dp_pipeline.specs.declared.content.Content.{Content}
use Rattle.dp_session.specs.Privacy.{text_records}
use Rattle.dp_session.specs.Sessions.{SessionValue}
use Rattle.dp_store.specs.Stores.{StoreValue}
use Rattle.dp_runner.specs.declared.stop.Stop.{Stop}
use Rattle.dp_runner.specs.Answering.{Answering, session_answering, interrupted, file_answered, file_shape}
use Rattle.dp_runner.specs.Outcome.{Source, Outcome, Command, source_at, once_read, by_own_draws, preceded_by, no_draws}
use Rattle.dp_runner.specs.Pipelines.{pipeline_at}
use Rattle.dp_runner.specs.Texts.{file_text, drawn}
use Rattle.dp_runner.specs.Words.{is_file_name}

-- ---- the words

-- what the words P DATA QUERIES say
pub record SessionForm : Type 0 where
  pub pipeline_name : List ℕ
  pub data_name : List ℕ
  pub queries_name : List ℕ

-- three files, if three words name them
abbrev pub session_form_of : List ℕ → List ℕ → List ℕ → Option SessionForm
session_form_of pipeline_name data_name queries_name =
    if is_file_name pipeline_name && (is_file_name data_name && is_file_name queries_name)
    then Some (record { pipeline_name = pipeline_name; data_name = data_name; queries_name = queries_name })
    else None

-- what the words after `run` say
unfoldable pub run_form : List (List ℕ) → Option SessionForm
run_form (pipeline_name ∷ data_name ∷ queries_name ∷ []) = session_form_of pipeline_name data_name queries_name
run_form _ = None

-- what the words after `replay` say
pub record ReplayForm : Type 0 where
  pub session : SessionForm
  pub draws_name : List ℕ

-- the same three files, and a fourth, if a word names it
abbrev pub replay_form_of : SessionForm → List ℕ → Option ReplayForm
replay_form_of session draws_name =
    if is_file_name draws_name then Some (record { session = session; draws_name = draws_name }) else None

unfoldable pub replay_form : List (List ℕ) → Option ReplayForm
replay_form (pipeline_name ∷ data_name ∷ queries_name ∷ draws_name ∷ []) =
    option_and_then (λ session. replay_form_of session draws_name)
    (session_form_of pipeline_name data_name queries_name)
replay_form _ = None

-- what the words after `rehearse` say
pub record RehearseForm : Type 0 where
  pub session : SessionForm
  pub seed : ℕ

-- the same three files, and the number that 1 to 19 digits spell
abbrev pub rehearse_form_of : SessionForm → List ℕ → Option RehearseForm
rehearse_form_of session seed =
    option_map (λ number. record { session = session; seed = number }) (short_decimal 19 seed)

unfoldable pub rehearse_form : List (List ℕ) → Option RehearseForm
rehearse_form (pipeline_name ∷ data_name ∷ queries_name ∷ seed ∷ []) =
    option_and_then (λ session. rehearse_form_of session seed) (session_form_of pipeline_name data_name queries_name)
rehearse_form _ = None

-- ---- the data

-- a pipeline, and the records of a data text under it
pub record Opened : Type 0 where
  pub pipeline : Content
  pub rows : List (List (List ℕ))

-- a pipeline, and the records of a store
abbrev pub stored : Content → StoreValue → Opened
stored pipeline store = record { pipeline = pipeline; rows = store.records }

-- what a session has of both
abbrev pub opened_by : SessionValue → Opened
opened_by session = stored session.queries.pipeline session.store

-- the records of a data file of at most 2 ^ 30 bytes
abbrev pub file_records : Files → List ℕ → Content → Result Opened Stop
file_records files name pipeline = do
  text ← file_text files name (2 ^ 30)
  Ok (record { pipeline = pipeline; rows = text_records pipeline text })

-- what the files of a pipeline and of data have, looked at in this order
unfoldable pub opened_at : List ℕ → List ℕ → Files → Result Opened Stop
opened_at pipeline_name data_name files = do
  pipeline ← pipeline_at files pipeline_name
  file_records files data_name pipeline

abbrev pub opened : SessionForm → Files → Result Opened Stop
opened form files = opened_at form.pipeline_name form.data_name files

-- queries are answered on the records, which are the root's value
abbrev pub on_records : Opened → Answering
on_records found = session_answering found.pipeline (value.Rows found.rows)

-- ---- what is done

-- the queries by a draw source
abbrev pub queried : SessionForm → Files → Source → Opened → Outcome
queried form files source found = file_answered source (on_records found) files form.queries_name

-- the queries of which this much was given before a read failed
abbrev pub interrupted_on : List ℕ → Source → Opened → Outcome
interrupted_on given source found = interrupted source (on_records found) given

-- `run`: by the source that is handed in, where the queries are answered so
abbrev pub run_by : (Source → Opened → Outcome) → SessionForm → Files → Source → Outcome
run_by answer form files source = once_read source (answer source) (opened form files)

unfoldable pub run_outcome : SessionForm → Files → Source → Outcome
run_outcome form files = run_by (queried form files) form files

-- the bounds of its draws, in order: none where the run ends before it comes to the queries
abbrev pub shape_on : SessionForm → Files → Result Opened Stop → List ℕ
shape_on form files (Ok found) = file_shape (on_records found) files form.queries_name
shape_on form files (Err reason) = []

unfoldable pub form_shape : SessionForm → Files → List ℕ
form_shape form files = shape_on form files (opened form files)

-- `replay`: by the numbers that the file of draws spells, which is read after the data
abbrev pub replay_by : (Source → Opened → Outcome) → ReplayForm → Files → Source → Outcome
replay_by answer form files source =
    once_read source
    (λ found. once_read source
    (λ numbers. by_own_draws source (answer (source_at replay_step numbers) found))
    (drawn files form.draws_name))
    (opened form.session files)

unfoldable pub replay_outcome : ReplayForm → Files → Source → Outcome
replay_outcome form files = replay_by (queried form.session files) form files

-- the 32 bytes of a seed: its number in eight bytes, the lowest first, and then zeros
abbrev pub seed_bytes : ℕ → List ℕ
seed_bytes seed = to_le_bytes w64 seed ++ replicate 24 0

-- the draws of ChaCha20 from a seed
abbrev pub seeded : ℕ → Source
seeded seed = source_at chacha_step (seed_state (seed_bytes seed))

-- `rehearse`: by the draws of its seed; it writes a first line before the file of the queries is opened
abbrev pub rehearse_by : (Source → Opened → Outcome) → RehearseForm → Files → Source → Outcome
rehearse_by answer form files source =
    once_read source
    (λ found. by_own_draws source (preceded_by (codes "rehearsal\n") (answer (seeded form.seed) found)))
    (opened form.session files)

unfoldable pub rehearse_outcome : RehearseForm → Files → Source → Outcome
rehearse_outcome form files = rehearse_by (queried form.session files) form files

-- ---- what is said of the commands

abbrev pub run_command : SessionForm → Command
run_command form = record {
  outcome = run_outcome form;
  files = 3;
  writes_last = false;
  keeps_source = false;
  shape = form_shape form;
  queries = Some (record {
    name = form.queries_name;
    interrupted = λ files source given. run_by (interrupted_on given) form files source;
  });
}

abbrev pub replay_command : ReplayForm → Command
replay_command form = record {
  outcome = replay_outcome form;
  files = 4;
  writes_last = false;
  keeps_source = true;
  shape = no_draws;
  queries = Some (record {
    name = form.session.queries_name;
    interrupted = λ files source given. replay_by (interrupted_on given) form files source;
  });
}

abbrev pub rehearse_command : RehearseForm → Command
rehearse_command form = record {
  outcome = rehearse_outcome form;
  files = 3;
  writes_last = false;
  keeps_source = true;
  shape = no_draws;
  queries = Some (record {
    name = form.session.queries_name;
    interrupted = λ files source given. rehearse_by (interrupted_on given) form files source;
  });
}
