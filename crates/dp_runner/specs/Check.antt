-- The command `check P`.
use Rattle.std.specs.Prelude.{ℕ, true, List, [], ◌∷◌, Option, Some, None, Result, if◌then◌else◌}
use Rattle.dp_count.specs.Results.{on_ok}
use Rattle.dp_io.specs.Shelf.{Files}
use Rattle.dp_pipeline.specs.Printing.{check_text}
use Rattle.dp_runner.specs.declared.stop.Stop.{Stop}
use Rattle.dp_runner.specs.Outcome.{Command, written_last, no_draws}
use Rattle.dp_runner.specs.Pipelines.{pipeline_at}
use Rattle.dp_runner.specs.Words.{is_file_name}

-- what the word after `check` says
pub record CheckForm : Type 0 where
  pub pipeline_name : List ℕ

-- a file, if a word names one
abbrev pub check_form_of : List ℕ → Option CheckForm
check_form_of name = if is_file_name name then Some (record { pipeline_name = name }) else None

-- the same of the words after `check`
unfoldable pub check_form : List (List ℕ) → Option CheckForm
check_form (name ∷ []) = check_form_of name
check_form _ = None

-- the bytes that the command writes: the stages of the pipeline, a line each
abbrev pub check_written : CheckForm → Files → Result (List ℕ) Stop
check_written form files = on_ok check_text (pipeline_at files form.pipeline_name)

-- what is said of the command: it leaves the draw source that is handed in as it was
abbrev pub check_command : CheckForm → Command
check_command form = record {
  outcome = λ files source. written_last source (check_written form files);
  files = 1;
  writes_last = true;
  keeps_source = true;
  shape = no_draws;
  queries = None;
}
