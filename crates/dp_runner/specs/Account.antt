-- The command `account P QUERIES`.
use Rattle.std.specs.Prelude.{ℕ, ◌&&◌, ◌^◌, ◌++◌, true, false, List, [], ◌∷◌, length, Option, Some, None, if◌then◌else◌}
use Rattle.dp_io.specs.Lines.{lines_within, has_line_over, ended_lines}
use Rattle.dp_io.specs.Shelf.{Files}
use Rattle.dp_pipeline.specs.declared.content.Content.{Content}
use Rattle.dp_session.specs.QueryLines.{account_lines, end_line}
use Rattle.dp_session.specs.Verdicts.{units}
use Rattle.dp_runner.specs.declared.stop.Stop.TheVariants as stop
use Rattle.dp_runner.specs.Outcome.{Source, Outcome, Command, or_stop, once_read, no_draws}
use Rattle.dp_runner.specs.Pipelines.{pipeline_at}
use Rattle.dp_runner.specs.Words.{is_file_name}

-- what the words after `account` say
pub record AccountForm : Type 0 where
  pub pipeline_name : List ℕ
  pub queries_name : List ℕ

-- two files, if two words name them
abbrev pub account_form_of : List ℕ → List ℕ → Option AccountForm
account_form_of pipeline_name queries_name = if is_file_name pipeline_name && is_file_name queries_name
    then Some (record { pipeline_name = pipeline_name; queries_name = queries_name })
    else None

-- the same of the words after `account`
unfoldable pub account_form : List (List ℕ) → Option AccountForm
account_form (pipeline_name ∷ queries_name ∷ []) = account_form_of pipeline_name queries_name
account_form _ = None

-- what is done of a text of queries: the lines of all before the first that is over; then the run stops there, or the
-- end line is written
unfoldable pub accounted : Source → Content → List ℕ → Outcome
accounted source pipeline text =
    let lines = lines_within (2 ^ 20) text in
    if has_line_over (2 ^ 20) text
    then record { bytes = account_lines pipeline [] lines; stop = Some stop.QueryLimit; last = source.state }
    else record {
      bytes = account_lines pipeline [] lines ++ end_line (length lines) (units pipeline lines);
      stop = None;
      last = source.state;
    }

-- what is done of the files of the words: the pipeline's file is read first
unfoldable pub account_outcome : AccountForm → Files → Source → Outcome
account_outcome form files source =
    once_read source
    (λ pipeline. once_read source (accounted source pipeline) (or_stop stop.ReadFault (files form.queries_name)))
    (pipeline_at files form.pipeline_name)

-- where a read of the queries fails: the line of each query whose line feed was given before
abbrev pub account_interrupted : AccountForm → Files → Source → List ℕ → Outcome
account_interrupted form files source given =
    once_read source
    (λ pipeline. record {
      bytes = account_lines pipeline [] (ended_lines given);
      stop = Some stop.ReadFault;
      last = source.state;
    })
    (pipeline_at files form.pipeline_name)

-- what is said of the command: it leaves the draw source that is handed in as it was
abbrev pub account_command : AccountForm → Command
account_command form = record {
  outcome = account_outcome form;
  files = 2;
  writes_last = false;
  keeps_source = true;
  shape = no_draws;
  queries = Some (record { name = form.queries_name; interrupted = account_interrupted form });
}
