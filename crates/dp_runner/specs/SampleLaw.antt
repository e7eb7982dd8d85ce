-- Where `sample` does its work.
use Rattle.std.specs.Prelude.{◌≡◌, ◌++◌, ℕ, List, length, replicate, Some}
use Rattle.dp_domain.specs.declared.values.Value.{Value}
use Rattle.dp_io.specs.Lines.{lines_of}
use Rattle.dp_io.specs.Shelf.{Files}
use Rattle.dp_pipeline.specs.declared.content.Content.{Content}
use Rattle.dp_session.specs.Runs.{run_shape}
use Rattle.dp_session.specs.SessionLines.{transcript}
use Rattle.dp_runner.specs.declared.form.Form.TheVariants as form
use Rattle.dp_runner.specs.Forms.{form_of, outcome}
use Rattle.dp_runner.specs.Laws.{IsDone, data_root}
use Rattle.dp_runner.specs.Outcome.{Source}
use Rattle.dp_runner.specs.Sample.{sample_pipeline, sample_queries, sample_text, records_line}

-- the transcript of queries by draws of 0
abbrev pub zeros_transcript : Content → Value → List (List ℕ) → List ℕ
zeros_transcript pipeline root lines =
    transcript pipeline root lines (replicate (length (run_shape pipeline root lines)) 0)

-- `sample` writes the number of records and the transcript of its queries by draws of 0, ends with 0 and leaves the
-- draw source that is handed in as it was
abbrev pub SampleLaw : Type 0
SampleLaw = (words : List (List ℕ)) (files : Files) (source : Source) (records : ℕ)
    → form_of words ≡ Some (form.Sample records)
    → IsDone (outcome words files source)
    (records_line records
    ++ zeros_transcript sample_pipeline (data_root sample_pipeline (sample_text records)) (lines_of sample_queries))
    source.state
