-- The pipeline of a file that a command names.
use Rattle.std.specs.Prelude.{◌≤◌, ℕ, ◌^◌, List, length, Result, Ok, Err, if◌then◌else◌, nat_le}
use Rattle.dp_count.specs.Results.{◌>>=◌}
use Rattle.dp_io.specs.Shelf.{Files}
use Rattle.dp_pipeline.specs.declared.content.Content.{Content}
use Rattle.dp_pipeline.specs.Accepted.{accepted, size_refused}
use Rattle.dp_runner.specs.declared.stop.Stop.{Stop}
use Rattle.dp_runner.specs.declared.stop.Stop.TheVariants as stop
use Rattle.dp_runner.specs.Outcome.{or_stop}

-- the text of a pipeline's file: a longer one than 2 ^ 20 bytes is refused with the number of its size
abbrev pub pipeline_text : Files → List ℕ → Result (List ℕ) Stop
pipeline_text files name = do
  text ← or_stop stop.ReadFault (files name)
  if nat_le (length text) (2 ^ 20) then Ok text else Err (stop.Pipeline size_refused)

-- what is accepted, or else the end of the run, by the number of the refusal
abbrev pub or_refused : {A : Type 0} → Result A ℕ → Result A Stop
or_refused (Ok x) = Ok x
or_refused (Err c) = Err (stop.Pipeline c)

-- the pipeline that a file's text spells; a text of more than 2 ^ 20 bytes is refused as any other
unfoldable pub pipeline_at : Files → List ℕ → Result Content Stop
pipeline_at files name = do
  text ← or_stop stop.ReadFault (files name)
  or_refused (accepted text)

-- a number with which a text is refused
abbrev pub IsNumber : ℕ → Type 0
IsNumber c = (1 ≤ c) × (c ≤ 9)
