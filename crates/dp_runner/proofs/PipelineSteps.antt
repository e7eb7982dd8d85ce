-- The steps of reading a pipeline's file.
use Rattle.std.proofs.Common.{◌≡◌, ◌∙◌, ◌<◌, ◌^◌, ℕ, Bool, true, false, List, length, Option, Some, None, Ok, Err, refl, ap}
use Rattle.std.specs.Prelude.{if◌then◌else◌, nat_le}
use Rattle.std.specs.Option.{ForSome}
use Rattle.std.proofs.lemmas.Bool.{lt-leb}
use Rattle.dp_count.specs.Results.{◌>>=◌}
use Rattle.dp_io.specs.Shelf.{Files}
use Rattle.dp_pipeline.specs.declared.content.Content.{Content}
use Rattle.dp_pipeline.specs.declared.faults.PipelineFault.{PipelineFault}
use Rattle.dp_pipeline.specs.declared.faults.PipelineFault.TheVariants as pipeline_fault
use Rattle.dp_pipeline.specs.declared.pipeline.Pipeline.{Pipeline}
use Rattle.dp_pipeline.specs.Accepted.{accepted, size_refused}
use Rattle.dp_pipeline.specs.Answers.{Answers}
use Rattle.dp_runner.specs.declared.stop.Stop.{Stop}
use Rattle.dp_runner.specs.declared.stop.Stop.TheVariants as stop
use Rattle.dp_runner.specs.Causes.{HasReason}
use Rattle.dp_runner.specs.Outcome.{or_stop}
use Rattle.dp_runner.specs.Pipelines.{pipeline_text, pipeline_at, or_refused}
use Rattle.dp_runner.specs.Stops.{stop_of_pipeline}

-- a text that is too long is refused
accepted-long : (text : List ℕ) → nat_le (length text) (2 ^ 20) ≡ false → accepted text ≡ Err size_refused
unfolding accepted
accepted-long text long = rw long refl

-- a text of more bytes than the limit is too long
pub accepted-longer : (text : List ℕ) → 2 ^ 20 < length text → accepted text ≡ Err 9
accepted-longer text longer = accepted-long text (lt-leb (length text) (2 ^ 20) longer)

long-refused : (short : Bool) (text : List ℕ) (reason : Stop) → nat_le (length text) (2 ^ 20) ≡ short
    → (if short then Ok text else Err (stop.Pipeline size_refused)) ≡ Err reason → or_refused (accepted text) ≡ Err reason
long-refused true text reason is h = absurd cc
long-refused false text reason is h =
    let same : stop.Pipeline size_refused ≡ reason = cc in
    ap or_refused (accepted-long text is) ∙ ap Err same

found-refused : (found : Option (List ℕ)) (reason : Stop)
    → (or_stop stop.ReadFault found >>= (λ text. if nat_le (length text) (2 ^ 20) then Ok text else Err (stop.Pipeline size_refused)))
    ≡ Err reason
    → (or_stop stop.ReadFault found >>= (λ text. or_refused (accepted text))) ≡ Err reason
found-refused None reason h =
    let same : stop.ReadFault ≡ reason = cc in
    ap Err same
found-refused (Some text) reason h = long-refused (nat_le (length text) (2 ^ 20)) text reason refl h

-- the file decides
pub pipeline-no_text : (files : Files) (name : List ℕ) (reason : Stop) → pipeline_text files name ≡ Err reason
    → pipeline_at files name ≡ Err reason
unfolding pipeline_at
pipeline-no_text files name reason h = found-refused (files name) reason h

same-text : (short : Bool) (text read : List ℕ)
    → (if short then Ok text else Err (stop.Pipeline size_refused)) ≡ Ok read → text ≡ read
same-text true text read h = cc
same-text false text read h = absurd cc

found-text : (found : Option (List ℕ)) (read : List ℕ)
    → (or_stop stop.ReadFault found >>= (λ text. if nat_le (length text) (2 ^ 20) then Ok text else Err (stop.Pipeline size_refused)))
    ≡ Ok read
    → (or_stop stop.ReadFault found >>= (λ text. or_refused (accepted text))) ≡ or_refused (accepted read)
found-text None read h = absurd cc
found-text (Some text) read h = ap (λ t. or_refused (accepted t)) (same-text (nat_le (length text) (2 ^ 20)) text read h)

-- the text decides
pub pipeline-text : (files : Files) (name text : List ℕ) → pipeline_text files name ≡ Ok text
    → pipeline_at files name ≡ or_refused (accepted text)
unfolding pipeline_at
pipeline-text files name text h = found-text (files name) text h

-- a text that is refused ends the run with its number
pub pipeline-refused : (fault : PipelineFault) (told : Option Files) (name text : List ℕ) (before now : ℕ)
    → ForSome told (λ files. pipeline_text files name ≡ Ok text)
    → Answers {T = Pipeline} {M = Content} (λ pipeline. pipeline) (Err fault) (accepted text)
    → HasReason (stop_of_pipeline fault) told (λ files. pipeline_at files name) before now
pipeline-refused (pipeline_fault.Refused c) told name text before now read refused = λ files e.
    pipeline-text files name text (read files e) ∙ ap or_refused refused
pipeline-refused pipeline_fault.NoMemory told name text before now read refused = tt

-- a file that is there and spells an accepted pipeline
pub pipeline-read : (files : Files) (name text : List ℕ) (content : Content) → files name ≡ Some text → accepted text ≡ Ok content
    → pipeline_at files name ≡ Ok content
unfolding pipeline_at
pipeline-read files name text content has_text is_pipeline =
    ap (λ found. or_stop stop.ReadFault found >>= (λ t. or_refused (accepted t))) has_text ∙ ap or_refused is_pipeline
