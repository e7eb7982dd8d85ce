-- What a run of `check` writes.
use Rattle.std.proofs.Common.{◌≡◌, ◌∙◌, ℕ, true, List, [], ◌∷◌, ◌++◌, Option, Some, Result, Ok, Err, refl, sym, ap, append_assoc, subst}
use Rattle.std.specs.Prelude.{codes}
use Rattle.std.specs.List.{concat}
use Rattle.dp_count.specs.Results.{◌>>=◌, on_ok}
use Rattle.dp_io.specs.Shelf.{Files}
use Rattle.dp_pipeline.specs.declared.content.Content.{Content}
use Rattle.dp_pipeline.specs.Accepted.{accepted, ratio_of, root_place}
use Rattle.dp_pipeline.specs.Printing.{place_line, budget_line, siblings_lines, plans_lines, check_text}
use Rattle.dp_runner.specs.declared.form.Form.{Form}
use Rattle.dp_runner.specs.declared.form.Form.TheVariants as form
use Rattle.dp_runner.specs.declared.stop.Stop.{Stop}
use Rattle.dp_runner.specs.declared.stop.Stop.TheVariants as stop
use Rattle.dp_runner.specs.Check.{CheckForm, check_written}
use Rattle.dp_runner.specs.Forms.{form_of, command_if, outcome}
use Rattle.dp_runner.specs.Laws.{IsDone, IsRefusedBy}
use Rattle.dp_runner.specs.Outcome.{Source, or_stop, written_last}
use Rattle.dp_runner.specs.Pipelines.{pipeline_at, or_refused, IsNumber}
use Rattle.dp_runner.specs.WrittenLines.{are_lines}
use Rattle.dp_runner.proofs.FormRuns.{form-done}
use Rattle.dp_runner.specs.WrittenLinesProof.{last-line}
use Rattle.dp_runner.proofs.Refusals.{refusal-number}
use Rattle.dp_runner.proofs.WritesLast.{done-written}

-- a text whose last line is `accepted`
text-ends : (first second : List ℕ) (some more : List (List ℕ))
    → are_lines (concat (first ∷ second ∷ (some ++ (more ++ codes "accepted\n" ∷ [])))) ≡ true
text-ends first second some more =
    ap (λ lines. are_lines (concat (first ∷ second ∷ lines))) (sym (append_assoc some more (codes "accepted\n" ∷ [])))
    ∙ last-line (first ∷ second ∷ (some ++ more)) 97 (codes "ccepted\n") refl

-- the command writes whole lines
pub check-lines : (content : Content) → are_lines (check_text content) ≡ true
unfolding check_text
check-lines content =
    text-ends (place_line (codes "root") (root_place content)) (budget_line content.root) (siblings_lines content.siblings)
    (plans_lines (ratio_of content) (root_place content) content.plans)

-- the pipeline's file decides
pub check-no_pipeline : (form : CheckForm) (files : Files) (name : List ℕ) (reason : Stop) → name ≡ form.pipeline_name
    → pipeline_at files name ≡ Err reason → check_written form files ≡ Err reason
check-no_pipeline form files name reason same fails =
    ap (on_ok check_text) (ap (pipeline_at files) (sym same) ∙ fails)

-- the pipeline decides
pub check-pipeline : (form : CheckForm) (files : Files) (name : List ℕ) (content : Content) → name ≡ form.pipeline_name
    → pipeline_at files name ≡ Ok content → check_written form files ≡ Ok (check_text content)
check-pipeline form files name content same read =
    ap (on_ok check_text) (ap (pipeline_at files) (sym same) ∙ read)

-- what the command writes where the file is there and its text is accepted
check-complete : (form : CheckForm) (files : Files) (text : List ℕ) (content : Content)
    → files form.pipeline_name ≡ Some text → accepted text ≡ Ok content → check_written form files ≡ Ok (check_text content)
unfolding pipeline_at
check-complete form files text content has_text is_pipeline =
    ap (λ found. on_ok check_text (or_stop stop.ReadFault found >>= (λ t. or_refused (accepted t)))) has_text
    ∙ ap (λ read. on_ok check_text (or_refused read)) is_pipeline

pub check-done : (words : List (List ℕ)) (files : Files) (source : Source) (check : CheckForm) (text : List ℕ) (content : Content)
    → form_of words ≡ Some (form.Check check) → files check.pipeline_name ≡ Some text → accepted text ≡ Ok content
    → IsDone (outcome words files source) (check_text content) source.state
check-done words files source check text content is has_text is_pipeline =
    form-done words (form.Check check) files source _ source.state is
    (done-written source (check_written check files) _ (check-complete check files text content has_text is_pipeline))

-- a refused text ends the command
check-refusal : (form : CheckForm) (files : Files) (text : List ℕ) (c : ℕ)
    → files form.pipeline_name ≡ Some text → accepted text ≡ Err c → check_written form files ≡ Err (stop.Pipeline c)
unfolding pipeline_at
check-refusal form files text c has_text refused =
    ap (λ found. on_ok check_text (or_stop stop.ReadFault found >>= (λ t. or_refused (accepted t)))) has_text
    ∙ ap (λ read. on_ok check_text (or_refused read)) refused

refused-by : (source : Source) (right : Result (List ℕ) Stop) (c : ℕ) → right ≡ Err (stop.Pipeline c) → IsNumber c
    → IsRefusedBy (written_last source right) c source.state
refused-by source right c e number = rw e (record { bytes_are = refl; stop_is = refl; last_is = refl; number = number })

pub check-refused : (words : List (List ℕ)) (files : Files) (source : Source) (check : CheckForm) (text : List ℕ) (c : ℕ)
    → form_of words ≡ Some (form.Check check) → files check.pipeline_name ≡ Some text → accepted text ≡ Err c
    → IsRefusedBy (outcome words files source) c source.state
check-refused words files source check text c is has_text refused =
    subst (λ (o : Option Form). IsRefusedBy ((command_if o).outcome files source) c source.state) (sym is)
    (refused-by source (check_written check files) c (check-refusal check files text c has_text refused) (refusal-number text c refused))
