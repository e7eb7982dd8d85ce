-- What a run of `count` writes.
use Rattle.std.proofs.Common.{◌≡◌, ◌∙◌, ◌≤◌, ◌^◌, ℕ, true, List, [], ◌∷◌, ◌++◌, length, Option, Some, Result, Ok, Err, refl, sym, ap, append_assoc}
use Rattle.std.specs.Prelude.{ℤ, codes}
use Rattle.std.specs.Option.{ForSome}
use Rattle.std.specs.Fmt.{signed_decimal}
use Rattle.dp_io.specs.Shelf.{Files}
use Rattle.dp_io.specs.Sink.{appended}
use Rattle.dp_draws.specs.Numbers.{drawn_numbers}
use Rattle.dp_runner.specs.declared.form.Form.TheVariants as form
use Rattle.dp_runner.specs.declared.stop.Stop.{Stop}
use Rattle.dp_runner.specs.declared.stop.Stop.TheVariants as stop
use Rattle.dp_records.specs.RawRecords.{raw}
use Rattle.dp_count.specs.Results.{◌>>=◌}
use Rattle.dp_runner.specs.Outcome.{Source, or_stop, written_last}
use Rattle.dp_runner.specs.Texts.{file_text, drawn}
use Rattle.dp_runner.specs.Count.{CountForm, counted, cell_draws, cell_answer, count_answer, answer_line, count_written}
use Rattle.dp_runner.specs.Forms.{form_of, outcome}
use Rattle.dp_runner.specs.Causes.{Runs}
use Rattle.dp_runner.specs.WrittenLines.{are_lines}
use Rattle.dp_runner.specs.Laws.{IsDone}
use Rattle.dp_runner.proofs.FormRuns.{form-done}
use Rattle.dp_runner.specs.WrittenLinesProof.{lines-after}
use Rattle.dp_runner.proofs.Steps.{bind-ok, bind-err}
use Rattle.dp_runner.proofs.CountSteps.{count-taken, file-read}
use Rattle.dp_runner.proofs.WritesLast.{runs-all, done-written}

pub line-no_answer : (form : CountForm) (files : Files) (reason : Stop) → count_answer form files ≡ Err reason → count_written form files ≡ Err reason
unfolding count_written
line-no_answer form files reason h = bind-err (count_answer form files) _ reason h

pub line-answer : (form : CountForm) (files : Files) (answer : ℤ) → count_answer form files ≡ Ok answer → count_written form files ≡ Ok (answer_line answer)
unfolding count_written
line-answer form files answer h = bind-ok (count_answer form files) _ answer h

answer-lines : (answer : ℤ) → are_lines (answer_line answer) ≡ true
answer-lines answer = ap are_lines (sym (append_assoc (codes "answer ") (signed_decimal answer) (10 ∷ []))) ∙ lines-after (codes "answer " ++ signed_decimal answer) 10 [] refl

lines-of-answer : (answer : Result ℤ Stop) (bytes : List ℕ) → (answer >>= (λ a. Ok (answer_line a))) ≡ Ok bytes → are_lines bytes ≡ true
lines-of-answer (Ok answer) bytes h =
    let same : answer_line answer ≡ bytes = cc in
    rw (← same) (answer-lines answer)
lines-of-answer (Err reason) bytes h = absurd cc

-- the command writes whole lines
pub count-lines : (form : CountForm) (files : Files) (bytes : List ℕ) → count_written form files ≡ Ok bytes → are_lines bytes ≡ true
unfolding count_written
count-lines form files bytes h = lines-of-answer (count_answer form files) bytes h

-- the run wrote its line
pub count-wrote : (form : CountForm) (source : Source) (told : Option Files) (before now : ℕ) (old new : Option (List ℕ)) (bytes : List ℕ)
    → ForSome told (λ files. count_written form files ≡ Ok bytes) → new ≡ appended old bytes
    → Runs (Ok tt) told (λ files. written_last source (count_written form files)) before now old new source.state
count-wrote form source told before now old new bytes h gained = runs-all source told (count_written form) before now old new bytes h (λ files e. count-lines form files bytes (h files e)) gained

-- what the command writes where everything is there
count-complete : (form : CountForm) (files : Files) (text numbers draws : List ℕ)
    → files form.data_name ≡ Some text → length text ≤ 2 ^ 30 → files form.draws_name ≡ Some numbers → length numbers ≤ 2 ^ 26
    → cell_draws form (drawn_numbers numbers) ≡ Some draws
    → count_written form files ≡ Ok (answer_line (cell_answer form (length (raw text)) draws))
count-complete form files text numbers draws has_text short has_numbers few taken =
    let records : counted files form.data_name ≡ Ok (length (raw text)) = bind-ok (file_text files form.data_name (2 ^ 30)) _ text (file-read files form.data_name text (2 ^ 30) has_text short) in
    let read : drawn files form.draws_name ≡ Ok (drawn_numbers numbers) = bind-ok (file_text files form.draws_name (2 ^ 26)) _ numbers (file-read files form.draws_name numbers (2 ^ 26) has_numbers few) in
    let answers = count-taken form files form.data_name form.draws_name (drawn_numbers numbers) (length (raw text)) refl refl records read in
    line-answer form files _ (answers ∙ ap (λ o. or_stop stop.DrawFault o >>= (λ ds. Ok (cell_answer form (length (raw text)) ds))) taken)

pub count-done : (words : List (List ℕ)) (files : Files) (source : Source) (count : CountForm) (text numbers draws : List ℕ)
    → form_of words ≡ Some (form.Count count)
    → files count.data_name ≡ Some text → length text ≤ 2 ^ 30 → files count.draws_name ≡ Some numbers → length numbers ≤ 2 ^ 26
    → cell_draws count (drawn_numbers numbers) ≡ Some draws
    → IsDone (outcome words files source) (answer_line (cell_answer count (length (raw text)) draws)) source.state
count-done words files source count text numbers draws is has_text short has_numbers few taken =
    form-done words (form.Count count) files source _ source.state is
    (done-written source (count_written count files) _ (count-complete count files text numbers draws has_text short has_numbers few taken))
