-- The steps of `count`, one after another.
use Rattle.std.proofs.Common.{◌≡◌, ◌∙◌, ◌≤◌, ◌^◌, ℕ, List, length, Option, Some, None, Ok, Err, refl, sym, ap}
use Rattle.std.specs.Prelude.{ℤ, option_map}
use Rattle.std.specs.Option.{ForSome}
use Rattle.std.proofs.lemmas.Bool.{le-leb}
use Rattle.dp_io.specs.Shelf.{Files}
use Rattle.dp_runner.specs.declared.stop.Stop.{Stop}
use Rattle.dp_runner.specs.declared.stop.Stop.TheVariants as stop
use Rattle.dp_records.specs.RawRecords.{raw, raw_up_to}
use Rattle.dp_count.specs.Results.{◌>>=◌}
use Rattle.dp_runner.specs.Outcome.{or_stop}
use Rattle.dp_runner.specs.Texts.{text_within, file_text, drawn}
use Rattle.dp_runner.specs.Count.{CountForm, counted, cell_draws, cell_answer, count_answer}
use Rattle.dp_runner.proofs.Steps.{bind-ok, bind-err}

-- a file that is there and short enough is read
pub file-read : (files : Files) (name text : List ℕ) (most : ℕ) → files name ≡ Some text → length text ≤ most → file_text files name most ≡ Ok text
file-read files name text most is short = ap (text_within most) is ∙ rw (le-leb (length text) most short) refl

-- the records of a text that was read
pub counted-ok : (told : Option Files) (name text : List ℕ) (n : ℕ) → ForSome told (λ files. file_text files name (2 ^ 30) ≡ Ok text)
    → n ≡ length (raw_up_to (2 ^ 30) text) → ForSome told (λ files. counted files name ≡ Ok n)
unfolding raw
counted-ok told name text n read records = λ files is.
    bind-ok (file_text files name (2 ^ 30)) (λ bytes. Ok (length (raw bytes))) text (read files is) ∙ ap Ok (sym records)

-- the data file decides
pub count-no_data : (form : CountForm) (files : Files) (name : List ℕ) (reason : Stop) → name ≡ form.data_name
    → counted files name ≡ Err reason → count_answer form files ≡ Err reason
unfolding count_answer
count-no_data form files name reason same fails =
    bind-err (counted files form.data_name) _ reason (ap (counted files) (sym same) ∙ fails)

-- the file of draws decides
pub count-no_numbers : (form : CountForm) (files : Files) (name draws_name : List ℕ) (n : ℕ) (reason : Stop) → name ≡ form.data_name → draws_name ≡ form.draws_name
    → counted files name ≡ Ok n → drawn files draws_name ≡ Err reason → count_answer form files ≡ Err reason
unfolding count_answer
count-no_numbers form files name draws_name n reason same same_draws records fails =
    bind-ok (counted files form.data_name) _ n (ap (counted files) (sym same) ∙ records)
    ∙ bind-err (drawn files form.draws_name) _ reason (ap (drawn files) (sym same_draws) ∙ fails)

-- the draws decide
pub count-taken : (form : CountForm) (files : Files) (name draws_name numbers : List ℕ) (n : ℕ) → name ≡ form.data_name → draws_name ≡ form.draws_name
    → counted files name ≡ Ok n → drawn files draws_name ≡ Ok numbers
    → count_answer form files ≡ (or_stop stop.DrawFault (cell_draws form numbers) >>= (λ draws. Ok (cell_answer form n draws)))
unfolding count_answer
count-taken form files name draws_name numbers n same same_draws records read =
    bind-ok (counted files form.data_name) _ n (ap (counted files) (sym same) ∙ records)
    ∙ bind-ok (drawn files form.draws_name) _ numbers (ap (drawn files) (sym same_draws) ∙ read)

pub answer-taken : (taken : Option (List ℕ)) (out : List ℕ → ℤ) (answer : ℤ) → Some answer ≡ option_map out taken
    → (or_stop stop.DrawFault taken >>= (λ draws. Ok (out draws))) ≡ Ok answer
answer-taken None out answer h = absurd cc
answer-taken (Some draws) out answer h = cc

pub answer-not_taken : (taken : Option (List ℕ)) (out : List ℕ → ℤ) → None ≡ option_map out taken
    → (or_stop stop.DrawFault taken >>= (λ draws. Ok (out draws))) ≡ Err stop.DrawFault
answer-not_taken None out h = refl
answer-not_taken (Some draws) out h = absurd cc
