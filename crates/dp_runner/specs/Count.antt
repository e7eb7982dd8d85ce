-- The command `count DATA DRAWS LO HI`.
use Rattle.std.specs.Prelude.{ℕ, ℤ, pos, ◌&&◌, ◌^◌, ◌++◌, true, List, [], ◌∷◌, length, Option, Some, None, Result, Ok, if◌then◌else◌, option_and_then, option_map, codes}
use Rattle.std.specs.Fmt as fmt
use Rattle.dp_count.specs.Digits.{signed_decimal}
use Rattle.dp_io.specs.Shelf.{Files}
use Rattle.dp_domain.specs.Ranges.{is_narrow}
use Rattle.dp_draws.specs.Taking.{take_draws}
use Rattle.dp_draws.specs.Sources.{replay_step}
use Rattle.dp_geometric.specs.OneCell.{CellNumbers, cell_shape, cell_out}
use Rattle.dp_runner.specs.declared.stop.Stop.{Stop}
use Rattle.dp_runner.specs.declared.stop.Stop.TheVariants as stop
use Rattle.dp_count.specs.Results.{◌>>=◌}
use Rattle.dp_runner.specs.Outcome.{Command, or_stop, written_last, no_draws}
use Rattle.dp_records.specs.RawRecords.{raw}
use Rattle.dp_runner.specs.Texts.{file_text, drawn}
use Rattle.dp_runner.specs.Words.{is_file_name}

-- what the words after `count` say
pub record CountForm : Type 0 where
  pub data_name : List ℕ
  pub draws_name : List ℕ
  pub lo : ℤ
  pub hi : ℤ

-- a range of at most 65,536 numbers by its two bounds, if it is one
abbrev pub range_if : ℤ → ℤ → Option (ℤ × ℤ)
range_if lo hi = if is_narrow lo hi then Some (lo, hi) else None

-- the range of two number words, each an optional `-` and 1 to 18 digits
abbrev pub range_of : List ℕ → List ℕ → Option (ℤ × ℤ)
range_of lo hi =
    option_and_then (λ l. option_and_then (λ h. range_if l h) (signed_decimal 18 hi)) (signed_decimal 18 lo)

-- two files and a range, if four words name them
abbrev pub count_form_of : List ℕ → List ℕ → List ℕ → List ℕ → Option CountForm
count_form_of data_name draws_name lo hi = if is_file_name data_name && is_file_name draws_name
    then option_map
    (λ range. record { data_name = data_name; draws_name = draws_name; lo = range.0; hi = range.1 })
    (range_of lo hi)
    else None

-- the same of the words after `count`
unfoldable pub count_form : List (List ℕ) → Option CountForm
count_form (data_name ∷ draws_name ∷ lo ∷ hi ∷ []) = count_form_of data_name draws_name lo hi
count_form _ = None

-- how many CSV records a data file of at most 2 ^ 30 bytes has
abbrev pub counted : Files → List ℕ → Result ℕ Stop
counted files name = do
  text ← file_text files name (2 ^ 30)
  Ok (length (raw text))

-- the answer's cell: the range of the words, with the ratio 1 / 2
abbrev pub count_cell : CountForm → CellNumbers
count_cell form = record { lo = form.lo; hi = form.hi; low = 1; high = 2 }

-- the draws for the cell, from a list of numbers
abbrev pub cell_draws : CountForm → List ℕ → Option (List ℕ)
cell_draws form numbers = (take_draws replay_step numbers (cell_shape (count_cell form))).draws

-- the cell's answer to a number of records
abbrev pub cell_answer : CountForm → ℕ → List ℕ → ℤ
cell_answer form records draws = cell_out (count_cell form) (pos records) draws

-- the answer: the geometric release of the number of records
unfoldable pub count_answer : CountForm → Files → Result ℤ Stop
count_answer form files = do
  records ← counted files form.data_name
  numbers ← drawn files form.draws_name
  draws ← or_stop stop.DrawFault (cell_draws form numbers)
  Ok (cell_answer form records draws)

-- the line of an answer
abbrev pub answer_line : ℤ → List ℕ
answer_line answer = codes "answer " ++ (fmt.signed_decimal answer ++ codes "\n")

-- the bytes that the command writes
unfoldable pub count_written : CountForm → Files → Result (List ℕ) Stop
count_written form files = do
  answer ← count_answer form files
  Ok (answer_line answer)

-- what is said of the command: it leaves the draw source that is handed in as it was
abbrev pub count_command : CountForm → Command
count_command form = record {
  outcome = λ files source. written_last source (count_written form files);
  files = 2;
  writes_last = true;
  keeps_source = true;
  shape = no_draws;
  queries = None;
}
