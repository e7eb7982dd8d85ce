-- The texts of the files that a command names.
use Rattle.std.specs.Prelude.{ℕ, ◌^◌, List, length, Option, Some, None, Result, Ok, Err, if◌then◌else◌, nat_le}
use Rattle.dp_io.specs.Shelf.{Files}
use Rattle.dp_draws.specs.Numbers.{drawn_numbers}
use Rattle.dp_runner.specs.declared.stop.Stop.{Stop}
use Rattle.dp_runner.specs.declared.stop.Stop.TheVariants as stop
use Rattle.dp_count.specs.Results.{◌>>=◌}

-- a text of at most so many bytes, if the file is there
abbrev pub text_within : ℕ → Option (List ℕ) → Result (List ℕ) Stop
text_within most None = Err stop.ReadFault
text_within most (Some text) = if nat_le (length text) most then Ok text else Err stop.TooLong

-- the text of a file of at most so many bytes
abbrev pub file_text : Files → List ℕ → ℕ → Result (List ℕ) Stop
file_text files name most = text_within most (files name)

-- the numbers that a draw file of at most 2 ^ 26 bytes spells
abbrev pub drawn : Files → List ℕ → Result (List ℕ) Stop
drawn files name = do
  text ← file_text files name (2 ^ 26)
  Ok (drawn_numbers text)
