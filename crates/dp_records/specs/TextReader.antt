-- What a reader over bytes in memory has yet to give.
use Rattle.std.specs.Prelude.{◌≡◌, ℕ, true, List, Option, Some}
use Rattle.std.specs.Borrow.{Bor}
use Rattle.csv.specs.Reading.{records_from, default_config, source_of, Ready, is_flexible, reader_config, reader_state, reader_trim}
use Rattle.csv.specs.declared.reader.Reader.{Reader}
use Rattle.csv.specs.declared.reader.Trim.TheVariants as trim

-- a reader over bytes in memory
abbrev pub TextReader : Type 0
TextReader = Reader (Bor (List ℕ))

-- the bytes that a slice has left
abbrev pub bytes_left : Bor (List ℕ) → Option (List ℕ)
bytes_left bytes = Some bytes.now

-- the reader takes cells as they are and records of any numbers of cells, and of the next `most` it gives these
pub record Gives (reader : TextReader) (most : ℕ) (rest : List (List (List ℕ))) : Type 0 where
  pub config : reader_config reader ≡ default_config
  pub untrimmed : reader_trim reader ≡ trim.None
  pub flexible : is_flexible reader ≡ true
  pub ready : Ready reader
  pub left : List ℕ
  pub source : source_of bytes_left reader ≡ Some left
  pub records : records_from default_config most (reader_state reader) left ≡ rest
