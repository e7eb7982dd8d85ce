-- The CSV records of a text, in the reading of the crate `csv`.
use Rattle.std.specs.Prelude.{ℕ, ◌^◌, List}
use Rattle.csv.specs.Reading.{records_from, default_config, strip_bom}
use Rattle.csv.specs.declared.parser.State.TheVariants as state
use Rattle.csv.specs.declared.error.ErrorKind.{ErrorKind}
use Rattle.csv.specs.declared.error.ErrorKind.TheVariants as kind

-- the first CSV records of a text, as many as `most`
unfoldable pub raw_up_to : ℕ → List ℕ → List (List (List ℕ))
raw_up_to most text = records_from default_config most state.StartRecord (strip_bom text)

-- the CSV records of a text, cut after the first 2 ^ 30
unfoldable pub raw : List ℕ → List (List (List ℕ))
raw text = raw_up_to (2 ^ 30) text

-- an error of the reader underneath or of memory
abbrev pub IsOfReader : ErrorKind → Type 0
IsOfReader (kind.Io error) = Unit {0}
IsOfReader kind.OutOfMemory = Unit {0}
IsOfReader (kind.Utf8 pos err) = ⊥
IsOfReader (kind.UnequalLengths pos expected len) = ⊥
IsOfReader (kind.Serialize text) = ⊥
IsOfReader (kind.Deserialize pos err) = ⊥
