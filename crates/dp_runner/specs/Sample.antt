-- The command `sample N`: a pipeline and queries that are fixed, on N records that are made.
use Rattle.std.specs.Prelude.{ℕ, ◌+◌, ◌*◌, ◌%◌, ◌==◌, ◌&&◌, ◌++◌, true, false, List, [], ◌∷◌, map, Option, Some, None, if◌then◌else◌, nat_le, option_and_then, codes}
use Rattle.std.specs.Fmt as fmt
use Rattle.std.specs.List.{concat, range_with_len}
use Rattle.dp_budget.specs.declared.budget.Rule.TheVariants as rule
use Rattle.dp_count.specs.Digits.{short_decimal}
use Rattle.dp_draws.specs.Sources.{zeros_step}
use Rattle.dp_io.specs.Shelf.{Files}
use Rattle.dp_pipeline.specs.declared.content.Content.{Content}
use Rattle.dp_session.specs.Privacy.{text_records}
use Rattle.dp_runner.specs.Answering.{answered}
use Rattle.dp_runner.specs.Outcome.{Source, Outcome, Command, source_at, by_own_draws, preceded_by, no_draws}
use Rattle.dp_runner.specs.Sessions.{Opened, on_records}

-- ---- the words

-- a number of records from 1 to 1,000,000
abbrev pub record_count : ℕ → Option ℕ
record_count number = if nat_le 1 number && nat_le number 1000000 then Some number else None

-- such a number, if 1 to 7 digits spell one
abbrev pub record_count_of : List ℕ → Option ℕ
record_count_of word = option_and_then record_count (short_decimal 7 word)

-- what the words after `sample` say
unfoldable pub sample_form : List (List ℕ) → Option ℕ
sample_form (number ∷ []) = record_count_of number
sample_form _ = None

-- ---- the data

-- of a record by its number, which counts from 0: a sex, `F` of even numbers and `M` of odd ones
abbrev pub sample_sex : ℕ → List ℕ
sample_sex i = if i % 2 == 0 then codes "F" else codes "M"

-- an age below 100
abbrev pub sample_age : ℕ → List ℕ
sample_age i = fmt.decimal ((37 * i + 11) % 100)

-- one of five districts
abbrev pub sample_district : ℕ → List ℕ
sample_district i = codes "D" ++ fmt.decimal (7 * i % 5)

-- its line: the three between commas, and a line feed
unfoldable pub sample_line : ℕ → List ℕ
sample_line i = sample_sex i ++ (codes "," ++ (sample_age i ++ (codes "," ++ (sample_district i ++ codes "\n"))))

-- the data text of so many records: all lines in order
unfoldable pub sample_text : ℕ → List ℕ
sample_text records = concat (map sample_line (range_with_len 0 records))

-- ---- the pipeline

-- its text
abbrev pub sample_pipeline_text : List ℕ
sample_pipeline_text =
    codes "{\"version\":1,\"columns\":[\"sex\",\"age\",\"district\"],\"header\":false,\"ratio\":[9,10],"
    ++ codes "\"distance\":1,\"root\":[\"odometer\"],\"plans\":{}}"

-- what the text says: three columns, the ratio 9 / 10, the distance 1, and an odometer
unfoldable pub sample_pipeline : Content
sample_pipeline = record {
  version = 1;
  columns = codes "sex" ∷ codes "age" ∷ codes "district" ∷ [];
  header = false;
  p = 9;
  q = 10;
  distance = 1;
  root = rule.Odometer;
  plans = [];
  user = None;
  siblings = None;
}

-- that pipeline, and the records of the data text
abbrev pub sampled : ℕ → Opened
sampled records = record {
  pipeline = sample_pipeline;
  rows = text_records sample_pipeline (sample_text records);
}

-- ---- the queries

-- how many records have the sex `F`, to the hundred
abbrev pub women_query : List ℕ
women_query =
    codes "{\"node\":0,\"ask\":[[\"filter\",\"sex\",\"F\"],[\"count\"],[\"quantise\",100],"
    ++ codes "[\"geometric\",1,0,10000]]}"

-- the sum of the ages, to the thousand
abbrev pub ages_query : List ℕ
ages_query =
    codes "{\"node\":0,\"ask\":[[\"select\",\"age\"],[\"cast\"],[\"impute\",0],[\"clamp\",0,100],[\"sum\"],"
    ++ codes "[\"quantise\",1000],[\"geometric\",1,0,65535]]}"

-- a district by how near its number of records is to 200,000
abbrev pub districts_query : List ℕ
districts_query =
    codes "{\"node\":0,\"ask\":[[\"select\",\"district\"],[\"categories\",[\"D0\",\"D1\",\"D2\",\"D3\",\"D4\"]],"
    ++ codes "[\"histogram\"],[\"choice\",1,199900,200100]]}"

-- the text of the three, each a line
unfoldable pub sample_queries : List ℕ
sample_queries = women_query ++ (codes "\n" ++ (ages_query ++ (codes "\n" ++ (districts_query ++ codes "\n"))))

-- ---- what is done

-- the line of the number of records
unfoldable pub records_line : ℕ → List ℕ
records_line records = codes "records " ++ (fmt.decimal records ++ codes "\n")

-- the source whose draws are 0
abbrev pub zeros : Source
zeros = source_at zeros_step []

-- the number of records, and then the queries by draws of 0. No file is read, and the source that is handed in stays as
-- it was
unfoldable pub sample_outcome : ℕ → Files → Source → Outcome
sample_outcome records files source =
    by_own_draws source
    (preceded_by (records_line records) (answered zeros (on_records (sampled records)) sample_queries))

-- what is said of the command
abbrev pub sample_command : ℕ → Command
sample_command records = record {
  outcome = sample_outcome records;
  files = 0;
  writes_last = false;
  keeps_source = true;
  shape = no_draws;
  queries = None;
}
