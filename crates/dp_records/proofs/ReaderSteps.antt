-- What a reader over bytes in memory has yet to give, record by record.
use Rattle.std.proofs.Common.{◌≡◌, ℕ, zero, suc, ◌+◌, ◌-◌, ◌<◌, ◌≤◌, List, [], ◌∷◌, ◌++◌, length, drop, map, true, false, Bool, Some, None, refl, sym, ap, ◌∙◌, arith, inr, append_assoc}
use Rattle.std.specs.Prelude.{if◌then◌else◌}
use Rattle.std.proofs.lemmas.List.{append-nil}
use Rattle.std.proofs.lemmas.Bool.{ne_eqb}
use Rattle.std.proofs.Math.Nat.{sub-zero}
use Rattle.csv.specs.Machine.{next_record, Read}
use Rattle.csv.specs.Reading.{records_from, default_config, strip_bom, source_of, Reached, ReadRecord, ReadsOn, is_flexible, names_headers, reader_headers, reader_config, reader_state, reader_trim}
use Rattle.csv.specs.declared.reader.Trim.TheVariants as trim
use Rattle.csv.specs.declared.parser.State.{State}
use Rattle.csv.specs.declared.parser.State.TheVariants as state
use Rattle.csv.proofs.ReadFacts.{rows-more, rows-end}
use Rattle.dp_records.specs.RawRecords.{raw_up_to}
use Rattle.dp_records.specs.Records.{cut_or_pad, records_up_to, all_cells, is_header, added_cells}
use Rattle.dp_records.specs.TextReader.{TextReader, bytes_left, Gives}

-- a reader that stands at the start of a text gives its first records
pub gives-all : (reader : TextReader) (text : List ℕ) → reader_config reader ≡ default_config → reader_trim reader ≡ trim.None → is_flexible reader ≡ true
    → names_headers reader ≡ false → reader_headers reader ≡ None → reader_state reader ≡ state.StartRecord → source_of bytes_left reader ≡ Some (strip_bom text)
    → (most : ℕ) → Gives reader most (raw_up_to most text)
unfolding raw_up_to
gives-all reader text config untrimmed flexible plain headers start source most = record {
  config = config;
  untrimmed = untrimmed;
  flexible = flexible;
  ready = inr (inr (plain, headers));
  left = strip_bom text;
  source = source;
  records = rw start refl;
}

next-is : (cfg : _) (most : ℕ) (s : State) (text : List ℕ) (p : Read) → next_record cfg s [] [] text ≡ Some p → records_from cfg (suc most) s text ≡ p.0 ∷ records_from cfg most p.1 p.2
unfolding records_from
next-is cfg most s text p e = rw e refl

none-is : (cfg : _) (most : ℕ) (s : State) (text : List ℕ) → next_record cfg s [] [] text ≡ None → records_from cfg most s text ≡ []
unfolding records_from
none-is cfg zero s text e = refl
none-is cfg (suc most) s text e = rw e refl

same-rows : (p : Read) (fields : List (List ℕ)) (s : State) (text : List ℕ) (most : ℕ) → fields ≡ p.0 → p.1 ≡ s → p.2 ≡ text
    → p.0 ∷ records_from default_config most p.1 p.2 ≡ fields ∷ records_from default_config most s text
same-rows p fields s text most e f g = cc

-- what is given after a record
pub record GivesNext (reader : TextReader) (most : ℕ) (fields : List (List ℕ)) (rest : List (List (List ℕ))) : Type 0 where
  pub more : List (List (List ℕ))
  pub first : rest ≡ fields ∷ more
  pub gives : Gives reader most more

-- a record is the first of those that the reader had yet to give
pub gives-more : (a b : TextReader) (fields : List (List ℕ)) (most : ℕ) (rest : List (List (List ℕ))) → Gives a (suc most) rest
    → ReadRecord bytes_left a b true fields → ReadsOn a b → GivesNext b most fields rest
unfolding Reached
gives-more a b fields most rest h read on =
    let more = rows-more bytes_left a b fields default_config (reader_state a) h.left h.left [] h.config h.source (refl, refl) read in
    let reached = more.2 in
    let same = same-rows reached.0 fields (reader_state b) more.0 most reached.2 reached.3.0 reached.3.1 in
    record {
      more = records_from default_config most (reader_state b) more.0;
      first = sym h.records ∙ next-is default_config most (reader_state a) h.left reached.0 reached.1 ∙ same;
      gives = record {
        config = on.0 ∙ h.config;
        untrimmed = on.1 ∙ h.untrimmed;
        flexible = on.2 ∙ h.flexible;
        ready = (on.4 h.ready).0;
        left = more.0;
        source = more.1;
        records = refl;
      };
    }

-- where there is no record, none was left to give
pub gives-end : (a b : TextReader) (fields : List (List ℕ)) (most : ℕ) (rest : List (List (List ℕ))) → Gives a most rest → ReadRecord bytes_left a b false fields → rest ≡ []
gives-end a b fields most rest h read =
    sym h.records ∙ none-is default_config most (reader_state a) h.left (rows-end bytes_left a b fields default_config h.left h.config h.source read)

-- of none that are asked for none is given
pub gives-none : (a : TextReader) (rest : List (List (List ℕ))) → Gives a 0 rest → rest ≡ []
unfolding records_from
gives-none a rest h = sym h.records

-- the reader gave `count` of the `total` records among the first `most`
pub record HasGiven (reader : TextReader) (count most total : ℕ) : Type 0 where
  pub rest : List (List (List ℕ))
  pub gives : Gives reader (most - count) rest
  pub all : count + length rest ≡ total

pub given-none : (reader : TextReader) (text : List ℕ) (most : ℕ) → Gives reader most (raw_up_to most text) → HasGiven reader 0 most (length (raw_up_to most text))
given-none reader text most h = record { rest = raw_up_to most text; gives = rw (sub-zero most) h; all = omega arith }

-- one fewer is asked for
fewer : (a : TextReader) (count most : ℕ) (rest : List (List (List ℕ))) → count < most → Gives a (most - count) rest → Gives a (suc (most - (count + 1))) rest
fewer a count most rest within h =
    let e : most - count ≡ suc (most - (count + 1)) = omega arith in
    rw e at h

-- one record more
pub given-more : (a b : TextReader) (fields : List (List ℕ)) (count most total : ℕ) → HasGiven a count most total → count < most
    → ReadRecord bytes_left a b true fields → ReadsOn a b → HasGiven b (count + 1) most total
given-more a b fields count most total h within read on =
    let next = gives-more a b fields (most - (count + 1)) h.rest (fewer a count most h.rest within h.gives) read on in
    let size : length h.rest ≡ suc (length next.more) = ap length next.first in
    record { rest = next.more; gives = next.gives; all = omega (arith, h.all) }

-- no record more
pub given-end : (a b : TextReader) (fields : List (List ℕ)) (count most total : ℕ) → HasGiven a count most total → ReadRecord bytes_left a b false fields → count ≡ total
given-end a b fields count most total h read =
    let size : length h.rest ≡ 0 = ap length (gives-end a b fields (most - count) h.rest h.gives read) in
    omega (arith, h.all)

-- as many records as were asked for
pub given-most : (a : TextReader) (count most total : ℕ) → HasGiven a count most total → most ≤ count → count ≡ total
given-most a count most total h all =
    let none : most - count ≡ 0 = omega arith in
    let gives = h.gives in
    let size : length h.rest ≡ 0 = ap length (gives-none a h.rest (rw none at gives)) in
    omega (arith, h.all)

-- the cells of records without the first where it is the header, each record cut or padded
abbrev pub wanted_cells : Bool → ℕ → List (List (List ℕ)) → List (List ℕ)
wanted_cells first_is_header columns rest = all_cells (map (cut_or_pad columns) (drop (if first_is_header then 1 else 0) rest))

-- at this turn the reader has yet to give what is missing of all cells
pub record HasTaken (reader : TextReader) (turn most columns : ℕ) (header : Bool) (cells all : List (List ℕ)) : Type 0 where
  pub rest : List (List (List ℕ))
  pub gives : Gives reader (most - turn) rest
  pub joined : cells ++ wanted_cells (is_header turn header) columns rest ≡ all

first-turn : (header : Bool) → is_header 0 header ≡ header
first-turn true = refl
first-turn false = refl

later-turn : (turn : ℕ) (header : Bool) → is_header (turn + 1) header ≡ false
later-turn turn false = refl
later-turn turn true = ne_eqb (turn + 1) 0 (λ e. absurd (omega arith))

pub taken-none : (reader : TextReader) (text : List ℕ) (most columns : ℕ) (header : Bool) → Gives reader most (raw_up_to most text)
    → HasTaken reader 0 most columns header [] (all_cells (records_up_to most columns header text))
unfolding records_up_to
taken-none reader text most columns header h =
    record { rest = raw_up_to most text; gives = rw (sub-zero most) h; joined = rw (first-turn header) refl }

one-taken : (first_is_header : Bool) (columns : ℕ) (cells all fields : List (List ℕ)) (more : List (List (List ℕ)))
    → cells ++ wanted_cells first_is_header columns (fields ∷ more) ≡ all
    → (cells ++ added_cells first_is_header columns fields) ++ wanted_cells false columns more ≡ all
one-taken true columns cells all fields more h = rw (append-nil cells) h
one-taken false columns cells all fields more h = append_assoc cells (cut_or_pad columns fields) (wanted_cells false columns more) ∙ h

-- one record more
pub taken-more : (a b : TextReader) (fields : List (List ℕ)) (turn most columns : ℕ) (header : Bool) (cells after all : List (List ℕ))
    → HasTaken a turn most columns header cells all → turn < most → after ≡ cells ++ added_cells (is_header turn header) columns fields
    → ReadRecord bytes_left a b true fields → ReadsOn a b → HasTaken b (turn + 1) most columns header after all
taken-more a b fields turn most columns header cells after all h within added read on =
    let next = gives-more a b fields (most - (turn + 1)) h.rest (fewer a turn most h.rest within h.gives) read on in
    let joined = h.joined in
    record {
      rest = next.more;
      gives = next.gives;
      joined = rw (later-turn turn header, added) (one-taken (is_header turn header) columns cells all fields next.more (rw next.first at joined));
    }

nothing-wanted : (first_is_header : Bool) (columns : ℕ) → wanted_cells first_is_header columns [] ≡ []
nothing-wanted true columns = refl
nothing-wanted false columns = refl

taken-all : (first_is_header : Bool) (columns : ℕ) (cells all : List (List ℕ)) (rest : List (List (List ℕ))) → rest ≡ []
    → cells ++ wanted_cells first_is_header columns rest ≡ all → cells ≡ all
taken-all first_is_header columns cells all rest e h =
    sym (append-nil cells) ∙ ap (λ (l : List (List ℕ)). cells ++ l) (sym (nothing-wanted first_is_header columns)) ∙ (rw e at h)

-- no record more
pub taken-end : (a b : TextReader) (fields : List (List ℕ)) (turn most columns : ℕ) (header : Bool) (cells all : List (List ℕ))
    → HasTaken a turn most columns header cells all → ReadRecord bytes_left a b false fields → cells ≡ all
taken-end a b fields turn most columns header cells all h read =
    taken-all (is_header turn header) columns cells all h.rest (gives-end a b fields (most - turn) h.rest h.gives read) h.joined

-- as many records as were asked for
pub taken-most : (a : TextReader) (turn most columns : ℕ) (header : Bool) (cells all : List (List ℕ))
    → HasTaken a turn most columns header cells all → most ≤ turn → cells ≡ all
taken-most a turn most columns header cells all h late =
    let none : most - turn ≡ 0 = omega arith in
    let gives = h.gives in
    taken-all (is_header turn header) columns cells all h.rest (gives-none a h.rest (rw none at gives)) h.joined
