-- What `sample` does: its lines by draws of 0, where its words are of its form.
use Rattle.std.proofs.Common.{◌≡◌, ◌∙◌, ◌≤◌, ◌^◌, ℕ, Bool, true, false, nat_le, List, [], ◌∷◌, ◌++◌, length, Option, Some, None, Result, Ok, Err, refl, ap, arith, subst, if◌then◌else◌}
use Rattle.std.specs.Prelude.{replicate, codes, ◌&&◌, option_and_then, option_map}
use Rattle.std.specs.Str.{bytes_eq}
use Rattle.std.specs.Fmt as fmt
use Rattle.std.proofs.lemmas.Bool.Decides.{nat_tests}
use Rattle.dp_count.specs.Digits.{short_decimal}
use Rattle.dp_domain.specs.declared.values.Value.{Value}
use Rattle.dp_draws.specs.Sources.{zeros_step}
use Rattle.dp_draws.specs.Taking.{put_first, take_draws}
use Rattle.dp_io.specs.Lines.{lines_of, has_line_over}
use Rattle.dp_io.specs.Shelf.{Files}
use Rattle.dp_io.specs.Sink.{appended, AddsFront}
use Rattle.dp_session.specs.Runs.{run_shape}
use Rattle.dp_runner.specs.declared.form.Form.{Form}
use Rattle.dp_runner.specs.declared.form.Form.TheVariants as form
use Rattle.dp_runner.specs.declared.stop.Stop.{Stop}
use Rattle.dp_runner.specs.declared.stop.Stop.TheVariants as stop
use Rattle.dp_runner.specs.Account.{account_form}
use Rattle.dp_runner.specs.Answering.{answered}
use Rattle.dp_runner.specs.Causes.{Kept, Runs}
use Rattle.dp_runner.specs.Check.{check_form}
use Rattle.dp_runner.specs.Count.{count_form}
use Rattle.dp_runner.specs.Forms.{form_of, form_after, outcome}
use Rattle.dp_runner.specs.Group.{group_form}
use Rattle.dp_runner.specs.Laws.{IsDone, data_root}
use Rattle.dp_runner.specs.Post.{post_form}
use Rattle.dp_runner.specs.Outcome.{Source, Outcome, preceded_by, by_own_draws}
use Rattle.dp_runner.specs.Sample.{record_count, sample_form, sample_text, sample_pipeline, sampled, sample_queries, records_line, zeros, sample_outcome}
use Rattle.dp_runner.specs.SampleLaw.{zeros_transcript}
use Rattle.dp_runner.specs.Sessions.{Opened, on_records, run_form, replay_form, rehearse_form}
use Rattle.dp_runner.specs.Turns.{RunsTo}
use Rattle.dp_runner.specs.WrittenLines.{are_lines}
use Rattle.dp_runner.specs.WrittenLinesProof.{ended-more, ended-lines}
use Rattle.dp_runner.proofs.FormRuns.{form-done}
use Rattle.dp_runner.proofs.Runs.{runs-own, runs-preceded, front-before}
use Rattle.dp_runner.proofs.Transcripts.{answered-all, done-is}

-- ---- what is written

records-whole : (records : ℕ) → are_lines (records_line records) ≡ true
unfolding records_line
records-whole records =
    ended-lines (codes "records " ++ (fmt.decimal records ++ codes "\n"))
    (ended-more (codes "records ") (fmt.decimal records ++ codes "\n") (ended-more (fmt.decimal records) (codes "\n") ([], refl)))

-- a run that reads no file
runs-alone : (result : Result (Unit {0}) Stop) (told : Option Files) (right : Outcome) (faults : ℕ) (old new : Option (List ℕ)) (last : List ℕ)
    → RunsTo result (Some right) 0 0 old new last → Runs result told (λ files. right) faults faults old new last
runs-alone (Ok done) told right faults old new last h = λ files e. h right refl
runs-alone (Err stop.ReadFault) told right faults old new last h = absurd (let rose = h.0 in omega arith)
runs-alone (Err stop.WriteFault) told right faults old new last h = λ files e. h right refl
runs-alone (Err stop.NoMemory) told right faults old new last h = λ files e. h right refl
runs-alone (Err reason) told right faults old new last h = λ files e. h right refl

pub sample-runs : (result : Result (Unit {0}) Stop) (records : ℕ) (found : Opened) (line : List ℕ) (source : Source) (told : Option Files) (faults : ℕ)
    (old held new : Option (List ℕ)) (last : List ℕ)
    → found ≡ sampled records → line ≡ records_line records → held ≡ appended old line
    → RunsTo result (Some (answered zeros (on_records found) sample_queries)) 0 0 held new last
    → Runs result told (λ files. sample_outcome records files source) faults faults old new source.state
unfolding sample_outcome
sample-runs result records found line source told faults old held new last found_is line_is written h =
    let right : Outcome = answered zeros (on_records (sampled records)) sample_queries in
    let there : RunsTo result (Some right) 0 0 held new last =
    subst (λ (o : Opened). RunsTo result (Some (answered zeros (on_records o) sample_queries)) 0 0 held new last) found_is h in
    runs-own result source told (λ files. preceded_by (records_line records) right) faults faults old new last
    (runs-preceded result (records_line records) told (λ files. right) faults faults old held new last
    (written ∙ ap (appended old) line_is) (records-whole records)
    (runs-alone result told right faults held new last there))

-- a front of the first line was written
pub sample-front : (records : ℕ) (line : List ℕ) (source : Source) (told : Option Files) (faults : ℕ) (old new : Option (List ℕ))
    → line ≡ records_line records → AddsFront old new line
    → Runs (Err stop.WriteFault) told (λ files. sample_outcome records files source) faults faults old new source.state
unfolding sample_outcome
sample-front records line source told faults old new line_is h = λ files e.
    front-before (records_line records) (answered zeros (on_records (sampled records)) sample_queries).bytes old new
    (subst (λ (l : List ℕ). AddsFront old new l) line_is h)

-- a run that reads no file raises no count of faults
pub kept-alone : (result : Result (Unit {0}) Stop) (faults : ℕ) → Kept result faults faults
kept-alone (Ok done) faults = refl
kept-alone (Err stop.ReadFault) faults = tt
kept-alone (Err stop.NoMemory) faults = tt
kept-alone (Err reason) faults = refl

-- ---- the words

-- a number of records of the form is at most 1,000,000
abbrev IsFew : Option ℕ → Type 0
IsFew None = Unit {0}
IsFew (Some records) = records ≤ 1000000

abbrev HasFew : Option Form → Type 0
HasFew (Some (form.Sample records)) = records ≤ 1000000
HasFew _ = Unit {0}

few-if : (within : Bool) (records : ℕ) → (within ≡ true → records ≤ 1000000) → IsFew (if within then Some records else None)
few-if true records h = h refl
few-if false records h = tt

few-count : (number : Option ℕ) → IsFew (option_and_then record_count number)
few-count None = tt
few-count (Some n) = few-if (nat_le 1 n && nat_le n 1000000) n (λ within. grind (arith, nat_tests))

few-form : (words : List (List ℕ)) → IsFew (sample_form words)
unfolding sample_form
few-form [] = tt
few-form (word ∷ []) = few-count (short_decimal 7 word)
few-form (word ∷ next ∷ more) = tt

few-either : (b : Bool) (one other : Option Form) → HasFew one → HasFew other → HasFew (if b then one else other)
few-either true one other h k = h
few-either false one other h k = k

few-other : {A : Type 0} (make : A → Form) → ((a : A) → HasFew (Some (make a))) → (words : Option A) → HasFew (option_map make words)
few-other make h None = tt
few-other make h (Some a) = h a

few-sample : (records : Option ℕ) → IsFew records → HasFew (option_map form.Sample records)
few-sample None h = tt
few-sample (Some records) h = h

few-after : (command : List ℕ) (words : List (List ℕ)) → HasFew (form_after command words)
few-after command words =
    few-either (bytes_eq command (codes "count")) _ _ (few-other form.Count (λ a. tt) (count_form words))
    (few-either (bytes_eq command (codes "check")) _ _ (few-other form.Check (λ a. tt) (check_form words))
    (few-either (bytes_eq command (codes "account")) _ _ (few-other form.Account (λ a. tt) (account_form words))
    (few-either (bytes_eq command (codes "run")) _ _ (few-other form.Run (λ a. tt) (run_form words))
    (few-either (bytes_eq command (codes "replay")) _ _ (few-other form.Replay (λ a. tt) (replay_form words))
    (few-either (bytes_eq command (codes "rehearse")) _ _ (few-other form.Rehearse (λ a. tt) (rehearse_form words))
    (few-either (bytes_eq command (codes "sample")) _ _ (few-sample (sample_form words) (few-form words))
    (few-either (bytes_eq command (codes "post")) _ _ (few-other form.Post (λ a. tt) (post_form words))
    (few-either (bytes_eq command (codes "group")) _ None (few-other form.Group (λ a. tt) (group_form words)) tt))))))))

few-words : (words : List (List ℕ)) → HasFew (form_of words)
unfolding form_of
few-words [] = tt
few-words (command ∷ words) = few-after command words

pub few-records : (words : List (List ℕ)) (records : ℕ) → form_of words ≡ Some (form.Sample records) → records ≤ 1000000
few-records words records is = subst (λ (o : Option Form). HasFew o) is (few-words words)

-- ---- where it does its work

-- draws of 0 are given always
zeros-taken : (shape state : List ℕ)
    → take_draws zeros_step state shape ≡ record { draws = Some (replicate (length shape) 0); last = state }
unfolding take_draws
zeros-taken [] state = refl
zeros-taken (bound ∷ shape) state = ap (put_first 0) (zeros-taken shape state)

none-over : has_line_over (2 ^ 20) sample_queries ≡ false
unfolding has_line_over lines_of sample_queries
none-over = refl

pub sample-done : (words : List (List ℕ)) (files : Files) (source : Source) (records : ℕ)
    → form_of words ≡ Some (form.Sample records)
    → IsDone (outcome words files source)
    (records_line records
    ++ zeros_transcript sample_pipeline (data_root sample_pipeline (sample_text records)) (lines_of sample_queries))
    source.state
unfolding sample_outcome
sample-done words files source records is =
    let root : Value = data_root sample_pipeline (sample_text records) in
    let shape : List ℕ = run_shape sample_pipeline root (lines_of sample_queries) in
    form-done words (form.Sample records) files source _ source.state is
    (done-is _ _ source.state
    (ap (λ o. by_own_draws source (preceded_by (records_line records) o))
    (answered-all zeros sample_pipeline root sample_queries (replicate (length shape) 0) [] none-over (zeros-taken shape []))))
