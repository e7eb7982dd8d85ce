-- The three queries of `sample`, one after the other.
use Rattle.std.proofs.Common.{◌≡◌, ◌<◌, ◌≤◌, ◌+◌, ℕ, suc, List, [], ◌∷◌, ◌++◌, length, Option, Some, option_map, Result, Ok, Err, refl, sym, ap, arith, subst}
use Rattle.std.specs.Prelude.{codes}
use Rattle.std.specs.Option.{ForSome}
use Rattle.dp_count.specs.Faults.{Rose}
use Rattle.dp_count.specs.Slots.{Slot}
use Rattle.dp_io.specs.Lines.{first_line, after_first_line}
use Rattle.dp_session.specs.Sessions.{Drawing}
use Rattle.dp_runner.specs.declared.stop.Stop.{Stop}
use Rattle.dp_runner.specs.declared.stop.Stop.TheVariants as stop
use Rattle.dp_runner.specs.Answering.{Answering, answered}
use Rattle.dp_runner.specs.Outcome.{source_at}
use Rattle.dp_runner.specs.Sample.{women_query, ages_query, districts_query, sample_queries}
use Rattle.dp_runner.specs.Turns.{WritesLines, AnswersSlot, IsFirst, Answered, Turns, Ends, RunsTo}
use Rattle.dp_runner.proofs.AnsweringSteps.{Standing, from, through, standing-more}
use Rattle.dp_runner.proofs.AnsweringEnds.{turn-ends, end-ends}

-- what is left of the text after its first line, and after its second
abbrev pub after_women : List ℕ
after_women = ages_query ++ (codes "\n" ++ (districts_query ++ codes "\n"))

abbrev pub after_ages : List ℕ
after_ages = districts_query ++ codes "\n"

women-is : first_line sample_queries ≡ women_query
unfolding sample_queries
women-is = refl

pub women-after : after_first_line sample_queries ≡ after_women
unfolding sample_queries
women-after = refl

ages-is : first_line after_women ≡ ages_query
ages-is = refl

pub ages-after : after_first_line after_women ≡ after_ages
ages-after = refl

districts-is : first_line after_ages ≡ districts_query
districts-is = refl

pub districts-after : after_first_line after_ages ≡ []
districts-after = refl

told-first : (line text : List ℕ) → 0 < length text → first_line text ≡ line → length line ≤ 65536
    → ForSome (Some text) (λ found. IsFirst line found)
told-first line text some is short = λ found e.
    let same : text ≡ found = cc in
    record { some = rw (← same) some; line_is = rw (← same, is) refl; short = short }

some-queries : 0 < length sample_queries
unfolding sample_queries
some-queries = omega arith

pub women-first : ForSome (Some sample_queries) (λ text. IsFirst women_query text)
women-first = told-first women_query sample_queries some-queries women-is (omega arith)

pub ages-first : ForSome (Some after_women) (λ text. IsFirst ages_query text)
ages-first = told-first ages_query after_women (omega arith) ages-is (omega arith)

pub districts-first : ForSome (Some after_ages) (λ text. IsFirst districts_query text)
districts-first = told-first districts_query after_ages (omega arith) districts-is (omega arith)

-- what is said of a line and of how it is answered is said of the same line, answered in the same way
slot-said : (result : Result (Unit {0}) Stop) (answering now : Answering) (source : Drawing) (past : List (List ℕ)) (line said : List ℕ) (held new : Option (List ℕ))
    → said ≡ line → now ≡ answering → AnswersSlot result source (now.slot past said) held new
    → AnswersSlot result source (answering.slot past line) held new
slot-said result answering now source past line said held new said_is now_is h =
    subst (λ (a : Answering). AnswersSlot result source (a.slot past line) held new) now_is
    (subst (λ (l : List ℕ). AnswersSlot result source (now.slot past l) held new) said_is h)

-- the first line of what is left was answered
pub query-answered : (stands next : List (List ℕ) → Type 0) (answering now : Answering) (source : Drawing) (last line said text after : List ℕ)
    (start old held new : Option (List ℕ)) (turn before most : ℕ)
    → WritesLines answering → said ≡ line → now ≡ answering → before ≡ suc most
    → (s : Standing stands answering source start (Some text) old held turn before)
    → ForSome (Some text) (λ found. IsFirst line found) → after_first_line text ≡ after
    → AnswersSlot (Ok tt) (from source last) (now.slot s.past said) held new → next (said ∷ s.past)
    → Standing next answering (through source last) start (Some after) old new (turn + 1) most
query-answered stands next answering now source last line said text after start old held new turn before most writes said_is now_is one s first is answers stood =
    let answered : Answered next answering s.past (from source last) (Some text) (Some after) held new = record {
      reads = record {
        line = line;
        first = first;
        answers = slot-said (Ok tt) answering now (from source last) s.past line said held new said_is now_is answers;
      };
      rest_is = ap Some (sym is);
      stands_at = subst (λ (l : List ℕ). next (l ∷ s.past)) said_is stood;
    } in
    standing-more stands next answering source last start (Some text) (Some after) old held new turn before most writes one s answered

line-broken : (reason : Stop) (stands : List (List ℕ) → Type 0) (answering : Answering) (past : List (List ℕ)) (source : Drawing) (line : List ℕ)
    (left rest old new : Option (List ℕ))
    → ForSome left (λ text. IsFirst line text)
    → AnswersSlot (Err reason) source (answering.slot past line) old new
    → Turns (Err reason) stands answering past source left rest old new
line-broken stop.DrawFault stands answering past source line left rest old new first answers =
    record { line = line; first = first; answers = answers }
line-broken stop.WriteFault stands answering past source line left rest old new first answers =
    record { line = line; first = first; answers = answers }
line-broken stop.NoMemory stands answering past source line left rest old new first answers =
    record { line = line; first = first; answers = answers }
line-broken reason stands answering past source line left rest old new first answers = absurd answers

-- an answer reads no file
nothing-read : (reason : Stop) (source : Drawing) (slot : Slot (List ℕ)) (old new : Option (List ℕ)) → AnswersSlot (Err reason) source slot old new
    → reason ≡ stop.ReadFault → Rose 0 0
nothing-read reason source slot old new h is = absurd (subst (λ (r : Stop). AnswersSlot (Err r) source slot old new) is h)

-- the run ended at the first line of what is left
pub query-broken : (reason : Stop) (stands : List (List ℕ) → Type 0) (answering now : Answering) (source : Drawing) (last line said text : List ℕ)
    (start old held new : Option (List ℕ)) (turn before most : ℕ)
    → said ≡ line → now ≡ answering → before ≡ suc most
    → (s : Standing stands answering source start (Some text) old held turn before)
    → ForSome (Some text) (λ found. IsFirst line found)
    → AnswersSlot (Err reason) (from source last) (now.slot s.past said) held new
    → RunsTo (Err reason) (option_map (answered (source_at source.step source.before) answering) start) 0 0 old new last
query-broken reason stands answering now source last line said text start old held new turn before most said_is now_is one s first answers =
    let here = slot-said (Err reason) answering now (from source last) s.past line said held new said_is now_is answers in
    turn-ends reason stands stands answering source last start (Some text) (Some text) old held new turn before most 0 0 one s
    (line-broken reason stands answering s.past (from source last) line (Some text) (Some text) held new first here)
    (nothing-read reason (from source last) (answering.slot s.past line) held new here)

none-left : (none : List ℕ) → none ≡ [] → ForSome (Some none) (λ text. text ≡ [])
none-left none is = λ text e. (cc)

-- nothing is left, and the last line was written, or a front of it
pub queries-ended : (result : Result (Unit {0}) Stop) (stands : List (List ℕ) → Type 0) (answering now : Answering) (source : Drawing)
    (start old held new : Option (List ℕ)) (turn most : ℕ)
    → WritesLines answering → now ≡ answering
    → (s : Standing stands answering source start (Some []) old held turn most)
    → Ends result (now.last_line s.past) held new
    → RunsTo result (option_map (answered (source_at source.step source.before) answering) start) 0 0 old new source.after
queries-ended result stands answering now source start old held new turn most writes now_is s ended =
    end-ends result stands answering source start (Some []) old held held new turn most 0 0 writes s (none-left [] refl) refl
    (subst (λ (a : Answering). Ends result (a.last_line s.past) held new) now_is ended)
