-- What a turn, the last read and the last line end, and what was taken of the draw source by then.
use Rattle.std.proofs.Common.{◌≡◌, ◌≢◌, ◌∙◌, ◌<◌, ◌≤◌, ◌^◌, ℕ, suc, Bool, true, false, nat_lt, List, [], ◌∷◌, ◌++◌, length, Option, Some, None, option_map, Result, Ok, Err, refl, sym, ap, arith, append_assoc, append-nil, subst}
use Rattle.std.specs.Option.{ForSome}
use Rattle.std.proofs.lemmas.Bool.Decides.{nat_tests}
use Rattle.std.proofs.lemmas.List.{nil_from_length}
use Rattle.dp_count.specs.Faults.{Rose}
use Rattle.dp_draws.specs.Taking.{Turn, take_draws}
use Rattle.dp_io.specs.declared.faults.LineFault.{LineFault}
use Rattle.dp_io.specs.declared.faults.LineFault.TheVariants as line_fault
use Rattle.dp_io.specs.Lines.{first_line, after_first_line}
use Rattle.dp_io.specs.Sink.{appended, AddsFront}
use Rattle.dp_law.specs.Releasing.{TakesFront}
use Rattle.dp_session.specs.Sessions.{Drawing, Gives}
use Rattle.dp_runner.specs.declared.stop.Stop.{Stop}
use Rattle.dp_runner.specs.declared.stop.Stop.TheVariants as stop
use Rattle.dp_runner.specs.Answering.{Answering, answered, answered_shape}
use Rattle.dp_runner.specs.Outcome.{source_at}
use Rattle.dp_runner.specs.Stops.{stop_of_line}
use Rattle.dp_runner.specs.Turns.{WritesLines, IsFirst, Answered, Nothing, Turns, Ends, RunsTo}
use Rattle.dp_runner.proofs.AnsweringTexts.{shape_to_come, shape-line, answered_shape-is}
use Rattle.dp_runner.proofs.AnsweringSteps.{Standing, from, taken-both, ends-early, ends-long, ends-failed, ends-done, ends-cut, ends-broken}

-- ---- how a run ends

pub turn-none : (more : Bool) (stands : List (List ℕ) → Type 0) (answering : Answering) (past : List (List ℕ)) (source : Drawing)
    (left rest old new : Option (List ℕ)) → more ≡ false → Turns (Ok more) stands answering past source left rest old new
    → ForSome left (λ text. text ≡ []) × Nothing source old new × stands past
turn-none true stands answering past source left rest old new is h = absurd (cc)
turn-none false stands answering past source left rest old new is h = h

pub turn-some : (more : Bool) (stands : List (List ℕ) → Type 0) (answering : Answering) (past : List (List ℕ)) (source : Drawing)
    (left rest old new : Option (List ℕ)) → more ≡ true → Turns (Ok more) stands answering past source left rest old new
    → Answered stands answering past source left rest old new
turn-some true stands answering past source left rest old new is h = h
turn-some false stands answering past source left rest old new is h = absurd (cc)

-- a turn whose read fails
pub turn-read : (reason : Stop) (stands : List (List ℕ) → Type 0) (answering : Answering) (past : List (List ℕ)) (source : Drawing)
    (left rest old new : Option (List ℕ)) → reason ≡ stop.ReadFault → Turns (Err reason) stands answering past source left rest old new
    → Nothing source old new
turn-read stop.ReadFault stands answering past source left rest old new is h = h
turn-read reason stands answering past source left rest old new is h = absurd (cc)

pub err-same : (result : Result (Unit {0}) Stop) (one other : Stop) → result ≡ Err one → result ≡ Err other → one ≡ other
err-same result one other is also = cc

pub read-failed : (fault : LineFault) → stop_of_line fault ≡ stop.ReadFault → fault ≡ line_fault.Failed
read-failed line_fault.Failed is = refl
read-failed line_fault.TooLong is = absurd (cc)

pub turn-ends : (reason : Stop) (stands next : List (List ℕ) → Type 0) (answering : Answering) (source : Drawing) (last : List ℕ)
    (start left rest old held new : Option (List ℕ)) (turn before after faults_before faults_now : ℕ)
    → before ≡ suc after → (s : Standing stands answering source start left old held turn before)
    → Turns (Err reason) next answering s.past (from source last) left rest held new
    → (reason ≡ stop.ReadFault → Rose faults_before faults_now)
    → RunsTo (Err reason) (option_map (answered (source_at source.step source.before) answering) start) faults_before faults_now old
    new last
turn-ends stop.ReadFault stands next answering source last start left rest old held new turn before after fb fn one s h rose =
    (rose refl, ends-early stands answering source start left old held new turn before s h.1)
turn-ends stop.DrawFault stands next answering source last start left rest old held new turn before after fb fn one s h rose =
    ends-failed stands answering source last start left old held new turn before after one s h
turn-ends stop.WriteFault stands next answering source last start left rest old held new turn before after fb fn one s h rose =
    ends-broken stands answering source last start left old held new turn before after one s h
turn-ends stop.QueryLimit stands next answering source last start left rest old held new turn before after fb fn one s h rose =
    rw h.1.0 (ends-long stands answering source start left old held new turn before s h.0 h.1.1)
turn-ends stop.NoMemory stands next answering source last start left rest old held new turn before after fb fn one s h rose =
    ends-early stands answering source start left old held new turn before s h.answers.1
turn-ends reason stands next answering source last start left rest old held new turn before after fb fn one s h rose = absurd h

pub next-ends : (fault : LineFault) (stands : List (List ℕ) → Type 0) (answering : Answering) (source : Drawing)
    (start rest old held : Option (List ℕ)) (turn most faults_before faults_now : ℕ)
    → Standing stands answering source start rest old held turn most
    → (fault ≡ line_fault.TooLong → ForSome rest (λ text. 65536 < length (first_line text)))
    → (fault ≡ line_fault.Failed → Rose faults_before faults_now)
    → RunsTo (Err (stop_of_line fault)) (option_map (answered (source_at source.step source.before) answering) start)
    faults_before faults_now old held source.after
next-ends line_fault.Failed stands answering source start rest old held turn most fb fn s long rose =
    (rose refl, ends-early stands answering source start rest old held held turn most s refl)
next-ends line_fault.TooLong stands answering source start rest old held turn most fb fn s long rose =
    ends-long stands answering source start rest old held held turn most s (long refl) refl

pub end-ends : (result : Result (Unit {0}) Stop) (stands : List (List ℕ) → Type 0) (answering : Answering) (source : Drawing)
    (start rest old held mid new : Option (List ℕ)) (turn most faults_before faults_now : ℕ)
    → WritesLines answering → (s : Standing stands answering source start rest old held turn most)
    → ForSome rest (λ text. text ≡ []) → mid ≡ held
    → Ends result (answering.last_line s.past) mid new
    → RunsTo result (option_map (answered (source_at source.step source.before) answering) start) faults_before faults_now old new
    source.after
end-ends (Ok done) stands answering source start rest old held mid new turn most fb fn writes s none same h =
    ends-done stands answering source start rest old held new turn most writes s none
    (h ∙ ap (λ b. appended b (answering.last_line s.past)) same)
end-ends (Err stop.WriteFault) stands answering source start rest old held mid new turn most fb fn writes s none same h =
    ends-cut stands answering source start rest old held new turn most s none
    (subst (λ b. AddsFront b new (answering.last_line s.past)) same h)
end-ends (Err reason) stands answering source start rest old held mid new turn most fb fn writes s none same h = absurd h

pub more-some : (more : Bool) (text : List ℕ) → more ≡ nat_lt 0 (length text) → more ≡ true → 0 < length text
more-some more text is was = grind (arith, nat_tests)

pub more-none : (more : Bool) (text : List ℕ) → more ≡ nat_lt 0 (length text) → more ≡ false → text ≡ []
more-none more text is was = nil_from_length text (grind (arith, nat_tests))

-- ---- what was taken of the draw source: some first part of the draws of the text

told-shape : (f g : List ℕ → List ℕ) (P : List ℕ → Type 0) (start rest : Option (List ℕ)) → option_map f start ≡ option_map g rest
    → ((text : List ℕ) → rest ≡ Some text → P (g text)) → ForSome start (λ text. P (f text))
told-shape f g P None rest same h = λ text e. absurd (cc)
told-shape f g P (Some one) None same h = λ text e. absurd (cc)
told-shape f g P (Some one) (Some other) same h = λ text e.
    let is : g other ≡ f text = (cc (same, e)) in
    subst P is (h other refl)

-- what is taken at first of what is to come at the start is taken of the whole text
told-taken : (stands : List (List ℕ) → Type 0) (answering : Answering) (source : Drawing) (last : List ℕ)
    (start rest old held : Option (List ℕ)) (turn most : ℕ) → (s : Standing stands answering source start rest old held turn most)
    → ((text : List ℕ) → rest ≡ Some text
    → TakesFront source.step (s.shape ++ shape_to_come answering most s.past text) source.before last)
    → ForSome start (λ text. TakesFront source.step (answered_shape answering text) source.before last)
told-taken stands answering source last start rest old held turn most s h = λ text e.
    rw (answered_shape-is answering text)
    (told-shape (λ text. shape_to_come answering (2 ^ 20) [] text) (λ text. s.shape ++ shape_to_come answering most s.past text)
    (λ shape. TakesFront source.step shape source.before last) start rest s.shapes h text e)

-- the draws of the lines so far
pub taken-so_far : (stands : List (List ℕ) → Type 0) (answering : Answering) (source : Drawing) (last : List ℕ)
    (start rest old held : Option (List ℕ)) (turn most : ℕ) → Standing stands answering source start rest old held turn most
    → last ≡ source.after
    → ForSome start (λ text. TakesFront source.step (answered_shape answering text) source.before last)
taken-so_far stands answering source last start rest old held turn most s same =
    told-taken stands answering source last start rest old held turn most s
    (λ text is. rw same (s.shape, shape_to_come answering most s.past text, s.draws, refl, s.taken))

front-joined : (before after last shape front rest more draws ds : List ℕ) (step : List ℕ → ℕ → Turn)
    → take_draws step before shape ≡ record { draws = Some draws; last = after }
    → take_draws step after front ≡ record { draws = Some ds; last = last }
    → TakesFront step (shape ++ ((front ++ rest) ++ more)) before last
front-joined before after last shape front rest more draws ds step one two = (
  shape ++ front,
  rest ++ more,
  draws ++ ds,
  ap (λ b. shape ++ b) (append_assoc front rest more) ∙ sym (append_assoc shape front (rest ++ more)),
  taken-both step before after last shape front draws ds one two,
)

-- the draws of the lines so far, and then some first part of those of the next
taken-next : (stands : List (List ℕ) → Type 0) (answering : Answering) (source : Drawing) (last line : List ℕ)
    (start left old held : Option (List ℕ)) (turn before after : ℕ)
    → before ≡ suc after → (s : Standing stands answering source start left old held turn before)
    → ForSome left (λ text. IsFirst line text)
    → TakesFront source.step (answering.slot s.past line).shape source.after last
    → ForSome start (λ text. TakesFront source.step (answered_shape answering text) source.before last)
taken-next stands answering source last line start left old held turn before after one s is_first front =
    told-taken stands answering source last start left old held turn before s
    (λ text is. let first = is_first text is in
    let short : length (first_line text) ≤ 65536 = rw first.line_is at first.short in
    let split : (answering.slot s.past (first_line text)).shape ≡ front.0 ++ front.1 = rw first.line_is at front.3 in
    rw (one, shape-line answering after s.past text first.some short, split)
    (front-joined source.before source.after last s.shape front.0 front.1
    (shape_to_come answering after (first_line text ∷ s.past) (after_first_line text)) s.draws front.2 source.step s.taken front.4))

all-taken : (source : Drawing) (shape draws : List ℕ) → Gives source shape (Some draws)
    → TakesFront source.step shape source.before source.after
all-taken source shape draws taken = (shape, [], draws, sym (append-nil shape), taken)

pub turn-taken : (reason : Stop) (stands next : List (List ℕ) → Type 0) (answering : Answering) (source : Drawing) (last : List ℕ)
    (start left rest old held new : Option (List ℕ)) (turn before after : ℕ)
    → before ≡ suc after → (s : Standing stands answering source start left old held turn before)
    → Turns (Err reason) next answering s.past (from source last) left rest held new
    → reason ≢ stop.DrawFault
    → ForSome start (λ text. TakesFront source.step (answered_shape answering text) source.before last)
turn-taken stop.ReadFault stands next answering source last start left rest old held new turn before after one s h other =
    taken-so_far stands answering source last start left old held turn before s h.0
turn-taken stop.DrawFault stands next answering source last start left rest old held new turn before after one s h other =
    absurd (other refl)
turn-taken stop.WriteFault stands next answering source last start left rest old held new turn before after one s h other =
    taken-next stands answering source last h.line start left old held turn before after one s h.first
    (all-taken (from source last) (answering.slot s.past h.line).shape h.answers.0 h.answers.1)
turn-taken stop.QueryLimit stands next answering source last start left rest old held new turn before after one s h other =
    taken-so_far stands answering source last start left old held turn before s h.1.0
turn-taken stop.NoMemory stands next answering source last start left rest old held new turn before after one s h other =
    taken-next stands answering source last h.line start left old held turn before after one s h.first h.answers.0
turn-taken reason stands next answering source last start left rest old held new turn before after one s h other = absurd h
