-- Runs of parts that make a run: what is read before, what is written before, a draw source of its own.
use Rattle.std.proofs.Common.{◌≡◌, ◌∙◌, ◌≤◌, ℕ, true, List, ◌++◌, Option, Some, None, Result, Ok, Err, refl, sym, ap, inl, inr, subst, append_assoc}
use Rattle.std.specs.Option.{ForSome}
use Rattle.dp_io.specs.Shelf.{Files}
use Rattle.dp_io.specs.Sink.{appended, AddsFront}
use Rattle.dp_io.proofs.Pieces.{appended-append}
use Rattle.dp_runner.specs.declared.stop.Stop.{Stop}
use Rattle.dp_runner.specs.declared.stop.Stop.TheVariants as stop
use Rattle.dp_runner.specs.Causes.{HasReason, HasDone, IsInterrupted, Interrupts, Runs}
use Rattle.dp_runner.specs.Outcome.{Source, Outcome, Queries, once_read, preceded_by, by_own_draws}
use Rattle.dp_runner.specs.WrittenLines.{are_lines, AddsLines}
use Rattle.dp_runner.specs.WrittenLinesProof.{lines-append}
use Rattle.dp_runner.proofs.Steps.{rose-late}
use Rattle.dp_runner.proofs.WritesLast.{nothing-gained, lines-none}

-- ---- a run that ends before it writes

ended-unread : {A : Type 0} (source : Source) (next : A → Outcome) (right : Result A Stop) (reason : Stop) (held : Option (List ℕ))
    → right ≡ Err reason
    → HasDone (once_read source next right) (Some reason) held held source.state
ended-unread source next right reason held e = rw e (record { gained = nothing-gained held; whole = refl; stop_is = refl; last_is = refl })

pub runs-unread : {A : Type 0} (reason : Stop) (source : Source) (next : Files → A → Outcome) (told : Option Files)
    (right : Files → Result A Stop)
    (before now : ℕ) (held : Option (List ℕ))
    → HasReason reason told right before now
    → Runs (Err reason) told (λ files. once_read source (next files) (right files)) before now held held source.state
runs-unread stop.Usage source next told right before now held h = absurd h
runs-unread stop.ReadFault source next told right before now held (inl rose) = inl (rose, λ files e. lines-none _ held)
runs-unread stop.ReadFault source next told right before now held (inr w) =
    inr (w.0, w.1, ended-unread source (next w.0) (right w.0) stop.ReadFault held w.2)
runs-unread stop.WriteFault source next told right before now held h = absurd h
runs-unread stop.NoMemory source next told right before now held h = λ files e. lines-none _ held
runs-unread reason source next told right before now held h = λ files e. ended-unread source (next files) (right files) reason held
    (h files e)

-- ---- a run that is said in another way, from an earlier count of faults on

pub runs-same : (result : Result (Unit {0}) Stop) (told : Option Files) (right other : Files → Outcome) (before mid now : ℕ)
    (old new : Option (List ℕ)) (last : List ℕ)
    → before ≤ mid → ((files : Files) → told ≡ Some files → right files ≡ other files)
    → Runs result told right mid now old new last → Runs result told other before now old new last
runs-same (Ok done) told right other before mid now old new last early same h = λ files e.
    subst (λ (o : Outcome). HasDone o None old new last) (same files e) (h files e)
runs-same (Err stop.ReadFault) told right other before mid now old new last early same (inl rose) =
    inl (
      rose-late before mid now early rose.0,
      λ files e. subst (λ (o : Outcome). AddsLines old new o.bytes) (same files e) (rose.1 files e),
    )
runs-same (Err stop.ReadFault) told right other before mid now old new last early same (inr w) =
    inr (w.0, w.1, subst (λ (o : Outcome). HasDone o (Some stop.ReadFault) old new last) (same w.0 w.1) w.2)
runs-same (Err stop.WriteFault) told right other before mid now old new last early same h = λ files e.
    subst (λ (o : Outcome). AddsFront old new o.bytes) (same files e) (h files e)
runs-same (Err stop.NoMemory) told right other before mid now old new last early same h = λ files e.
    subst (λ (o : Outcome). AddsLines old new o.bytes) (same files e) (h files e)
runs-same (Err reason) told right other before mid now old new last early same h = λ files e.
    subst (λ (o : Outcome). HasDone o (Some reason) old new last) (same files e) (h files e)

read-same : {A : Type 0} (source : Source) (next : A → Outcome) (right : Result A Stop) (x : A) → right ≡ Ok x
    → next x ≡ once_read source next right
read-same source next right x e = sym (ap (once_read source next) e)

-- what is read before it
pub runs-after : {A : Type 0} (result : Result (Unit {0}) Stop) (source : Source) (next : Files → A → Outcome) (told : Option Files)
    (right : Files → Result A Stop) (x : A) (before mid now : ℕ) (old new : Option (List ℕ)) (last : List ℕ)
    → before ≤ mid → ForSome told (λ files. right files ≡ Ok x)
    → Runs result told (λ files. next files x) mid now old new last
    → Runs result told (λ files. once_read source (next files) (right files)) before now old new last
runs-after result source next told right x before mid now old new last early read h =
    runs-same result told (λ files. next files x) (λ files. once_read source (next files) (right files)) before mid now old new last early
    (λ files e. read-same source (next files) (right files) x (read files e)) h

-- ---- a draw source of its own

pub own-done : (source : Source) (outcome : Outcome) (ending : Option Stop) (old new : Option (List ℕ)) (last : List ℕ)
    → HasDone outcome ending old new last → HasDone (by_own_draws source outcome) ending old new source.state
own-done source outcome ending old new last h = record { gained = h.gained; whole = h.whole; stop_is = h.stop_is; last_is = refl }

pub runs-own : (result : Result (Unit {0}) Stop) (source : Source) (told : Option Files) (right : Files → Outcome) (before now : ℕ)
    (old new : Option (List ℕ)) (last : List ℕ) → Runs result told right before now old new last
    → Runs result told (λ files. by_own_draws source (right files)) before now old new source.state
runs-own (Ok done) source told right before now old new last h = λ files e. own-done source (right files) None old new last (h files e)
runs-own (Err stop.ReadFault) source told right before now old new last (inl rose) = inl rose
runs-own (Err stop.ReadFault) source told right before now old new last (inr w) =
    inr (w.0, w.1, own-done source (right w.0) (Some stop.ReadFault) old new last w.2)
runs-own (Err stop.WriteFault) source told right before now old new last h = h
runs-own (Err stop.NoMemory) source told right before now old new last h = h
runs-own (Err reason) source told right before now old new last h = λ files e. own-done source (right files) (Some reason) old new last
    (h files e)

-- ---- bytes that were written before

pub preceded-done : (bytes : List ℕ) (outcome : Outcome) (ending : Option Stop) (old held new : Option (List ℕ)) (last : List ℕ)
    → held ≡ appended old bytes → are_lines bytes ≡ true → HasDone outcome ending held new last
    → HasDone (preceded_by bytes outcome) ending old new last
preceded-done bytes outcome ending old held new last written whole h = record {
  gained = h.gained ∙ ap (λ b. appended b outcome.bytes) written ∙ appended-append old bytes outcome.bytes;
  whole = lines-append bytes outcome.bytes whole h.whole;
  stop_is = h.stop_is;
  last_is = h.last_is;
}

abbrev preceded-front : (bytes more : List ℕ) (old held new : Option (List ℕ)) → held ≡ appended old bytes → AddsFront held new more
    → AddsFront old new (bytes ++ more)
preceded-front bytes more old held new written h = record {
  front = bytes ++ h.front;
  rest = h.rest;
  split = ap (λ b. bytes ++ b) h.split ∙ sym (append_assoc bytes h.front h.rest);
  gained = h.gained ∙ ap (λ b. appended b h.front) written ∙ appended-append old bytes h.front;
}

preceded-lines : (bytes more : List ℕ) (old held new : Option (List ℕ)) → held ≡ appended old bytes → are_lines bytes ≡ true
    → AddsLines held new more
    → AddsLines old new (bytes ++ more)
preceded-lines bytes more old held new written whole h = record {
  gains = preceded-front bytes more old held new written h.gains;
  whole = lines-append bytes h.gains.front whole h.whole;
}

pub runs-preceded : (result : Result (Unit {0}) Stop) (bytes : List ℕ) (told : Option Files) (right : Files → Outcome) (before now : ℕ)
    (old held new : Option (List ℕ)) (last : List ℕ) → held ≡ appended old bytes → are_lines bytes ≡ true
    → Runs result told right before now held new last
    → Runs result told (λ files. preceded_by bytes (right files)) before now old new last
runs-preceded (Ok done) bytes told right before now old held new last written whole h = λ files e.
    preceded-done bytes (right files) None old held new last written whole (h files e)
runs-preceded (Err stop.ReadFault) bytes told right before now old held new last written whole (inl rose) =
    inl (rose.0, λ files e. preceded-lines bytes (right files).bytes old held new written whole (rose.1 files e))
runs-preceded (Err stop.ReadFault) bytes told right before now old held new last written whole (inr w) =
    inr (w.0, w.1, preceded-done bytes (right w.0) (Some stop.ReadFault) old held new last written whole w.2)
runs-preceded (Err stop.WriteFault) bytes told right before now old held new last written whole h = λ files e.
    preceded-front bytes (right files).bytes old held new written (h files e)
runs-preceded (Err stop.NoMemory) bytes told right before now old held new last written whole h = λ files e.
    preceded-lines bytes (right files).bytes old held new written whole (h files e)
runs-preceded (Err reason) bytes told right before now old held new last written whole h = λ files e.
    preceded-done bytes (right files) (Some reason) old held new last written whole (h files e)

-- a front of the bytes that are written before
pub front-before : (bytes more : List ℕ) (old new : Option (List ℕ)) → AddsFront old new bytes → AddsFront old new (bytes ++ more)
front-before bytes more old new h = record {
  front = h.front;
  rest = h.rest ++ more;
  split = ap (λ b. b ++ more) h.split ∙ append_assoc h.front h.rest more;
  gained = h.gained;
}

-- ---- a read of the queries that fails

-- what was read before
pub done-after : {A : Type 0} (source : Source) (next : A → Outcome) (right : Result A Stop) (x : A) (ending : Option Stop)
    (old new : Option (List ℕ)) (last : List ℕ) → right ≡ Ok x
    → HasDone (next x) ending old new last → HasDone (once_read source next right) ending old new last
done-after source next right x ending old new last e h =
    subst (λ (o : Outcome). HasDone o ending old new last) (read-same source next right x e) h

interrupted-by : (text left : Option (List ℕ)) (part whole : List ℕ → Outcome) (old held new : Option (List ℕ)) (last state : List ℕ)
    → ((given : List ℕ) → HasDone (part given) (Some stop.ReadFault) held new last
    → HasDone (whole given) (Some stop.ReadFault) old new state)
    → IsInterrupted text left part held new last → IsInterrupted text left whole old new state
interrupted-by text left part whole old held new last state step h = record {
  given = h.given;
  rest = h.rest;
  text_is = h.text_is;
  left_is = h.left_is;
  has_done = step h.given h.has_done;
}

-- where the part that answers the queries was interrupted, the command was
pub interrupts-by : (asked : Queries) (told : Option Files) (source : Source) (left old held new : Option (List ℕ)) (last state : List ℕ)
    (part : List ℕ → Outcome)
    → ((files : Files) (given : List ℕ) → told ≡ Some files → HasDone (part given) (Some stop.ReadFault) held new last
    → HasDone (asked.interrupted files source given) (Some stop.ReadFault) old new state)
    → ForSome told (λ files. IsInterrupted (files asked.name) left part held new last)
    → Interrupts (Some asked) told source left old new state
interrupts-by asked told source left old held new last state part step h = λ other is files told_is.
    let same : asked ≡ other = cc in
    subst (λ (q : Queries). IsInterrupted (files q.name) left (q.interrupted files source) old new state) same
    (interrupted-by (files asked.name) left part (asked.interrupted files source) old held new last state
    (λ given. step files given told_is) (h files told_is))
