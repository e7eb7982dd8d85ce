-- Releases on several values one after the other. What is still to be released leads on from the answers so far.
use Rattle.std.proofs.Common.{◌≡◌, ℕ, suc, ◌+◌, ◌≤◌, ◌<◌, List, [], ◌∷◌, ◌++◌, map, length, take, drop, get_or, add-one, drop-cons, Ok, Err, refl, sym, ◌∙◌, ap, subst, append_assoc}
use Rattle.std.specs.Prelude.{Result, option_map}
use Rattle.std.specs.List.{All, repeat}
use Rattle.std.proofs.lemmas.List.{append-nil, length-map}
use Rattle.std.proofs.lemmas.List.Elements.{All-weaker}
use Rattle.dp_draws.specs.Taking.{Turn, Taken}
use Rattle.dp_draws.proofs.Taking.{take_draws-none, take_draws-list, DrawsBelow}
use Rattle.dp_domain.specs.declared.values.Value.{Value}
use Rattle.dp_domain.specs.Domains.{Has}
use Rattle.dp_law.specs.declared.pieces.Piece.{Piece}
use Rattle.dp_law.specs.declared.faults.ReleaseFault.{ReleaseFault}
use Rattle.dp_law.specs.declared.faults.ReleaseFault.TheVariants as fault
use Rattle.dp_law.specs.Mechanism.{Mechanism, IsPrivate, IsBound}
use Rattle.dp_law.specs.Releasing.{Released}
use Rattle.dp_law.proofs.JoinedReleases.{released-draws, front-stops, back-stops, both-answers}
use Rattle.dp_law.proofs.Taking.{takes-nothing}
use Rattle.dp_group.specs.Grouped.{answers_on}

-- an answer before what is released after it
abbrev pub behind : List Piece → Result (List Piece) ReleaseFault → Result (List Piece) ReleaseFault
behind answer (Ok more) = Ok (answer ++ more)
behind answer (Err why) = Err why

module _ (step : List ℕ → ℕ → Turn) (m : Mechanism) where
  -- what is released on the values
  abbrev pub ReleasedOn : List Value → List ℕ → Result (List Piece) ReleaseFault → List ℕ → Type 0
  ReleasedOn values before result after =
      Released step (repeat (length values) m.shape) (answers_on m values) before result after

  -- whatever is released on the values that are left, with the answer before it, is released on all
  abbrev pub LeadsOn : List Value → List Value → List Piece → List ℕ → List ℕ → Type 0
  LeadsOn all left answer before now =
      (result : Result (List Piece) ReleaseFault) (after : List ℕ) → ReleasedOn left now result after
      → ReleasedOn all before (behind answer result) after

  -- at the start all are left
  pub leads-first : (all : List Value) (before : List ℕ) → LeadsOn all all [] before before
  leads-first all before (Ok more) after h = h
  leads-first all before (Err why) after h = h

  -- the draws of the values after one
  abbrev others : List Value → List ℕ
  others rest = repeat (length rest) m.shape

  -- the answer on a value, and those on the values after it
  abbrev joined_answers : Value → List Value → List ℕ → List Piece
  joined_answers v rest draws =
      m.function v (take (length m.shape) draws) ++ answers_on m rest (drop (length m.shape) draws)

  released-cons : (v : Value) (rest : List Value) (before : List ℕ) (result : Result (List Piece) ReleaseFault)
      (after : List ℕ) → Released step (m.shape ++ others rest) (joined_answers v rest) before result after
      → ReleasedOn (v ∷ rest) before result after
  unfolding answers_on
  released-cons v rest before result after h = h

  -- the next value releases nothing
  pub leads-stop : (all left : List Value) (v : Value) (rest : List Value) (answer : List Piece)
      (before now after : List ℕ) (why : ReleaseFault) → left ≡ v ∷ rest → LeadsOn all left answer before now
      → Released step m.shape (m.function v) now (Err why) after → ReleasedOn all before (Err why) after
  leads-stop all left v rest answer before now after why next leads h =
      let one = m.function v in
      let stopped = front-stops step m.shape (others rest) one (joined_answers v rest) now after why h in
      leads (Err why) after
      (subst (λ (values : List Value). ReleasedOn values now (Err why) after) (sym next)
      (released-cons v rest now (Err why) after stopped))

  -- the next value's answer is there, and what is released on the rest follows it
  released-next : (v : Value) (rest : List Value) (part : List Piece) (now mid after : List ℕ)
      (result : Result (List Piece) ReleaseFault) → Released step m.shape (m.function v) now (Ok part) mid
      → ReleasedOn rest mid result after → ReleasedOn (v ∷ rest) now (behind part result) after
  released-next v rest part now mid after (Ok more) h k =
      let one = m.function v in
      released-cons v rest now (Ok (part ++ more)) after
      (both-answers step m.shape (others rest) one (answers_on m rest) now mid after part more h k)
  released-next v rest part now mid after (Err why) h k =
      let one = m.function v in
      let other = answers_on m rest in
      released-cons v rest now (Err why) after
      (back-stops step m.shape (others rest) one other (joined_answers v rest) now mid after part why h k)

  behind-twice : (answer part : List Piece) (result : Result (List Piece) ReleaseFault)
      → behind answer (behind part result) ≡ behind (answer ++ part) result
  behind-twice answer part (Ok more) = ap Ok (sym (append_assoc answer part more))
  behind-twice answer part (Err why) = refl

  -- the next value's answer stands behind those before it
  pub leads-next : (all left : List Value) (v : Value) (rest : List Value) (answer part joined : List Piece)
      (before now mid : List ℕ) → left ≡ v ∷ rest → joined ≡ answer ++ part → LeadsOn all left answer before now
      → Released step m.shape (m.function v) now (Ok part) mid → LeadsOn all rest joined before mid
  leads-next all left v rest answer part joined before now mid next is leads h result after k =
      let whole = leads (behind part result) after
      (subst (λ (values : List Value). ReleasedOn values now (behind part result) after) (sym next)
      (released-next v rest part now mid after result h k)) in
      subst (λ (r : Result (List Piece) ReleaseFault). ReleasedOn all before r after)
      (behind-twice answer part result ∙ ap (λ (a : List Piece). behind a result) (sym is)) whole

  -- there is no memory for the next answer
  pub leads-memory : (all left : List Value) (answer : List Piece) (before now : List ℕ)
      → LeadsOn all left answer before now → ReleasedOn all before (Err fault.NoMemory) now
  leads-memory all left answer before now leads = leads (Err fault.NoMemory) now (takes-nothing step (others left) now)

  released-none : (state : List ℕ) → ReleasedOn [] state (Ok []) state
  unfolding answers_on
  released-none state = (
    sym (ap (λ (t : Taken). option_map (answers_on m []) t.draws) (take_draws-none step state)),
    sym (ap (λ (t : Taken). t.last) (take_draws-none step state)),
  )

  -- nothing is left
  pub leads-last : (all left : List Value) (answer : List Piece) (before now : List ℕ)
      → LeadsOn all left answer before now → left ≡ [] → ReleasedOn all before (Ok answer) now
  leads-last all left answer before now leads none =
      let end = subst (λ (values : List Value). ReleasedOn values now (Ok []) now) (sym none) (released-none now) in
      subst (λ (a : List Piece). ReleasedOn all before (Ok a) now) (append-nil answer) (leads (Ok []) now end)

  -- a released answer has all its pieces
  pub part-whole : DrawsBelow step → IsPrivate m → (v : Value) → Has m.input_domain v → (before after : List ℕ)
      (part : List Piece) → Released step m.shape (m.function v) before (Ok part) after → length part ≡ m.pieces
  part-whole below law v has before after part h =
      let drawn = released-draws step m.shape (m.function v) before after part h in
      let positive = All-weaker IsBound (λ bound. 1 ≤ bound) (λ b k. k.0) m.shape law.bounds in
      let taken = ap (λ (t : Taken). t.draws) drawn.1 in
      let fits = take_draws-list step below before m.shape drawn.0 positive taken in
      ap length drawn.2 ∙ law.whole v drawn.0 has fits

-- the value of the input at the place, and those of the inputs after it
pub next-input : {T : Type 0} (value : T → Value) (inputs : List T) (i : ℕ) (input : T) → i < length inputs
    → input ≡ get_or inputs i input → map value (drop i inputs) ≡ value input ∷ map value (drop (i + 1) inputs)
next-input {T} value inputs i input below is =
    ap (map value) (drop-cons inputs i input below)
    ∙ ap (λ (first : T). value first ∷ map value (drop (suc i) inputs)) (sym is)
    ∙ ap (λ (k : ℕ). value input ∷ map value (drop k inputs)) (sym (add-one i))

-- what holds of all inputs holds of the one at the place
pub input-takes : {T : Type 0} (P : T → Type 0) (inputs : List T) (i : ℕ) (input : T) → All P inputs
    → i < length inputs → input ≡ get_or inputs i input → P input
input-takes {T} P inputs i input all below is = subst P (sym is) (all i input below)

-- there are as many values as inputs
pub released-as : {T : Type 0} (step : List ℕ → ℕ → Turn) (m : Mechanism) (value : T → Value) (inputs : List T)
    (before : List ℕ) (result : Result (List Piece) ReleaseFault) (after : List ℕ)
    → ReleasedOn step m (map value inputs) before result after
    → Released step (repeat (length inputs) m.shape) (answers_on m (map value inputs)) before result after
released-as {T} step m value inputs before result after h =
    subst (λ (n : ℕ). Released step (repeat n m.shape) (answers_on m (map value inputs)) before result after)
    (length-map inputs value) h
