-- The first of the parts of a release and those after it, for parts that stand for measurements by f.
use Rattle.std.proofs.Common.{◌≡◌, ℕ, ◌+◌, ◌≤◌, ◌^◌, List, [], ◌∷◌, ◌++◌, map, length, take, drop, Option, Some, None, Ok, Err, refl, sym, subst, ◌∙◌, ap, arith, length-append}
use Rattle.std.specs.Prelude.{Result, option_map}
use Rattle.dp_draws.specs.Taking.{Turn, Taken}
use Rattle.dp_draws.proofs.Taking.{take_draws-none}
use Rattle.dp_domain.specs.declared.values.Value.{Value}
use Rattle.dp_law.specs.declared.pieces.Piece.{Piece}
use Rattle.dp_law.specs.declared.faults.ReleaseFault.{ReleaseFault}
use Rattle.dp_law.specs.Mechanism.{Mechanism}
use Rattle.dp_law.specs.Joining.{added}
use Rattle.dp_law.specs.Releasing.{Released}
use Rattle.dp_law.specs.declared.faults.ReleaseFault.TheVariants as fault
use Rattle.dp_num.specs.Limits.{capped, Fraction}
use Rattle.dp_domain.specs.declared.domains.Domain.{Domain}
use Rattle.dp_domain.specs.declared.metrics.Metric.{Metric}
use Rattle.dp_law.proofs.JoiningLaw.{added-le}
use Rattle.dp_law.proofs.JoinedReleases.{front-stops, back-stops, both-answers, join-memory}
use Rattle.dp_chain.specs.Releases.{joined_shape, joined_answer, all_pieces, total_loss, TakeAll, AreAlike}

none-is : {T : Type 0} (xs : List T) → length xs ≡ 0 → xs ≡ []
none-is [] h = refl
none-is (x ∷ xs) h = absurd (omega arith)

shape-cons : (first : Mechanism) (rest : List Mechanism) → joined_shape (first ∷ rest) ≡ first.shape ++ joined_shape rest
unfolding joined_shape
shape-cons first rest = refl

shape-nil : joined_shape [] ≡ []
unfolding joined_shape
shape-nil = refl

pub pieces-cons : (first : Mechanism) (rest : List Mechanism) → all_pieces (first ∷ rest) ≡ first.pieces + all_pieces rest
unfolding all_pieces
pieces-cons first rest = refl

pub pieces-nil : all_pieces [] ≡ 0
unfolding all_pieces
pieces-nil = refl

pub loss-cons : (first : Mechanism) (rest : List Mechanism) (d : ℕ) → total_loss (first ∷ rest) d ≡ added (first.privacy_map d) (total_loss rest d)
unfolding total_loss
loss-cons first rest d = refl

pub loss-nil : (d : ℕ) → total_loss [] d ≡ Some 0
unfolding total_loss
loss-nil d = refl

pub total-le : (parts : List Mechanism) (d k : ℕ) → Some k ≡ total_loss parts d → k ≤ 2 ^ 32
total-le [] d k is = let none : 0 ≡ k = cc (loss-nil d) in omega arith
total-le (first ∷ rest) d k is = added-le (first.privacy_map d) (total_loss rest d) k (sym (is ∙ loss-cons first rest d))

input-cons : (first : Mechanism) (rest : List Mechanism) (P : Domain → Type 0) → TakeAll P (first ∷ rest) → P first.input_domain × TakeAll P rest
unfolding TakeAll
input-cons first rest v have = have

released-cons : (step : List ℕ → ℕ → Turn) (first : Mechanism) (rest : List Mechanism) (v : Value) (before after : List ℕ) (result : Result (List Piece) ReleaseFault) →
    Released step (first.shape ++ joined_shape rest) (λ draws. first.function v (take (length first.shape) draws) ++ joined_answer rest v (drop (length first.shape) draws)) before result after →
    Released step (joined_shape (first ∷ rest)) (joined_answer (first ∷ rest) v) before result after
unfolding joined_shape joined_answer
released-cons step first rest v before after result h = h

released-nil : (step : List ℕ → ℕ → Turn) (v : Value) (state : List ℕ) → Released step (joined_shape []) (joined_answer [] v) state (Ok []) state
unfolding joined_shape joined_answer
released-nil step v state = (sym (ap (λ (t : Taken). option_map (joined_answer [] v) t.draws) (take_draws-none step state)), sym (ap (λ (t : Taken). t.last) (take_draws-none step state)))

module _ {T : Type 0} (f : T → Mechanism) where
  pub shape-first : (xs : List T) (x : T) (rest : List T) → xs ≡ x ∷ rest → joined_shape (map f xs) ≡ (f x).shape ++ joined_shape (map f rest)
  shape-first xs x rest is = ap (λ (ys : List T). joined_shape (map f ys)) is ∙ shape-cons (f x) (map f rest)

  pub shape-none : (xs : List T) → length xs ≡ 0 → joined_shape (map f xs) ≡ []
  shape-none xs none = ap (λ (ys : List T). joined_shape (map f ys)) (none-is xs none) ∙ shape-nil

  pub draws-first : (xs : List T) (x : T) (rest : List T) → xs ≡ x ∷ rest → length (joined_shape (map f xs)) ≡ length (f x).shape + length (joined_shape (map f rest))
  draws-first xs x rest is = ap length (shape-first xs x rest is) ∙ length-append (f x).shape (joined_shape (map f rest))

  pub draws-none : (xs : List T) → length xs ≡ 0 → length (joined_shape (map f xs)) ≡ 0
  draws-none xs none = ap length (shape-none xs none)

  pub pieces-first : (xs : List T) (x : T) (rest : List T) → xs ≡ x ∷ rest → all_pieces (map f xs) ≡ (f x).pieces + all_pieces (map f rest)
  pieces-first xs x rest is = ap (λ (ys : List T). all_pieces (map f ys)) is ∙ pieces-cons (f x) (map f rest)

  pub pieces-none : (xs : List T) → length xs ≡ 0 → all_pieces (map f xs) ≡ 0
  pieces-none xs none = ap (λ (ys : List T). all_pieces (map f ys)) (none-is xs none) ∙ pieces-nil

  pub loss-first : (xs : List T) (x : T) (rest : List T) (d : ℕ) → xs ≡ x ∷ rest → total_loss (map f xs) d ≡ added ((f x).privacy_map d) (total_loss (map f rest) d)
  loss-first xs x rest d is = ap (λ (ys : List T). total_loss (map f ys) d) is ∙ loss-cons (f x) (map f rest) d

  pub loss-none : (xs : List T) (d : ℕ) → length xs ≡ 0 → total_loss (map f xs) d ≡ Some 0
  loss-none xs d none = ap (λ (ys : List T). total_loss (map f ys) d) (none-is xs none) ∙ loss-nil d

  pub loss-past : (xs : List T) (x : T) (rest : List T) (d : ℕ) → xs ≡ x ∷ rest → None ≡ (f x).privacy_map d → None ≡ total_loss (map f xs) d
  loss-past xs x rest d is past = sym (loss-first xs x rest d is ∙ ap (λ (o : Option ℕ). added o (total_loss (map f rest) d)) (sym past))

  pub rest-past : (xs : List T) (x : T) (rest : List T) (d front : ℕ) → xs ≡ x ∷ rest → Some front ≡ (f x).privacy_map d → None ≡ total_loss (map f rest) d → None ≡ total_loss (map f xs) d
  rest-past xs x rest d front is one past =
      sym (loss-first xs x rest d is ∙ ap (λ (o : Option ℕ). added o (total_loss (map f rest) d)) (sym one) ∙ ap (λ (o : Option ℕ). added (Some front) o) (sym past))

  pub losses-add : (xs : List T) (x : T) (rest : List T) (d front back : ℕ) → xs ≡ x ∷ rest → Some front ≡ (f x).privacy_map d → Some back ≡ total_loss (map f rest) d →
      capped (front + back) ≡ total_loss (map f xs) d
  losses-add xs x rest d front back is one others =
      sym (loss-first xs x rest d is ∙ ap (λ (o : Option ℕ). added o (total_loss (map f rest) d)) (sym one) ∙ ap (λ (o : Option ℕ). added (Some front) o) (sym others))

  pub input-first : (xs : List T) (x : T) (rest : List T) (P : Domain → Type 0) → xs ≡ x ∷ rest → TakeAll P (map f xs) → P (f x).input_domain × TakeAll P (map f rest)
  input-first xs x rest P is take = input-cons (f x) (map f rest) P (subst (λ (ys : List T). TakeAll P (map f ys)) is take)

  released-at : (step : List ℕ → ℕ → Turn) (xs : List T) (x : T) (rest : List T) (v : Value) (before after : List ℕ) (result : Result (List Piece) ReleaseFault) → xs ≡ x ∷ rest →
      Released step ((f x).shape ++ joined_shape (map f rest)) (λ draws. (f x).function v (take (length (f x).shape) draws) ++ joined_answer (map f rest) v (drop (length (f x).shape) draws)) before result after →
      Released step (joined_shape (map f xs)) (joined_answer (map f xs) v) before result after
  released-at step xs x rest v before after result is h =
      subst (λ (ys : List T). Released step (joined_shape (map f ys)) (joined_answer (map f ys) v) before result after) (sym is)
      (released-cons step (f x) (map f rest) v before after result h)

  pub released-none : (step : List ℕ → ℕ → Turn) (xs : List T) (v : Value) (state : List ℕ) (answer : List Piece) → length xs ≡ 0 → answer ≡ [] →
      Released step (joined_shape (map f xs)) (joined_answer (map f xs) v) state (Ok answer) state
  released-none step xs v state answer none empty =
      subst (λ (ys : List T). Released step (joined_shape (map f ys)) (joined_answer (map f ys) v) state (Ok answer) state) (sym (none-is xs none))
      (subst (λ (a : List Piece). Released step (joined_shape []) (joined_answer [] v) state (Ok a) state) (sym empty) (released-nil step v state))

  pub first-stops : (step : List ℕ → ℕ → Turn) (xs : List T) (x : T) (rest : List T) (v : Value) (before after : List ℕ) (why : ReleaseFault) → xs ≡ x ∷ rest →
      Released step (f x).shape ((f x).function v) before (Err why) after → Released step (joined_shape (map f xs)) (joined_answer (map f xs) v) before (Err why) after
  first-stops step xs x rest v before after why is h =
      released-at step xs x rest v before after (Err why) is (front-stops step (f x).shape (joined_shape (map f rest)) ((f x).function v)
      (λ draws. (f x).function v (take (length (f x).shape) draws) ++ joined_answer (map f rest) v (drop (length (f x).shape) draws)) before after why h)

  pub rest-stops : (step : List ℕ → ℕ → Turn) (xs : List T) (x : T) (rest : List T) (v : Value) (before mid after : List ℕ) (front : List Piece) (why : ReleaseFault) → xs ≡ x ∷ rest →
      Released step (f x).shape ((f x).function v) before (Ok front) mid → Released step (joined_shape (map f rest)) (joined_answer (map f rest) v) mid (Err why) after →
      Released step (joined_shape (map f xs)) (joined_answer (map f xs) v) before (Err why) after
  rest-stops step xs x rest v before mid after front why is h k =
      released-at step xs x rest v before after (Err why) is
      (back-stops step (f x).shape (joined_shape (map f rest)) ((f x).function v) (joined_answer (map f rest) v)
      (λ draws. (f x).function v (take (length (f x).shape) draws) ++ joined_answer (map f rest) v (drop (length (f x).shape) draws)) before mid after front why h k)

  pub no-room : (step : List ℕ → ℕ → Turn) (xs : List T) (x : T) (rest : List T) (v : Value) (before mid after : List ℕ) (front back : List Piece) → xs ≡ x ∷ rest →
      Released step (f x).shape ((f x).function v) before (Ok front) mid → Released step (joined_shape (map f rest)) (joined_answer (map f rest) v) mid (Ok back) after →
      Released step (joined_shape (map f xs)) (joined_answer (map f xs) v) before (Err fault.NoMemory) after
  no-room step xs x rest v before mid after front back is h k =
      released-at step xs x rest v before after (Err fault.NoMemory) is
      (join-memory step (f x).shape (joined_shape (map f rest)) ((f x).function v) (joined_answer (map f rest) v) before mid after front back h k)

  pub all-answer : (step : List ℕ → ℕ → Turn) (xs : List T) (x : T) (rest : List T) (v : Value) (before mid after : List ℕ) (front back answer : List Piece) → xs ≡ x ∷ rest →
      Released step (f x).shape ((f x).function v) before (Ok front) mid → Released step (joined_shape (map f rest)) (joined_answer (map f rest) v) mid (Ok back) after → answer ≡ front ++ back →
      Released step (joined_shape (map f xs)) (joined_answer (map f xs) v) before (Ok answer) after
  all-answer step xs x rest v before mid after front back answer is h k joined =
      released-at step xs x rest v before after (Ok answer) is
      (rw joined (both-answers step (f x).shape (joined_shape (map f rest)) ((f x).function v) (joined_answer (map f rest) v) before mid after front back h k))

-- a value of the one input domain is in the input domain of each part
pub alike-input : (ratio : Fraction) (domain : Domain) (metric : Metric) (parts : List Mechanism) (P : Domain → Type 0) → AreAlike ratio domain metric parts → P domain → TakeAll P parts
unfolding AreAlike TakeAll
alike-input ratio domain metric [] P alike takes = tt
alike-input ratio domain metric (first ∷ rest) P alike takes =
    (subst P (sym alike.0.input_domain) takes, alike-input ratio domain metric rest P alike.1 takes)
