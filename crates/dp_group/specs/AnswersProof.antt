-- Answers on several values one after the other: how many draw lists give them, and how many pieces they have.
use Rattle.std.proofs.Common.{◌≡◌, ℕ, ◌*◌, Bool, ◌&&◌, List, [], ◌∷◌, ◌++◌, map, length, take, drop, refl, sym, ◌∙◌, ap, arith, length-append}
use Rattle.std.specs.List.{All, repeat, sum_by}
use Rattle.std.specs.Cmp.Lexicographic.{pointwise}
use Rattle.std.proofs.Math.Bool.{and_assoc}
use Rattle.std.proofs.Math.Nat.{suc-mul}
use Rattle.std.proofs.lemmas.List.Elements.{All-head, All-tail}
use Rattle.std.proofs.lemmas.List.Sums.{sum_by-cons}
use Rattle.dp_count.specs.DrawLists.{count, IsDrawList}
use Rattle.dp_count.specs.Ratios.{KeepsRatio}
use Rattle.dp_count.proofs.Counting.{count-append}
use Rattle.dp_count.proofs.DrawLists.{take-draws, drop-draws, IsDrawList-take, IsDrawList-drop}
use Rattle.dp_count.proofs.Ratios.{ratio-same, ratio-both}
use Rattle.dp_domain.specs.Domains.{Has}
use Rattle.dp_domain.specs.declared.values.Value.{Value}
use Rattle.dp_law.specs.declared.pieces.Piece.{Piece}
use Rattle.dp_law.specs.AnswerEquality.{piece_eq, same_answer}
use Rattle.dp_law.specs.Mechanism.{Mechanism, IsPrivate, ways}
use Rattle.dp_group.specs.Grouped.{answers_on}
use Rattle.dp_group.specs.GroupedLaw.{AreNear}

-- an answer in two parts is the same as another where the parts are
pointwise-parts : {E : Type 0} (same : E → E → Bool) (xs ys zs : List E)
    → pointwise same (xs ++ ys) zs
    ≡ (pointwise same xs (take (length xs) zs) && pointwise same ys (drop (length xs) zs))
pointwise-parts same [] ys zs = refl
pointwise-parts same (x ∷ xs) ys [] = refl
pointwise-parts same (x ∷ xs) ys (z ∷ zs) =
    ap (λ b. same x z && b) (pointwise-parts same xs ys zs) ∙ sym (and_assoc (same x z) _ _)

module _ (m : Mechanism) (law : IsPrivate m) where
  -- the draws of so many answers
  abbrev draws_of : ℕ → List ℕ
  draws_of n = repeat n m.shape

  -- how many draw lists give the answer on the values
  abbrev pub ways_on : List Value → List Piece → ℕ
  ways_on values answer = count (draws_of (length values)) (λ draws. same_answer (answers_on m values draws) answer)

  -- the first value's answer is cut off at the number of its pieces
  pub ways-cons : (v : Value) (values : List Value) (answer : List Piece) → Has m.input_domain v
      → ways_on (v ∷ values) answer ≡ ways m v (take m.pieces answer) * ways_on values (drop m.pieces answer)
  unfolding ways answers_on
  ways-cons v values answer has =
      count-append m.shape (draws_of (length values)) _ (λ d. same_answer (m.function v d) (take m.pieces answer))
      (λ e. same_answer (answers_on m values e) (drop m.pieces answer))
      (λ d e f g.
      rw (
        take-draws m.shape d e f,
        drop-draws m.shape d e f,
        pointwise-parts piece_eq (m.function v d) (answers_on m values e) answer,
        law.whole v d has f,
      ) refl)

  -- where each value's numbers keep the ratio at an exponent of its own, the joined ones keep it at the sum
  pub near-answers : {K : Type 0} (exponent : K → ℕ) (one other : K → Value) (keys : List K)
      → ((k : K) → Has m.input_domain (one k)) → ((k : K) → Has m.input_domain (other k))
      → ((k : K) (answer : List Piece) → AreNear m (exponent k) answer (one k) (other k)) → (answer : List Piece)
      → KeepsRatio m.ratio.p m.ratio.q (sum_by exponent keys) (ways_on (map one keys) answer)
      (ways_on (map other keys) answer)
  unfolding count answers_on
  near-answers exponent one other [] has_one has_other near answer =
      ratio-same m.ratio.p m.ratio.q (ways_on [] answer)
  near-answers exponent one other (key ∷ keys) has_one has_other near answer =
      let first = near key (take m.pieces answer) in
      let rest = near-answers exponent one other keys has_one has_other near (drop m.pieces answer) in
      rw (
        sum_by-cons exponent key keys,
        ways-cons (one key) (map one keys) answer (has_one key),
        ways-cons (other key) (map other keys) answer (has_other key),
      ) (ratio-both m.ratio.p m.ratio.q (exponent key) (sum_by exponent keys) _ _ _ _ first rest)

  -- the answers have all their pieces
  pub answers-whole : (values : List Value) (draws : List ℕ) → All (Has m.input_domain) values
      → IsDrawList (draws_of (length values)) draws → length (answers_on m values draws) ≡ length values * m.pieces
  unfolding answers_on
  answers-whole [] draws has fits = omega arith
  answers-whole (v ∷ values) draws has fits =
      let front = take (length m.shape) draws in
      let back = drop (length m.shape) draws in
      let more = draws_of (length values) in
      let joined = length-append (m.function v front) (answers_on m values back) in
      let has_v = All-head (Has m.input_domain) v values has in
      let has_values = All-tail (Has m.input_domain) v values has in
      let first = law.whole v front has_v (IsDrawList-take m.shape more draws fits) in
      let rest = answers-whole values back has_values (IsDrawList-drop m.shape more draws fits) in
      rw suc-mul (omega arith)
