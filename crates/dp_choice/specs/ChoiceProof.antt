-- Weighted choice is private.
use Rattle.std.proofs.Common.{◌≡◌, ℕ, suc, ◌+◌, ◌-◌, ◌*◌, ◌^◌, ◌≤◌, ◌<◌, ℤ, ◌≤ℤ◌, Bool, true, false, cond, ◌&&◌, List, [], ◌∷◌, length, Some, refl, ◌∙◌, subst, arith, add-one, eqb, ltb}
use Rattle.std.specs.Prelude.{slice_index}
use Rattle.std.specs.List.{sum}
use Rattle.std.proofs.Math.Bool.{and-false, and-true}
use Rattle.std.proofs.lemmas.Bool.Decides.{nat_tests}
use Rattle.std.proofs.lemmas.List.Elements.{All-cons, All-nil}
use Rattle.dp_count.specs.DrawLists.{count, IsDrawList}
use Rattle.dp_count.specs.Ratios.{KeepsRatio}
use Rattle.dp_count.proofs.Counting.{count-interval, count-never}
use Rattle.dp_count.proofs.Ratios.{ratio-same, ratio-none, ratio-both, ratio-powers}
use Rattle.dp_num.specs.Limits.{Fraction, ArePowers, capped}
use Rattle.dp_domain.specs.Distance.{l1}
use Rattle.dp_domain.proofs.VectorDistance.{l1-swap, l1-zero}
use Rattle.dp_domain.specs.declared.domains.Domain.TheVariants as domain
use Rattle.dp_domain.specs.declared.metrics.Metric.TheVariants as metrics
use Rattle.dp_domain.specs.declared.values.Value.{Value}
use Rattle.dp_domain.specs.declared.values.Value.TheVariants as value
use Rattle.dp_domain.specs.Domains.{Fits, Has}
use Rattle.dp_domain.specs.Metrics.{Within}
use Rattle.dp_law.specs.declared.pieces.Piece.{Piece}
use Rattle.dp_law.specs.declared.pieces.Piece.TheVariants as piece
use Rattle.dp_law.specs.Mechanism.{ways, IsBelowOne, IsBound, IsPrivate}
use Rattle.dp_law.proofs.Caps.{capped-same, capped-le}
use Rattle.dp_choice.specs.Weights.{ChoiceNumbers, weights, greatest, first_weight, all_draws}
use Rattle.dp_choice.specs.Shares.{share, chosen, chosen_by}
use Rattle.dp_choice.specs.Choice.{choose, choice_loss, choice_of, choice}
use Rattle.dp_choice.specs.ChoicePrivacy.{HasRoom, PrivacyLaw}
use Rattle.dp_choice.specs.ChoiceWays.{IsShareOf, WaysLaw}
use Rattle.dp_choice.specs.WeightProof.{length-weights, weights-near, cell-near, cell-least, weights-most, weights-positive}
use Rattle.dp_choice.specs.PlaceProof.{shares-rise, chosen-interval, chosen-below, share-bounds}
use Rattle.dp_choice.specs.ShareProof.{room, share-ratio}

-- how many draws choose the place j
place_ways : ℕ → List ℕ → ℕ → ℕ
place_ways n ws j = count (n ∷ []) (λ draws. eqb (chosen_by n ws draws) j && true)

place_ways-inside : (n : ℕ) (ws : List ℕ) (j : ℕ) → 1 ≤ sum ws → j < length ws → place_ways n ws j ≡ share n ws (suc j) - share n ws j
unfolding place_ways
place_ways-inside n ws j h below =
    let r = shares-rise n ws h in
    let whole = r.whole in
    let last = r.rise (suc j) (length ws) (omega arith) in
    count-interval n (share n ws j) (share n ws (suc j)) _ (r.rise j (suc j) (omega arith)) (omega arith)
    (λ x i. and-true (eqb (chosen n ws x) j) ∙ chosen-interval n ws x j h below i)

never-by : (a given len : ℕ) → given < len → len ≤ a → (eqb given a && true) ≡ false
never-by a given len below out = grind (arith, nat_tests)

outside-by : (n : ℕ) (ws : List ℕ) (j : ℕ) → 1 ≤ length ws → length ws ≤ j → (d : List ℕ) → IsDrawList (n ∷ []) d → (eqb (chosen_by n ws d) j && true) ≡ false
unfolding IsDrawList
outside-by n ws j h out [] f = absurd f
outside-by n ws j h out (x ∷ d) f = never-by j (chosen n ws x) (length ws) (chosen-below n ws x h) out

place_ways-outside : (n : ℕ) (ws : List ℕ) (j : ℕ) → 1 ≤ length ws → length ws ≤ j → place_ways n ws j ≡ 0
unfolding place_ways
place_ways-outside n ws j h out = count-never (n ∷ []) _ (outside-by n ws j h out)

place_ways-share : (n : ℕ) (ws : List ℕ) (j : ℕ) → 1 ≤ sum ws → j < length ws → IsShareOf n ws j (place_ways n ws j)
place_ways-share n ws j h below =
    let is = place_ways-inside n ws j h below in
    let bounds = share-bounds n ws j h below in
    record { exact = rw add-one is; least = rw is bounds.0; most = rw is bounds.1 }

-- what the law asks of the numbers, beside the domain and the draws
record AreSound (n first : ℕ) (ratio : Fraction) (u : ℕ) (c : ChoiceNumbers) : Type 0 where
  first_some : 1 ≤ first
  order : ratio.p ≤ ratio.q
  positive : 1 ≤ c.low
  rise : c.low ≤ c.high
  low_is : c.low ≡ ratio.p ^ u
  high_is : c.high ≡ ratio.q ^ u
  ordered : c.floor ≤ℤ c.top
  room : HasRoom n first ratio c
  some : 1 ≤ c.len

-- vectors of as many cells as the domain's, at most d apart
record AreNear (c : ChoiceNumbers) (d : ℕ) (xs ys : List ℤ) : Type 0 where
  left : length xs ≡ c.len
  right : length ys ≡ c.len
  near : l1 xs ys ≤ d

-- one place on vectors that are near
place-near : (n first : ℕ) (ratio : Fraction) (u : ℕ) (c : ChoiceNumbers) (d : ℕ) (xs ys : List ℤ) (j : ℕ) → AreSound n first ratio u c → AreNear c d xs ys → j < c.len →
    KeepsRatio ratio.p ratio.q (u * (d + d) + 1) (place_ways n (weights first c xs) j) (place_ways n (weights first c ys) j)
place-near n first ratio u c d xs ys j h v below =
    let a = h.first_some in
    let b = h.positive in
    let r = h.rise in
    let same_x = v.left in
    let same_y = v.right in
    let near = v.near in
    let ws = weights first c xs in
    let vs = weights first c ys in
    let len_w = length-weights first c xs in
    let len_v = length-weights first c ys in
    let swap = l1-swap xs ys (omega arith) in
    let pos_w : 1 ≤ sum ws = weights-positive first c xs a b r (omega arith) in
    let pos_v : 1 ≤ sum vs = weights-positive first c ys a b r (omega arith) in
    let share_w = place_ways-share n ws j pos_w (omega arith) in
    let share_v = place_ways-share n vs j pos_v (omega arith) in
    let front : KeepsRatio c.low c.high d (slice_index ws j) (slice_index vs j) = cell-near first d c xs ys j b r h.ordered (omega arith) near (omega arith) in
    let back : KeepsRatio c.low c.high d (sum vs) (sum ws) = weights-near first d c ys xs b r h.ordered (omega arith) (omega arith) in
    let both = ratio-both c.low c.high d d _ _ _ _ front back in
    let in_units : KeepsRatio ratio.p ratio.q (u * (d + d)) (slice_index ws j * sum vs) (slice_index vs j * sum ws) = ratio-powers ratio.p ratio.q u (d + d) _ _ (rw (← h.low_is, ← h.high_is) both) in
    let least = cell-least first c ys j b r (omega arith) in
    let most : sum vs ≤ c.len * greatest first c = subst (λ (m : ℕ). sum vs ≤ m * greatest first c) same_y (weights-most first c ys b r h.ordered) in
    let left = room n first (slice_index vs j) (c.len * greatest first c) (sum vs) ratio.p ratio.q least h.order most h.room in
    share-ratio (place_ways n ws j) (place_ways n vs j) n (slice_index ws j) (slice_index vs j) (sum ws) (sum vs) ratio.p ratio.q (u * (d + d)) pos_w pos_v h.order
    (omega (arith, share_w.most)) (omega (arith, share_v.least)) in_units left

place-private : (inside : Bool) (n first : ℕ) (ratio : Fraction) (u : ℕ) (c : ChoiceNumbers) (d : ℕ) (xs ys : List ℤ) (j : ℕ) → ltb j c.len ≡ inside → AreSound n first ratio u c → AreNear c d xs ys →
    KeepsRatio ratio.p ratio.q (2 * u * d + 1) (place_ways n (weights first c xs) j) (place_ways n (weights first c ys) j)
place-private true n first ratio u c d xs ys j e h v =
    let units : u * (d + d) + 1 ≡ 2 * u * d + 1 = omega arith in
    subst (λ (k : ℕ). KeepsRatio ratio.p ratio.q k (place_ways n (weights first c xs) j) (place_ways n (weights first c ys) j)) units
    (place-near n first ratio u c d xs ys j h v (grind (arith, nat_tests)))
place-private false n first ratio u c d xs ys j e h v =
    let out : c.len ≤ j = grind (arith, nat_tests) in
    let some = h.some in
    let same_x = v.left in
    let len_w = length-weights first c xs in
    rw (place_ways-outside n (weights first c xs) j (omega arith) (omega arith)) (ratio-none ratio.p ratio.q (2 * u * d + 1) (place_ways n (weights first c ys) j))

-- every answer: one category, or none
answer_ways : ℕ → List ℕ → List Piece → ℕ
answer_ways n ws (piece.Cat j ∷ []) = place_ways n ws j
answer_ways n ws _ = 0

ways-answer : (n first : ℕ) (ratio : Fraction) (u : ℕ) (c : ChoiceNumbers) (cells : List ℤ) (answer : List Piece) →
    ways (choice_of n first ratio u c) (value.IntVec cells) answer ≡ answer_ways n (weights first c cells) answer
unfolding ways answer_ways place_ways
ways-answer n first ratio u c cells [] = count-never (n ∷ []) _ (λ d f. refl)
ways-answer n first ratio u c cells (piece.Int z ∷ rest) = count-never (n ∷ []) _ (λ d f. refl)
ways-answer n first ratio u c cells (piece.IntVec zs ∷ rest) = count-never (n ∷ []) _ (λ d f. refl)
ways-answer n first ratio u c cells (piece.Cat j ∷ []) = refl
ways-answer n first ratio u c cells (piece.Cat j ∷ (other ∷ rest)) = count-never (n ∷ []) _ (λ d f. and-false (eqb (chosen_by n (weights first c cells) d) j))

-- an answer that is no cell's place
never-at : (inside : Bool) (n : ℕ) (ws : List ℕ) (j : ℕ) → ltb j (length ws) ≡ inside → 1 ≤ length ws → (j < length ws → ⊥) → place_ways n ws j ≡ 0
never-at true n ws j e some h = absurd (h (grind (arith, nat_tests)))
never-at false n ws j e some h = place_ways-outside n ws j some (grind (arith, nat_tests))

answer-never : (n : ℕ) (ws : List ℕ) (answer : List Piece) → 1 ≤ length ws → ((j : ℕ) → j < length ws → answer ≡ piece.Cat j ∷ [] → ⊥) → answer_ways n ws answer ≡ 0
unfolding answer_ways
answer-never n ws [] some h = refl
answer-never n ws (piece.Int z ∷ rest) some h = refl
answer-never n ws (piece.IntVec zs ∷ rest) some h = refl
answer-never n ws (piece.Cat j ∷ []) some h = never-at (ltb j (length ws)) n ws j refl some (λ below. h j below refl)
answer-never n ws (piece.Cat j ∷ (next ∷ rest)) some h = refl

-- the law of the numbers
pub choice_ways : WaysLaw
unfolding ways place_ways
choice_ways = record {
  cell = λ n first ratio u c cells j a b r h.
      let same = length-weights first c cells in
      place_ways-share n (weights first c cells) j (weights-positive first c cells a b r (omega arith)) (omega arith);
  other = λ n first ratio u c cells answer some h.
      let same = length-weights first c cells in
      ways-answer n first ratio u c cells answer
      ∙ answer-never n (weights first c cells) answer (omega arith) (λ j below. h j (omega arith));
}

answer-private : (n first : ℕ) (ratio : Fraction) (u : ℕ) (c : ChoiceNumbers) (d : ℕ) (xs ys : List ℤ) (answer : List Piece) → AreSound n first ratio u c → AreNear c d xs ys →
    KeepsRatio ratio.p ratio.q (2 * u * d + 1) (answer_ways n (weights first c xs) answer) (answer_ways n (weights first c ys) answer)
unfolding answer_ways
answer-private n first ratio u c d xs ys [] h v = ratio-none ratio.p ratio.q (2 * u * d + 1) 0
answer-private n first ratio u c d xs ys (piece.Int z ∷ rest) h v = ratio-none ratio.p ratio.q (2 * u * d + 1) 0
answer-private n first ratio u c d xs ys (piece.IntVec zs ∷ rest) h v = ratio-none ratio.p ratio.q (2 * u * d + 1) 0
answer-private n first ratio u c d xs ys (piece.Cat j ∷ (other ∷ rest)) h v = ratio-none ratio.p ratio.q (2 * u * d + 1) 0
answer-private n first ratio u c d xs ys (piece.Cat j ∷ []) h v = place-private (ltb j c.len) n first ratio u c d xs ys j refl h v

-- at the distance 0 the vectors are the same
vectors-private : (zero_apart : Bool) (n first : ℕ) (ratio : Fraction) (u : ℕ) (c : ChoiceNumbers) (d k : ℕ) (xs ys : List ℤ) (answer : List Piece) → eqb d 0 ≡ zero_apart → cond zero_apart (Some 0) (capped (2 * u * d + 1)) ≡ Some k →
    AreSound n first ratio u c → AreNear c d xs ys →
    KeepsRatio ratio.p ratio.q k (ways (choice_of n first ratio u c) (value.IntVec xs) answer) (ways (choice_of n first ratio u c) (value.IntVec ys) answer)
vectors-private true n first ratio u c d k xs ys answer e is h v =
    let none : d ≡ 0 = grind (arith, nat_tests) in
    let loss : 0 ≡ k = cc in
    let same : xs ≡ ys = l1-zero xs ys (omega (arith, v.left, v.right)) (omega (arith, v.near)) in
    let m = choice_of n first ratio u c in
    subst (λ (x : ℕ). KeepsRatio ratio.p ratio.q x (ways m (value.IntVec xs) answer) (ways m (value.IntVec ys) answer)) loss
    (subst (λ (zs : List ℤ). KeepsRatio ratio.p ratio.q 0 (ways m (value.IntVec xs) answer) (ways m (value.IntVec zs) answer)) same (ratio-same ratio.p ratio.q _))
vectors-private false n first ratio u c d k xs ys answer e is h v =
    let m = choice_of n first ratio u c in
    subst (λ (x : ℕ). KeepsRatio ratio.p ratio.q x (ways m (value.IntVec xs) answer) (ways m (value.IntVec ys) answer)) (capped-same (2 * u * d + 1) k is)
    (rw (ways-answer n first ratio u c xs answer, ways-answer n first ratio u c ys answer) (answer-private n first ratio u c d xs ys answer h v))

private-at : (n first : ℕ) (ratio : Fraction) (u : ℕ) (c : ChoiceNumbers) (d k : ℕ) (v w : Value) (answer : List Piece) → choice_loss u d ≡ Some k → AreSound n first ratio u c →
    Has (domain.IntVec c.len c.least c.most) v → Has (domain.IntVec c.len c.least c.most) w → Within metrics.L1 d v w →
    KeepsRatio ratio.p ratio.q k (ways (choice_of n first ratio u c) v answer) (ways (choice_of n first ratio u c) w answer)
private-at n first ratio u c d k (value.IntVec xs) (value.IntVec ys) answer is h has_v has_w near =
    vectors-private (eqb d 0) n first ratio u c d k xs ys answer refl is h (record { left = has_v.0; right = has_w.0; near = near.1 })
private-at n first ratio u c d k (value.IntVec xs) w answer is h has_v has_w near = absurd has_w
private-at n first ratio u c d k v w answer is h has_v has_w near = absurd has_v

choose-whole : (n first : ℕ) (c : ChoiceNumbers) (v : Value) (draws : List ℕ) → Has (domain.IntVec c.len c.least c.most) v → length (choose n first c v draws) ≡ 1
choose-whole n first c (value.IntVec xs) draws has = refl
choose-whole n first c v draws has = absurd has

loss-limited : (t : Bool) (u d k : ℕ) → cond t (Some 0) (capped (2 * u * d + 1)) ≡ Some k → k ≤ 2 ^ 32
loss-limited true u d k is = let same : 0 ≡ k = cc in omega arith
loss-limited false u d k is = capped-le (2 * u * d + 1) k is

-- the law of weighted choice, for n draws
pub choice_law_of : PrivacyLaw
choice_law_of n first ratio u c positive few a input below b r lows highs f fits =
    let sound : AreSound n first ratio u c = record {
      first_some = a;
      order = omega (arith, below.1);
      positive = b;
      rise = r;
      low_is = lows;
      high_is = highs;
      ordered = f;
      room = fits;
      some = omega (arith, input.0.0);
    } in
    record {
      input_fits = input;
      input_suits = tt;
      below_one = below;
      few_draws = omega arith;
      bounds = All-cons IsBound n [] (positive, few) (All-nil IsBound);
      few_pieces = omega arith;
      whole = λ v draws has g. choose-whole n first c v draws has;
      limited = λ d k is. loss-limited (eqb d 0) u d k is;
      private = λ d k v w answer is has_v has_w near. private-at n first ratio u c d k v w answer is sound has_v has_w near;
    }

-- the law of weighted choice
pub choice_law : (ratio : Fraction) (u : ℕ) (c : ChoiceNumbers) → Fits (domain.IntVec c.len c.least c.most) → IsBelowOne ratio.p ratio.q → ArePowers ratio.p ratio.q u (c.low, c.high) → c.floor ≤ℤ c.top →
    HasRoom all_draws first_weight ratio c → IsPrivate (choice ratio u c)
choice_law ratio u c input below powers f fits =
    choice_law_of all_draws first_weight ratio u c (omega arith) (omega arith) (omega arith) input below powers.positive (omega (arith, powers.below_one)) powers.low powers.high f fits
