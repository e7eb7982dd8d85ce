-- Randomised response is private.
use Rattle.std.proofs.Common.{◌≡◌, ℕ, suc, ◌+◌, ◌-◌, ◌*◌, ◌/◌, ◌^◌, ◌≤◌, ◌<◌, Bool, true, false, cond, ◌&&◌, List, [], ◌∷◌, min, refl, sym, ◌∙◌, subst, arith, eqb, leb, ltb, ◌⊎◌, inl, inr, length}
use Rattle.std.proofs.Math.Nat.{mul-le-mul_left, mul-le-mul_right, div-mul-le_self, lt-div-mul-add}
use Rattle.std.proofs.Math.Bool.{and-false}
use Rattle.std.proofs.lemmas.Bool.Decides.{nat_tests}
use Rattle.std.proofs.lemmas.List.Elements.{All-cons, All-nil}
use Rattle.dp_count.specs.DrawLists.{IsDrawList}
use Rattle.dp_count.specs.Ratios.{KeepsRatio}
use Rattle.dp_count.proofs.Counting.{count-interval, count-never}
use Rattle.dp_count.proofs.Ratios.{ratio-same, ratio-more}
use Rattle.dp_num.specs.Limits.{Fraction, ArePowers}
use Rattle.dp_domain.specs.declared.domains.Domain.TheVariants as domain
use Rattle.dp_domain.specs.declared.metrics.Metric.TheVariants as metrics
use Rattle.dp_domain.specs.declared.values.Value.{Value}
use Rattle.dp_domain.specs.declared.values.Value.TheVariants as value
use Rattle.dp_domain.specs.Domains.{Fits, Has}
use Rattle.dp_domain.specs.Metrics.{Within}
use Rattle.dp_law.specs.declared.pieces.Piece.{Piece}
use Rattle.dp_law.specs.declared.pieces.Piece.TheVariants as piece
use Rattle.dp_law.specs.Mechanism.{ways, IsBelowOne, IsBound, IsPrivate}
use Rattle.dp_law.proofs.Caps.{capped-same, capped-le}
use Rattle.dp_response.specs.Response.{ReplyNumbers, draw_bound, reply, reply_to, respond, response}
use Rattle.dp_response.specs.ResponseWays.{draws_for, WaysLaw}

-- blocks of low numbers do not overlap
block-after : (low j k : ℕ) → j < k → j * low + low ≤ k * low
block-after low j k h = omega (arith, mul-le-mul_right {m = suc j} {n = k} low (omega arith))

-- y lies in the block of its quotient, and in no other
block-is : (low y j k : ℕ) → j * low ≤ y → y < j * low + low → eqb j k ≡ (leb (k * low) y && ltb y (k * low + low))
block-is low y j k from to = let before = block-after low j k in let after = block-after low k j in grind (arith, nat_tests)

-- a draw gives the true value exactly where it is below high
true-by : (high truth draw place : ℕ) → (eqb (cond (ltb draw high) truth (cond (ltb place truth) place (place + 1))) truth && true) ≡ (leb 0 draw && ltb draw high)
true-by high truth draw place = grind (arith, nat_tests)

-- the place of a value among the others
abbrev place_of : ℕ → ℕ → ℕ
place_of truth a = cond (ltb a truth) a (a - 1)

-- .. and another value exactly in that value's block
other-by : (high truth a draw place : ℕ) (block : Bool) → eqb a truth ≡ false → eqb place (place_of truth a) ≡ block →
    (eqb (cond (ltb draw high) truth (cond (ltb place truth) place (place + 1))) a && true) ≡ (leb high draw && block)
other-by high truth a draw place block apart same = grind (arith, nat_tests)

shifted : (high draw from to : ℕ) → (leb high draw && (leb from (draw - high) && ltb (draw - high) to)) ≡ (leb (high + from) draw && ltb draw (high + to))
shifted high draw from to = grind (arith, nat_tests)

-- the block of a value lies below the bound
place-below : (c : ReplyNumbers) (truth a : ℕ) → truth < c.n → a < c.n → eqb a truth ≡ false → c.high + place_of truth a * c.low + c.low ≤ draw_bound c
place-below c truth a t h apart =
    let below : suc (place_of truth a) ≤ c.n - 1 = grind (arith, nat_tests) in
    let rows = mul-le-mul_right {m = suc (place_of truth a)} {n = c.n - 1} c.low below in
    omega arith

-- the block of a draw
quotient-from : (low y : ℕ) → y / low * low ≤ y
quotient-from low y = div-mul-le_self y low

quotient-to : (low y : ℕ) → 1 ≤ low → y < y / low * low + low
quotient-to low y h = lt-div-mul-add {a = y} {b = low} h

reply-by : (c : ReplyNumbers) (truth draw place : ℕ) → truth < c.n → draw < draw_bound c → place * c.low ≤ draw - c.high → cond (ltb draw c.high) truth (cond (ltb place truth) place (place + 1)) < c.n
reply-by c truth draw place t below from =
    let rows = mul-le-mul_right {m = c.n - 1} {n = place} c.low in
    grind (arith, nat_tests)

-- a draw below the bound gives a value of the domain
pub reply-below : (c : ReplyNumbers) (truth draw : ℕ) → truth < c.n → draw < draw_bound c → reply c truth draw < c.n
reply-below c truth draw t below = reply-by c truth draw ((draw - c.high) / c.low) t below (quotient-from c.low (draw - c.high))

ways-true : (ratio : Fraction) (u : ℕ) (c : ReplyNumbers) (truth : ℕ) → ways (response ratio u c) (value.Cat truth) (piece.Cat truth ∷ []) ≡ c.high
unfolding ways
ways-true ratio u c truth =
    count-interval (draw_bound c) 0 c.high _ (omega arith) (omega arith) (λ x _. true-by c.high truth x ((x - c.high) / c.low)) ∙ omega arith

ways-other : (ratio : Fraction) (u : ℕ) (c : ReplyNumbers) (truth a : ℕ) → 1 ≤ c.low → truth < c.n → a < c.n → eqb a truth ≡ false → ways (response ratio u c) (value.Cat truth) (piece.Cat a ∷ []) ≡ c.low
unfolding ways
ways-other ratio u c truth a h t below apart =
    let block = place_of truth a * c.low in
    count-interval (draw_bound c) (c.high + block) (c.high + (block + c.low)) _ (omega arith) (omega (arith, place-below c truth a t below apart))
    (λ x _. other-by c.high truth a x ((x - c.high) / c.low) _ apart (block-is c.low (x - c.high) ((x - c.high) / c.low) (place_of truth a) (quotient-from c.low (x - c.high)) (quotient-to c.low (x - c.high) h))
    ∙ shifted c.high x block (block + c.low))
    ∙ omega arith

-- a category past the domain is given by no draw
never-by : (a given n : ℕ) → given < n → ltb a n ≡ false → (eqb given a && true) ≡ false
never-by a given n below out = grind (arith, nat_tests)

outside-by : (c : ReplyNumbers) (truth a : ℕ) → truth < c.n → ltb a c.n ≡ false → (d : List ℕ) → IsDrawList (draw_bound c ∷ []) d → (eqb (reply_to c truth d) a && true) ≡ false
unfolding IsDrawList
outside-by c truth a t out [] f = absurd f
outside-by c truth a t out (x ∷ d) f = never-by a (reply c truth x) c.n (reply-below c truth x t f.0) out

ways-outside : (ratio : Fraction) (u : ℕ) (c : ReplyNumbers) (truth a : ℕ) → truth < c.n → ltb a c.n ≡ false → ways (response ratio u c) (value.Cat truth) (piece.Cat a ∷ []) ≡ 0
unfolding ways
ways-outside ratio u c truth a t out = count-never (draw_bound c ∷ []) _ (outside-by c truth a t out)

ways-cat : (ratio : Fraction) (u : ℕ) (c : ReplyNumbers) (truth a : ℕ) (is inside : Bool) → eqb a truth ≡ is → ltb a c.n ≡ inside → 1 ≤ c.low → truth < c.n →
    ways (response ratio u c) (value.Cat truth) (piece.Cat a ∷ []) ≡ cond is c.high (cond inside c.low 0)
ways-cat ratio u c truth a true inside e f h t =
    let same : a ≡ truth = grind (arith, nat_tests) in
    rw same (ways-true ratio u c truth)
ways-cat ratio u c truth a false true e f h t = ways-other ratio u c truth a h t (grind (arith, nat_tests)) e
ways-cat ratio u c truth a false false e f h t = ways-outside ratio u c truth a t f

-- the number of draws for every answer
pub response_ways : WaysLaw
unfolding ways
response_ways ratio u c truth [] h t = count-never (draw_bound c ∷ []) _ (λ d f. refl)
response_ways ratio u c truth (piece.Int z ∷ rest) h t = count-never (draw_bound c ∷ []) _ (λ d f. refl)
response_ways ratio u c truth (piece.IntVec zs ∷ rest) h t = count-never (draw_bound c ∷ []) _ (λ d f. refl)
response_ways ratio u c truth (piece.Cat a ∷ []) h t = ways-cat ratio u c truth a (eqb a truth) (ltb a c.n) refl refl h t
response_ways ratio u c truth (piece.Cat a ∷ (other ∷ rest)) h t = count-never (draw_bound c ∷ []) _ (λ d f. and-false (eqb (reply_to c truth d) a))

-- one answer on two values: one step of the ratio low / high at most
near-by : (low high a t s n : ℕ) → low ≤ high → t < n → s < n →
    cond (eqb a t) high (cond (ltb a n) low 0) * low ≤ high * cond (eqb a s) high (cond (ltb a n) low 0)
near-by low high a t s n h k l =
    let squares = mul-le-mul_left {m = low} {n = high} low h in
    let mixed = mul-le-mul_left {m = low} {n = high} high h in
    grind (arith, nat_tests)

draws-near : (c : ReplyNumbers) (t s : ℕ) (answer : List Piece) → c.low ≤ c.high → t < c.n → s < c.n → draws_for c t answer * c.low ≤ c.high * draws_for c s answer
draws-near c t s [] h k l = omega arith
draws-near c t s (piece.Int z ∷ rest) h k l = omega arith
draws-near c t s (piece.IntVec zs ∷ rest) h k l = omega arith
draws-near c t s (piece.Cat a ∷ []) h k l = near-by c.low c.high a t s c.n h k l
draws-near c t s (piece.Cat a ∷ (other ∷ rest)) h k l = omega arith

-- the privacy of the replies on two values, at so many units
abbrev KeepsAt : Fraction → ℕ → ReplyNumbers → ℕ → Value → Value → List Piece → Type 0
KeepsAt ratio u c k v w answer = KeepsRatio ratio.p ratio.q k (ways (response ratio u c) v answer) (ways (response ratio u c) w answer)

-- different values: u units
different-private : (ratio : Fraction) (u : ℕ) (c : ReplyNumbers) (t s : ℕ) (answer : List Piece) → ArePowers ratio.p ratio.q u (c.low, c.high) → t < c.n → s < c.n →
    KeepsAt ratio u c u (value.Cat t) (value.Cat s) answer
different-private ratio u c t s answer powers tn sn =
    rw (response_ways ratio u c t answer powers.positive tn, response_ways ratio u c s answer powers.positive sn, ← powers.low, ← powers.high) (draws-near c t s answer (omega (arith, powers.below_one)) tn sn)

private-by : (ratio : Fraction) (u : ℕ) (c : ReplyNumbers) (d t s : ℕ) (answer : List Piece) → ratio.p < ratio.q → ArePowers ratio.p ratio.q u (c.low, c.high) → t < c.n → s < c.n → (t ≡ s) ⊎ (1 ≤ d) →
    KeepsAt ratio u c (u * min d 1) (value.Cat t) (value.Cat s) answer
private-by ratio u c d t s answer below powers tn sn (inl same) =
    subst (λ (x : ℕ). KeepsAt ratio u c (u * min d 1) (value.Cat t) (value.Cat x) answer) same
    (ratio-more ratio.p ratio.q 0 (u * min d 1) _ _ (omega arith) (omega arith) (ratio-same ratio.p ratio.q (ways (response ratio u c) (value.Cat t) answer)))
private-by ratio u c d t s answer below powers tn sn (inr far) =
    let one : u * min d 1 ≡ u = let e : min d 1 ≡ 1 = omega arith in rw e (omega arith) in
    subst (λ (k : ℕ). KeepsAt ratio u c k (value.Cat t) (value.Cat s) answer) (sym one) (different-private ratio u c t s answer powers tn sn)

private-at : (ratio : Fraction) (u : ℕ) (c : ReplyNumbers) (d k : ℕ) (v w : Value) (answer : List Piece) → ratio.p < ratio.q → ArePowers ratio.p ratio.q u (c.low, c.high) → u * min d 1 ≡ k →
    Has (domain.Cat c.n) v → Has (domain.Cat c.n) w → Within metrics.Discrete d v w → KeepsAt ratio u c k v w answer
private-at ratio u c d k (value.Cat t) (value.Cat s) answer below powers same tn sn near =
    subst (λ (k : ℕ). KeepsAt ratio u c k (value.Cat t) (value.Cat s) answer) same (private-by ratio u c d t s answer below powers tn sn near)
private-at ratio u c d k (value.Cat t) w answer below powers same tn sn near = absurd sn
private-at ratio u c d k v w answer below powers same tn sn near = absurd tn

response-whole : (c : ReplyNumbers) (v : Value) (draws : List ℕ) → Has (domain.Cat c.n) v → length (respond c v draws) ≡ 1
response-whole c (value.Cat t) draws has = refl
response-whole c v draws has = absurd has

-- the law of randomised response
pub response_law : (ratio : Fraction) (u : ℕ) (c : ReplyNumbers) → Fits (domain.Cat c.n) → IsBelowOne ratio.p ratio.q → ArePowers ratio.p ratio.q u (c.low, c.high) → draw_bound c ≤ 2 ^ 62 → IsPrivate (response ratio u c)
response_law ratio u c input below powers bounded = record {
  input_fits = input;
  input_suits = tt;
  below_one = below;
  few_draws = omega arith;
  bounds = All-cons IsBound (draw_bound c) [] (omega (arith, powers.below_one), bounded) (All-nil IsBound);
  few_pieces = omega arith;
  whole = λ v draws has f. response-whole c v draws has;
  limited = λ d k map_is. capped-le (u * min d 1) k map_is;
  private = λ d k v w answer map_is has_v has_w near. private-at ratio u c d k v w answer below.1 powers (capped-same (u * min d 1) k map_is) has_v has_w near;
}
