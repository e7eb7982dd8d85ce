-- Which draws choose a place: those from the share before the place to the share with it.
use Rattle.std.proofs.Common.{◌≡◌, ℕ, zero, suc, ◌+◌, ◌-◌, ◌*◌, ◌≤◌, ◌<◌, Bool, true, false, ◌&&◌, List, [], length, take, refl, ◌∙◌, ap, arith, ltb, leb, eqb, add-one}
use Rattle.std.specs.Prelude.{slice_index}
use Rattle.std.specs.List.{sum}
use Rattle.std.proofs.lemmas.Bool.{ne_eqb}
use Rattle.std.proofs.lemmas.Bool.Decides.{nat_tests}
use Rattle.std.proofs.lemmas.List.Sums.{sum_by_more}
use Rattle.std.proofs.Math.Seq.{take-length}
use Rattle.std.proofs.Math.Nat.{mul-le-mul_left, div-mul-le_self, lt-div-mul-add, mul-div_left, zero-div}
use Rattle.dp_count.proofs.Floors.{bounds-by, div-grows, take-grows}
use Rattle.dp_choice.specs.Shares.{share, last_below, chosen}

-- the last number that meets a test, for one that does and after which none does
last_by : (same : Bool) (n j : ℕ) (test : ℕ → Bool) → eqb n j ≡ same → j < suc n → test j ≡ true → ((k : ℕ) → j < k → k < suc n → test k ≡ false) → (j < n → last_below n test ≡ j) → last_below (suc n) test ≡ j
unfolding last_below
last_by true n j test e h met after rest = let here : n ≡ j = grind (arith, nat_tests) in rw (here, met) refl
last_by false n j test e h met after rest = let over : j < n = grind (arith, nat_tests) in rw (after n over (omega arith)) (rest over)

last_below-is : (n j : ℕ) (test : ℕ → Bool) → j < n → test j ≡ true → ((k : ℕ) → j < k → k < n → test k ≡ false) → last_below n test ≡ j
last_below-is zero j test h met after = absurd (omega arith)
last_below-is (suc n) j test h met after = last_by (eqb n j) n j test refl h met after (λ over. last_below-is n j test over met (λ k a b. after k a (omega arith)))

-- one number more
last-hit : (n : ℕ) (test : ℕ → Bool) → test n ≡ true → last_below (suc n) test ≡ n
unfolding last_below
last-hit n test e = rw e refl

last-miss : (n : ℕ) (test : ℕ → Bool) → test n ≡ false → last_below (suc n) test ≡ last_below n test
unfolding last_below
last-miss n test e = rw e refl

-- it meets the test, where 0 does
meets-by : (t : Bool) (n : ℕ) (test : ℕ → Bool) → test n ≡ t → test (last_below n test) ≡ true → test (last_below (suc n) test) ≡ true
meets-by true n test e rest = rw (last-hit n test e) e
meets-by false n test e rest = rw (last-miss n test e) rest

last_below-meets : (n : ℕ) (test : ℕ → Bool) → test 0 ≡ true → test (last_below n test) ≡ true
unfolding last_below
last_below-meets zero test start = start
last_below-meets (suc n) test start = meets-by (test n) n test refl (last_below-meets n test start)

-- it is below the bound, where there is a number below
below-by : (t : Bool) (n : ℕ) (test : ℕ → Bool) → test n ≡ t → last_below n test ≤ n → last_below (suc n) test ≤ n
below-by true n test e rest = rw (last-hit n test e) (omega arith)
below-by false n test e rest = rw (last-miss n test e) rest

last_below-most : (n : ℕ) (test : ℕ → Bool) → last_below n test ≤ n - 1
unfolding last_below
last_below-most zero test = omega arith
last_below-most (suc n) test =
    let e : suc n - 1 ≡ n = omega arith in
    let ih = last_below-most n test in
    rw e (below-by (test n) n test refl (omega arith))

-- no later number below the bound meets the test
after-by : (t : Bool) (n k : ℕ) (test : ℕ → Bool) → test n ≡ t → last_below (suc n) test < k → k < suc n → (last_below n test < k → k < n → test k ≡ false) → test k ≡ false
after-by true n k test e over h rest = let is = last-hit n test e in absurd (omega arith)
after-by false n k test e over h rest = inner (eqb k n) refl
  where
    inner : (same : Bool) → eqb k n ≡ same → test k ≡ false
    inner true f = (let here : k ≡ n = grind (arith, nat_tests) in rw here e)
    inner false f = (let is = last-miss n test e in rest (omega arith) (grind (arith, nat_tests)))

last_below-after : (n k : ℕ) (test : ℕ → Bool) → last_below n test < k → k < n → test k ≡ false
last_below-after zero k test over h = absurd (omega arith)
last_below-after (suc n) k test over h = after-by (test n) n k test refl over h (last_below-after n k test)

-- bounds from 0 to n that do not fall
pub record Rising (bound : ℕ → ℕ) (len n : ℕ) : Type 0 where
  pub start : bound 0 ≡ 0
  pub whole : bound len ≡ n
  pub rise : (a b : ℕ) → a ≤ b → bound a ≤ bound b

too_late : (inner : Bool) (len n draw j : ℕ) (bound : ℕ → ℕ) → Rising bound len n → ltb (suc j) len ≡ inner → bound (suc j) ≤ draw → j < len → draw < n → last_below len (λ k. leb (bound k) draw) ≡ j → ⊥
too_late true len n draw j bound r e past h below same =
    let out = last_below-after len (suc j) (λ k. leb (bound k) draw) (omega arith) (grind (arith, nat_tests)) in
    let met : leb (bound (suc j)) draw ≡ true = grind (arith, nat_tests) in
    cc
too_late false len n draw j bound r e past h below same =
    let last : suc j ≡ len = grind (arith, nat_tests) in
    let all : bound (suc j) ≡ n = rw last r.whole in
    omega arith

-- the last of them that is at most a draw below n
interval-by : (from to : Bool) (len n draw j : ℕ) (bound : ℕ → ℕ) → Rising bound len n → leb (bound j) draw ≡ from → ltb draw (bound (suc j)) ≡ to →
    j < len → draw < n → eqb (last_below len (λ k. leb (bound k) draw)) j ≡ (from && to)
interval-by true true len n draw j bound r e f h below =
    let is : last_below len (λ k. leb (bound k) draw) ≡ j
    = last_below-is len j (λ k. leb (bound k) draw) h e (λ k a b. let over = r.rise (suc j) k a in grind (arith, nat_tests)) in
    rw is (grind (arith, nat_tests))
interval-by true false len n draw j bound r e f h below =
    let past : bound (suc j) ≤ draw = grind (arith, nat_tests) in
    ne_eqb _ j (λ same. too_late (ltb (suc j) len) len n draw j bound r refl past h below same)
interval-by false to len n draw j bound r e f h below =
    let zero_met : leb (bound 0) draw ≡ true = rw r.start (grind (arith, nat_tests)) in
    let met = last_below-meets len (λ k. leb (bound k) draw) zero_met in
    ne_eqb _ j (λ same. cc)

-- the shares of weights are such bounds
share-start : (n : ℕ) (ws : List ℕ) → share n ws 0 ≡ 0
share-start n ws = let none : n * sum [] ≡ 0 = omega arith in rw none (zero-div (sum ws))

share-whole : (n : ℕ) (ws : List ℕ) → 1 ≤ sum ws → share n ws (length ws) ≡ n
share-whole n ws h = rw take-length (mul-div_left n {n = sum ws} h)

share-rise : (n : ℕ) (ws : List ℕ) (a b : ℕ) → 1 ≤ sum ws → a ≤ b → share n ws a ≤ share n ws b
share-rise n ws a b h l = div-grows _ _ (sum ws) h (mul-le-mul_left n (take-grows ws a b l))

pub shares-rise : (n : ℕ) (ws : List ℕ) → 1 ≤ sum ws → Rising (share n ws) (length ws) n
shares-rise n ws h = record {
  start = share-start n ws;
  whole = share-whole n ws h;
  rise = λ a b l. share-rise n ws a b h l;
}

-- a draw chooses a place exactly where it lies from the share before the place to the share with it
pub chosen-interval : (n : ℕ) (ws : List ℕ) (draw j : ℕ) → 1 ≤ sum ws → j < length ws → draw < n → eqb (chosen n ws draw) j ≡ (leb (share n ws j) draw && ltb draw (share n ws (suc j)))
unfolding chosen
chosen-interval n ws draw j h below under = interval-by _ _ (length ws) n draw j (share n ws) (shares-rise n ws h) refl refl below under

pub chosen-below : (n : ℕ) (ws : List ℕ) (draw : ℕ) → 1 ≤ length ws → chosen n ws draw < length ws
unfolding chosen
chosen-below n ws draw h = let most = last_below-most (length ws) (λ j. leb (share n ws j) draw) in omega arith

-- the number of draws of a place, times the sum of the weights, lies strictly within one sum of the exact share
share-next : (n : ℕ) (ws : List ℕ) (j : ℕ) → j < length ws → n * sum (take (suc j) ws) ≡ n * sum (take j ws) + n * slice_index ws j
share-next n ws j h =
    let more = sum_by_more (λ x. x) ws j 0 h in
    let next : sum (take (suc j) ws) ≡ sum (take j ws) + slice_index ws j = rw add-one at more in
    ap (λ s. n * s) next ∙ omega arith

pub share-bounds : (n : ℕ) (ws : List ℕ) (j : ℕ) → 1 ≤ sum ws → j < length ws →
    (n * slice_index ws j < (share n ws (suc j) - share n ws j) * sum ws + sum ws) × ((share n ws (suc j) - share n ws j) * sum ws < n * slice_index ws j + sum ws)
share-bounds n ws j h below =
    let next = share-next n ws j below in
    let w = sum ws in
    bounds-by (n * sum (take j ws)) (n * slice_index ws j) w (share n ws j) (share n ws (suc j))
    (div-mul-le_self (n * sum (take j ws)) w) (lt-div-mul-add {a = n * sum (take j ws)} {b = w} h)
    (omega (arith, div-mul-le_self (n * sum (take (suc j) ws)) w)) (omega (arith, lt-div-mul-add {a = n * sum (take (suc j) ws)} {b = w} h))
    (share-rise n ws j (suc j) h (omega arith))
