-- Sums over the numbers below a bound, and the number of draw lists that meet a test.
use Rattle.std.proofs.Common.{◌≡◌, ℕ, zero, suc, ◌+◌, ◌-◌, ◌*◌, ◌≤◌, ◌<◌, Bool, true, false, cond, ◌&&◌, ◌||◌, List, [], ◌∷◌, ◌++◌, refl, sym, ◌∙◌, ap, min, arith, ltb, leb}
use Rattle.std.proofs.Math.Nat.{add-suc, add-zero, suc-mul, mul_comm}
use Rattle.std.proofs.lemmas.Bool.Decides.{nat_tests}
use Rattle.std.specs.List.{list_any, sum_by}
use Rattle.std.proofs.lemmas.List.Sums.{sum_by-cons}
use Rattle.dp_count.specs.CountingLaws.{AreApart}
use Rattle.dp_count.specs.DrawLists.{sum_below, count, IsDrawList}
use Rattle.dp_count.specs.Ratios.{product}

pub sum_below-same : (n : ℕ) (f g : ℕ → ℕ) → ((i : ℕ) → i < n → f i ≡ g i) → sum_below n f ≡ sum_below n g
unfolding sum_below
sum_below-same zero f g h = refl
sum_below-same (suc n) f g h =
    let front = sum_below-same n f g (λ i b. h i (omega arith)) in
    let last = h n (omega arith) in
    cc

pub sum_below-const : (n c : ℕ) → sum_below n (λ _. c) ≡ n * c
unfolding sum_below
sum_below-const zero c = omega arith
sum_below-const (suc n) c = let ih = sum_below-const n c in rw suc-mul (omega arith)

pub sum_below-mul : (n c : ℕ) (f : ℕ → ℕ) → sum_below n (λ i. f i * c) ≡ sum_below n f * c
unfolding sum_below
sum_below-mul zero c f = omega arith
sum_below-mul (suc n) c f = let ih = sum_below-mul n c f in omega arith

pub sum_below-add : (n : ℕ) (f g : ℕ → ℕ) → sum_below n (λ i. f i + g i) ≡ sum_below n f + sum_below n g
unfolding sum_below
sum_below-add zero f g = omega arith
sum_below-add (suc n) f g = let ih = sum_below-add n f g in omega arith

sum_below-split_none : (a : ℕ) (f : ℕ → ℕ) → sum_below a f ≡ sum_below a f + sum_below zero (λ i. f (a + i))
unfolding sum_below
sum_below-split_none a f = omega arith

sum_below-split_more : (a b : ℕ) (f : ℕ → ℕ) → sum_below (a + b) f ≡ sum_below a f + sum_below b (λ i. f (a + i)) →
    sum_below (suc (a + b)) f ≡ sum_below a f + sum_below (suc b) (λ i. f (a + i))
unfolding sum_below
sum_below-split_more a b f ih = omega arith

-- the numbers below a + b are those below a and, moved up by a, those below b
pub sum_below-split : (a b : ℕ) (f : ℕ → ℕ) → sum_below (a + b) f ≡ sum_below a f + sum_below b (λ i. f (a + i))
sum_below-split a zero f = rw add-zero (sum_below-split_none a f)
sum_below-split a (suc b) f = rw add-suc (sum_below-split_more a b f (sum_below-split a b f))

-- tests that agree on the draw lists of a shape
pub count-same : (shape : List ℕ) (t u : List ℕ → Bool) → ((d : List ℕ) → IsDrawList shape d → t d ≡ u d) → count shape t ≡ count shape u
unfolding count IsDrawList
count-same [] t u h = ap (λ b. cond b 1 0) (h [] tt)
count-same (bound ∷ shape) t u h =
    sum_below-same bound _ _ (λ x b. count-same shape (λ d. t (x ∷ d)) (λ d. u (x ∷ d)) (λ d e. h (x ∷ d) (b, e)))

pub count-false : (shape : List ℕ) → count shape (λ _. false) ≡ 0
unfolding count
count-false [] = refl
count-false (bound ∷ shape) = rw (count-false shape) (sum_below-const bound 0 ∙ omega arith)

-- no draw list meets the test
pub count-never : (shape : List ℕ) (t : List ℕ → Bool) → ((d : List ℕ) → IsDrawList shape d → t d ≡ false) → count shape t ≡ 0
count-never shape t h = count-same shape t (λ _. false) h ∙ count-false shape

pub count-true : (shape : List ℕ) → count shape (λ _. true) ≡ product shape
unfolding count product
count-true [] = refl
count-true (bound ∷ shape) = rw (count-true shape) (sum_below-const bound (product shape))

-- every draw list meets the test
pub count-always : (shape : List ℕ) (t : List ℕ → Bool) → ((d : List ℕ) → IsDrawList shape d → t d ≡ true) → count shape t ≡ product shape
count-always shape t h = count-same shape t (λ _. true) h ∙ count-true shape

either_one : (a b : Bool) → (a && b) ≡ false → cond {A = ℕ} (a || b) 1 0 ≡ cond a 1 0 + cond b 1 0
either_one true true h = absurd cc
either_one true false h = refl
either_one false true h = refl
either_one false false h = refl

-- tests that no draw list meets both of
pub count-either : (shape : List ℕ) (t u : List ℕ → Bool) → ((d : List ℕ) → IsDrawList shape d → (t d && u d) ≡ false) →
    count shape (λ d. t d || u d) ≡ count shape t + count shape u
unfolding count IsDrawList
count-either [] t u h = either_one (t []) (u []) (h [] tt)
count-either (bound ∷ shape) t u h =
    sum_below-same bound _ _ (λ x b. count-either shape (λ d. t (x ∷ d)) (λ d. u (x ∷ d)) (λ d e. h (x ∷ d) (b, e)))
    ∙ sum_below-add bound (λ x. count shape (λ d. t (x ∷ d))) (λ x. count shape (λ d. u (x ∷ d)))

append_none : (met : Bool) (back : List ℕ) (both other : List ℕ → Bool) → ((e : List ℕ) → IsDrawList back e → both e ≡ (met && other e)) →
    count back both ≡ cond met 1 0 * count back other
append_none true back both other h = count-same back both other h ∙ omega arith
append_none false back both other h = count-never back both h ∙ omega arith

-- The product law.
pub count-append : (front back : List ℕ) (both one other : List ℕ → Bool) →
    ((d e : List ℕ) → IsDrawList front d → IsDrawList back e → both (d ++ e) ≡ (one d && other e)) →
    count (front ++ back) both ≡ count front one * count back other
unfolding count IsDrawList
count-append [] back both one other h = append_none (one []) back both other (λ e f. h [] e tt f)
count-append (bound ∷ front) back both one other h =
    sum_below-same bound _ (λ x. count front (λ d. one (x ∷ d)) * count back other)
    (λ x b. count-append front back (λ d. both (x ∷ d)) (λ d. one (x ∷ d)) other (λ d e f g. h (x ∷ d) e (b, f) g))
    ∙ sum_below-mul bound (count back other) (λ x. count front (λ d. one (x ∷ d)))

-- The block law.
pub count-block : (front back : List ℕ) (bound : ℕ) (test rest : List ℕ → Bool) →
    ((d e : List ℕ) (draw : ℕ) → IsDrawList front d → draw < bound → IsDrawList back e → test (d ++ draw ∷ e) ≡ rest (d ++ e)) →
    count (front ++ bound ∷ back) test ≡ bound * count (front ++ back) rest
unfolding count IsDrawList
count-block [] back bound test rest h =
    sum_below-same bound _ (λ _. count back rest) (λ x b. count-same back (λ e. test (x ∷ e)) rest (λ e f. h [] e x tt b f))
    ∙ sum_below-const bound (count back rest)
count-block (first ∷ front) back bound test rest h =
    sum_below-same first _ (λ y. count (front ++ back) (λ d. rest (y ∷ d)) * bound)
    (λ y b. count-block front back bound (λ d. test (y ∷ d)) (λ d. rest (y ∷ d)) (λ d e x f g i. h (y ∷ d) e x (b, f) g i) ∙ mul_comm bound _)
    ∙ sum_below-mul first bound (λ y. count (front ++ back) (λ d. rest (y ∷ d)))
    ∙ mul_comm _ bound

interval_more : (m a b : ℕ) → a ≤ b → (s : ℕ) → s ≡ min m b - min m a → s + cond (leb a m && ltb m b) 1 0 ≡ min (suc m) b - min (suc m) a
interval_more m a b h s ih = grind (arith, nat_tests)

sum_below-interval : (m a b : ℕ) → a ≤ b → sum_below m (λ x. cond (leb a x && ltb x b) 1 0) ≡ min m b - min m a
unfolding sum_below
sum_below-interval zero a b h = omega arith
sum_below-interval (suc m) a b h = interval_more m a b h _ (sum_below-interval m a b h)

-- The interval law, for any test of one draw that says it lies in [a, b).
pub count-interval : (m a b : ℕ) (test : List ℕ → Bool) → a ≤ b → b ≤ m →
    ((x : ℕ) → x < m → test (x ∷ []) ≡ (leb a x && ltb x b)) → count (m ∷ []) test ≡ b - a
unfolding count
count-interval m a b test h k t =
    sum_below-same m _ (λ x. cond (leb a x && ltb x b) 1 0) (λ x i. ap (λ c. cond {A = ℕ} c 1 0) (t x i))
    ∙ sum_below-interval m a b h ∙ omega arith

-- The partition law.
pub count-partition : {R : Type 0} (same : R → R → Bool) (shape : List ℕ) (out : List ℕ → R) (wanted : List R) → AreApart same wanted →
    count shape (λ d. list_any (same (out d)) wanted) ≡ sum_by (λ reply. count shape (λ d. same (out d) reply)) wanted
unfolding AreApart
count-partition same shape out [] h = count-false shape
count-partition same shape out (reply ∷ wanted) h =
    count-either shape (λ d. same (out d) reply) (λ d. list_any (same (out d)) wanted) (λ d _. h.0 (out d))
    ∙ ap (λ n. count shape (λ d. same (out d) reply) + n) (count-partition same shape out wanted h.1)
    ∙ sym (sum_by-cons (λ r. count shape (λ d. same (out d) r)) reply wanted)
