-- Draw lists by how many of their first draws are below a limit. The bound of a draw is written p + r.
use Rattle.std.proofs.Common.{◌≡◌, ℕ, zero, suc, ◌+◌, ◌-◌, ◌*◌, ◌^◌, ◌≤◌, ◌<◌, Bool, true, false, cond, List, ◌∷◌, replicate, sym, ◌∙◌, ap, arith, ltb, leb, eqb, subst}
use Rattle.std.proofs.Math.Nat.{pow-zero, pow-suc}
use Rattle.std.proofs.lemmas.Bool.Decides.{nat_tests}
use Rattle.dp_count.specs.DrawLists.{sum_below, count, leading_run}
use Rattle.dp_count.proofs.Counting.{sum_below-same, sum_below-const, sum_below-split, count-same, count-false}

below_here : (p x : ℕ) (n m : ℕ) → x < p → cond (ltb x p) n m ≡ n
below_here p x n m h = grind (arith, nat_tests)

not_below : (p x : ℕ) (n m : ℕ) → cond (ltb (p + x) p) n m ≡ m
not_below p x n m = grind (arith, nat_tests)

-- one draw more: p of its values go on, r of them end the run
pub count-leading_run : (p r : ℕ) (shape : List ℕ) (t : ℕ → Bool) →
    count ((p + r) ∷ shape) (λ d. t (leading_run p d)) ≡ p * count shape (λ d. t (1 + leading_run p d)) + r * count shape (λ _. t 0)
unfolding count
count-leading_run p r shape t =
    let low : sum_below p (λ x. count shape (λ d. t (leading_run p (x ∷ d)))) ≡ p * count shape (λ d. t (1 + leading_run p d))
    = sum_below-same p _ (λ _. count shape (λ d. t (1 + leading_run p d))) (λ x b. count-same shape _ _ (λ d _. ap t (below_here p x _ _ b))) ∙ sum_below-const p _ in
    let high : sum_below r (λ x. count shape (λ d. t (leading_run p ((p + x) ∷ d)))) ≡ r * count shape (λ _. t 0)
    = sum_below-same r _ (λ _. count shape (λ _. t 0)) (λ x b. count-same shape _ _ (λ d _. ap t (not_below p x _ _))) ∙ sum_below-const r _ in
    sum_below-split p r (λ x. count shape (λ d. t (leading_run p (x ∷ d)))) ∙ omega arith

-- every list
pub count-replicate : (n q : ℕ) → count (replicate n q) (λ _. true) ≡ q ^ n
unfolding count
count-replicate zero q = sym (pow-zero q)
count-replicate (suc n) q = rw (count-replicate n q) (sum_below-const q (q ^ n) ∙ rw pow-suc (omega arith))

leb_next : (g k : ℕ) → leb (suc g) (1 + k) ≡ leb g k
leb_next g k = grind (arith, nat_tests)

-- at least g of n = g + h draws
pub count-long_run : (g n h p r : ℕ) → n ≡ g + h → count (replicate n (p + r)) (λ d. leb g (leading_run p d)) ≡ p ^ g * (p + r) ^ h
count-long_run zero n h p r e =
    count-same (replicate n (p + r)) _ (λ _. true) (λ d _. grind (arith, nat_tests)) ∙ count-replicate n (p + r)
    ∙ (let same : n ≡ h = omega arith in rw (same, pow-zero) (omega arith))
count-long_run (suc g) zero h p r e = absurd (omega arith)
count-long_run (suc g) (suc n) h p r e =
    let ih = count-long_run g n h p r (omega arith) in
    let on : count (replicate n (p + r)) (λ d. leb (suc g) (1 + leading_run p d)) ≡ p ^ g * (p + r) ^ h
    = count-same (replicate n (p + r)) _ (λ d. leb g (leading_run p d)) (λ d _. leb_next g (leading_run p d)) ∙ ih in
    let off : count (replicate n (p + r)) (λ _. leb (suc g) 0) ≡ 0
    = count-same (replicate n (p + r)) _ (λ _. false) (λ d _. grind (arith, nat_tests)) ∙ count-false (replicate n (p + r)) in
    count-leading_run p r (replicate n (p + r)) (λ k. leb (suc g) k) ∙ rw (on, off, pow-suc) (omega arith)

eqb_next : (g k : ℕ) → eqb (1 + k) (suc g) ≡ eqb k g
eqb_next g k = grind (arith, nat_tests)

-- exactly g of n = g + 1 + j draws
pub count-exact_run : (g n j p r : ℕ) → n ≡ g + suc j → count (replicate n (p + r)) (λ d. eqb (leading_run p d) g) ≡ p ^ g * r * (p + r) ^ j
count-exact_run g zero j p r e = absurd (omega arith)
count-exact_run zero (suc n) j p r e =
    let on : count (replicate n (p + r)) (λ d. eqb (1 + leading_run p d) 0) ≡ 0
    = count-same (replicate n (p + r)) _ (λ _. false) (λ d _. grind (arith, nat_tests)) ∙ count-false (replicate n (p + r)) in
    let off : count (replicate n (p + r)) (λ _. eqb 0 0) ≡ (p + r) ^ n = count-replicate n (p + r) in
    let same : n ≡ j = omega arith in
    count-leading_run p r (replicate n (p + r)) (λ k. eqb k 0) ∙ rw (on, off, pow-zero, same) (omega arith)
count-exact_run (suc g) (suc n) j p r e =
    let ih = count-exact_run g n j p r (omega arith) in
    let on : count (replicate n (p + r)) (λ d. eqb (1 + leading_run p d) (suc g)) ≡ p ^ g * r * (p + r) ^ j
    = count-same (replicate n (p + r)) _ (λ d. eqb (leading_run p d) g) (λ d _. eqb_next g (leading_run p d)) ∙ ih in
    let off : count (replicate n (p + r)) (λ _. eqb 0 (suc g)) ≡ 0
    = count-same (replicate n (p + r)) _ (λ _. false) (λ d _. grind (arith, nat_tests)) ∙ count-false (replicate n (p + r)) in
    count-leading_run p r (replicate n (p + r)) (λ k. eqb k (suc g)) ∙ rw (on, off, pow-suc) (omega arith)

-- all n draws
pub count-whole_run : (n p r : ℕ) → count (replicate n (p + r)) (λ d. eqb (leading_run p d) n) ≡ p ^ n
unfolding count
count-whole_run zero p r = sym (pow-zero p)
count-whole_run (suc n) p r =
    let ih = count-whole_run n p r in
    let on : count (replicate n (p + r)) (λ d. eqb (1 + leading_run p d) (suc n)) ≡ p ^ n
    = count-same (replicate n (p + r)) _ (λ d. eqb (leading_run p d) n) (λ d _. eqb_next n (leading_run p d)) ∙ ih in
    let off : count (replicate n (p + r)) (λ _. eqb 0 (suc n)) ≡ 0
    = count-same (replicate n (p + r)) _ (λ _. false) (λ d _. grind (arith, nat_tests)) ∙ count-false (replicate n (p + r)) in
    count-leading_run p r (replicate n (p + r)) (λ k. eqb k (suc n)) ∙ rw (on, off, pow-suc) (omega arith)

-- The run laws, with the bound as one number.
pub run-exact : (low high n g : ℕ) → low ≤ high → g < n → count (replicate n high) (λ d. eqb (leading_run low d) g) ≡ low ^ g * (high - low) * high ^ (n - g - 1)
run-exact low high n g h i =
    let e : low + (high - low) ≡ high = omega arith in
    subst (λ (q : ℕ). count (replicate n q) (λ d. eqb (leading_run low d) g) ≡ low ^ g * (high - low) * q ^ (n - g - 1)) e (count-exact_run g n (n - g - 1) low (high - low) (omega arith))

pub run-whole : (low high n : ℕ) → low ≤ high → count (replicate n high) (λ d. eqb (leading_run low d) n) ≡ low ^ n
run-whole low high n h =
    let e : low + (high - low) ≡ high = omega arith in
    subst (λ (q : ℕ). count (replicate n q) (λ d. eqb (leading_run low d) n) ≡ low ^ n) e (count-whole_run n low (high - low))

pub run-long : (low high n g : ℕ) → low ≤ high → g ≤ n → count (replicate n high) (λ d. leb g (leading_run low d)) ≡ low ^ g * high ^ (n - g)
run-long low high n g h i =
    let e : low + (high - low) ≡ high = omega arith in
    subst (λ (q : ℕ). count (replicate n q) (λ d. leb g (leading_run low d)) ≡ low ^ g * q ^ (n - g)) e (count-long_run g n (n - g) low (high - low) (omega arith))
