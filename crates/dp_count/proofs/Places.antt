-- Places from 0 to n, a start among them, and a walk up or down that ends at the first or last place. The draws are one
-- below r + p + p, which says whether the walk stays, goes up or goes down, and n draws below p + r, whose leading run
-- below p is one less than its length.
use Rattle.std.proofs.Common.{◌≡◌, ℕ, zero, suc, ◌+◌, ◌-◌, ◌*◌, ◌^◌, ◌≤◌, ◌<◌, ◌||◌, Bool, true, false, cond, List, ◌∷◌, replicate, refl, sym, ◌∙◌, ap, min, arith, leb, eqb, subst}
use Rattle.std.proofs.Math.Nat.{pow-zero, pow-suc, mul-le-mul_left, pow-le-pow_left}
use Rattle.std.proofs.lemmas.Nat.{pow-add}
use Rattle.std.proofs.lemmas.Bool.Decides.{nat_tests}
use Rattle.dp_count.specs.Apart.{apart}
pub use Rattle.dp_count.specs.Apart.{apart as between}
use Rattle.dp_count.specs.DrawLists.{sum_below, count, leading_run}
use Rattle.dp_count.proofs.Counting.{sum_below-same, sum_below-const, sum_below-split, count-same, count-never}
use Rattle.dp_count.proofs.LeadingRun.{count-replicate, count-exact_run, count-long_run}

-- what a test says of the first draw and the rest: r values stay, p go up, p go down
pub record Walks (r p : ℕ) (test stay up down : List ℕ → Bool) : Type 0 where
  pub stays : (x : ℕ) (d : List ℕ) → x < r → test (x ∷ d) ≡ stay d
  pub goes_up : (x : ℕ) (d : List ℕ) → x < p → test ((r + x) ∷ d) ≡ up d
  pub goes_down : (x : ℕ) (d : List ℕ) → x < p → test ((p + r + x) ∷ d) ≡ down d

block : (bound : ℕ) (shape : List ℕ) (f : ℕ → ℕ) (test : List ℕ → Bool) → ((x : ℕ) → x < bound → f x ≡ count shape test) → sum_below bound f ≡ bound * count shape test
block bound shape f test h = sum_below-same bound f (λ _. count shape test) h ∙ sum_below-const bound (count shape test)

pub count-walks : (r p : ℕ) (shape : List ℕ) (test stay up down : List ℕ → Bool) → Walks r p test stay up down →
    count ((p + r + p) ∷ shape) test ≡ r * count shape stay + p * count shape up + p * count shape down
unfolding count
count-walks r p shape test stay up down w =
    let f = λ (x : ℕ). count shape (λ d. test (x ∷ d)) in
    let a = block r shape f stay (λ x b. count-same shape _ stay (λ d _. w.stays x d b)) in
    let b = block p shape (λ x. f (r + x)) up (λ x i. count-same shape _ up (λ d _. w.goes_up x d i)) in
    let c = block p shape (λ x. f (p + r + x)) down (λ x i. count-same shape _ down (λ d _. w.goes_down x d i)) in
    let e : sum_below (p + r) f ≡ sum_below r f + sum_below p (λ x. f (r + x))
    = (let o : p + r ≡ r + p = omega arith in ap (λ n. sum_below n f) o ∙ sum_below-split r p f) in
    sum_below-split (p + r) p f ∙ omega arith

-- where the walks end, from the place t, with a leading run of k
abbrev pub up_to : ℕ → ℕ → ℕ → ℕ
up_to n t k = min (t + (1 + k)) n

abbrev pub down_to : ℕ → ℕ → ℕ
down_to t k = t - (1 + k)

-- the factor of the place b: the ends take more than the places between, and a single place takes all
abbrev pub factor : ℕ → ℕ → ℕ → ℕ → ℕ
factor n p r b = cond (eqb n 0) (p + r + p) (cond (eqb b 0 || eqb b n) (p + r) r)

-- the number of draw lists that end at the place b, e places from the start
abbrev pub share : ℕ → ℕ → ℕ → ℕ → ℕ → ℕ
share n p r b e = factor n p r b * p ^ e * (p + r) ^ (n - e)

pub factor-inside : (n p r b : ℕ) → 0 < b → b < n → factor n p r b ≡ r
factor-inside n p r b h k = grind (arith, nat_tests)

pub factor-first : (n p r : ℕ) → 0 < n → factor n p r 0 ≡ p + r
factor-first n p r h = grind (arith, nat_tests)

pub factor-last : (n p r : ℕ) → 0 < n → factor n p r n ≡ p + r
factor-last n p r h = grind (arith, nat_tests)

-- a single place takes every first draw
pub factor-single : (p r : ℕ) → share 0 p r 0 0 ≡ p + r + p
factor-single p r = rw (pow-zero p, pow-zero (p + r)) (omega arith)

-- the number of draw lists that end at b, as three numbers
places : ℕ → ℕ → ℕ → ℕ → ℕ → ℕ
places n p r t b = r * count (replicate n (p + r)) (λ _. eqb t b) + p * count (replicate n (p + r)) (λ d. eqb (up_to n t (leading_run p d)) b)
    + p * count (replicate n (p + r)) (λ d. eqb (down_to t (leading_run p d)) b)

pieces : (n p r t b z u d : ℕ) → count (replicate n (p + r)) (λ _. eqb t b) ≡ z → count (replicate n (p + r)) (λ e. eqb (up_to n t (leading_run p e)) b) ≡ u →
    count (replicate n (p + r)) (λ e. eqb (down_to t (leading_run p e)) b) ≡ d → places n p r t b ≡ r * z + p * u + p * d
unfolding places
pieces n p r t b z u d hz hu hd = rw (hz, hu, hd) refl

-- all run draws, or none
all : (n q : ℕ) (test : List ℕ → Bool) → ((d : List ℕ) → test d ≡ true) → count (replicate n q) test ≡ q ^ n
all n q test h = count-same (replicate n q) test (λ _. true) (λ d _. h d) ∙ count-replicate n q

none : (n q : ℕ) (test : List ℕ → Bool) → ((d : List ℕ) → test d ≡ false) → count (replicate n q) test ≡ 0
none n q test h = count-never (replicate n q) test (λ d _. h d)

power-zero : (p k : ℕ) → k * p ^ 0 ≡ k
power-zero p k = rw (pow-zero p) (omega arith)

-- the start itself, by where it lies
at_one : (n p r t : ℕ) → n ≡ 0 → t ≡ 0 → places n p r t t ≡ share n p r t 0
at_one n p r t e f =
    let q = p + r in
    let z = all n q (λ _. eqb t t) (λ d. grind (arith, nat_tests)) in
    let u = all n q (λ d. eqb (up_to n t (leading_run p d)) t) (λ d. grind (arith, nat_tests)) in
    let d = all n q (λ d. eqb (down_to t (leading_run p d)) t) (λ d. grind (arith, nat_tests)) in
    let c : factor n p r t ≡ p + r + p = grind (arith, nat_tests) in
    let m : n - 0 ≡ n = omega arith in
    pieces n p r t t _ _ _ z u d ∙ rw (c, power-zero p (p + r + p), m) (omega arith)

at_first : (n p r t : ℕ) → 0 < n → t ≡ 0 → places n p r t t ≡ share n p r t 0
at_first n p r t h e =
    let q = p + r in
    let z = all n q (λ _. eqb t t) (λ d. grind (arith, nat_tests)) in
    let u = none n q (λ d. eqb (up_to n t (leading_run p d)) t) (λ d. grind (arith, nat_tests)) in
    let d = all n q (λ d. eqb (down_to t (leading_run p d)) t) (λ d. grind (arith, nat_tests)) in
    let c : factor n p r t ≡ p + r = grind (arith, nat_tests) in
    let m : n - 0 ≡ n = omega arith in
    pieces n p r t t _ _ _ z u d ∙ rw (c, power-zero p (p + r), m) (omega arith)

at_last : (n p r t : ℕ) → 0 < n → t ≡ n → places n p r t t ≡ share n p r t 0
at_last n p r t h e =
    let q = p + r in
    let z = all n q (λ _. eqb t t) (λ d. grind (arith, nat_tests)) in
    let u = all n q (λ d. eqb (up_to n t (leading_run p d)) t) (λ d. grind (arith, nat_tests)) in
    let d = none n q (λ d. eqb (down_to t (leading_run p d)) t) (λ d. grind (arith, nat_tests)) in
    let c : factor n p r t ≡ p + r = grind (arith, nat_tests) in
    let m : n - 0 ≡ n = omega arith in
    pieces n p r t t _ _ _ z u d ∙ rw (c, power-zero p (p + r), m) (omega arith)

at_inside : (n p r t : ℕ) → 0 < t → t < n → places n p r t t ≡ share n p r t 0
at_inside n p r t h k =
    let q = p + r in
    let z = all n q (λ _. eqb t t) (λ d. grind (arith, nat_tests)) in
    let u = none n q (λ d. eqb (up_to n t (leading_run p d)) t) (λ d. grind (arith, nat_tests)) in
    let d = none n q (λ d. eqb (down_to t (leading_run p d)) t) (λ d. grind (arith, nat_tests)) in
    let c : factor n p r t ≡ r = grind (arith, nat_tests) in
    let m : n - 0 ≡ n = omega arith in
    pieces n p r t t _ _ _ z u d ∙ rw (c, power-zero p r, m) (omega arith)

-- a walk of exactly g + 1 steps, and one that stops at an end after g + 1 steps or more
inside_share : (n g p r : ℕ) → p * (p ^ g * r * (p + r) ^ (n - suc g)) ≡ r * p ^ suc g * (p + r) ^ (n - suc g)
inside_share n g p r = rw (pow-suc p g) (omega arith)

end_share : (n g p r : ℕ) → suc g ≤ n → p * (p ^ g * (p + r) ^ (n - g)) ≡ (p + r) * p ^ suc g * (p + r) ^ (n - suc g)
end_share n g p r h =
    let m : n - g ≡ suc (n - suc g) = omega arith in
    rw (pow-suc p g, m, pow-suc (p + r) (n - suc g)) (omega arith)

up_exact : (n t g b k : ℕ) → b ≡ t + suc g → b < n → eqb (up_to n t k) b ≡ eqb k g
up_exact n t g b k e h = grind (arith, nat_tests)

up_end : (n t g b k : ℕ) → b ≡ t + suc g → b ≡ n → eqb (up_to n t k) b ≡ leb g k
up_end n t g b k e h = grind (arith, nat_tests)

down_exact : (t g b k : ℕ) → t ≡ b + suc g → 0 < b → eqb (down_to t k) b ≡ eqb k g
down_exact t g b k e h = grind (arith, nat_tests)

down_end : (t g b k : ℕ) → t ≡ b + suc g → b ≡ 0 → eqb (down_to t k) b ≡ leb g k
down_end t g b k e h = grind (arith, nat_tests)

-- a place above the start
above_inside : (n p r t g b : ℕ) → b ≡ t + suc g → b < n → places n p r t b ≡ share n p r b (suc g)
above_inside n p r t g b e h =
    let q = p + r in
    let z = none n q (λ _. eqb t b) (λ d. grind (arith, nat_tests)) in
    let u : count (replicate n q) (λ d. eqb (up_to n t (leading_run p d)) b) ≡ p ^ g * r * (p + r) ^ (n - suc g)
    = count-same (replicate n q) _ (λ d. eqb (leading_run p d) g) (λ d _. up_exact n t g b (leading_run p d) e h) ∙ count-exact_run g n (n - suc g) p r (omega arith) in
    let d = none n q (λ d. eqb (down_to t (leading_run p d)) b) (λ d. grind (arith, nat_tests)) in
    let c : factor n p r b ≡ r = grind (arith, nat_tests) in
    pieces n p r t b _ _ _ z u d ∙ rw c (omega (arith, inside_share n g p r))

above_last : (n p r t g b : ℕ) → b ≡ t + suc g → b ≡ n → places n p r t b ≡ share n p r b (suc g)
above_last n p r t g b e h =
    let q = p + r in
    let z = none n q (λ _. eqb t b) (λ d. grind (arith, nat_tests)) in
    let u : count (replicate n q) (λ d. eqb (up_to n t (leading_run p d)) b) ≡ p ^ g * (p + r) ^ (n - g)
    = count-same (replicate n q) _ (λ d. leb g (leading_run p d)) (λ d _. up_end n t g b (leading_run p d) e h) ∙ count-long_run g n (n - g) p r (omega arith) in
    let d = none n q (λ d. eqb (down_to t (leading_run p d)) b) (λ d. grind (arith, nat_tests)) in
    let c : factor n p r b ≡ p + r = grind (arith, nat_tests) in
    pieces n p r t b _ _ _ z u d ∙ rw c (omega (arith, end_share n g p r (omega arith)))

-- a place below the start
below_inside : (n p r t g b : ℕ) → t ≡ b + suc g → t ≤ n → 0 < b → places n p r t b ≡ share n p r b (suc g)
below_inside n p r t g b e h k =
    let q = p + r in
    let z = none n q (λ _. eqb t b) (λ d. grind (arith, nat_tests)) in
    let u = none n q (λ d. eqb (up_to n t (leading_run p d)) b) (λ d. grind (arith, nat_tests)) in
    let d : count (replicate n q) (λ d. eqb (down_to t (leading_run p d)) b) ≡ p ^ g * r * (p + r) ^ (n - suc g)
    = count-same (replicate n q) _ (λ d. eqb (leading_run p d) g) (λ d _. down_exact t g b (leading_run p d) e k) ∙ count-exact_run g n (n - suc g) p r (omega arith) in
    let c : factor n p r b ≡ r = grind (arith, nat_tests) in
    pieces n p r t b _ _ _ z u d ∙ rw c (omega (arith, inside_share n g p r))

below_first : (n p r t g b : ℕ) → t ≡ b + suc g → t ≤ n → b ≡ 0 → places n p r t b ≡ share n p r b (suc g)
below_first n p r t g b e h k =
    let q = p + r in
    let z = none n q (λ _. eqb t b) (λ d. grind (arith, nat_tests)) in
    let u = none n q (λ d. eqb (up_to n t (leading_run p d)) b) (λ d. grind (arith, nat_tests)) in
    let d : count (replicate n q) (λ d. eqb (down_to t (leading_run p d)) b) ≡ p ^ g * (p + r) ^ (n - g)
    = count-same (replicate n q) _ (λ d. leb g (leading_run p d)) (λ d _. down_end t g b (leading_run p d) e k) ∙ count-long_run g n (n - g) p r (omega arith) in
    let c : factor n p r b ≡ p + r = grind (arith, nat_tests) in
    pieces n p r t b _ _ _ z u d ∙ rw c (omega (arith, end_share n g p r (omega arith)))

-- how two numbers lie to one another
data Order (a b : ℕ) : Type 0 where
  Same : a ≡ b → Order a b
  Less : (g : ℕ) → b ≡ a + suc g → Order a b
  More : (g : ℕ) → a ≡ b + suc g → Order a b

order : (a b : ℕ) → Order a b
order zero zero = Same refl
order zero (suc b) = Less b (omega arith)
order (suc a) zero = More a (omega arith)
order (suc a) (suc b) = elim (order a b) [ Same e ↦ Same (omega arith) | Less g e ↦ Less g (omega arith) | More g e ↦ More g (omega arith) ]

-- the three cases
at : (n p r t : ℕ) → t ≤ n → places n p r t t ≡ share n p r t 0
at n p r t h = elim (order t 0) [
  | Same e ↦ elim (order n 0) [ Same f ↦ at_one n p r t f e | Less g f ↦ absurd (omega arith) | More g f ↦ at_first n p r t (omega arith) e ]
  | Less g e ↦ absurd (omega arith)
  | More g e ↦ elim (order t n) [ Same f ↦ at_last n p r t (omega arith) f | Less k f ↦ at_inside n p r t (omega arith) (omega arith) | More k f ↦ absurd (omega arith) ]
]

above : (n p r t g b : ℕ) → b ≡ t + suc g → b ≤ n → places n p r t b ≡ share n p r b (suc g)
above n p r t g b e h = elim (order b n) [ Same f ↦ above_last n p r t g b e f | Less k f ↦ above_inside n p r t g b e (omega arith) | More k f ↦ absurd (omega arith) ]

below : (n p r t g b : ℕ) → t ≡ b + suc g → t ≤ n → places n p r t b ≡ share n p r b (suc g)
below n p r t g b e h = elim (order b 0) [ Same f ↦ below_first n p r t g b e h f | Less k f ↦ absurd (omega arith) | More k f ↦ below_inside n p r t g b e h (omega arith) ]

places-share : (n p r t b : ℕ) → t ≤ n → b ≤ n → places n p r t b ≡ share n p r b (apart t b)
places-share n p r t b h k = elim (order t b) [
  | Same e ↦ (let d : apart t b ≡ 0 = omega arith in subst (λ (x : ℕ). places n p r t x ≡ share n p r x (apart t b)) e (rw d (at n p r t h)))
  | Less g e ↦ (let d : apart t b ≡ suc g = omega arith in rw d (above n p r t g b e k))
  | More g e ↦ (let d : apart t b ≡ suc g = omega arith in rw d (below n p r t g b e h))
]

-- how many draw lists end at the place b
pub count-places : (n p r t b : ℕ) (test : List ℕ → Bool) → t ≤ n → b ≤ n →
    Walks r p test (λ _. eqb t b) (λ d. eqb (up_to n t (leading_run p d)) b) (λ d. eqb (down_to t (leading_run p d)) b) →
    count ((p + r + p) ∷ replicate n (p + r)) test ≡ share n p r b (apart t b)
unfolding places
count-places n p r t b test h k w = count-walks r p (replicate n (p + r)) test _ _ _ w ∙ places-share n p r t b h k

share-ratio_of : (k n p r x y e : ℕ) → x ≤ n → y ≤ n → y ≤ x + e →
    k * p ^ x * (p + r) ^ (n - x) * p ^ e ≤ (p + r) ^ e * (k * p ^ y * (p + r) ^ (n - y))
share-ratio_of k n p r x y e hx hy h =
    let q = p + r in
    let g = x + e - y in
    let low : p ^ x * p ^ e ≡ p ^ y * p ^ g
    = (let s : x + e ≡ y + g = omega arith in sym (pow-add p x e) ∙ ap (λ m. p ^ m) s ∙ pow-add p y g) in
    let high : q ^ e * q ^ (n - y) ≡ q ^ (n - x) * q ^ g
    = (let s : e + (n - y) ≡ n - x + g = omega arith in sym (pow-add q e (n - y)) ∙ ap (λ m. q ^ m) s ∙ pow-add q (n - x) g) in
    let grow : p ^ g ≤ q ^ g = pow-le-pow_left (omega arith) g in
    let whole = mul-le-mul_left (k * p ^ y * q ^ (n - x)) grow in
    omega (arith, ap (λ m. k * q ^ (n - x) * m) low, ap (λ m. k * p ^ y * m) high)

-- from starts that are at most e apart, the numbers of one place keep the ratio at e
pub share-ratio : (n p r b x y e : ℕ) → x ≤ n → y ≤ n → y ≤ x + e → share n p r b x * p ^ e ≤ (p + r) ^ e * share n p r b y
share-ratio n p r b x y e hx hy h = share-ratio_of (factor n p r b) n p r x y e hx hy h
