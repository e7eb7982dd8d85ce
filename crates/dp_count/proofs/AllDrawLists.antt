-- The list of all draw lists of a shape has each of them once.
use Rattle.std.proofs.Common.{◌≡◌, ◌⊎◌, inl, inr, subst, ℕ, zero, suc, ◌+◌, ◌-◌, ◌*◌, ◌≤◌, ◌<◌, Bool, true, false, cond, ◌&&◌, ◌||◌, List, [], ◌∷◌, map, length, refl, sym, ◌∙◌, ap, arith, ltb, leb, eqb}
use Rattle.std.specs.Prelude.{bytes_eq, slice_index}
use Rattle.std.specs.List.{count_by, list_any, Contains, AllByRecursion, IsDistinct}
use Rattle.std.proofs.lemmas.Bool.Decides.{nat_tests, Decides-ltb}
use Rattle.std.proofs.lemmas.List.Sums.{sum_by-append, sum_by-cons, length-filter}
use Rattle.std.proofs.lemmas.List.Folds.{Any-from_list_any, list_any-from_Any}
use Rattle.std.proofs.lemmas.Map.Made.{AllPairs-from_IsDistinct}
use Rattle.std.proofs.lemmas.Slice.Eq.{bytes_eq-Decides}
use Rattle.dp_count.specs.AllDrawLists.{joined_below, draw_lists}
use Rattle.dp_count.specs.DrawLists.{sum_below, count, IsDrawList}
use Rattle.dp_count.specs.DrawListsLaw.{MembersLaw, OnceLaw, ListLaw}
use Rattle.dp_count.proofs.Counting.{sum_below-same, sum_below-mul, count-interval, count-never, count-false}

-- how many of joined lists pass a test
count_by-joined : {X : Type 0} (p : X → Bool) (n : ℕ) (f : ℕ → List X) → count_by p (joined_below n f) ≡ sum_below n (λ i. count_by p (f i))
unfolding joined_below sum_below
count_by-joined p zero f = refl
count_by-joined p (suc n) f =
    sum_by-append (λ x. cond (p x) 1 0) (joined_below n f) (f n)
    ∙ ap (λ k. k + count_by p (f n)) (count_by-joined p n f)

count_by-map : {X Y : Type 0} (p : Y → Bool) (g : X → Y) (xs : List X) → count_by p (map g xs) ≡ count_by (λ x. p (g x)) xs
count_by-map p g [] = refl
count_by-map p g (x ∷ xs) =
    sum_by-cons (λ y. cond (p y) 1 0) (g x) (map g xs)
    ∙ ap (λ k. cond (p (g x)) 1 0 + k) (count_by-map p g xs)
    ∙ sym (sum_by-cons (λ y. cond (p (g y)) 1 0) x xs)

pub count_by-draw_lists : (shape : List ℕ) (test : List ℕ → Bool) → count_by test (draw_lists shape) ≡ count shape test
unfolding draw_lists count
count_by-draw_lists [] test = omega arith
count_by-draw_lists (bound ∷ shape) test =
    count_by-joined test bound _
    ∙ sum_below-same bound _ _ (λ x b. count_by-map test (λ d. x ∷ d) (draw_lists shape) ∙ count_by-draw_lists shape (λ d. test (x ∷ d)))

pub draw_lists-counted : ListLaw
draw_lists-counted shape test = sym (count_by-draw_lists shape test) ∙ sym (length-filter test (draw_lists shape))

-- a condition that no draw is asked for
count-guarded : (shape : List ℕ) (met : Bool) (test : List ℕ → Bool) → count shape (λ d. met && test d) ≡ cond met 1 0 * count shape test
count-guarded shape true test = omega arith
count-guarded shape false test = count-false shape ∙ omega arith

equal-between : (x y : ℕ) → eqb y x ≡ (leb y x && ltb x (y + 1))
equal-between x y = grind (arith, nat_tests)

-- a draw list is one
pub count-self : (shape d : List ℕ) → IsDrawList shape d → count shape (bytes_eq d) ≡ 1
unfolding count IsDrawList
count-self [] [] h = refl
count-self [] (y ∷ d) h = absurd h
count-self (bound ∷ shape) [] h = absurd h
count-self (bound ∷ shape) (y ∷ d) h =
    let below = h.0 in
    sum_below-same bound _ (λ x. cond (leb y x && ltb x (y + 1)) 1 0 * count shape (bytes_eq d))
    (λ x b. count-guarded shape (eqb y x) (bytes_eq d) ∙ ap (λ t. cond t 1 0 * count shape (bytes_eq d)) (equal-between x y))
    ∙ sum_below-mul bound (count shape (bytes_eq d)) (λ x. cond (leb y x && ltb x (y + 1)) 1 0)
    ∙ (let s : sum_below bound (λ x. cond (leb y x && ltb x (y + 1)) 1 0) ≡ y + 1 - y
    = count-interval bound y (y + 1) (λ e. leb y (slice_index e 0) && ltb (slice_index e 0) (y + 1)) (omega arith) (omega (arith, below)) (λ x b. refl) in
    let one = count-self shape d h.1 in
    rw (s, one) (omega arith))

-- .. and nothing else is
false-unless : (b : Bool) → (b ≡ true → ⊥) → b ≡ false
false-unless true h = absurd (h refl)
false-unless false h = refl

count-other : (shape d : List ℕ) → (IsDrawList shape d → ⊥) → count shape (bytes_eq d) ≡ 0
count-other shape d h =
    count-never shape (bytes_eq d) (λ e f. false-unless (bytes_eq d e) (λ t. h (let same = (bytes_eq-Decides d e).0 t in rw same f)))

pub draws-told : (shape d : List ℕ) → IsDrawList shape d ⊎ (IsDrawList shape d → ⊥)
unfolding IsDrawList
draws-told [] [] = inl tt
draws-told [] (y ∷ d) = inr (λ h. h)
draws-told (bound ∷ shape) [] = inr (λ h. h)
draws-told (bound ∷ shape) (y ∷ d) = both (ltb y bound) refl (draws-told shape d)
  where
    both : (b : Bool) → ltb y bound ≡ b → IsDrawList shape d ⊎ (IsDrawList shape d → ⊥) → ((y < bound) × IsDrawList shape d) ⊎ ((y < bound) × IsDrawList shape d → ⊥)
    both true e (inl h) = inl ((Decides-ltb y bound).0 e, h)
    both true e (inr h) = inr (λ k. h k.1)
    both false e told = inr (λ k. let t = (Decides-ltb y bound).1 k.0 in absurd cc)

-- a list that is tested for once at most
pass-none : (b : Bool) (n : ℕ) → cond b 1 0 + n ≡ 0 → (b ≡ false) × (n ≡ 0)
pass-none true n h = absurd (omega (arith, h))
pass-none false n h = (refl, omega (arith, h))

none-passes : {X : Type 0} (p : X → Bool) (xs : List X) → count_by p xs ≡ 0 → AllByRecursion (λ y. p y ≡ false) xs
none-passes p [] h = tt
none-passes p (x ∷ xs) h =
    let k = pass-none (p x) (count_by p xs) (sym (sum_by-cons (λ y. cond (p y) 1 0) x xs) ∙ h) in
    (k.0, none-passes p xs k.1)

bytes_eq-self : (d : List ℕ) → bytes_eq d d ≡ true
bytes_eq-self d = (bytes_eq-Decides d d).1 refl

distinct-from_count : (xs : List (List ℕ)) → ((d : List ℕ) → count_by (bytes_eq d) xs ≤ 1) → IsDistinct bytes_eq xs
unfolding IsDistinct
distinct-from_count [] h = tt
distinct-from_count (x ∷ xs) h =
    let more : (d : List ℕ) → count_by (bytes_eq d) (x ∷ xs) ≡ cond (bytes_eq d x) 1 0 + count_by (bytes_eq d) xs
    = λ d. sum_by-cons (λ y. cond (bytes_eq d y) 1 0) x xs in
    let first : count_by (bytes_eq x) (x ∷ xs) ≡ 1 + count_by (bytes_eq x) xs
    = more x ∙ ap (λ b. cond b 1 0 + count_by (bytes_eq x) xs) (bytes_eq-self x) in
    let few = h x in (
      none-passes (bytes_eq x) xs (omega (arith, first, few)),
      distinct-from_count xs (λ d. let m = more d in let k = h d in omega (arith, m, k)),
    )

-- each draw list stands once, and nothing else stands
count-told : (shape d : List ℕ) → IsDrawList shape d ⊎ (IsDrawList shape d → ⊥) → count_by (bytes_eq d) (draw_lists shape) ≤ 1
count-told shape d (inl h) = let e = count_by-draw_lists shape (bytes_eq d) in let f = count-self shape d h in omega (arith, e, f)
count-told shape d (inr h) = let e = count_by-draw_lists shape (bytes_eq d) in let f = count-other shape d h in omega (arith, e, f)

pub draw_lists-once : OnceLaw
draw_lists-once shape =
    AllPairs-from_IsDistinct bytes_eq-Decides (draw_lists shape)
    (distinct-from_count (draw_lists shape) (λ d. count-told shape d (draws-told shape d)))

any-step : (b c : Bool) (n : ℕ) → (1 ≤ n → c ≡ true) → 1 ≤ cond b 1 0 + n → (b || c) ≡ true
any-step true c n ih h = refl
any-step false c n ih h = ih (omega (arith, h))

any-from_count : {X : Type 0} (p : X → Bool) (xs : List X) → 1 ≤ count_by p xs → list_any p xs ≡ true
any-from_count p [] h = absurd (omega (arith, h))
any-from_count p (x ∷ xs) h =
    any-step (p x) (list_any p xs) (count_by p xs) (any-from_count p xs)
    (subst (λ n. 1 ≤ n) (sum_by-cons (λ y. cond (p y) 1 0) x xs) h)

count-step : (b c : Bool) (n : ℕ) → (c ≡ true → 1 ≤ n) → (b || c) ≡ true → 1 ≤ cond b 1 0 + n
count-step true c n ih h = omega arith
count-step false c n ih h = let k = ih h in omega (arith, k)

count-from_any : {X : Type 0} (p : X → Bool) (xs : List X) → list_any p xs ≡ true → 1 ≤ count_by p xs
count-from_any p [] h = absurd cc
count-from_any p (x ∷ xs) h =
    let k = count-step (p x) (list_any p xs) (count_by p xs) (count-from_any p xs) h in
    let e = sum_by-cons (λ y. cond (p y) 1 0) x xs in
    omega (arith, k, e)

member-told : (shape d : List ℕ) → 1 ≤ count_by (bytes_eq d) (draw_lists shape) → IsDrawList shape d ⊎ (IsDrawList shape d → ⊥) → IsDrawList shape d
member-told shape d h (inl k) = k
member-told shape d h (inr k) = let e = count_by-draw_lists shape (bytes_eq d) in let f = count-other shape d k in absurd (omega (arith, h, e, f))

pub draws-from_member : (shape d : List ℕ) → Contains (draw_lists shape) d → IsDrawList shape d
draws-from_member shape d h =
    let any = list_any-from_Any (bytes_eq d) (draw_lists shape) (h.0, d, h.1, h.2, bytes_eq-self d) in
    member-told shape d (count-from_any (bytes_eq d) (draw_lists shape) any) (draws-told shape d)

pub any-draws : (shape d : List ℕ) → IsDrawList shape d → list_any (bytes_eq d) (draw_lists shape) ≡ true
any-draws shape d h =
    let e = count_by-draw_lists shape (bytes_eq d) in
    let f = count-self shape d h in
    any-from_count (bytes_eq d) (draw_lists shape) (omega (arith, e, f))

pub member-from_draws : (shape d : List ℕ) → IsDrawList shape d → Contains (draw_lists shape) d
member-from_draws shape d h =
    let found = Any-from_list_any (bytes_eq d) (draw_lists shape) (any-draws shape d h) in
    let same : found.1 ≡ d = sym ((bytes_eq-Decides d found.1).0 found.4) in
    subst (λ x. Contains (draw_lists shape) x) same (found.0, found.2, found.3)

pub draw_lists-members : MembersLaw
draw_lists-members shape d = (draws-from_member shape d, member-from_draws shape d)

-- two draws, below 2 and below 3, have six draw lists
six : length (draw_lists (2 ∷ 3 ∷ [])) ≡ 6
unfolding draw_lists joined_below
six = refl

listed : draw_lists (2 ∷ 3 ∷ []) ≡ (0 ∷ 0 ∷ []) ∷ (0 ∷ 1 ∷ []) ∷ (0 ∷ 2 ∷ []) ∷ (1 ∷ 0 ∷ []) ∷ (1 ∷ 1 ∷ []) ∷ (1 ∷ 2 ∷ []) ∷ []
unfolding draw_lists joined_below
listed = refl
