-- The answers that some draw list gives, each once, and how many draw lists give each answer after a change.
use Rattle.std.proofs.Common.{◌≡◌, ℕ, Bool, true, false, cond, ◌&&◌, ◌||◌, List, [], ◌∷◌, map, refl, sym, ◌∙◌, ap, subst, Decides, inl, inr}
use Rattle.std.specs.List.{Contains, filter, list_any, sum_by, AllByRecursion, IsDistinct}
use Rattle.std.proofs.lemmas.Bool.{cases_Bool}
use Rattle.std.proofs.lemmas.List.Folds.{Any-from_list_any, list_any-from_Any}
use Rattle.std.proofs.lemmas.Map.Made.{AllPairs-from_IsDistinct}
use Rattle.dp_count.specs.DrawLists.{count, IsDrawList}
use Rattle.dp_count.specs.AllDrawLists.{draw_lists}
use Rattle.dp_count.specs.CountingLaws.{AreApart}
use Rattle.dp_count.proofs.AllDrawLists.{member-from_draws, draws-from_member}
use Rattle.dp_count.proofs.ReplySets.{set-law}
use Rattle.dp_domain.specs.Distance.{distinct}
use Rattle.dp_law.specs.AnswerEquality.{same_answer}
use Rattle.dp_law.specs.Mechanism.{ways}
use Rattle.dp_law.proofs.Equality.{same_answer-decides}
use Rattle.dp_post.specs.PostedLaw.{given_answers, GivenLaw, GivenOnceLaw, ChangedWaysLaw}

module _ {E : Type 0} (same : E → E → Bool) (told : (x y : E) → Decides (same x y) (x ≡ y)) where
  any-first : (x y : E) (ys : List E) (b : Bool) → same x y ≡ b → list_any (same x) ys ≡ true → (b || list_any (same x) ys) ≡ true
  any-first x y ys true e h = refl
  any-first x y ys false e h = h

  any-kept : (x y : E) (ys : List E) (found : Bool) → list_any (same y) ys ≡ found →
      list_any (same x) (distinct same ys) ≡ list_any (same x) ys →
      list_any (same x) (cond found (distinct same ys) (y ∷ distinct same ys)) ≡ (same x y || list_any (same x) ys)
  any-kept x y ys false f e = ap (λ b. same x y || b) e
  any-kept x y ys true f e = elim (cases_Bool (same x y)) [
    | inl k ↦ let at : list_any (same x) ys ≡ true = ap (λ z. list_any (same z) ys) ((told x y).0 k) ∙ f in
        e ∙ at ∙ ap (λ b. b || list_any (same x) ys) (sym k)
    | inr k ↦ e ∙ ap (λ b. b || list_any (same x) ys) (sym k)
  ]

  -- the members of a list, each once, are its members
  pub any-distinct : (x : E) (xs : List E) → list_any (same x) (distinct same xs) ≡ list_any (same x) xs
  unfolding distinct
  any-distinct x [] = refl
  any-distinct x (y ∷ ys) = any-kept x y ys (list_any (same y) ys) refl (any-distinct x ys)

  -- none is the same as two of them
  apart-first : (y : E) (ys : List E) → list_any (same y) ys ≡ false → (r : E) → (same r y && list_any (same r) ys) ≡ false
  apart-first y ys none r = elim (cases_Bool (same r y)) [
    | inl k ↦ let at : list_any (same r) ys ≡ false = ap (λ z. list_any (same z) ys) ((told r y).0 k) ∙ none in rw (k, at) refl
    | inr k ↦ rw k refl
  ]

  -- of members that are once each, those that pass a test
  any-filter : (test : E → Bool) (x : E) (xs : List E) → list_any (same x) (filter test xs) ≡ (test x && list_any (same x) xs)
  any-filter test x [] = both-false (test x)
    where
      both-false : (b : Bool) → false ≡ (b && false)
      both-false true = refl
      both-false false = refl
  any-filter test x (y ∷ ys) = by (test y) refl (same x y) refl (any-filter test x ys)
    where
      by : (t : Bool) → test y ≡ t → (s : Bool) → same x y ≡ s →
          list_any (same x) (filter test ys) ≡ (test x && list_any (same x) ys) →
          list_any (same x) (cond t (y ∷ filter test ys) (filter test ys)) ≡ (test x && (s || list_any (same x) ys))
      by true t true s ih = let at : test x ≡ true = ap test ((told x y).0 s) ∙ t in rw (s, at) refl
      by true t false s ih = rw s ih
      by false t true s ih = let at : test x ≡ false = ap test ((told x y).0 s) ∙ t in
          rw at (ih ∙ ap (λ b. b && list_any (same x) ys) at)
      by false t false s ih = ih

  none-same : (x : E) (xs : List E) → list_any (same x) xs ≡ false → AllByRecursion (λ y. same x y ≡ false) xs
  none-same x [] h = tt
  none-same x (y ∷ ys) h = let parts = neither (same x y) (list_any (same x) ys) h in (parts.0, none-same x ys parts.1)
    where
      neither : (b c : Bool) → (b || c) ≡ false → (b ≡ false) × (c ≡ false)
      neither true c k = absurd cc
      neither false c k = (refl, k)

  distinct-step : (y : E) (ys : List E) (found : Bool) → list_any (same y) ys ≡ found → IsDistinct same (distinct same ys) →
      IsDistinct same (cond found (distinct same ys) (y ∷ distinct same ys))
  unfolding IsDistinct
  distinct-step y ys true f h = h
  distinct-step y ys false f h = (none-same y (distinct same ys) (any-distinct y ys ∙ f), h)

  pub distinct-once : (xs : List E) → IsDistinct same (distinct same xs)
  unfolding IsDistinct distinct
  distinct-once [] = tt
  distinct-once (y ∷ ys) = distinct-step y ys (list_any (same y) ys) refl (distinct-once ys)

  apart-step : (y : E) (ys : List E) (found : Bool) → list_any (same y) ys ≡ found → AreApart same (distinct same ys) →
      AreApart same (cond found (distinct same ys) (y ∷ distinct same ys))
  unfolding AreApart
  apart-step y ys true f h = h
  apart-step y ys false f h = (apart-first y (distinct same ys) (any-distinct y ys ∙ f), h)

  apart-distinct : (xs : List E) → AreApart same (distinct same xs)
  unfolding AreApart distinct
  apart-distinct [] = tt
  apart-distinct (y ∷ ys) = apart-step y ys (list_any (same y) ys) refl (apart-distinct ys)

  fewer-false : (s t c : Bool) → (s && c) ≡ false → (s && (t && c)) ≡ false
  fewer-false false t c h = refl
  fewer-false true true c h = h
  fewer-false true false c h = refl

  filter-step : (test : E → Bool) (x : E) (xs : List E) (t : Bool) → ((r : E) → (same r x && list_any (same r) xs) ≡ false) →
      AreApart same (filter test xs) → AreApart same (cond t (x ∷ filter test xs) (filter test xs))
  unfolding AreApart
  filter-step test x xs false first rest = rest
  filter-step test x xs true first rest =
      (λ r. ap (λ b. same r x && b) (any-filter test r xs) ∙ fewer-false (same r x) (test r) (list_any (same r) xs) (first r), rest)

  apart-filter : (test : E → Bool) (xs : List E) → AreApart same xs → AreApart same (filter test xs)
  unfolding AreApart
  apart-filter test [] h = tt
  apart-filter test (x ∷ xs) h = filter-step test x xs (test x) h.0 (apart-filter test xs h.1)

  any-from_Contains : (xs : List E) (x : E) → Contains xs x → list_any (same x) xs ≡ true
  any-from_Contains xs x h = list_any-from_Any (same x) xs (h.0, x, h.1, h.2, (told x x).1 refl)

  Contains-from_any : (xs : List E) (x : E) → list_any (same x) xs ≡ true → Contains xs x
  Contains-from_any xs x h =
      let found = Any-from_list_any (same x) xs h in
      let is : found.1 ≡ x = sym ((told x found.1).0 found.4) in
      subst (λ y. Contains xs y) is (found.0, found.2, found.3)

  any-map : (x : E) (out : List ℕ → E) (ds : List (List ℕ)) → list_any (same x) (map out ds) ≡ list_any (λ d. same x (out d)) ds
  any-map x out [] = refl
  any-map x out (d ∷ ds) = ap (λ b. same x (out d) || b) (any-map x out ds)

  -- the values of a function on all draw lists, each once
  abbrev values : List ℕ → (List ℕ → E) → List E
  values shape out = distinct same (map out (draw_lists shape))

  value-any : (shape : List ℕ) (out : List ℕ → E) (d : List ℕ) → IsDrawList shape d →
      list_any (same (out d)) (values shape out) ≡ true
  value-any shape out d h =
      let m = member-from_draws shape d h in
      any-distinct (out d) (map out (draw_lists shape)) ∙ any-map (out d) out (draw_lists shape)
      ∙ list_any-from_Any (λ e. same (out d) (out e)) (draw_lists shape) (m.0, d, m.1, m.2, (told (out d) (out d)).1 refl)

  pub value-there : (shape : List ℕ) (out : List ℕ → E) (x : E) →
      (draws : List ℕ) × IsDrawList shape draws × (out draws ≡ x) → Contains (values shape out) x
  value-there shape out x h =
      Contains-from_any (values shape out) x
      (subst (λ y. list_any (same y) (values shape out) ≡ true) h.2 (value-any shape out h.0 h.1))

  pub value-given : (shape : List ℕ) (out : List ℕ → E) (x : E) → Contains (values shape out) x →
      (draws : List ℕ) × IsDrawList shape draws × (out draws ≡ x)
  value-given shape out x h =
      let any = sym (any-map x out (draw_lists shape)) ∙ sym (any-distinct x (map out (draw_lists shape)))
      ∙ any-from_Contains (values shape out) x h in
      let found = Any-from_list_any (λ d. same x (out d)) (draw_lists shape) any in
      (found.1, draws-from_member shape found.1 (found.0, found.2, found.3), sym ((told x (out found.1)).0 found.4))

  covers : (b c : Bool) → c ≡ true → b ≡ (b && c)
  covers true true h = refl
  covers true false h = sym h
  covers false c h = refl

  -- the draw lists whose value passes a test, by the values that pass it
  pub count-values : (shape : List ℕ) (out : List ℕ → E) (test : E → Bool) →
      count shape (λ d. test (out d)) ≡ sum_by (λ x. count shape (λ d. same (out d) x)) (filter test (values shape out))
  count-values shape out test =
      let all = values shape out in
      set-law same shape out test (filter test all) (apart-filter test all (apart-distinct (map out (draw_lists shape))))
      (λ d h. covers (test (out d)) (list_any (same (out d)) all) (value-any shape out d h) ∙ sym (any-filter test (out d) all))

pub given : GivenLaw
unfolding given_answers
given m v answer = (
  value-given same_answer same_answer-decides m.shape (m.function v) answer,
  value-there same_answer same_answer-decides m.shape (m.function v) answer,
)

pub given-once : GivenOnceLaw
unfolding given_answers
given-once m v =
    AllPairs-from_IsDistinct same_answer-decides (given_answers m v)
    (distinct-once same_answer same_answer-decides (map (m.function v) (draw_lists m.shape)))

pub changed-ways : ChangedWaysLaw
unfolding ways given_answers
changed-ways change m v answer =
    count-values same_answer same_answer-decides m.shape (m.function v) (λ before. same_answer (change before) answer)
