-- The numbers of draw lists of sets of replies.
use Rattle.std.proofs.Common.{◌≡◌, ℕ, ◌+◌, Bool, true, false, ◌&&◌, ◌||◌, not, List, [], ◌∷◌, map, refl, sym, ◌∙◌, ap, Decides}
use Rattle.std.specs.List.{list_any}
use Rattle.std.proofs.lemmas.List.Folds.{list_any-from_Any}
use Rattle.dp_count.specs.AllDrawLists.{draw_lists}
use Rattle.dp_count.specs.DrawLists.{count, IsDrawList}
use Rattle.dp_count.specs.DrawListsLaw.{SetLaw, SetRatioLaw}
use Rattle.dp_count.specs.Ratios.{KeepsRatio}
use Rattle.dp_count.proofs.AllDrawLists.{member-from_draws}
use Rattle.dp_count.proofs.Counting.{count-same, count-never, count-either, count-partition}
use Rattle.dp_count.proofs.Ratios.{ratio-none, ratio-add}

pub set-law : {R : Type 0} → SetLaw R
set-law same shape out wanted given apart cover =
    count-same shape _ _ cover ∙ count-partition same shape out given apart

split-test : (w s : Bool) → w ≡ ((w && s) || (w && not s))
split-test true true = refl
split-test true false = refl
split-test false s = refl

never-both : (w s : Bool) → ((w && s) && (w && not s)) ≡ false
never-both true true = refl
never-both true false = refl
never-both false s = refl

-- a test of the replies, split at one reply
count-split : {R : Type 0} (same : R → R → Bool) (shape : List ℕ) (out : List ℕ → R) (wanted : R → Bool) (r : R) →
    count shape (λ d. wanted (out d)) ≡ count shape (λ d. wanted (out d) && same (out d) r) + count shape (λ d. wanted (out d) && not (same (out d) r))
count-split same shape out wanted r =
    count-same shape _ _ (λ d h. split-test (wanted (out d)) (same (out d) r))
    ∙ count-either shape _ _ (λ d h. never-both (wanted (out d)) (same (out d) r))

module _ {R : Type 0} (same : R → R → Bool) (told : (x y : R) → Decides (same x y) (x ≡ y)) where
  one-wanted : (w s : Bool) → (s ≡ true → w ≡ true) → (w && s) ≡ s
  one-wanted true s h = refl
  one-wanted false true h = absurd (let e = h refl in cc)
  one-wanted false false h = refl

  one-unwanted : (w s : Bool) → (s ≡ true → w ≡ false) → (w && s) ≡ false
  one-unwanted false s h = refl
  one-unwanted true true h = h refl
  one-unwanted true false h = refl

  -- the draw lists of one reply, where the test wants it, and none where it does not
  count-one : (shape : List ℕ) (out : List ℕ → R) (wanted : R → Bool) (r : R) → wanted r ≡ true →
      count shape (λ d. wanted (out d) && same (out d) r) ≡ count shape (λ d. same (out d) r)
  count-one shape out wanted r w =
      count-same shape _ _ (λ d h. one-wanted (wanted (out d)) (same (out d) r) (λ s. ap wanted ((told (out d) r).0 s) ∙ w))

  count-none : (shape : List ℕ) (out : List ℕ → R) (wanted : R → Bool) (r : R) → wanted r ≡ false →
      count shape (λ d. wanted (out d) && same (out d) r) ≡ 0
  count-none shape out wanted r w =
      count-never shape _ (λ d h. one-unwanted (wanted (out d)) (same (out d) r) (λ s. ap wanted ((told (out d) r).0 s) ∙ w))

  module _ (p q k : ℕ) (front back : List ℕ) (one other : List ℕ → R)
      (keeps : (r : R) → KeepsRatio p q k (count front (λ d. same (one d) r)) (count back (λ d. same (other d) r))) where
    head-ratio : (wanted : R → Bool) (r : R) (b : Bool) → wanted r ≡ b →
        KeepsRatio p q k (count front (λ d. wanted (one d) && same (one d) r)) (count back (λ d. wanted (other d) && same (other d) r))
    head-ratio wanted r true w = rw (count-one front one wanted r w, count-one back other wanted r w) (keeps r)
    head-ratio wanted r false w = rw (count-none front one wanted r w) (ratio-none p q k _)

    unwanted : (w : Bool) → (w ≡ true → false ≡ true) → w ≡ false
    unwanted true h = sym (h refl)
    unwanted false h = refl

    covered : (w s c : Bool) → (w ≡ true → (s || c) ≡ true) → (w && not s) ≡ true → c ≡ true
    covered true true c h e = absurd cc
    covered true false c h e = h refl
    covered false s c h e = absurd cc

    -- any list of replies that has those of the front's that are wanted
    set-ratio_by : (given : List R) (wanted : R → Bool) → ((d : List ℕ) → IsDrawList front d → wanted (one d) ≡ true → list_any (same (one d)) given ≡ true) →
        KeepsRatio p q k (count front (λ d. wanted (one d))) (count back (λ d. wanted (other d)))
    set-ratio_by [] wanted cover =
        rw (count-never front (λ d. wanted (one d)) (λ d h. unwanted (wanted (one d)) (cover d h))) (ratio-none p q k _)
    set-ratio_by (r ∷ given) wanted cover =
        let first = head-ratio wanted r (wanted r) refl in
        let rest = set-ratio_by given (λ x. wanted x && not (same x r))
        (λ d h. covered (wanted (one d)) (same (one d) r) (list_any (same (one d)) given) (cover d h)) in
        rw (count-split same front one wanted r, count-split same back other wanted r) (ratio-add p q k _ _ _ _ first rest)

  any-map : (x : R) (out : List ℕ → R) (ds : List (List ℕ)) → list_any (same x) (map out ds) ≡ list_any (λ d. same x (out d)) ds
  any-map x out [] = refl
  any-map x out (d ∷ ds) = ap (λ b. same x (out d) || b) (any-map x out ds)

  any-reply : (shape : List ℕ) (out : List ℕ → R) (d : List ℕ) → IsDrawList shape d → list_any (same (out d)) (map out (draw_lists shape)) ≡ true
  any-reply shape out d h =
      let m = member-from_draws shape d h in
      any-map (out d) out (draw_lists shape)
      ∙ list_any-from_Any (λ e. same (out d) (out e)) (draw_lists shape) (m.0, d, m.1, m.2, (told (out d) (out d)).1 refl)

pub set-ratio : {R : Type 0} → SetRatioLaw R
set-ratio same told p q k front back one other keeps wanted =
    set-ratio_by same told p q k front back one other keeps (map one (draw_lists front)) wanted
    (λ d h w. any-reply same told front one d h)
