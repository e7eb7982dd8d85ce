-- Running sums place by place.
use Rattle.std.proofs.Common.{◌≡◌, ℕ, zero, suc, ◌+◌, ◌<◌, List, [], ◌∷◌, length, get_or, pos, refl, ap, ◌∙◌, arith, add-one, ℤ, ◌+ℤ◌}
use Rattle.std.specs.List.{scan}
use Rattle.std.proofs.lemmas.Int.{ints}
use Rattle.dp_post.specs.Posts.{clipped, clipped_sum, running_sums}
use Rattle.dp_post.specs.PostedLaw.{RunningSumsLaw}

module _ {E : Type 0} (f : E → E → E) where
  pub scan-length : (s : E) (xs : List E) → length (scan f f s xs) ≡ length xs
  scan-length s [] = refl
  scan-length s (x ∷ xs) = let rest = scan-length (f s x) xs in omega arith

  pub scan-first : (s : E) (xs : List E) (d : E) → 0 < length xs → get_or (scan f f s xs) 0 d ≡ f s (get_or xs 0 d)
  scan-first s [] d h = absurd (omega arith)
  scan-first s (x ∷ xs) d h = refl

  scan-suc : (s : E) (xs : List E) (k : ℕ) (d : E) → suc k < length xs →
      get_or (scan f f s xs) (suc k) d ≡ f (get_or (scan f f s xs) k d) (get_or xs (suc k) d)
  scan-suc s [] k d h = absurd (omega arith)
  scan-suc s (x ∷ xs) zero d h = scan-first (f s x) xs d (omega arith)
  scan-suc s (x ∷ xs) (suc k) d h = scan-suc (f s x) xs k d (omega arith)

  pub scan-next : (s : E) (xs : List E) (k : ℕ) (d : E) → k + 1 < length xs →
      get_or (scan f f s xs) (k + 1) d ≡ f (get_or (scan f f s xs) k d) (get_or xs (k + 1) d)
  scan-next s xs k d h = rw (add-one k) (scan-suc s xs k d (omega arith))

first-sum : (cell : ℤ) → pos 0 +ℤ cell ≡ cell
first-sum cell = omega (arith, ints)

pub running-sums : RunningSumsLaw
running-sums cells = record {
  as_many = scan-length clipped_sum (pos 0) cells;
  first = λ d h. scan-first clipped_sum (pos 0) cells d h ∙ ap clipped (first-sum (get_or cells 0 d));
  next = λ k d h. scan-next clipped_sum (pos 0) cells k d h;
}

-- four cells
counted : running_sums (pos 2 ∷ pos 4 ∷ pos 2 ∷ pos 3 ∷ []) ≡ pos 2 ∷ pos 6 ∷ pos 8 ∷ pos 11 ∷ []
counted = refl
