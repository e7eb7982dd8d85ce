-- The first place of a greatest number.
use Rattle.std.proofs.Common.{◌≡◌, ℕ, ◌<◌, ℤ, pos, Bool, true, false, List, length, get_or, ap, sym, ◌∙◌, arith, [], ◌∷◌, refl}
use Rattle.std.specs.Prelude.{int_le, int_lt}
use Rattle.std.specs.Cmp.{IsStrictWeakOrder}
use Rattle.std.specs.List.{IsFirstBest}
use Rattle.std.proofs.lemmas.Int.{ints}
use Rattle.std.proofs.lemmas.List.{get_or_default}
use Rattle.std.proofs.lemmas.List.Folds.{list_all_at}
use Rattle.std.proofs.lemmas.List.Sums.{list_all-from_AllPass, position_or_len_is}
use Rattle.dp_post.specs.Posts.{is_greatest, first_greatest}

-- the greater number wins
abbrev pub is_greater : ℤ → ℤ → Bool
is_greater x y = int_lt y x

pub greater-order : IsStrictWeakOrder is_greater
greater-order = record {
  one_way = λ x y h. not-both x y h;
  chain = λ x y z h k. no-greater x y z h k;
}
  where
    not-both : (x y : ℤ) → int_lt y x ≡ true → int_lt x y ≡ false
    not-both x y h = grind (arith, ints)

    no-greater : (x y z : ℤ) → int_lt y x ≡ false → int_lt z y ≡ false → int_lt z x ≡ false
    no-greater x y z h k = grind (arith, ints)

past-greater : (x y : ℤ) → int_lt y x ≡ true → int_le x y ≡ false
past-greater x y h = grind (arith, ints)

at-least : (x y : ℤ) → int_lt y x ≡ false → int_le x y ≡ true
at-least x y h = grind (arith, ints)

-- a number that is first among the greatest stands there
pub greatest-place : (xs : List ℤ) (b : ℕ) → IsFirstBest is_greater xs (length xs) b → b ≡ first_greatest xs
greatest-place xs b h =
    let cell : ℕ → ℤ = λ k. get_or xs k (pos 0) in
    let inside : b < length xs = h.0 in
    let place : first_greatest xs ≡ b = position_or_len_is (is_greatest xs) xs b (pos 0) (omega arith)
    (λ k below. list_all_at (λ other. int_le other (cell k)) xs b (pos 0) inside (past-greater (cell b) (cell k) (h.2 k (pos 0) below)))
    (λ here. list_all-from_AllPass (λ other. int_le other (cell b)) xs
    (λ k d below.
    ap (λ y. int_le (get_or xs k d) y) (get_or_default xs b (pos 0) d inside)
    ∙ at-least (get_or xs k d) (get_or xs b d) (h.1 k d below))) in
    sym place

-- four cells, and two that are equal
fourth : first_greatest (pos 2 ∷ pos 6 ∷ pos 8 ∷ pos 11 ∷ []) ≡ 3
fourth = refl

first-of-equal : first_greatest (pos 1 ∷ pos 5 ∷ pos 5 ∷ []) ≡ 1
first-of-equal = refl

of-none : first_greatest [] ≡ 0
of-none = refl
