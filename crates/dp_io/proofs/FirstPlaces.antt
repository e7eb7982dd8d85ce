-- The place of the first element that passes a test: in a list, after a front of it, and with more behind it.
use Rattle.std.proofs.Common.{◌≡◌, ℕ, suc, ◌+◌, ◌<◌, ◌≤◌, Bool, true, false, not, ◌||◌, cond, List, [], ◌∷◌, ◌++◌, length, take, drop, slice_range, position, refl, sym, ap, ◌∙◌, arith}
use Rattle.std.specs.List.{list_any, position_or_len, before_first, after_first}
use Rattle.std.specs.Option.{unwrap_or}
use Rattle.std.proofs.lemmas.Bool.Decides.{nat_tests}
use Rattle.std.proofs.lemmas.List.{take-append-drop, take-append-le, drop-append-le, drop-drop, take_rest, length-drop, length-take-le}
use Rattle.std.proofs.lemmas.List.Folds.{length-prefix_len, prefix_len-append}
use Rattle.std.proofs.lemmas.List.Sums.{prefix_len-le-length}

pub place-le : (p : ℕ → Bool) (xs : List ℕ) → position_or_len p xs ≤ length xs
place-le p xs = prefix_len-le-length (λ x. not (p x)) xs

-- the place, from the place as an option
pub place-or : (p : ℕ → Bool) (xs : List ℕ) → unwrap_or (position p xs) (length xs) ≡ position_or_len p xs
place-or p xs = let le = place-le p xs in grind (arith, nat_tests)

none-before-step : (p : ℕ → Bool) (b : Bool) (x : ℕ) (xs : List ℕ) (n : ℕ) → p x ≡ b → list_any p (take n xs) ≡ false → list_any p (take (cond (not b) (1 + n) 0) (x ∷ xs)) ≡ false
none-before-step p true x xs n e h = refl
none-before-step p false x xs n e h = let one : 1 + n ≡ suc n = omega arith in rw (one, e) h

-- before the first that passes, none passes
pub none-before : (p : ℕ → Bool) (xs : List ℕ) → list_any p (take (position_or_len p xs) xs) ≡ false
none-before p [] = refl
none-before p (x ∷ xs) = none-before-step p (p x) x xs (position_or_len p xs) refl (none-before p xs)

none-place-step : (b c : Bool) (n m : ℕ) → (b || c) ≡ false → (c ≡ false → n ≡ m) → cond (not b) (1 + n) 0 ≡ suc m
none-place-step true c n m e h = absurd (cc)
none-place-step false c n m e h = let same = h e in omega arith

-- where none passes, the place is the length
pub none-place : (p : ℕ → Bool) (xs : List ℕ) → list_any p xs ≡ false → position_or_len p xs ≡ length xs
none-place p [] h = refl
none-place p (x ∷ xs) h = none-place-step (p x) (list_any p xs) _ _ h (none-place p xs)

none-from-place-step : (b c : Bool) (n m : ℕ) → suc m ≤ cond (not b) (1 + n) 0 → (m ≤ n → c ≡ false) → (b || c) ≡ false
none-from-place-step true c n m e h = absurd (omega arith)
none-from-place-step false c n m e h = h (omega arith)

-- where the place is the length, none passes
pub none-from-place : (p : ℕ → Bool) (xs : List ℕ) → length xs ≤ position_or_len p xs → list_any p xs ≡ false
none-from-place p [] h = refl
none-from-place p (x ∷ xs) h = none-from-place-step (p x) (list_any p xs) _ _ h (none-from-place p xs)

place-before-end-step : (b c : Bool) (n m : ℕ) → (b || c) ≡ true → (c ≡ true → n < m) → cond (not b) (1 + n) 0 < suc m
place-before-end-step true c n m e h = omega arith
place-before-end-step false c n m e h = let less = h e in omega arith

-- where some element passes, the place is before the end
pub place-before-end : (p : ℕ → Bool) (xs : List ℕ) → list_any p xs ≡ true → position_or_len p xs < length xs
place-before-end p [] h = absurd (cc)
place-before-end p (x ∷ xs) h = place-before-end-step (p x) (list_any p xs) _ _ h (place-before-end p xs)

-- the place in a list with more behind it, where some element passes
pub place-append : (p : ℕ → Bool) (xs ys : List ℕ) → position_or_len p xs < length xs → position_or_len p (xs ++ ys) ≡ position_or_len p xs
place-append p xs ys h = let whole = prefix_len-append (λ x. not (p x)) xs ys in grind (arith, nat_tests)

-- more behind a list does not bring the place forward
pub place-append-le : (p : ℕ → Bool) (xs ys : List ℕ) → position_or_len p xs ≤ position_or_len p (xs ++ ys)
place-append-le p xs ys =
    let whole = prefix_len-append (λ x. not (p x)) xs ys in
    let le = place-le p xs in
    grind (arith, nat_tests)

-- the place, after a front where none passes
pub place-drop : (p : ℕ → Bool) (xs : List ℕ) (n : ℕ) → n ≤ length xs → list_any p (take n xs) ≡ false → n + position_or_len p (drop n xs) ≡ position_or_len p xs
place-drop p xs n h none =
    let front : position_or_len p (take n xs) ≡ length (take n xs) = none-place p (take n xs) none in
    let count : length (take n xs) ≡ n = length-take-le n xs h in
    let whole : position_or_len p xs ≡ position_or_len p (take n xs ++ drop n xs) = ap (position_or_len p) (sym (take-append-drop n xs)) in
    let split = prefix_len-append (λ x. not (p x)) (take n xs) (drop n xs) in
    grind (arith, nat_tests)

pub length-before_first : (p : ℕ → Bool) (xs : List ℕ) → length (before_first p xs) ≡ position_or_len p xs
length-before_first p xs = length-prefix_len (λ x. not (p x)) xs

pub before_first-append : (p : ℕ → Bool) (xs ys : List ℕ) → position_or_len p xs < length xs → before_first p (xs ++ ys) ≡ before_first p xs
before_first-append p xs ys h = rw (place-append p xs ys h) (take-append-le (position_or_len p xs) xs ys (omega arith))

pub after_first-append : (p : ℕ → Bool) (xs ys : List ℕ) → position_or_len p xs < length xs → after_first p (xs ++ ys) ≡ after_first p xs ++ ys
after_first-append p xs ys h = rw (place-append p xs ys h) (drop-append-le (position_or_len p xs + 1) xs ys (omega arith))

-- the place in what is not given of a buffer, from the place in what is not searched of it
pub place-further : (p : ℕ → Bool) (slice buffer : List ℕ) (given searched more : ℕ) → slice ≡ buffer → given + searched ≤ length buffer → list_any p (take searched (drop given buffer)) ≡ false
    → more ≡ position_or_len p (slice_range slice (given + searched) (length slice)) → searched + more ≡ position_or_len p (drop given buffer)
place-further p slice buffer given searched more same within none h =
    let rest : slice_range slice (given + searched) (length slice) ≡ drop searched (drop given buffer) =
    take_rest slice (given + searched) ∙ ap (drop (given + searched)) same ∙ sym (drop-drop searched given buffer) in
    let count : searched ≤ length (drop given buffer) = omega (arith, length-drop given buffer) in
    ap (λ n. searched + n) (h ∙ ap (position_or_len p) rest) ∙ place-drop p (drop given buffer) searched count none

none-front-step : (b c d : Bool) → (b || c) ≡ false → (c ≡ false → d ≡ false) → (b || d) ≡ false
none-front-step true c d e h = absurd (cc)
none-front-step false c d e h = h e

-- where none passes, none passes of a front
pub none-front : (p : ℕ → Bool) (xs ys : List ℕ) → list_any p (xs ++ ys) ≡ false → list_any p xs ≡ false
none-front p [] ys h = refl
none-front p (x ∷ xs) ys h = none-front-step (p x) _ _ h (none-front p xs ys)
