-- The place of a text among the keys of a table, and lists of texts that are all different.
use Rattle.std.proofs.Common.{◌≡◌, ℕ, ◌+◌, ◌≤◌, ◌<◌, Bool, true, false, cond, ◌&&◌, ◌||◌, List, [], ◌∷◌, ◌++◌, map, length, take, drop, get_or, Some, None, refl, sym, ◌∙◌, ap, arith}
use Rattle.std.specs.Prelude.{not, nat_lt}
use Rattle.std.specs.List.{list_any, position, position_or_len}
use Rattle.std.proofs.lemmas.Bool.Decides.{nat_tests}
use Rattle.std.proofs.lemmas.List.{take_more, length_push}
use Rattle.std.proofs.lemmas.List.{take-append-drop}
use Rattle.std.proofs.lemmas.List.Sums.{prefix_len-le-length}
use Rattle.dp_domain.specs.Distance.{text_eq}
use Rattle.dp_domain.proofs.Equality.{text_eq-decides}
use Rattle.dp_rowwise.specs.Categories.{place_in, are_different}

position_or_len-map : {X Y : Type 0} (p : Y → Bool) (f : X → Y) (xs : List X) → position_or_len p (map f xs) ≡ position_or_len (λ x. p (f x)) xs
position_or_len-map p f [] = refl
position_or_len-map p f (x ∷ xs) = ap (λ n. cond (not (p (f x))) (1 + n) 0) (position_or_len-map p f xs)

pub list_any-map : {X Y : Type 0} (p : Y → Bool) (f : X → Y) (xs : List X) → list_any p (map f xs) ≡ list_any (λ x. p (f x)) xs
list_any-map p f [] = refl
list_any-map p f (x ∷ xs) = ap (λ b. p (f x) || b) (list_any-map p f xs)

found-place : (b : Bool) (n i : ℕ) → Some i ≡ cond b (Some n) None → i ≡ n
found-place true n i h = cc
found-place false n i h = absurd cc

missing-place : (b : Bool) (n m : ℕ) → nat_lt n m ≡ b → n ≤ m → None ≡ cond b (Some n) None → m ≡ n
missing-place true n m e le h = absurd cc
missing-place false n m e le h = grind (arith, nat_tests)

-- the place at which a search among keys found the text
pub place_in-found : {X : Type 0} (f : X → List ℕ) (keys : List X) (text : List ℕ) (i : ℕ) → Some i ≡ position (λ key. text_eq text (f key)) keys → i ≡ place_in (map f keys) text
place_in-found f keys text i h =
    found-place (nat_lt (position_or_len (λ key. text_eq text (f key)) keys) (length keys)) (position_or_len (λ key. text_eq text (f key)) keys) i h
    ∙ sym (position_or_len-map (text_eq text) f keys)

-- the place of a text that was not found
pub place_in-missing : {X : Type 0} (f : X → List ℕ) (keys : List X) (text : List ℕ) → None ≡ position (λ key. text_eq text (f key)) keys → length keys ≡ place_in (map f keys) text
place_in-missing f keys text h =
    let first = position_or_len (λ key. text_eq text (f key)) keys in
    missing-place (nat_lt first (length keys)) first (length keys) refl (prefix_len-le-length (λ key. not (text_eq text (f key))) keys) h
    ∙ sym (position_or_len-map (text_eq text) f keys)

same-both : (a b : Bool) → (a ≡ true → b ≡ true) → (b ≡ true → a ≡ true) → a ≡ b
same-both true b h k = sym (h refl)
same-both false true h k = k refl
same-both false false h k = refl

text_eq-comm : (x y : List ℕ) → text_eq x y ≡ text_eq y x
text_eq-comm x y = same-both (text_eq x y) (text_eq y x) (λ h. (text_eq-decides y x).1 (sym ((text_eq-decides x y).0 h))) (λ h. (text_eq-decides x y).1 (sym ((text_eq-decides y x).0 h)))

regrouped : (a s d b : Bool) → (not (a || (s || false)) && (d && not b)) ≡ ((not a && d) && not (s || b))
regrouped true s d b = refl
regrouped false true true b = refl
regrouped false true false b = refl
regrouped false false true b = refl
regrouped false false false b = refl

any-step : (b c d e : Bool) → c ≡ (d || e) → (b || c) ≡ ((b || d) || e)
any-step true c d e h = refl
any-step false c d e h = h

any-push : (p : List ℕ → Bool) (xs : List (List ℕ)) (y : List ℕ) → list_any p (xs ++ y ∷ []) ≡ (list_any p xs || (p y || false))
any-push p [] y = refl
any-push p (x ∷ xs) y = any-step (p x) (list_any p (xs ++ y ∷ [])) (list_any p xs) (p y || false) (any-push p xs y)

-- one more text
pub are_different-push : (texts : List (List ℕ)) (text : List ℕ) → are_different (texts ++ text ∷ []) ≡ (are_different texts && not (list_any (text_eq text) texts))
unfolding are_different
are_different-push [] text = refl
are_different-push (first ∷ texts) text =
    let ih = are_different-push texts text in
    let any = any-push (text_eq first) texts text in
    let same = text_eq-comm first text in
    rw (any, ih, ← same) (regrouped (list_any (text_eq first) texts) (text_eq first text) (are_different texts) (list_any (text_eq text) texts))

any-more_by : (b c d : Bool) → (b || c) ≡ true → (c ≡ true → d ≡ true) → (b || d) ≡ true
any-more_by true c d h k = refl
any-more_by false c d h k = k h

any-more : (p : List ℕ → Bool) (xs ys : List (List ℕ)) → list_any p xs ≡ true → list_any p (xs ++ ys) ≡ true
any-more p [] ys h = absurd cc
any-more p (x ∷ xs) ys h = any-more_by (p x) (list_any p xs) (list_any p (xs ++ ys)) h (any-more p xs ys)

front-step : (a b c d : Bool) → (not a && c) ≡ false → (a ≡ true → b ≡ true) → (c ≡ false → d ≡ false) → (not b && d) ≡ false
front-step true b c d h k l = ap (λ z. not z && d) (k refl)
front-step false true c d h k l = refl
front-step false false c d h k l = l h

-- where a front of the texts has two equal ones, so have all
pub are_different-front : (front back : List (List ℕ)) → are_different front ≡ false → are_different (front ++ back) ≡ false
unfolding are_different
are_different-front [] back h = absurd cc
are_different-front (text ∷ texts) back h =
    front-step (list_any (text_eq text) texts) (list_any (text_eq text) (texts ++ back)) (are_different texts) (are_different (texts ++ back)) h (any-more (text_eq text) texts back) (are_different-front texts back)

pub are_different-nil : are_different [] ≡ true
unfolding are_different
are_different-nil = refl

-- a fresh text keeps the texts different
pub fresh-more : (texts : List (List ℕ)) (text : List ℕ) (fresh : Bool) → are_different texts ≡ true → fresh ≡ not (list_any (text_eq text) texts) → fresh ≡ true → are_different (texts ++ text ∷ []) ≡ true
fresh-more texts text fresh different told is_fresh = are_different-push texts text ∙ rw (different, ← told) is_fresh

-- the next text after a front, taken with it
pub taken-more : (all front : List (List ℕ)) (text : List ℕ) → front ≡ take (length front) all → (length front < length all) × (text ≡ get_or all (length front) text) → front ++ text ∷ [] ≡ take (length (front ++ text ∷ [])) all
taken-more all front text taken turn =
    let more = take_more all (length front) text turn.0 in
    let joined : front ++ text ∷ [] ≡ take (length front) all ++ get_or all (length front) text ∷ [] = ap (λ xs. xs ++ text ∷ []) taken ∙ ap (λ x. take (length front) all ++ x ∷ []) turn.1 in
    rw (length_push front text) (joined ∙ sym more)

-- a text that stands in the front before it: the texts are not all different
pub not-fresh : (all front : List (List ℕ)) (text : List ℕ) (fresh : Bool) → front ≡ take (length front) all → (length front < length all) × (text ≡ get_or all (length front) text)
    → are_different front ≡ true → fresh ≡ not (list_any (text_eq text) front) → fresh ≡ false → are_different all ≡ false
not-fresh all front text fresh taken turn different told is_old =
    let more = taken-more all front text taken turn in
    let twice : are_different (front ++ text ∷ []) ≡ false = are_different-push front text ∙ rw (different, ← told) is_old in
    let n = length (front ++ text ∷ []) in
    let part : are_different (take n all) ≡ false = ap are_different (sym more) ∙ twice in
    let whole = are_different-front (take n all) (drop n all) part in
    rw take-append-drop at whole

-- the first of two lists, where the test is true
pub chosen : {X : Type 0} (b : Bool) (x y z : List X) → b ≡ true → x ≡ cond b y z → x ≡ y
chosen true x y z h e = e
chosen false x y z h e = absurd cc
