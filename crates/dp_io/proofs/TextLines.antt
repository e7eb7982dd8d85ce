-- The lines of a text, taken off one after another.
use Rattle.std.proofs.Common.{◌≡◌, ℕ, zero, suc, ◌+◌, ◌<◌, ◌≤◌, Bool, true, false, ◌||◌, inl, inr, not, ◌==◌, List, [], ◌∷◌, ◌++◌, cond, length, take, drop, nat_lt, refl, ap, ◌∙◌, arith}
use Rattle.std.specs.List.{list_any, position_or_len, slice_split, take_while}
use Rattle.std.proofs.lemmas.Bool.{cases_lt, cond-false, ne_eqb, lt-ltb, ltb-false, le-leb, lt-leb, eqb-true, or_parts, or_right}
use Rattle.std.proofs.lemmas.Bool.Decides.{nat_tests}
use Rattle.std.proofs.lemmas.List.{take_all, drop_all}
use Rattle.std.proofs.lemmas.List.Sums.{fails_before_first, take_while-cons}
use Rattle.std.proofs.lemmas.List.Splits.{slice_split_none, slice_split_first, slice_split_at, length-slice_split}
use Rattle.dp_io.specs.Lines.{is_line_feed, first_line, after_first_line, without_empty_last, lines_of, without_last, ended_lines, is_short, lines_within, has_line_over}
use Rattle.dp_io.proofs.FirstPlaces.{length-before_first, place-le, none-place}

without-cons : (piece : List ℕ) (pieces : List (List ℕ)) → 0 < length pieces → without_empty_last (piece ∷ pieces) ≡ piece ∷ without_empty_last pieces
without-cons piece [] some = absurd (omega arith)
without-cons piece (next ∷ pieces) some = refl

without-one : (text : List ℕ) → 0 < length text → without_empty_last (text ∷ []) ≡ text ∷ []
without-one [] some = absurd (omega arith)
without-one (x ∷ xs) some = cond-false (length (x ∷ xs) == 0) [] ((x ∷ xs) ∷ []) (ne_eqb _ _ (λ h. omega arith))

pub lines-none : lines_of [] ≡ []
unfolding lines_of
lines-none = refl

lines-fed : (text : List ℕ) → position_or_len is_line_feed text < length text → lines_of text ≡ first_line text ∷ lines_of (after_first_line text)
unfolding lines_of
lines-fed text fed =
    let rest = slice_split is_line_feed (after_first_line text) in
    let some : 0 < length rest = omega (arith, length-slice_split is_line_feed (after_first_line text)) in
    ap without_empty_last (slice_split_first is_line_feed text 0 fed) ∙ without-cons (first_line text) rest some

lines-unfed : (text : List ℕ) → 0 < length text → length text ≤ position_or_len is_line_feed text → lines_of text ≡ first_line text ∷ lines_of (after_first_line text)
unfolding lines_of
lines-unfed text some unfed =
    let whole = slice_split_none is_line_feed text (λ k d h. fails_before_first is_line_feed text k d (omega arith)) in
    rw (whole, take_all (position_or_len is_line_feed text) text unfed, drop_all (position_or_len is_line_feed text + 1) text (omega arith)) (without-one text some)

-- the first line, and then the lines of what comes after it
pub lines-first : (text : List ℕ) → 0 < length text → lines_of text ≡ first_line text ∷ lines_of (after_first_line text)
lines-first text some = elim (cases_lt (position_or_len is_line_feed text) (length text)) [ inl fed ↦ lines-fed text fed | inr unfed ↦ lines-unfed text some unfed ]

pub within-none : (most : ℕ) → lines_within most [] ≡ []
unfolding lines_within
within-none zero = refl
within-none (suc most) = rw lines-none refl

pub within-zero : (text : List ℕ) → lines_within 0 text ≡ []
unfolding lines_within
within-zero text = refl

-- a first line that is short, and then the lines within of what comes after it
pub within-first : (most : ℕ) (text : List ℕ) → 0 < length text → length (first_line text) ≤ 65536 → lines_within (suc most) text ≡ first_line text ∷ lines_within most (after_first_line text)
unfolding lines_within
within-first most text some small =
    let short : is_short (first_line text) ≡ true = le-leb _ _ small in
    rw (lines-first text some, take_while-cons is_short (first_line text) (take most (lines_of (after_first_line text))), short) refl

-- a text with a byte in its first line
text-some : (text : List ℕ) → 65536 < length (first_line text) → 0 < length text
text-some text long = omega (arith, length-before_first is_line_feed text, place-le is_line_feed text)

within-long-suc : (most : ℕ) (text : List ℕ) → 65536 < length (first_line text) → lines_within (suc most) text ≡ []
unfolding lines_within
within-long-suc most text long =
    let unshort : is_short (first_line text) ≡ false = lt-leb _ _ long in
    rw (lines-first text (text-some text long), take_while-cons is_short (first_line text) (take most (lines_of (after_first_line text))), unshort) refl

-- nothing before a first line that is longer
pub within-long : (most : ℕ) (text : List ℕ) → 65536 < length (first_line text) → lines_within most text ≡ []
within-long zero text long = within-zero text
within-long (suc most) text long = within-long-suc most text long

pub over-none : (most : ℕ) → has_line_over most [] ≡ false
unfolding has_line_over
over-none most = rw lines-none (grind (arith, nat_tests))

pub over-zero : (text : List ℕ) → 0 < length text → has_line_over 0 text ≡ true
unfolding has_line_over
over-zero text some =
    let some_lines : nat_lt 0 (length (first_line text ∷ lines_of (after_first_line text))) ≡ true = lt-ltb _ _ (omega arith) in
    rw (lines-first text some) (or_right _ _ some_lines)

lt-suc : (m n : ℕ) → nat_lt (suc m) (suc n) ≡ nat_lt m n
lt-suc m n = grind (arith, nat_tests)

-- after a first line that is short the rest decides
pub over-first : (most : ℕ) (text : List ℕ) → 0 < length text → length (first_line text) ≤ 65536 → has_line_over (suc most) text ≡ has_line_over most (after_first_line text)
unfolding has_line_over
over-first most text some small =
    let short : is_short (first_line text) ≡ true = le-leb _ _ small in
    let lines = lines_of (after_first_line text) in
    rw (lines-first text some, short) (ap (λ over. list_any (λ line. not (is_short line)) lines || over) (lt-suc most (length lines)))

pub over-long : (most : ℕ) (text : List ℕ) → 65536 < length (first_line text) → has_line_over most text ≡ true
unfolding has_line_over
over-long most text long =
    let unshort : is_short (first_line text) ≡ false = lt-leb _ _ long in
    rw (lines-first text (text-some text long), unshort) refl

short-not : (short : Bool) → not short ≡ false → short ≡ true
short-not true h = refl
short-not false h = absurd cc

take-while-all : (lines : List (List ℕ)) → list_any (λ line. not (is_short line)) lines ≡ false → take_while is_short lines ≡ lines
take-while-all [] h = refl
take-while-all (line ∷ lines) h =
    let both : (not (is_short line) ≡ false) × (list_any (λ line. not (is_short line)) lines ≡ false) = or_parts _ _ h in
    rw (take_while-cons is_short line lines, short-not (is_short line) both.0) (ap (λ rest. line ∷ rest) (take-while-all lines both.1))

-- where no line is over, all lines are within
pub within-all : (most : ℕ) (text : List ℕ) → has_line_over most text ≡ false → lines_within most text ≡ lines_of text
unfolding lines_within has_line_over
within-all most text none =
    let both : (list_any (λ line. not (is_short line)) (lines_of text) ≡ false) × (nat_lt most (length (lines_of text)) ≡ false) = or_parts _ _ none in
    let few : length (lines_of text) ≤ most = ltb-false _ _ both.1 in
    rw (take_all most (lines_of text) few) (take-while-all (lines_of text) both.0)

-- ---- the lines that end with a line feed

last-cons : (piece : List ℕ) (pieces : List (List ℕ)) → 0 < length pieces → without_last (piece ∷ pieces) ≡ piece ∷ without_last pieces
last-cons piece [] some = absurd (omega arith)
last-cons piece (next ∷ pieces) some = refl

pub ended-none : (text : List ℕ) → list_any is_line_feed text ≡ false → ended_lines text ≡ []
unfolding ended_lines
ended-none text none =
    let place = none-place is_line_feed text none in
    ap without_last (slice_split_none is_line_feed text (λ k d h. fails_before_first is_line_feed text k d (omega arith)))

-- a first line and its line feed, and then the lines of what comes after it
pub ended-first : (line more : List ℕ) → list_any is_line_feed line ≡ false → ended_lines (line ++ 10 ∷ more) ≡ line ∷ ended_lines more
unfolding ended_lines
ended-first line more none =
    let place = none-place is_line_feed line none in
    let some : 0 < length (slice_split is_line_feed more) = omega (arith, length-slice_split is_line_feed more) in
    ap without_last (slice_split_at is_line_feed line 10 more (λ k d h. fails_before_first is_line_feed line k d (omega arith)) refl)
    ∙ last-cons line (slice_split is_line_feed more) some

fed-step : (fed any : Bool) (byte place : ℕ) (rest : List ℕ) → (byte == 10) ≡ fed → (fed || any) ≡ true
    → (any ≡ true → rest ≡ take place rest ++ 10 ∷ drop (place + 1) rest)
    → byte ∷ rest ≡ take (cond (not fed) (1 + place) 0) (byte ∷ rest) ++ 10 ∷ drop (cond (not fed) (1 + place) 0 + 1) (byte ∷ rest)
fed-step true any byte place rest is some more =
    let same : byte ≡ 10 = eqb-true _ _ is in
    rw same refl
fed-step false any byte place rest is some more =
    let one : 1 + place ≡ suc place = omega arith in
    let two : suc place + 1 ≡ suc (place + 1) = omega arith in
    rw (one, two) (ap (λ l. byte ∷ l) (more some))

-- a text that has a line feed is its first line, a line feed, and what comes after it
pub text-fed : (text : List ℕ) → list_any is_line_feed text ≡ true → text ≡ first_line text ++ 10 ∷ after_first_line text
text-fed [] some = absurd (cc)
text-fed (byte ∷ rest) some =
    fed-step (byte == 10) (list_any is_line_feed rest) byte (position_or_len is_line_feed rest) rest refl some (text-fed rest)
