-- What remains to a reader of lines, after it gave a line and after it read a piece.
use Rattle.std.proofs.Common.{◌≡◌, ℕ, ◌≤◌, Bool, true, false, ◌||◌, nat_lt, ◌==◌, if◌then◌else◌, List, [], ◌++◌, length, Option, Some, None, option_map, refl, sym, ap, ◌∙◌, append_assoc, arith}
use Rattle.std.specs.List.{list_any, position_or_len}
use Rattle.std.proofs.lemmas.Bool.{ltb-true, ltb-false, or_parts}
use Rattle.std.proofs.lemmas.Bool.Decides.{nat_tests}
use Rattle.std.proofs.lemmas.List.{nil_from_length}
use Rattle.dp_io.specs.Shelf.{preceded, IsEmptied}
use Rattle.dp_io.specs.Lines.{LinesValue, is_line_feed, first_line, after_first_line, remaining, needs_read, ReadsAhead}
use Rattle.dp_io.proofs.FirstPlaces.{length-before_first, before_first-append, after_first-append, place-append-le, none-place, none-from-place, none-front}

-- the first line ends in the bytes read ahead, or no more bytes come
abbrev pub is_first_known : LinesValue → Bool
is_first_known lines = lines.at_end || nat_lt (position_or_len is_line_feed lines.read_ahead) (length lines.read_ahead)

first-known : (at_end : Bool) (ahead rest : List ℕ) → (at_end || nat_lt (position_or_len is_line_feed ahead) (length ahead)) ≡ true → first_line ahead ≡ first_line (if at_end then ahead else ahead ++ rest)
first-known true ahead rest known = refl
first-known false ahead rest known = sym (before_first-append is_line_feed ahead rest (ltb-true _ _ known))

after-known : (at_end : Bool) (ahead rest : List ℕ) → (at_end || nat_lt (position_or_len is_line_feed ahead) (length ahead)) ≡ true → (if at_end then after_first_line ahead else after_first_line ahead ++ rest) ≡ after_first_line (if at_end then ahead else ahead ++ rest)
after-known true ahead rest known = refl
after-known false ahead rest known = sym (after_first-append is_line_feed ahead rest (ltb-true _ _ known))

-- the first line of the bytes read ahead is that of the text
pub line-known : (lines : LinesValue) (left : Option (List ℕ)) (text : List ℕ) → is_first_known lines ≡ true → remaining lines left ≡ Some text → first_line lines.read_ahead ≡ first_line text
line-known lines None text known h = absurd (cc)
line-known lines (Some rest) text known h =
    let all : (if lines.at_end then lines.read_ahead else lines.read_ahead ++ rest) ≡ text = cc in
    first-known lines.at_end lines.read_ahead rest known ∙ ap first_line all

-- what remains after that line is what comes after it in the text
pub remaining-line : (lines new : LinesValue) (left : Option (List ℕ)) → is_first_known lines ≡ true → new.at_end ≡ lines.at_end → new.read_ahead ≡ after_first_line lines.read_ahead → remaining new left ≡ option_map after_first_line (remaining lines left)
remaining-line lines new None known end ahead = refl
remaining-line lines new (Some rest) known end ahead = rw (end, ahead) (ap Some (after-known lines.at_end lines.read_ahead rest known))

long-known : (at_end : Bool) (ahead rest : List ℕ) → position_or_len is_line_feed ahead ≤ length (first_line (if at_end then ahead else ahead ++ rest))
long-known true ahead rest = omega (arith, length-before_first is_line_feed ahead)
long-known false ahead rest = omega (arith, length-before_first is_line_feed (ahead ++ rest), place-append-le is_line_feed ahead rest)

-- the text's first line is no shorter than what of it was read ahead
pub line-long : (lines : LinesValue) (left : Option (List ℕ)) (text : List ℕ) → remaining lines left ≡ Some text → position_or_len is_line_feed lines.read_ahead ≤ length (first_line text)
line-long lines None text h = absurd (cc)
line-long lines (Some rest) text h = let all : (if lines.at_end then lines.read_ahead else lines.read_ahead ++ rest) ≡ text = cc in rw (← all) (long-known lines.at_end lines.read_ahead rest)

unended-known : (at_end : Bool) (ahead rest : List ℕ)
    → (at_end || nat_lt (position_or_len is_line_feed ahead) (length ahead)) ≡ true
    → list_any is_line_feed (if at_end then ahead else ahead ++ rest) ≡ false → at_end ≡ true
unended-known true ahead rest known none = refl
unended-known false ahead rest known none =
    let none_ahead : list_any is_line_feed ahead ≡ false = none-front is_line_feed ahead rest none in
    let before = ltb-true _ _ known in
    let place = none-place is_line_feed ahead none_ahead in
    absurd (omega arith)

-- a first line that is known and has no line feed ends the text
pub unended-at_end : (lines : LinesValue) (left : Option (List ℕ)) (text : List ℕ) → is_first_known lines ≡ true
    → remaining lines left ≡ Some text → list_any is_line_feed text ≡ false → lines.at_end ≡ true
unended-at_end lines None text known h none = absurd (cc)
unended-at_end lines (Some rest) text known h none =
    let all : (if lines.at_end then lines.read_ahead else lines.read_ahead ++ rest) ≡ text = cc in
    unended-known lines.at_end lines.read_ahead rest known (rw all none)

-- where the first line is not known, more is to come
pub more-unknown : (lines : LinesValue) → is_first_known lines ≡ false → lines.at_end ≡ false
more-unknown lines h = (or_parts _ _ h).0

-- where the first line is not known, a read is needed
pub needs_read-unknown : (lines : LinesValue) → is_first_known lines ≡ false → needs_read lines ≡ true
needs_read-unknown lines h =
    let both : (lines.at_end ≡ false) × (nat_lt (position_or_len is_line_feed lines.read_ahead) (length lines.read_ahead) ≡ false) = or_parts _ _ h in
    rw (both.0, none-from-place is_line_feed lines.read_ahead (ltb-false _ _ both.1)) refl

-- after a read that came to the end nothing is left
pub emptied-at_end : (lines new : LinesValue) (old_left new_left : Option (List ℕ)) → ReadsAhead old_left new_left lines new → new.at_end ≡ true → IsEmptied new_left
emptied-at_end lines new old_left new_left h end = h.read.emptied (grind (arith, nat_tests))

piece-read : (is_end : Bool) (ahead piece rest : List ℕ) → (is_end ≡ true → piece ≡ []) → (is_end ≡ true → rest ≡ []) → (if is_end then ahead ++ piece else (ahead ++ piece) ++ rest) ≡ ahead ++ (piece ++ rest)
piece-read true ahead piece rest empty emptied = rw (empty refl, emptied refl) refl
piece-read false ahead piece rest empty emptied = append_assoc ahead piece rest

piece-remains : (count : ℕ) (ahead piece : List ℕ) (new_left : Option (List ℕ)) → length piece ≡ count → (count ≡ 0 → IsEmptied new_left) → option_map (λ rest. if count == 0 then ahead ++ piece else (ahead ++ piece) ++ rest) new_left ≡ option_map (λ rest. ahead ++ rest) (preceded piece new_left)
piece-remains count ahead piece None size none = refl
piece-remains count ahead piece (Some rest) size none =
    let zero_count : (count == 0) ≡ true → count ≡ 0 = λ h. grind (arith, nat_tests) in
    ap Some (piece-read (count == 0) ahead piece rest (λ h. nil_from_length piece (size ∙ zero_count h)) (λ h. none (zero_count h) rest refl))

-- a read changes nothing of what remains
pub remaining-read : (lines new : LinesValue) (old_left new_left : Option (List ℕ)) → lines.at_end ≡ false → ReadsAhead old_left new_left lines new → remaining new new_left ≡ remaining lines old_left
remaining-read lines new old_left new_left more h =
    rw (h.at_end, h.read.behind, h.read.moved, more) (piece-remains h.count lines.read_ahead h.read.piece new_left h.read.count h.read.emptied)
