-- The lines of small texts, computed.
use Rattle.std.proofs.Common.{◌≡◌, true, false, [], ◌∷◌, refl}
use Rattle.dp_io.specs.Lines.{first_line, after_first_line, lines_of, lines_within, has_line_over}

no_line : lines_of [] ≡ []
unfolding lines_of
no_line = refl

an_empty_line : lines_of (10 ∷ []) ≡ [] ∷ []
unfolding lines_of
an_empty_line = refl

a_last_line_without_line_feed : lines_of (97 ∷ 10 ∷ 98 ∷ []) ≡ (97 ∷ []) ∷ (98 ∷ []) ∷ []
unfolding lines_of
a_last_line_without_line_feed = refl

an_empty_rest : lines_of (97 ∷ 10 ∷ 98 ∷ 10 ∷ []) ≡ (97 ∷ []) ∷ (98 ∷ []) ∷ []
unfolding lines_of
an_empty_rest = refl

empty_lines_between : lines_of (10 ∷ 10 ∷ 97 ∷ 10 ∷ 10 ∷ []) ≡ [] ∷ [] ∷ (97 ∷ []) ∷ [] ∷ []
unfolding lines_of
empty_lines_between = refl

first_of_two : first_line (97 ∷ 98 ∷ 10 ∷ 99 ∷ []) ≡ 97 ∷ 98 ∷ []
first_of_two = refl

after_first_of_two : after_first_line (97 ∷ 98 ∷ 10 ∷ 99 ∷ []) ≡ 99 ∷ []
after_first_of_two = refl

after_the_only_one : after_first_line (97 ∷ 98 ∷ []) ≡ []
after_the_only_one = refl

two_of_three : lines_within 2 (97 ∷ 10 ∷ 98 ∷ 10 ∷ 99 ∷ []) ≡ (97 ∷ []) ∷ (98 ∷ []) ∷ []
unfolding lines_within lines_of
two_of_three = refl

three_are_over_two : has_line_over 2 (97 ∷ 10 ∷ 98 ∷ 10 ∷ 99 ∷ []) ≡ true
unfolding has_line_over lines_of
three_are_over_two = refl

two_are_not : has_line_over 2 (97 ∷ 10 ∷ 98 ∷ 10 ∷ []) ≡ false
unfolding has_line_over lines_of
two_are_not = refl
