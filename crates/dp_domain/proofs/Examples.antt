-- The distances of small lists, computed.
use Rattle.std.proofs.Common.{◌≡◌, ℕ, pos, negsuc, List, [], ◌∷◌, replicate, Some, None, refl}
use Rattle.std.specs.Prelude.{codes, nat_eq}
use Rattle.std.specs.Ordering.{int_eq}
use Rattle.dp_domain.specs.Users.{groups_apart, users_apart, distance}
use Rattle.dp_domain.specs.Distance.{distinct, diff, l1, text_eq, record_eq, opt_int_eq}

a_repeated_number : diff nat_eq (1 ∷ 1 ∷ 2 ∷ []) (1 ∷ 3 ∷ []) ≡ 3
unfolding diff distinct
a_repeated_number = refl

another_order : diff int_eq (pos 1 ∷ negsuc 4 ∷ pos 1 ∷ []) (pos 1 ∷ pos 1 ∷ negsuc 4 ∷ []) ≡ 0
unfolding diff distinct
another_order = refl

nothing_in_common : diff nat_eq (1 ∷ 2 ∷ []) (3 ∷ 4 ∷ 5 ∷ []) ≡ 5
unfolding diff distinct
nothing_in_common = refl

texts : diff text_eq (codes "3" ∷ codes "12x" ∷ []) (codes "12x" ∷ []) ≡ 1
unfolding diff distinct
texts = refl

rows : diff record_eq ((codes "a" ∷ codes "3" ∷ []) ∷ []) ((codes "a" ∷ codes "4" ∷ []) ∷ []) ≡ 2
unfolding diff distinct
rows = refl

a_missing_number : diff opt_int_eq (None ∷ Some (pos 3) ∷ []) (Some (pos 3) ∷ None ∷ None ∷ []) ≡ 1
unfolding diff distinct
a_missing_number = refl

cells : l1 (pos 3 ∷ negsuc 1 ∷ []) (pos 1 ∷ pos 4 ∷ []) ≡ 8
unfolding l1
cells = refl

-- records of two cells, the person in the first
abbrev a_x : List (List ℕ)
a_x = codes "a" ∷ codes "x" ∷ []

abbrev a_w : List (List ℕ)
a_w = codes "a" ∷ codes "w" ∷ []

abbrev b_y : List (List ℕ)
b_y = codes "b" ∷ codes "y" ∷ []

abbrev c_y : List (List ℕ)
c_y = codes "c" ∷ codes "y" ∷ []

-- order alone changed: no person differs
persons_in_another_order : users_apart 0 (a_x ∷ b_y ∷ a_w ∷ a_x ∷ []) (a_x ∷ a_x ∷ a_w ∷ b_y ∷ []) ≡ 0
unfolding groups_apart diff distinct
persons_in_another_order = refl

-- one of two equal records is gone: one person differs
equal_records : users_apart 0 (a_x ∷ b_y ∷ a_x ∷ []) (a_x ∷ b_y ∷ []) ≡ 1
unfolding groups_apart diff distinct
equal_records = refl

-- a person moves from one list to the other: two persons differ
a_person_moves : users_apart 0 (a_x ∷ b_y ∷ []) (a_x ∷ c_y ∷ []) ≡ 2
unfolding groups_apart diff distinct
a_person_moves = refl

-- ten more records of one person: ten records, and one person
ten_more : distance None (b_y ∷ replicate 10 a_x) (b_y ∷ []) ≡ 10
unfolding groups_apart diff distinct
ten_more = refl

ten_more_of_a_person : distance (Some 0) (b_y ∷ replicate 10 a_x) (b_y ∷ []) ≡ 1
unfolding groups_apart diff distinct
ten_more_of_a_person = refl

-- the other column names the persons: x, w and y
by_the_other_column : users_apart 1 (a_x ∷ b_y ∷ a_w ∷ []) (a_x ∷ c_y ∷ []) ≡ 2
unfolding groups_apart diff distinct
by_the_other_column = refl
