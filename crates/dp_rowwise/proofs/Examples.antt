-- Records that stay of small lists, computed.
use Rattle.std.proofs.Common.{◌≡◌, ℕ, List, [], ◌∷◌, refl}
use Rattle.std.specs.Prelude.{codes}
use Rattle.dp_domain.specs.Distance.{distinct, diff, record_eq}
use Rattle.dp_domain.specs.Users.{groups_apart, users_apart}
use Rattle.dp_rowwise.specs.Truncate.{rank, kept_places, truncated}

-- records of two cells, the person in the first
abbrev a_w : List (List ℕ)
a_w = codes "a" ∷ codes "w" ∷ []

abbrev a_x : List (List ℕ)
a_x = codes "a" ∷ codes "x" ∷ []

abbrev b_y : List (List ℕ)
b_y = codes "b" ∷ codes "y" ∷ []

abbrev five : List (List (List ℕ))
five = a_x ∷ b_y ∷ a_w ∷ a_x ∷ b_y ∷ []

-- a has three records: the least one and the first of two equal ones stay
two_of_each : kept_places 0 2 five ≡ 0 ∷ 1 ∷ 2 ∷ 4 ∷ []
unfolding kept_places rank
two_of_each = refl

one_of_each : truncated 0 1 five ≡ b_y ∷ a_w ∷ []
unfolding kept_places rank
one_of_each = refl

-- of equal records the first ones stay
equal_records : kept_places 0 2 (a_x ∷ a_x ∷ a_x ∷ a_x ∷ []) ≡ 0 ∷ 1 ∷ []
unfolding kept_places rank
equal_records = refl

-- as many as there are
all_stay : kept_places 0 3 five ≡ 0 ∷ 1 ∷ 2 ∷ 3 ∷ 4 ∷ []
unfolding kept_places rank
all_stay = refl

-- by the other column the persons are x, y and w
by_the_other_column : kept_places 1 1 five ≡ 0 ∷ 1 ∷ 2 ∷ []
unfolding kept_places rank
by_the_other_column = refl

nobody : kept_places 0 1 [] ≡ []
unfolding kept_places rank
nobody = refl

-- order alone changed: no person differs, and what stays is the same in another order
another_order : users_apart 0 five (b_y ∷ a_x ∷ a_x ∷ b_y ∷ a_w ∷ []) ≡ 0
unfolding groups_apart diff distinct
another_order = refl

another_order_stays : diff record_eq (truncated 0 2 five) (truncated 0 2 (b_y ∷ a_x ∷ a_x ∷ b_y ∷ a_w ∷ [])) ≡ 0
unfolding kept_places rank diff distinct
another_order_stays = refl

-- one person less: what stays is apart by the two records that stayed of it, and the map allows four
one_person_less : users_apart 0 five (b_y ∷ b_y ∷ []) ≡ 1
unfolding groups_apart diff distinct
one_person_less = refl

two_records_less : diff record_eq (truncated 0 2 five) (truncated 0 2 (b_y ∷ b_y ∷ [])) ≡ 2
unfolding kept_places rank diff distinct
two_records_less = refl

-- other records of one person: four records differ, as many as the map allows
four_records_differ : diff record_eq (truncated 0 2 (a_x ∷ a_x ∷ [])) (truncated 0 2 (a_w ∷ a_w ∷ [])) ≡ 4
unfolding kept_places rank diff distinct
four_records_differ = refl
