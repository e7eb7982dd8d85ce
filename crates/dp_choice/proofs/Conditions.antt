-- What the conditions of a choice tell.
use Rattle.std.proofs.Common.{◌≡◌, ℕ, ◌+◌, ◌-◌, ◌*◌, ◌^◌, ◌≤◌, ◌<◌, Bool, true, false, ◌&&◌, refl, arith, ℤ, pos, neg_ℤ, ◌≤ℤ◌, w64, to_z, of_z}
use Rattle.std.specs.Prelude.{int_lt, nat_le}
use Rattle.std.proofs.lemmas.Int.{ints, to_z-of_z}
use mir.Val.{SFits}
use Rattle.std.proofs.lemmas.Bool.Decides.{nat_tests}
use Rattle.dp_num.specs.Limits.{Fraction}
use Rattle.dp_domain.specs.declared.domains.Domain.TheVariants as domain
use Rattle.dp_domain.specs.Domains.{Fits}
use Rattle.dp_domain.specs.Ranges.{is_narrow_range, IsNarrowRange}
use Rattle.dp_domain.proofs.NarrowRanges.{narrow-range}
use Rattle.dp_choice.specs.Weights.{ChoiceNumbers, greatest, first_weight, all_draws, is_score_range, weights_fit}
use Rattle.dp_choice.specs.Choice.{is_choice}
use Rattle.dp_choice.specs.ChoicePrivacy.{HasRoom}

both-of : (a b : Bool) → (a && b) ≡ true → (a ≡ true) × (b ≡ true)
both-of true b e = (refl, e)
both-of false b e = absurd (cc)

nat-le : (t : Bool) (a b : ℕ) → nat_le a b ≡ t → t ≡ true → a ≤ b
nat-le true a b e h = grind (arith, nat_tests)
nat-le false a b e h = absurd (cc)

room-of : (len most p q : ℕ) → p < q → weights_fit len most p q ≡ true → (len * most ≤ all_draws) × (all_draws * first_weight * p + len * most * (q + p) ≤ all_draws * first_weight * q)
room-of len most p q order e =
    let fits = both-of (nat_le (len * most) all_draws) _ e in
    let sum = nat-le _ (len * most) all_draws refl fits.0 in
    let room = nat-le _ (len * most * (q + p)) (all_draws * first_weight * (q - p)) refl fits.1 in
    (sum, omega (arith, room))

pub is-choice : (ratio : Fraction) (c : ChoiceNumbers) → ratio.p < ratio.q → is_choice ratio c ≡ true →
    IsNarrowRange c.floor c.top × (c.len * greatest first_weight c ≤ all_draws) × HasRoom all_draws first_weight ratio c
is-choice ratio c order e =
    let both = both-of (is_score_range c.floor c.top) _ e in
    let range = narrow-range c.floor c.top (both-of (int_lt c.floor c.top) (is_narrow_range c.floor c.top) both.0).1 in
    let room = room-of c.len (greatest first_weight c) ratio.p ratio.q order both.1 in
    (range, room.0, room.1)

fits-word : (z : ℤ) → neg_ℤ (pos (2 ^ 61)) ≤ℤ z → z ≤ℤ pos (2 ^ 61) → SFits w64 z
fits-word z least greatest = omega (arith, ints)

-- the bounds of a domain are words
pub fits-words : (len : ℕ) (lo hi : ℤ) → Fits (domain.IntVec len lo hi) → Fits (domain.IntVec len (to_z w64 (of_z w64 lo)) (to_z w64 (of_z w64 hi)))
fits-words len lo hi f =
    let least = f.1.0 in
    let ordered = f.1.1 in
    let greatest = f.1.2 in
    rw (to_z-of_z w64 lo (fits-word lo least (omega (arith, ints))), to_z-of_z w64 hi (fits-word hi (omega (arith, ints)) greatest)) f
