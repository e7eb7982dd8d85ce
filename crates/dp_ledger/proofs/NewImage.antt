-- The bytes of a new ledger are an image of the total 0.
use Rattle.std.proofs.Common.{◌≡◌, ℕ, ◌+◌, ◌<◌, ◌^◌, ◌==◌, ◌&&◌, true, false, List, [], ◌++◌, length, refl, ◌∙◌, ap, cond, Some, None, arith}
use Rattle.std.proofs.lemmas.Bool.{eq-eqb}
use Rattle.std.proofs.lemmas.List.{append-nil, drop_all}
use Rattle.std.proofs.lemmas.Nat.{from_le_bytes-to_le_bytes_4}
use Rattle.std.specs.Int.{w32}
use Rattle.dp_num.specs.declared.ratio.Ratio.{Ratio}
use Rattle.dp_ledger.specs.declared.slot.Slot.TheVariants.{First, Second}
use Rattle.dp_ledger.specs.Disk.{put_at}
use Rattle.dp_ledger.specs.Image.{ledger_total, current_slot, current_of, entry_at, is_open, is_of, number_at, counted, new_image, greatest}

-- on an empty disk they are the content
pub put_on_empty : (bytes : List ℕ) → put_at 0 bytes [] ≡ bytes
unfolding put_at
put_on_empty bytes = ap (λ (l : List ℕ). bytes ++ l) (drop_all (0 + length bytes) [] (omega arith)) ∙ append-nil bytes

p_is : (ratio : Ratio) → number_at w32 0 (new_image ratio) ≡ ratio.p
unfolding number_at new_image
p_is ratio =
    let small : ratio.p < 2 ^ 32 = omega (arith, ratio.below_one, ratio.small) in
    from_le_bytes-to_le_bytes_4 ratio.p small

q_is : (ratio : Ratio) → number_at w32 4 (new_image ratio) ≡ ratio.q
unfolding number_at new_image
q_is ratio =
    let small : ratio.q < 2 ^ 32 = omega (arith, ratio.small) in
    from_le_bytes-to_le_bytes_4 ratio.q small

size_is : (ratio : Ratio) → length (new_image ratio) ≡ 26
unfolding new_image
size_is ratio = refl

first_is : (ratio : Ratio) → counted (entry_at First (new_image ratio)) ≡ Some 0
unfolding counted entry_at number_at new_image
first_is ratio = refl

second_is : (ratio : Ratio) → counted (entry_at Second (new_image ratio)) ≡ None
unfolding counted entry_at number_at new_image
second_is ratio = refl

of_ratio : (ratio : Ratio) → is_of ratio (new_image ratio) ≡ true
unfolding is_of
of_ratio ratio =
    let p : (ratio.p == ratio.p) ≡ true = eq-eqb ratio.p ratio.p refl in
    let q : (ratio.q == ratio.q) ≡ true = eq-eqb ratio.q ratio.q refl in
    (λ i. size_is ratio i == 26 && p_is ratio i == ratio.p && q_is ratio i == ratio.q) ∙ (λ i. p i && q i)

pub new_total : (ratio : Ratio) → ledger_total ratio (new_image ratio) ≡ Some 0
unfolding ledger_total
new_total ratio = λ i. cond (of_ratio ratio i) (greatest (first_is ratio i) (second_is ratio i)) None

pub new_current : (ratio : Ratio) → current_slot (new_image ratio) ≡ First
unfolding current_slot
new_current ratio = λ i. current_of (first_is ratio i) (second_is ratio i)

pub new_other : (ratio : Ratio) → is_open (entry_at Second (new_image ratio)) ≡ false
unfolding entry_at new_image
new_other ratio = refl
