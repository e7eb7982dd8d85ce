-- The places of one cell: an answer is its place from lo on, and the noise walks over the places.
use Rattle.std.proofs.Common.{◌≡◌, ℕ, ◌+◌, ◌-◌, ◌≤◌, ◌<◌, ℤ, pos, neg_ℤ, ◌+ℤ◌, ◌-ℤ◌, ◌≤ℤ◌, ◌<ℤ◌, nat_abs, Bool, true, false, List, [], ◌∷◌, refl, ◌∙◌, ap, arith, ltb, eqb, Decides, ◌⊎◌, inl, inr}
use Rattle.std.specs.Ordering.{int_eq}
use Rattle.std.proofs.lemmas.Int.{ints, clamps}
use Rattle.std.proofs.lemmas.Bool.Decides.{nat_tests, Decides-int_eq, Decides-eqb, same_from_decides}
use Rattle.dp_count.proofs.Counting.{count-never}
use Rattle.dp_count.proofs.Places.{Walks, up_to, down_to, share, between, count-places}
use Rattle.dp_domain.specs.Ranges.{clamped}
use Rattle.dp_geometric.specs.OneCell.{CellNumbers, width, cell_shape, leading_run, noise, cell_out}
use Rattle.dp_geometric.specs.CellLaw.{ways, distance, away}

-- the cell whose high is its low and r more
abbrev pub with_rest : CellNumbers → ℕ → CellNumbers
with_rest cell r = record cell { high = cell.low + r }

-- the noise of each kind of first draw
noise-stays : (cell : CellNumbers) (r x k : ℕ) → x < r → noise (with_rest cell r) x k ≡ pos 0
noise-stays cell r x k h = let e : ltb x (cell.low + r - cell.low) ≡ true = grind (arith, nat_tests) in rw e refl

noise-up : (cell : CellNumbers) (r x k : ℕ) → x < cell.low → noise (with_rest cell r) (r + x) k ≡ pos (1 + k)
noise-up cell r x k h =
    let e : ltb (r + x) (cell.low + r - cell.low) ≡ false = grind (arith, nat_tests) in
    let f : ltb (r + x) (cell.low + r) ≡ true = grind (arith, nat_tests) in
    rw (e, f) refl

noise-down : (cell : CellNumbers) (r x k : ℕ) → x < cell.low → noise (with_rest cell r) (cell.low + r + x) k ≡ neg_ℤ (pos (1 + k))
noise-down cell r x k h =
    let e : ltb (cell.low + r + x) (cell.low + r - cell.low) ≡ false = grind (arith, nat_tests) in
    let f : ltb (cell.low + r + x) (cell.low + r) ≡ false = grind (arith, nat_tests) in
    rw (e, f) refl

-- a clamped number is in the range
clamp-least : (lo hi z : ℤ) → lo ≤ℤ hi → lo ≤ℤ clamped lo hi z
clamp-least lo hi z h = omega (arith, ints, clamps)

clamp-greatest : (lo hi z : ℤ) → lo ≤ℤ hi → clamped lo hi z ≤ℤ hi
clamp-greatest lo hi z h = omega (arith, ints, clamps)

-- how far a number is above lo
abbrev pub place : ℤ → ℤ → ℕ
place lo z = nat_abs (z -ℤ lo)

place-is : (lo z : ℤ) → lo ≤ℤ z → z ≡ lo +ℤ pos (place lo z)
place-is lo z h = omega (arith, ints)

width-place : (cell : CellNumbers) (z : ℤ) → cell.lo ≤ℤ z → z ≤ℤ cell.hi → place cell.lo z ≤ width cell
width-place cell z h k = omega (arith, ints)

-- where the walks end, as numbers
clamp-stays : (lo hi : ℤ) (n t : ℕ) → hi ≡ lo +ℤ pos n → t ≤ n → clamped lo hi (lo +ℤ pos t +ℤ pos 0) ≡ lo +ℤ pos t
clamp-stays lo hi n t e h = omega (arith, ints, clamps)

clamp-up : (lo hi : ℤ) (n t k : ℕ) → hi ≡ lo +ℤ pos n → t ≤ n → clamped lo hi (lo +ℤ pos t +ℤ pos (1 + k)) ≡ lo +ℤ pos (up_to n t k)
clamp-up lo hi n t k e h = omega (arith, ints, clamps)

clamp-down : (lo hi : ℤ) (n t k : ℕ) → hi ≡ lo +ℤ pos n → t ≤ n → clamped lo hi (lo +ℤ pos t +ℤ neg_ℤ (pos (1 + k))) ≡ lo +ℤ pos (down_to t k)
clamp-down lo hi n t k e h = omega (arith, ints, clamps)

-- two numbers are equal exactly where their places are
to_places : (lo z a : ℤ) (x b : ℕ) → z ≡ lo +ℤ pos x → a ≡ lo +ℤ pos b → x ≡ b → z ≡ a
to_places lo z a x b e f h = omega (arith, ints)

from_places : (lo z a : ℤ) (x b : ℕ) → z ≡ lo +ℤ pos x → a ≡ lo +ℤ pos b → z ≡ a → x ≡ b
from_places lo z a x b e f h = omega (arith, ints)

decided : (lo z a : ℤ) (x b : ℕ) → z ≡ lo +ℤ pos x → a ≡ lo +ℤ pos b → (t : Bool) → Decides t (x ≡ b) → Decides t (z ≡ a)
decided lo z a x b e f t d = (λ h. to_places lo z a x b e f (d.0 h), λ h. d.1 (from_places lo z a x b e f h))

same_place : (lo z a : ℤ) (x b : ℕ) → z ≡ lo +ℤ pos x → a ≡ lo +ℤ pos b → int_eq z a ≡ eqb x b
same_place lo z a x b e f =
    same_from_decides (int_eq z a) (eqb x b) (Decides-int_eq z a) (decided lo z a x b e f (eqb x b) (Decides-eqb x b))

-- the walks of one cell, for an answer at the place b
cell_walks : (cell : CellNumbers) (v a : ℤ) (r b : ℕ) → cell.lo ≤ℤ cell.hi → a ≡ cell.lo +ℤ pos b →
    Walks r cell.low (λ draws. int_eq (cell_out (with_rest cell r) v draws) a)
    (λ _. eqb (place cell.lo (clamped cell.lo cell.hi v)) b)
    (λ run. eqb (up_to (width cell) (place cell.lo (clamped cell.lo cell.hi v)) (leading_run cell.low run)) b)
    (λ run. eqb (down_to (place cell.lo (clamped cell.lo cell.hi v)) (leading_run cell.low run)) b)
unfolding cell_out
cell_walks cell v a r b h e =
    let lo = cell.lo in
    let hi = cell.hi in
    let p = cell.low in
    let n = width cell in
    let z = clamped lo hi v in
    let t = place lo z in
    let top : hi ≡ lo +ℤ pos n = place-is lo hi h in
    let start : z ≡ lo +ℤ pos t = place-is lo z (clamp-least lo hi v h) in
    let few : t ≤ n = width-place cell z (clamp-least lo hi v h) (clamp-greatest lo hi v h) in
    record {
      stays = λ x run i. same_place lo _ a t b (ap (λ m. clamped lo hi (z +ℤ m)) (noise-stays cell r x (leading_run p run) i) ∙ ap (λ y. clamped lo hi (y +ℤ pos 0)) start ∙ clamp-stays lo hi n t top few) e;
      goes_up = λ x run i. same_place lo _ a (up_to n t (leading_run p run)) b (ap (λ m. clamped lo hi (z +ℤ m)) (noise-up cell r x (leading_run p run) i) ∙ ap (λ y. clamped lo hi (y +ℤ pos (1 + leading_run p run))) start ∙ clamp-up lo hi n t (leading_run p run) top few) e;
      goes_down = λ x run i. same_place lo _ a (down_to t (leading_run p run)) b (ap (λ m. clamped lo hi (z +ℤ m)) (noise-down cell r x (leading_run p run) i) ∙ ap (λ y. clamped lo hi (y +ℤ neg_ℤ (pos (1 + leading_run p run)))) start ∙ clamp-down lo hi n t (leading_run p run) top few) e;
    }

between-places : (lo z a : ℤ) → lo ≤ℤ z → lo ≤ℤ a → between (place lo z) (place lo a) ≡ distance z a
between-places lo z a h k = omega (arith, ints)

-- the number of an answer of the range, by its place
pub ways-share : (cell : CellNumbers) (v a : ℤ) (r : ℕ) → cell.lo ≤ℤ cell.hi → cell.lo ≤ℤ a → a ≤ℤ cell.hi →
    ways (with_rest cell r) v a ≡ share (width cell) cell.low r (place cell.lo a) (away cell v a)
unfolding ways
ways-share cell v a r h k l =
    let lo = cell.lo in
    let hi = cell.hi in
    let n = width cell in
    let z = clamped lo hi v in
    let t = place lo z in
    let few : t ≤ n = width-place cell z (clamp-least lo hi v h) (clamp-greatest lo hi v h) in
    let far : between t (place lo a) ≡ away cell v a = between-places lo z a (clamp-least lo hi v h) k in
    count-places n cell.low r t (place lo a) _ few (width-place cell a k l) (cell_walks cell v a r (place lo a) h (place-is lo a k))
    ∙ ap (λ e. share n cell.low r (place lo a) e) far

-- every answer is in the range
out-least : (cell : CellNumbers) (v : ℤ) (draws : List ℕ) → cell.lo ≤ℤ cell.hi → cell.lo ≤ℤ cell_out cell v draws
unfolding cell_out
out-least cell v [] h = clamp-least cell.lo cell.hi v h
out-least cell v (first ∷ run) h = clamp-least cell.lo cell.hi _ h

out-greatest : (cell : CellNumbers) (v : ℤ) (draws : List ℕ) → cell.lo ≤ℤ cell.hi → cell_out cell v draws ≤ℤ cell.hi
unfolding cell_out
out-greatest cell v [] h = clamp-greatest cell.lo cell.hi v h
out-greatest cell v (first ∷ run) h = clamp-greatest cell.lo cell.hi _ h

-- no draw list gives an answer outside
apart : (t : Bool) (z a : ℤ) → Decides t (z ≡ a) → (z ≡ a → ⊥) → t ≡ false
apart true z a d h = absurd (h (d.0 refl))
apart false z a d h = refl

not_less : (lo z a : ℤ) → lo ≤ℤ z → a <ℤ lo → z ≡ a → ⊥
not_less lo z a h k e = omega (arith, ints)

not_more : (hi z a : ℤ) → z ≤ℤ hi → hi <ℤ a → z ≡ a → ⊥
not_more hi z a h k e = omega (arith, ints)

pub ways-outside : (cell : CellNumbers) (v a : ℤ) → cell.lo ≤ℤ cell.hi → (a <ℤ cell.lo) ⊎ (cell.hi <ℤ a) → ways cell v a ≡ 0
unfolding ways
ways-outside cell v a h (inl k) =
    count-never (cell_shape cell) _ (λ d _. apart _ (cell_out cell v d) a (Decides-int_eq _ a) (not_less cell.lo _ a (out-least cell v d h) k))
ways-outside cell v a h (inr k) =
    count-never (cell_shape cell) _ (λ d _. apart _ (cell_out cell v d) a (Decides-int_eq _ a) (not_more cell.hi _ a (out-greatest cell v d h) k))
