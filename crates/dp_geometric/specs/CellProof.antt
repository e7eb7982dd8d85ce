-- The proof of the law of one cell. The number high is written low + r.
use Rattle.std.proofs.Common.{◌≡◌, ℕ, ◌+◌, ◌-◌, ◌*◌, ◌^◌, ◌≤◌, ◌<◌, ℤ, pos, negsuc, ◌-ℤ◌, ◌≤ℤ◌, ◌<ℤ◌, nat_abs, refl, ◌∙◌, ap, subst, arith, ◌⊎◌, inl, inr}
use Rattle.std.proofs.lemmas.Int.{ints, clamps}
use Rattle.dp_count.proofs.Places.{share-ratio, factor-inside, factor-first, factor-last, factor-single}
use Rattle.dp_geometric.specs.OneCell.{CellNumbers, width}
use Rattle.dp_geometric.specs.CellLaw.{ways, distance, away, CellCounts, CellPrivate}
use Rattle.dp_geometric.specs.CellPlacesProof.{with_rest, place, ways-share, ways-outside}

-- the places of answers between the ends and at the ends
place-positive : (lo a : ℤ) → lo <ℤ a → 0 < place lo a
place-positive lo a h = omega (arith, ints)

place-below : (cell : CellNumbers) (a : ℤ) → cell.lo ≤ℤ a → a <ℤ cell.hi → place cell.lo a < width cell
place-below cell a h k = omega (arith, ints)

place-first : (lo a : ℤ) → a ≡ lo → place lo a ≡ 0
place-first lo a h = omega (arith, ints)

place-last : (cell : CellNumbers) (a : ℤ) → a ≡ cell.hi → place cell.lo a ≡ width cell
place-last cell a h = ap (λ z. nat_abs (z -ℤ cell.lo)) h

width-positive : (cell : CellNumbers) → cell.lo <ℤ cell.hi → 0 < width cell
width-positive cell h = omega (arith, ints)

ends_of : (cell : CellNumbers) (v a : ℤ) (r : ℕ) → cell.lo ≤ℤ cell.hi → cell.lo <ℤ cell.hi → (a ≡ cell.lo) ⊎ (a ≡ cell.hi) →
    ways (with_rest cell r) v a ≡ (cell.low + r) * cell.low ^ away cell v a * (cell.low + r) ^ (width cell - away cell v a)
ends_of cell v a r h k (inl e) =
    ways-share cell v a r h (omega (arith, ints)) (omega (arith, ints)) ∙ rw (place-first cell.lo a e, factor-first (width cell) cell.low r (width-positive cell k)) refl
ends_of cell v a r h k (inr e) =
    ways-share cell v a r h (omega (arith, ints)) (omega (arith, ints)) ∙ rw (place-last cell a e, factor-last (width cell) cell.low r (width-positive cell k)) refl

-- the range of one number
away-single : (cell : CellNumbers) (v a : ℤ) → cell.lo ≡ cell.hi → a ≡ cell.lo → away cell v a ≡ 0
away-single cell v a e f = omega (arith, ints, clamps)

single_of : (cell : CellNumbers) (v a : ℤ) (r : ℕ) → cell.lo ≤ℤ cell.hi → cell.lo ≡ cell.hi → a ≡ cell.lo → ways (with_rest cell r) v a ≡ cell.low + r + cell.low
single_of cell v a r h e f =
    let n : width cell ≡ 0 = omega (arith, ints) in
    ways-share cell v a r h (omega (arith, ints)) (omega (arith, ints)) ∙ rw (n, away-single cell v a e f) (factor-single cell.low r)

-- the law of the numbers, with high as low + r
counts_of : (cell : CellNumbers) (r : ℕ) → cell.lo ≤ℤ cell.hi → CellCounts (with_rest cell r)
counts_of cell r h = record {
  inside = λ v a k l.
      let e : cell.low + r - cell.low ≡ r = omega arith in
      ways-share cell v a r h (omega (arith, ints)) (omega (arith, ints))
      ∙ rw (factor-inside (width cell) cell.low r (place cell.lo a) (place-positive cell.lo a k) (place-below cell a (omega (arith, ints)) l), e) refl;
  ends = λ v a k side. ends_of cell v a r h k side;
  single = λ v a e f. single_of cell v a r h e f;
  outside = λ v a side. ways-outside (with_rest cell r) v a h side;
}

-- the law of the numbers
pub cell-counts : (cell : CellNumbers) → cell.lo ≤ℤ cell.hi → cell.low < cell.high → CellCounts cell
cell-counts cell h k =
    let e : cell.low + (cell.high - cell.low) ≡ cell.high = omega arith in
    subst (λ (q : ℕ). CellCounts (record cell { high = q })) e (counts_of cell (cell.high - cell.low) h)

-- a clamped value is at most the width from an answer, and clamped values are no farther apart than the values
away-wide : (cell : CellNumbers) (v a : ℤ) → cell.lo ≤ℤ cell.hi → cell.lo ≤ℤ a → a ≤ℤ cell.hi → away cell v a ≤ width cell
away-wide cell v a h k l = omega (arith, ints, clamps)

away-near : (cell : CellNumbers) (v w a : ℤ) (e : ℕ) → cell.lo ≤ℤ cell.hi → distance v w ≤ e → away cell w a ≤ away cell v a + e
away-near cell v w a e h k = omega (arith, ints, clamps)

-- privacy at an answer of the range, and outside
private_within : (cell : CellNumbers) (v w a : ℤ) (r e : ℕ) → cell.lo ≤ℤ cell.hi → distance v w ≤ e → cell.lo ≤ℤ a → a ≤ℤ cell.hi →
    ways (with_rest cell r) v a * cell.low ^ e ≤ (cell.low + r) ^ e * ways (with_rest cell r) w a
private_within cell v w a r e h k l m =
    rw (ways-share cell v a r h l m, ways-share cell w a r h l m)
    (share-ratio (width cell) cell.low r (place cell.lo a) (away cell v a) (away cell w a) e (away-wide cell v a h l m) (away-wide cell w a h l m) (away-near cell v w a e h k))

private_outside : (cell : CellNumbers) (v w a : ℤ) (e : ℕ) → cell.lo ≤ℤ cell.hi → (a <ℤ cell.lo) ⊎ (cell.hi <ℤ a) → ways cell v a * cell.low ^ e ≤ cell.high ^ e * ways cell w a
private_outside cell v w a e h k = rw (ways-outside cell v a h k) (omega arith)

-- whether an answer is in the range
side : (z : ℤ) → (pos 0 ≤ℤ z) ⊎ (z <ℤ pos 0)
side (pos n) = inl (omega (arith, ints))
side (negsuc n) = inr (omega (arith, ints))

private_below : (cell : CellNumbers) (v w a : ℤ) (r e : ℕ) → cell.lo ≤ℤ cell.hi → distance v w ≤ e → cell.lo ≤ℤ a → (pos 0 ≤ℤ (cell.hi -ℤ a)) ⊎ ((cell.hi -ℤ a) <ℤ pos 0) →
    ways (with_rest cell r) v a * cell.low ^ e ≤ (cell.low + r) ^ e * ways (with_rest cell r) w a
private_below cell v w a r e h k l (inl m) = private_within cell v w a r e h k l (omega (arith, ints))
private_below cell v w a r e h k l (inr m) = private_outside (with_rest cell r) v w a e h (inr (omega (arith, ints)))

private_of : (cell : CellNumbers) (v w a : ℤ) (r e : ℕ) → cell.lo ≤ℤ cell.hi → distance v w ≤ e → (pos 0 ≤ℤ (a -ℤ cell.lo)) ⊎ ((a -ℤ cell.lo) <ℤ pos 0) →
    ways (with_rest cell r) v a * cell.low ^ e ≤ (cell.low + r) ^ e * ways (with_rest cell r) w a
private_of cell v w a r e h k (inl m) = private_below cell v w a r e h k (omega (arith, ints)) (side (cell.hi -ℤ a))
private_of cell v w a r e h k (inr m) = private_outside (with_rest cell r) v w a e h (inl (omega (arith, ints)))

-- the privacy of one cell
pub cell-private : (cell : CellNumbers) → cell.lo ≤ℤ cell.hi → cell.low < cell.high → CellPrivate cell
unfolding CellPrivate
cell-private cell h k v w a e near =
    let s : cell.low + (cell.high - cell.low) ≡ cell.high = omega arith in
    subst (λ (q : ℕ). ways (record cell { high = q }) v a * cell.low ^ e ≤ q ^ e * ways (record cell { high = q }) w a) s (private_of cell v w a (cell.high - cell.low) e h near (side (a -ℤ cell.lo)))
