-- A range of a buffer that loses its first elements, and one behind which a piece is put.
use Rattle.std.proofs.Common.{◌≡◌, ℕ, ◌+◌, ◌-◌, ◌≤◌, List, ◌++◌, length, take, drop, slice_range, Option, Some, None, refl, sym, ap, ◌∙◌, arith}
use Rattle.std.proofs.Math.Seq.{take-add}
use Rattle.std.proofs.lemmas.List.{drop-drop, drop-take, length-drop, length-take, length-take-le}
use Rattle.std.proofs.lemmas.Slice.{between_is}
use Rattle.dp_io.specs.Shelf.{TakesNext, IsEmptied}
use Rattle.dp_io.specs.ReadBuffer.{ReadsBehind}
use Rattle.dp_io.proofs.Pieces.{preceded-taken}

pub length-range : (xs : List ℕ) (start end : ℕ) → end ≤ length xs → length (slice_range xs start end) ≡ end - start
length-range xs start end h = omega (arith, length-take {A = ℕ}, length-drop {A = ℕ})

pub range-drop : (xs : List ℕ) (start end n : ℕ) → n ≤ end - start → slice_range xs (start + n) end ≡ drop n (slice_range xs start end)
range-drop xs start end n h =
    let count : end - start ≡ n + (end - (start + n)) = omega arith in
    rw (count, drop-take n (end - (start + n)) (drop start xs), drop-drop n start xs) refl

-- a range of a front that stays
pub range-kept : (old new : List ℕ) (start end : ℕ) → take end new ≡ take end old → slice_range new start end ≡ slice_range old start end
range-kept old new start end front = between_is new start end ∙ ap (drop start) front ∙ sym (between_is old start end)

-- behind a range stand the next n elements
pub range-more : (old new : List ℕ) (start end n : ℕ) → start ≤ end → take end new ≡ take end old → slice_range new start (end + n) ≡ slice_range old start end ++ take n (drop end new)
range-more old new start end n h front =
    let count : end + n - start ≡ (end - start) + n = omega arith in
    let place : start + (end - start) ≡ end = omega arith in
    rw (count, take-add (end - start) n (drop start new), drop-drop (end - start) start new, place) (ap (λ held. held ++ take n (drop end new)) (range-kept old new start end front))

-- a read of nothing leaves nothing
emptied-taken : (old_left new_left : Option (List ℕ)) (n : ℕ) (buffer : List ℕ) → TakesNext old_left new_left n buffer → n ≡ 0 → IsEmptied new_left
emptied-taken None new_left n buffer h none = rw h (λ rest e. absurd (cc))
emptied-taken (Some left) new_left n buffer h none = rw (h.0, none) (λ rest e. let all = h.3 none in cc)

-- what a read took comes behind what is held
pub ReadsBehind-taken : (old_left new_left : Option (List ℕ)) (n : ℕ) (held buffer : List ℕ) → n ≤ length buffer → TakesNext old_left new_left n buffer → ReadsBehind old_left new_left n held (held ++ take n buffer)
ReadsBehind-taken old_left new_left n held buffer fits h = record {
  piece = take n buffer;
  count = length-take-le n buffer fits;
  behind = refl;
  moved = preceded-taken old_left new_left n buffer h;
  emptied = emptied-taken old_left new_left n buffer h;
}
