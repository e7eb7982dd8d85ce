-- What each write of a charge leaves, torn or whole.
use Rattle.std.proofs.Common.{◌≡◌, inl, inr, ℕ, ◌+◌, ◌<◌, ◌≤◌, ◌^◌, ◌==◌, true, false, List, [], ◌∷◌, refl, sym, ◌∙◌, ap, subst, Some, arith}
use Rattle.std.proofs.lemmas.Bool.{cases_Bool}
use Rattle.std.specs.Int.{w64, to_le_bytes}
use Rattle.dp_ledger.specs.declared.ledger.Ledger.{Ledger}
use Rattle.dp_ledger.specs.declared.slot.Slot.{Slot}
use Rattle.dp_ledger.specs.declared.slot.Slot.TheVariants.{First, Second}
use Rattle.dp_ledger.specs.Disk.{put_at, Torn}
use Rattle.dp_ledger.specs.Image.{entry_at, place_of, other, is_of, is_open, counted}
use Rattle.dp_ledger.specs.Ledger.{Shows, HasTotal, BeforeOrAfter}
use Rattle.dp_ledger.specs.Steps.{IsShut, IsFilled, IsRaised}
use Rattle.dp_ledger.specs.DiskProof.{put_torn}
use Rattle.dp_ledger.proofs.Entries.{Keeps, gate_keeps, gate_keeps_total, total_keeps, total_keeps_gate, gate_put, total_put}
use Rattle.dp_ledger.proofs.Totals.{AtMost, at_most_of, shut_none, open_counts, total_is, current_is, parts, size_of, counted_same, counts_open}

pub twice : (slot : Slot) → other (other slot) ≡ slot
twice First = refl
twice Second = refl

-- a write in the other slot keeps the current one
kept : (slot : Slot) (was now : List ℕ) → Keeps (other slot) was now → entry_at slot now ≡ entry_at slot was
kept First was now keeps = keeps.other_slot
kept Second was now keeps = keeps.other_slot

module _ (ledger : Ledger) where
  slot : Slot
  slot = ledger.current

  -- the gate of the other slot, torn: it held no more than the total
  pub gate_torn : (was now : List ℕ) → Shows ledger was → ledger.other_open ≡ true → Torn (place_of (other ledger.current) + 8) 1 was now → HasTotal ledger.ratio ledger.total now
  gate_torn was now shows is_opened torn =
      let p = parts ledger.ratio ledger.current was ledger.total shows.total shows.current in
      let size = size_of ledger.ratio was p.of_ratio in
      let keeps = gate_keeps (other ledger.current) was now size torn in
      let entry = entry_at (other ledger.current) now in
      let less : AtMost ledger.total (counted entry) = elim (cases_Bool (is_open entry)) [
        | inl now_open ↦
            let same = counted_same entry (entry_at (other ledger.current) was) (now_open ∙ sym (shows.other_gate ∙ is_opened)) (gate_keeps_total (other ledger.current) was now size torn) in
            subst (AtMost ledger.total) (sym same) p.no_more
        | inr now_shut ↦ subst (AtMost ledger.total) (sym (shut_none entry now_shut)) tt
      ] in
      total_is ledger.ratio ledger.current now ledger.total (keeps.of_ratio ledger.ratio ∙ p.of_ratio) (ap counted (kept ledger.current was now keeps) ∙ p.counts) less

  -- and whole
  pub gate_shut : (was : List ℕ) → Shows ledger was → IsShut ledger (put_at (place_of (other ledger.current) + 8) (0 ∷ []) was)
  gate_shut was shows =
      let p = parts ledger.ratio ledger.current was ledger.total shows.total shows.current in
      let size = size_of ledger.ratio was p.of_ratio in
      let now = put_at (place_of (other ledger.current) + 8) (0 ∷ []) was in
      let keeps = gate_keeps (other ledger.current) was now size (put_torn (place_of (other ledger.current) + 8) (0 ∷ []) was) in
      record {
        of_ratio = keeps.of_ratio ledger.ratio ∙ p.of_ratio;
        current = ap counted (kept ledger.current was now keeps) ∙ p.counts;
        shut = ap (λ (g : ℕ). g == 1) (gate_put (other ledger.current) 0 was);
      }

  -- where it was closed before
  pub was_shut : (was : List ℕ) → Shows ledger was → ledger.other_open ≡ false → IsShut ledger was
  was_shut was shows closed =
      let p = parts ledger.ratio ledger.current was ledger.total shows.total shows.current in
      record { of_ratio = p.of_ratio; current = p.counts; shut = shows.other_gate ∙ closed }

  -- behind a closed gate any bytes may stand
  pub shut_total : (now : List ℕ) → IsShut ledger now → HasTotal ledger.ratio ledger.total now
  shut_total now shut =
      total_is ledger.ratio ledger.current now ledger.total shut.of_ratio shut.current (subst (AtMost ledger.total) (sym (shut_none (entry_at (other ledger.current) now) shut.shut)) tt)

  total_written : (was now : List ℕ) → IsShut ledger was → Torn (place_of (other ledger.current)) 8 was now → IsShut ledger now
  total_written was now shut torn =
      let size = size_of ledger.ratio was shut.of_ratio in
      let keeps = total_keeps (other ledger.current) was now size torn in
      record {
        of_ratio = keeps.of_ratio ledger.ratio ∙ shut.of_ratio;
        current = ap counted (kept ledger.current was now keeps) ∙ shut.current;
        shut = ap (λ (g : ℕ). g == 1) (total_keeps_gate (other ledger.current) was now size torn) ∙ shut.shut;
      }

  -- the total of the other slot, torn
  pub total_torn : (was now : List ℕ) → IsShut ledger was → Torn (place_of (other ledger.current)) 8 was now → HasTotal ledger.ratio ledger.total now
  total_torn was now shut torn = shut_total now (total_written was now shut torn)

  -- and whole
  pub total_filled : (total : ℕ) (was : List ℕ) → total < 2 ^ 64 → IsShut ledger was → IsFilled ledger total (put_at (place_of (other ledger.current)) (to_le_bytes w64 total) was)
  total_filled total was small shut = record {
    closed = total_written was (put_at (place_of (other ledger.current)) (to_le_bytes w64 total) was) shut (put_torn (place_of (other ledger.current)) (to_le_bytes w64 total) was);
    filled = total_put (other ledger.current) total was small;
  }

  -- what is written in the other slot's gate, over a whole total
  open_parts : (total : ℕ) (was now : List ℕ) → IsFilled ledger total was → Torn (place_of (other ledger.current) + 8) 1 was now → (is_of ledger.ratio now ≡ true) × (counted (entry_at ledger.current now) ≡ Some ledger.total) × ((entry_at (other ledger.current) now).total ≡ total)
  open_parts total was now filled torn =
      let size = size_of ledger.ratio was filled.closed.of_ratio in
      let keeps = gate_keeps (other ledger.current) was now size torn in (
        keeps.of_ratio ledger.ratio ∙ filled.closed.of_ratio,
        ap counted (kept ledger.current was now keeps) ∙ filled.closed.current,
        gate_keeps_total (other ledger.current) was now size torn ∙ filled.filled,
      )

  opened_counts : (total : ℕ) (now : List ℕ) → (entry_at (other ledger.current) now).total ≡ total → total ≤ 2 ^ 32 → is_open (entry_at (other ledger.current) now) ≡ true → counted (entry_at (other ledger.current) now) ≡ Some total
  opened_counts total now is small opened =
      let entry = entry_at (other ledger.current) now in
      let fits : entry.total ≤ 2 ^ 32 = omega arith in
      open_counts entry opened fits ∙ ap Some is

  -- the image of which the other slot counts with no less
  raised_total : (total : ℕ) (now : List ℕ) → is_of ledger.ratio now ≡ true → counted (entry_at ledger.current now) ≡ Some ledger.total → counted (entry_at (other ledger.current) now) ≡ Some total → ledger.total ≤ total → HasTotal ledger.ratio total now
  raised_total total now of counts other_counts le =
      total_is ledger.ratio (other ledger.current) now total of other_counts
      (subst (λ (s : Slot). AtMost total (counted (entry_at s now))) (sym (twice ledger.current)) (at_most_of _ ledger.total total counts le))

  -- the gate of the other slot, over a whole total, torn
  pub open_torn : (by : ℕ) (was now : List ℕ) → ledger.total + by ≤ 2 ^ 32 → IsFilled ledger (ledger.total + by) was → Torn (place_of (other ledger.current) + 8) 1 was now → BeforeOrAfter ledger.ratio ledger.total by now
  open_torn by was now small filled torn =
      let p = open_parts (ledger.total + by) was now filled torn in
      let entry = entry_at (other ledger.current) now in
      elim (cases_Bool (is_open entry)) [
        | inl opened ↦ inr (raised_total (ledger.total + by) now p.0 p.1 (opened_counts (ledger.total + by) now p.2 small opened) (omega arith))
        | inr shut ↦ inl (shut_total now (record { of_ratio = p.0; current = p.1; shut = shut }))
      ]

  -- and whole
  pub opened : (by : ℕ) (was : List ℕ) → 0 < by → ledger.total + by ≤ 2 ^ 32 → IsFilled ledger (ledger.total + by) was → IsRaised ledger (ledger.total + by) (put_at (place_of (other ledger.current) + 8) (1 ∷ []) was)
  opened by was some small filled =
      let now = put_at (place_of (other ledger.current) + 8) (1 ∷ []) was in
      let p = open_parts (ledger.total + by) was now filled (put_torn (place_of (other ledger.current) + 8) (1 ∷ []) was) in
      let is_opened : is_open (entry_at (other ledger.current) now) ≡ true = ap (λ (g : ℕ). g == 1) (gate_put (other ledger.current) 1 was) in
      let counts = opened_counts (ledger.total + by) now p.2 small is_opened in
      record {
        total_is = raised_total (ledger.total + by) now p.0 p.1 counts (omega arith);
        current = current_is (other ledger.current) now ledger.total (ledger.total + by) counts (ap (λ (s : Slot). counted (entry_at s now)) (twice ledger.current) ∙ p.1) (omega arith);
        other_gate = counts_open (entry_at ledger.current now) ledger.total p.1;
      }
