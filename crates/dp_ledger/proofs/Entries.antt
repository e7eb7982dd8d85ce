-- What a write in one slot of an image leaves of its numbers and of both slots.
use Rattle.std.proofs.Common.{◌≡◌, ℕ, ◌+◌, ◌<◌, ◌≤◌, ◌^◌, ◌==◌, ◌&&◌, List, [], ◌∷◌, length, take, ◌∙◌, ap, arith}
use Rattle.std.proofs.lemmas.Nat.{from_le_bytes-to_le_bytes_8}
use Rattle.std.specs.Int.{w32, w64, from_le_bytes, to_le_bytes}
use Rattle.dp_num.specs.declared.ratio.Ratio.{Ratio}
use Rattle.dp_ledger.specs.declared.slot.Slot.{Slot}
use Rattle.dp_ledger.specs.declared.slot.Slot.TheVariants.{First, Second}
use Rattle.dp_ledger.specs.Disk.{put_at, Torn}
use Rattle.dp_ledger.specs.Image.{number_at, entry_at, place_of, other, is_of}
use Rattle.dp_ledger.specs.DiskProof.{put_bytes, put_byte}
use Rattle.dp_ledger.proofs.Bytes.{same_length, below, above, byte_below, byte_above}

-- the numbers of the ratio and the other slot stay
pub record Keeps (slot : Slot) (was now : List ℕ) : Type 0 where
  pub of_ratio : (ratio : Ratio) → is_of ratio now ≡ is_of ratio was
  pub other_slot : entry_at (other slot) now ≡ entry_at (other slot) was

keeps_of : (at n : ℕ) (was now : List ℕ) → 8 ≤ at → at + n ≤ length was → Torn at n was now → (ratio : Ratio) → is_of ratio now ≡ is_of ratio was
unfolding is_of number_at
keeps_of at n was now le inside torn ratio =
    let size = same_length at n was now inside torn in
    let p = below at n was now inside torn 0 4 (omega arith) in
    let q = below at n was now inside torn 4 4 (omega arith) in
    λ i. size i == 26 && from_le_bytes w32 (p i) == ratio.p && from_le_bytes w32 (q i) == ratio.q

-- a write of the gate
pub gate_keeps : (slot : Slot) (was now : List ℕ) → length was ≡ 26 → Torn (place_of slot + 8) 1 was now → Keeps slot was now
unfolding entry_at number_at
gate_keeps First was now size torn =
    let number = ap (λ (l : List ℕ). take 8 l) (above 16 1 was now (omega arith) torn 17 (omega arith)) in
    let gate = byte_above 16 1 was now (omega arith) torn 25 (omega arith) in
    record {
      of_ratio = keeps_of 16 1 was now (omega arith) (omega arith) torn;
      other_slot = λ i. record { total = from_le_bytes w64 (number i); gate = gate i };
    }
gate_keeps Second was now size torn =
    let number = below 25 1 was now (omega arith) torn 8 8 (omega arith) in
    let gate = byte_below 25 1 was now (omega arith) torn 16 (omega arith) in
    record {
      of_ratio = keeps_of 25 1 was now (omega arith) (omega arith) torn;
      other_slot = λ i. record { total = from_le_bytes w64 (number i); gate = gate i };
    }

-- the slot's total stays then
pub gate_keeps_total : (slot : Slot) (was now : List ℕ) → length was ≡ 26 → Torn (place_of slot + 8) 1 was now → (entry_at slot now).total ≡ (entry_at slot was).total
unfolding entry_at number_at
gate_keeps_total First was now size torn = ap (from_le_bytes w64) (below 16 1 was now (omega arith) torn 8 8 (omega arith))
gate_keeps_total Second was now size torn = ap (from_le_bytes w64) (below 25 1 was now (omega arith) torn 17 8 (omega arith))

-- a write of the total
pub total_keeps : (slot : Slot) (was now : List ℕ) → length was ≡ 26 → Torn (place_of slot) 8 was now → Keeps slot was now
unfolding entry_at number_at
total_keeps First was now size torn =
    let number = ap (λ (l : List ℕ). take 8 l) (above 8 8 was now (omega arith) torn 17 (omega arith)) in
    let gate = byte_above 8 8 was now (omega arith) torn 25 (omega arith) in
    record {
      of_ratio = keeps_of 8 8 was now (omega arith) (omega arith) torn;
      other_slot = λ i. record { total = from_le_bytes w64 (number i); gate = gate i };
    }
total_keeps Second was now size torn =
    let number = below 17 8 was now (omega arith) torn 8 8 (omega arith) in
    let gate = byte_below 17 8 was now (omega arith) torn 16 (omega arith) in
    record {
      of_ratio = keeps_of 17 8 was now (omega arith) (omega arith) torn;
      other_slot = λ i. record { total = from_le_bytes w64 (number i); gate = gate i };
    }

-- the slot's gate stays then
pub total_keeps_gate : (slot : Slot) (was now : List ℕ) → length was ≡ 26 → Torn (place_of slot) 8 was now → (entry_at slot now).gate ≡ (entry_at slot was).gate
unfolding entry_at
total_keeps_gate First was now size torn = byte_above 8 8 was now (omega arith) torn 16 (omega arith)
total_keeps_gate Second was now size torn = byte_above 17 8 was now (omega arith) torn 25 (omega arith)

-- what the writes put there
pub gate_put : (slot : Slot) (byte : ℕ) (was : List ℕ) → (entry_at slot (put_at (place_of slot + 8) (byte ∷ []) was)).gate ≡ byte
unfolding entry_at
gate_put slot byte was = put_byte (place_of slot + 8) byte was

pub total_put : (slot : Slot) (n : ℕ) (was : List ℕ) → n < 2 ^ 64 → (entry_at slot (put_at (place_of slot) (to_le_bytes w64 n) was)).total ≡ n
unfolding entry_at number_at
total_put slot n was small = ap (from_le_bytes w64) (put_bytes (place_of slot) (to_le_bytes w64 n) was) ∙ from_le_bytes-to_le_bytes_8 n small
