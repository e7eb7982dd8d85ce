-- The bytes of a ledger: the two numbers of its ratio in four bytes each, and two slots of nine bytes, a total of
-- eight bytes and a gate of one. Numbers have their lowest byte first.
use Rattle.std.specs.Prelude.{ℕ, ◌+◌, ◌==◌, ◌&&◌, Bool, List, ◌∷◌, ◌++◌, length, take, drop, get_or, max, replicate, Option, Some, None, if◌then◌else◌, nat_lt, nat_le}
use Rattle.std.specs.Int.{Width, w32, w64, byte_len, from_le_bytes, to_le_bytes}
use Rattle.dp_num.specs.Limits.{most_units}
use Rattle.dp_num.specs.declared.ratio.Ratio.{Ratio}
use Rattle.dp_ledger.specs.declared.image.Entry.{Entry}
use Rattle.dp_ledger.specs.declared.slot.Slot.{Slot}
use Rattle.dp_ledger.specs.declared.slot.Slot.TheVariants.{First, Second}

-- the number that the bytes of that width spell, from a place on
unfoldable pub number_at : Width → ℕ → List ℕ → ℕ
number_at w at bytes = from_le_bytes w (take (byte_len w) (drop at bytes))

-- where a slot begins
abbrev pub place_of : Slot → ℕ
place_of First = 8
place_of Second = 17

-- the other slot
abbrev pub other : Slot → Slot
other First = Second
other Second = First

-- what the bytes have in a slot
unfoldable pub entry_at : Slot → List ℕ → Entry
entry_at slot bytes = record {
  total = number_at w64 (place_of slot) bytes;
  gate = get_or bytes (place_of slot + 8) 0;
}

-- a slot's gate is open at 1 and closed at every other byte
abbrev pub is_open : Entry → Bool
is_open entry = entry.gate == 1

-- the total of a slot that counts: its gate is open, and its total is at most 2^32
unfoldable pub counted : Entry → Option ℕ
counted entry = if is_open entry && nat_le entry.total most_units then Some entry.total else None

-- the greatest total of two slots, of which one, both or none count
abbrev pub greatest : Option ℕ → Option ℕ → Option ℕ
greatest None second = second
greatest (Some a) None = Some a
greatest (Some a) (Some b) = Some (max a b)

-- the bytes are as many as an image has, and begin with the numbers of the ratio
unfoldable pub is_of : Ratio → List ℕ → Bool
is_of ratio bytes =
    length bytes == 26 && number_at w32 0 bytes == ratio.p && number_at w32 4 bytes == ratio.q

-- the total of the bytes as a ledger of the ratio; none where they are no ledger of it
unfoldable pub ledger_total : Ratio → List ℕ → Option ℕ
ledger_total ratio bytes =
    if is_of ratio bytes
    then greatest (counted (entry_at First bytes)) (counted (entry_at Second bytes))
    else None

-- the slot that counts and has the greatest total, the first where both have it
abbrev pub current_of : Option ℕ → Option ℕ → Slot
current_of None None = First
current_of None (Some b) = Second
current_of (Some a) None = First
current_of (Some a) (Some b) = if nat_lt a b then Second else First

-- the current slot of the bytes
unfoldable pub current_slot : List ℕ → Slot
current_slot bytes = current_of (counted (entry_at First bytes)) (counted (entry_at Second bytes))

-- the bytes of a new ledger: the total 0 with an open gate, and an empty slot
unfoldable pub new_image : Ratio → List ℕ
new_image ratio =
    to_le_bytes w32 ratio.p ++ to_le_bytes w32 ratio.q ++ replicate 8 0 ++ 1 ∷ replicate 9 0
