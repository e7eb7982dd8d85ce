-- What is held of a value that a line gives of records.
use Rattle.std.specs.Prelude.{◌≡◌, ℕ, Bool, true, false, List}
use Rattle.dp_domain.specs.declared.values.Value.{Value}
use Rattle.dp_domain.specs.declared.values.Value.TheVariants as value
use Rattle.dp_store.specs.declared.held.Held.{Held}
use Rattle.dp_store.specs.declared.held.Held.TheVariants as held
use Rattle.dp_store.specs.Selections.{IsSelection, selected}

-- the value is one of records
abbrev pub is_rows : Value → Bool
is_rows (value.Rows rows) = true
is_rows v = false

-- the value that is held, by the store's records
abbrev pub held_value : List (List (List ℕ)) → Held → Value
held_value rows (held.Chosen chosen) = value.Rows (selected rows chosen)
held_value rows (held.Plain v) = v

-- records are held as a selection of them, and any other value as it is
abbrev pub IsHeld : List (List (List ℕ)) → Held → Type 0
IsHeld rows (held.Chosen chosen) = IsSelection rows chosen
IsHeld rows (held.Plain v) = is_rows v ≡ false
