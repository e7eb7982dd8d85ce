-- The values that are held of nodes, by the numbers of the nodes.
use Rattle.std.specs.Prelude.{◌≡◌, ℕ, ◌||◌, Bool, List, Option, Some, None, option_map, slice_get, nat_le, if◌then◌else◌}
use Rattle.dp_domain.specs.declared.values.Value.{Value}
use Rattle.dp_store.specs.declared.held.Held.{Held}
use Rattle.dp_store.specs.Held.{held_value, IsHeld}
use Rattle.dp_tree.specs.Table.{place_of}

-- numbers of nodes, and what is held of each
pub record ValuesValue : Type 0 where
  pub numbers : List ℕ
  pub held : List Held

-- what is held of a node, if anything is
abbrev pub held_of : ValuesValue → ℕ → Option Held
held_of values node = slice_get values.held (place_of values.numbers node)

-- the value that is held of a node, by the store's records
abbrev pub value_of : List (List (List ℕ)) → ValuesValue → ℕ → Option Value
value_of rows values node = option_map (held_value rows) (held_of values node)

-- records are held as selections of them, and other values as they are
abbrev pub AreHeld : List (List (List ℕ)) → ValuesValue → Type 0
AreHeld rows values = (node : ℕ) (held : Held) → held_of values node ≡ Some held → IsHeld rows held

-- a value of a node whose number is at most that of another one stays, and any other is let go, unless all stay
abbrev pub staying : Bool → ℕ → ℕ → Option Value → Option Value
staying all_stay most node value = if all_stay || nat_le node most then value else None
