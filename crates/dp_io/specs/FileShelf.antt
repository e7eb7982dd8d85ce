-- What a shelf of real files shows.
use Rattle.std.specs.Prelude.{◌≡◌, ℕ, Bool, true, List, [], ◌∷◌, ◌++◌, Option, slice_get, codes, bytes_eq, option_and_then}

-- an open slot: whether it reads the standard input, and what is left of it, where its reader tells that
pub record OpenSource : Type 0 where
  pub is_input : Bool
  pub left : Option (List ℕ)

-- whether the standard input was there at first, the open slots, and how many calls failed
pub record ShelfState : Type 0 where
  pub has_input : Bool
  pub sources : List OpenSource
  pub failed : ℕ

-- the standard input has the name `-`
abbrev pub is_input_name : List ℕ → Bool
is_input_name name = bytes_eq name (codes "-")

-- what is left of a slot
abbrev pub left_at : List OpenSource → ℕ → Option (List ℕ)
left_at sources slot = option_and_then (λ source. source.left) (slice_get sources slot)

-- one slot more is open: under the name `-` the standard input, if it was there, and else a file
pub record OpensSource (name : List ℕ) (has_input : Bool) (old new : List OpenSource) : Type 0 where
  pub left : Option (List ℕ)
  pub sources : new ≡ old ++ record { is_input = is_input_name name; left = left } ∷ []
  pub there : is_input_name name ≡ true → has_input ≡ true
