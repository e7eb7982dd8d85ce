-- A shelf in memory.
use Rattle.std.specs.Prelude.{ℕ, Bool, true, false, List, [], ◌∷◌, ◌++◌, drop, Option, Result, Ok, Err, option_map, slice_set, slice_index_or, find, bytes_eq}
use Rattle.dp_io.specs.Calls.{CallCounts, after_call}
use Rattle.dp_io.specs.declared.faults.OpenFault.{OpenFault}
use Rattle.dp_io.specs.declared.faults.OpenFault.TheVariants as open_fault

-- a file: its name and its bytes
pub record NamedBytes : Type 0 where
  pub name : List ℕ
  pub bytes : List ℕ

-- the greatest number of bytes of one read, the files, what is left of each slot, and the calls
pub record ShelfValue : Type 0 where
  pub piece : ℕ
  pub stored : List NamedBytes
  pub rests : List (List ℕ)
  pub calls : CallCounts

-- the bytes of the file of that name
abbrev pub bytes_of : List NamedBytes → List ℕ → Option (List ℕ)
bytes_of stored name = option_map (λ file. file.bytes) (find (λ file. bytes_eq file.name name) stored)

-- what is left of a slot
abbrev pub rest_of : ShelfValue → ℕ → List ℕ
rest_of shelf slot = slice_index_or shelf.rests slot []

-- the shelf after one more call, with these rests of its slots
abbrev pub after_call_with : ShelfValue → List (List ℕ) → ShelfValue
after_call_with shelf rests = record {
  piece = shelf.piece;
  stored = shelf.stored;
  rests = rests;
  calls = after_call false shelf.calls;
}

-- the shelf after a call that opened a slot with these bytes
abbrev pub after_open : ShelfValue → List ℕ → ShelfValue
after_open shelf bytes = after_call_with shelf (shelf.rests ++ bytes ∷ [])

-- the shelf after a call that took the next n bytes of a slot
abbrev pub after_read : ShelfValue → ℕ → ℕ → ShelfValue
after_read shelf slot n = after_call_with shelf (slice_set shelf.rests slot (drop n (rest_of shelf slot)))

-- whether an open answered that the shelf failed
abbrev pub is_failed : {T : Type 0} → Result T OpenFault → Bool
is_failed (Err open_fault.Failed) = true
is_failed (Err open_fault.NoMemory) = false
is_failed (Ok slot) = false
