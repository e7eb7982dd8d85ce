-- Lists that grow at their ends.
use Rattle.std.specs.Prelude.{ℕ, List, [], ◌∷◌, ◌++◌, slice_set, slice_index_or}

-- the lists, the one at the place with an element more at its end; the same lists where none is at the place
abbrev pub with_one_more : {X : Type 0} → ℕ → X → List (List X) → List (List X)
with_one_more place x lists = slice_set lists place (slice_index_or lists place [] ++ x ∷ [])
