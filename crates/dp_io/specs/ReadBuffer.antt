-- A buffer for what is read ahead of its use.
use Rattle.std.specs.Prelude.{◌≡◌, ℕ, List, ◌++◌, length, Option}
use Rattle.dp_io.specs.Shelf.{preceded, IsEmptied}

-- a read put the next n bytes of what is left behind those that are held, and n is 0 where nothing is left
pub record ReadsBehind (old_left new_left : Option (List ℕ)) (n : ℕ) (old new : List ℕ) : Type 0 where
  pub piece : List ℕ
  pub count : length piece ≡ n
  pub behind : new ≡ old ++ piece
  pub moved : old_left ≡ preceded piece new_left
  pub emptied : n ≡ 0 → IsEmptied new_left
