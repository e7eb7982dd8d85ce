-- What a shelf of files tells, and what an open and a read do to it.
use Rattle.std.specs.Prelude.{◌≡◌, ℕ, ◌≤◌, List, [], ◌++◌, length, take, drop, Option, Some, None, IsSome, option_map}
use Rattle.std.specs.Option.{ForSome}

-- the bytes of each file by its name
abbrev pub Files : Type 0
Files = List ℕ → Option (List ℕ)

-- where the shelf tells its files, there is a file of that name, and it is what is left
abbrev pub StartsFile : Option Files → List ℕ → Option (List ℕ) → Type 0
StartsFile None name left = Unit {0}
StartsFile (Some files) name left = IsSome (files name) × (left ≡ files name)

-- the shelf tells its files and has none of that name
abbrev pub LacksFile : Option Files → List ℕ → Type 0
LacksFile None name = ⊥
LacksFile (Some files) name = files name ≡ None

-- where what is left is told, the next n bytes move from it to the front of the buffer, and n is 0 at its end alone
abbrev pub TakesNext : Option (List ℕ) → Option (List ℕ) → ℕ → List ℕ → Type 0
TakesNext None new n buffer = new ≡ None
TakesNext (Some left) new n buffer =
    (new ≡ Some (drop n left)) × (take n buffer ≡ take n left) × (n ≤ length left) × (n ≡ 0 → left ≡ [])

-- what was left with these bytes before what is left now, where it is told
abbrev pub preceded : List ℕ → Option (List ℕ) → Option (List ℕ)
preceded bytes left = option_map (λ rest. bytes ++ rest) left

-- nothing is left, where it is told
abbrev pub IsEmptied : Option (List ℕ) → Type 0
IsEmptied left = ForSome left (λ rest. rest ≡ [])

-- what is left now is a rest of what was left
pub record KeepsRest (old new : Option (List ℕ)) : Type 0 where
  pub front : List ℕ
  pub split : old ≡ preceded front new
