-- What a store of records is seen as.
use Rattle.std.specs.Prelude.{◌≡◌, ℕ, ◌*◌, ◌^◌, ◌≤◌, List, length}

-- how many cells each record has, and the records
pub record StoreValue : Type 0 where
  pub columns : ℕ
  pub records : List (List (List ℕ))

-- the cells are those of so many records, at most 2 ^ 30, of so many cells each, from 1 to 64
pub record IsStored (records columns : ℕ) (cells : List (List ℕ)) : Type 0 where
  pub some : 1 ≤ columns
  pub few : columns ≤ 64
  pub within : records ≤ 2 ^ 30
  pub whole : length cells ≡ records * columns
