-- Texts one after another in one buffer of bytes.
use Rattle.std.specs.Prelude.{◌≡◌, ℕ, List, length}
use Rattle.csv.specs.Records.{last_end, Rising}

-- the ends of the texts rise, and the last is the end of the bytes
pub record IsPacked (ends bytes : List ℕ) : Type 0 where
  pub rising : Rising 0 ends (length bytes)
  pub last : last_end 0 ends ≡ length bytes
