-- What a list ends as, where a `&mut` to one of its items is returned.
use Rattle.std.specs.Prelude.{ℕ}
use Rattle.std.specs.Borrow.{Lends, Fml, RattleType, MutBor}
use Rattle.dp_num.specs.Reserved.{ReservedValue, with_item}
use Rattle.dp_num.specs.contracts.reserved.Reserved.{the_row}

-- once the borrow r ends, place k has the item that was written last through r
abbrev pub LendsItem : (T : RattleType) → MutBor (ReservedValue T.Denot) → ℕ → MutBor T.Denot → Fml
LendsItem T list k r = Lends (the_row T) T list r (with_item list.now k)
