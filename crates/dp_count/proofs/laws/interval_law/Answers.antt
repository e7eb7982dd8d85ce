use Rattle.std.proofs.Common.{refl}
use Rattle.dp_count.proofs.Counting.{count-interval}
use Rattle.dp_count.proofs.laws.interval_law.Goals as goal

pub returns : goal.returns
returns c = λ m a b h k. count-interval m a b _ h k (λ x i. refl)
