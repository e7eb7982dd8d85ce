use Rattle.std.proofs.Common.{◌≡◌, ◌+◌, ◌-◌, ◌<◌, length, sym, rules}
use Rattle.csv.proofs.RecordFacts.{prev-first, prev-next}
use Rattle.dp_records.proofs.packed.start_of.Goals as goal

pub returns-then-k-eq0 : goal.returns-then-k-eq0
returns-then-k-eq0 c = rw c.if-k-eq0.true (sym (prev-first _))

pub returns-else-k-eq0 : goal.returns-else-k-eq0
returns-else-k-eq0 c =
    let one : (c.args.k - 1) + 1 ≡ c.args.k = search rules in
    let lt : (c.args.k - 1) + 1 < length c.args.ends.now = rw one c.requires in
    sym (rw one at (prev-next 0 c.args.ends.now (c.args.k - 1) 0 lt))
