use Rattle.std.proofs.Common.{rules}
use Rattle.std.specs.Prelude.{int_le}
use Rattle.std.proofs.lemmas.List.Sorted.{IsPartitionPoint-from_clause}
use Rattle.dp_domain.proofs.EdgeTests.{rising-parted, count-parted}
use Rattle.dp_domain.proofs.edges.edges_at_most.Goals as goal

pub returns : goal.returns
returns c =
    let edges = c.args.edges.now in
    let z = c.args.number.now in
    let point = IsPartitionPoint-from_clause (λ edge. int_le edge z) _ _ c.partition_point.ensures.partitioned (rising-parted edges c.requires.rising z) (λ a r q k. search rules) in
    count-parted (λ edge. int_le edge z) edges c.partition_point.result (search rules) point.0 point.1
