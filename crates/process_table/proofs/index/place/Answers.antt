use Rattle.std.proofs.Common.{arith, rules, nat_lt}
use Rattle.std.proofs.lemmas.List.Sorted.{IsPartitionPoint-from_clause, IsPartitionedBy-ltb}
use Rattle.ordered_table.proofs.RisingLaws.{IsNonDecreasingBy-rising, place-from_point}
use Rattle.process_table.proofs.index.place.Goals as goal

pub returns : goal.returns
returns c =
    let rows = c.args.rows.now in
    let point = IsPartitionPoint-from_clause (λ r. nat_lt r.pid.0 c.args.pid.0) rows c.partition_point.result c.partition_point.ensures.partitioned (IsPartitionedBy-ltb (λ r. r.pid.0) rows c.args.pid.0 (IsNonDecreasingBy-rising (λ r. r.pid.0) rows c.requires)) (λ a r f k. search rules) in
    place-from_point (λ r. r.pid.0) rows c.args.pid.0 _ c.partition_point.ensures.bound (λ k d lt. point.0 k d (omega arith) lt) (λ d lt. point.1 _ d (omega arith) lt)
