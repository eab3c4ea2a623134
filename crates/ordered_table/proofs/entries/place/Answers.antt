use Rattle.std.proofs.Common.{arith, rules, nat_lt}
use Rattle.std.proofs.lemmas.List.Sorted.{IsPartitionPoint-from_clause, IsPartitionedBy-ltb}
use Rattle.ordered_table.proofs.RisingLaws.{IsNonDecreasingBy-rising, place-from_point}
use Rattle.ordered_table.proofs.entries.place.Goals as goal

pub returns : goal.returns
returns g c =
    let es = c.args.entries.now in
    let point = IsPartitionPoint-from_clause (λ e. nat_lt e.pid.0 c.args.pid.0) es c.partition_point.result c.partition_point.ensures.partitioned (IsPartitionedBy-ltb (λ e. e.pid.0) es c.args.pid.0 (IsNonDecreasingBy-rising (λ e. e.pid.0) es c.requires)) (λ a r f k. search rules) in
    place-from_point (λ e. e.pid.0) es c.args.pid.0 _ c.partition_point.ensures.bound (λ k d lt. point.0 k d (omega arith) lt) (λ d lt. point.1 _ d (omega arith) lt)
