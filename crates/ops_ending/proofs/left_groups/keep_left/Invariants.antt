use Rattle.std.proofs.Common.{◌≡◌, ◌++◌, ◌-◌, not, take, drop, length}
use Rattle.std.specs.Prelude.{filter}
use Rattle.record_bag.specs.Bags.{vproc_in}
use Rattle.decide_law.specs.Counts.{passes}
use Rattle.ops_ending.specs.Ending.{goes}
use Rattle.ops_ending.proofs.left_groups.keep_left.Given as goal

abbrev pub invariant-loop-at : goal.invariant-loop-at
invariant-loop-at l =
    take l.at l.members ++ filter (λ m. not (passes (goes l.end.pid l.end.vanishes) (vproc_in l.bag m.pid))) (drop l.at l.members)
    ≡ filter (λ m. not (passes (goes l.end.pid l.end.vanishes) (vproc_in l.bag m.pid))) l.fn.members

abbrev pub decreases-loop-at : goal.decreases-loop-at
decreases-loop-at l = length l.members - l.at
