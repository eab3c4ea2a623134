use Rattle.std.proofs.Common.{◌-◌, length}
use Rattle.group_record.proofs.PlaceLaws.{IsLowered}
use Rattle.group_record.proofs.member.lower_each.Given as goal

abbrev pub invariant-loop-at : goal.invariant-loop-at
invariant-loop-at l = IsLowered l.by l.fn.members l.at l.members

abbrev pub decreases-loop-at : goal.decreases-loop-at
decreases-loop-at l = length l.members - l.at

abbrev pub invariant-loop-at-2 : goal.invariant-loop-at-2
invariant-loop-at-2 l = IsLowered l.by l.fn.members l.at l.members

abbrev pub decreases-loop-at-2 : goal.decreases-loop-at-2
decreases-loop-at-2 l = length l.members - l.at
