use Rattle.std.proofs.Common.{◌≡◌, ◌≤◌, length}
use Rattle.group_record.specs.Members.{least_of}
use Rattle.group_record.proofs.member.least_of.Given as goal

abbrev pub invariant-loop-rest : goal.invariant-loop-rest
invariant-loop-rest l = (least_of l.least l.rest ≡ least_of l.fn.start l.fn.members) × (length l.rest ≤ length l.members)

abbrev pub decreases-loop-rest : goal.decreases-loop-rest
decreases-loop-rest l = length l.rest
