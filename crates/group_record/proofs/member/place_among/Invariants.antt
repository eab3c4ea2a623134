use Rattle.std.proofs.Common.{◌≡◌, ◌≤◌, ◌+◌, ◌-◌, length}
use Rattle.group_record.specs.MethodPlaces.{others_first}
use Rattle.group_record.proofs.member.place_among.Given as goal

abbrev pub invariant-loop-rest : goal.invariant-loop-rest
invariant-loop-rest l = (length l.rest ≤ length l.members) × ((length l.members - length l.rest) + others_first l.p l.rest ≡ others_first l.p l.members)

abbrev pub decreases-loop-rest : goal.decreases-loop-rest
decreases-loop-rest l = length l.rest
