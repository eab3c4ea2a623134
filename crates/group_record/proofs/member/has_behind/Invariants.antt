use Rattle.std.proofs.Common.{◌≡◌, ◌≤◌, length}
use Rattle.std.specs.List.{list_any}
use Rattle.group_record.specs.Members.{is_behind}
use Rattle.group_record.proofs.member.has_behind.Given as goal

abbrev pub invariant-loop-rest : goal.invariant-loop-rest
invariant-loop-rest l = (list_any (is_behind l.all) l.rest ≡ list_any (is_behind l.fn.all) l.fn.members) × (length l.rest ≤ length l.members)

abbrev pub decreases-loop-rest : goal.decreases-loop-rest
decreases-loop-rest l = length l.rest
