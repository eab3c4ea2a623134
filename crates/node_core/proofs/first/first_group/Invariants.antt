use Rattle.std.proofs.Common.{◌≡◌, ◌++◌, map, drop}
use Rattle.std.specs.Prelude.{filter}
use Rattle.node_core.specs.First.{first_member, has_leader}
use Rattle.node_core.proofs.first.first_group.Given as goal

abbrev pub invariant-loop-led : goal.invariant-loop-led
invariant-loop-led l = l.members ++ map first_member (filter (has_leader l.leader) (drop l.led-index l.all)) ≡ map first_member (filter (has_leader l.leader) l.all)
