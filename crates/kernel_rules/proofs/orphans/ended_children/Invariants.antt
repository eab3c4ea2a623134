use Rattle.std.proofs.Common.{◌≡◌, take}
use Rattle.kernel_rules.specs.MethodEnding.{ended_children}
use Rattle.kernel_rules.proofs.orphans.ended_children.Given as goal

abbrev pub invariant-loop-row : goal.invariant-loop-row
invariant-loop-row l = l.pids.items ≡ ended_children (take l.row-index l.rows) l.pid
