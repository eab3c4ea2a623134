use Rattle.std.proofs.Common.{◌≡◌, ◌≤◌, ◌-◌, []}
use Rattle.commit_log.specs.Passes.{first_passes}
use Rattle.commit_log.specs.MethodWord.{fresh}
use Rattle.commit_log.proofs.log.CommitLog.deal_all.Given as goal

abbrev pub invariant-loop-k : goal.invariant-loop-k
invariant-loop-k g l = (l.k ≤ l.fn.nodes) × (l.seat.table_id ≡ l.self.log) × (l.seat.me ≡ (fresh l.k (l.fn.nodes - l.k), [])) × (l.passes.items ≡ first_passes l.self.log 0 l.k)

abbrev pub decreases-loop-k : goal.decreases-loop-k
decreases-loop-k g l = l.fn.nodes - l.k
