use Rattle.std.proofs.Common.{◌≡◌, ◌++◌, List, []}
use Rattle.commit_log.specs.Passes.{Known}
use Rattle.commit_log.specs.MethodWord.{gathered}
use Rattle.commit_log.proofs.log.CommitLog.close.Given as goal

abbrev pub invariant-loop-pass : goal.invariant-loop-pass
invariant-loop-pass g l = (l.all.table_id ≡ l.fn.self.log) × ((taken : List (Known g.row.M-Step.Denot)) × (l.fn.passes.items ≡ l.passes.items ++ taken) × (l.all.me ≡ (gathered taken, [])))

abbrev pub decreases-loop-pass : goal.decreases-loop-pass
decreases-loop-pass g l = goal.left-loop-pass g l
