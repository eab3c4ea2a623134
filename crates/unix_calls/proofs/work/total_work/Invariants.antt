use Rattle.std.proofs.Common.{◌≡◌, take}
use Rattle.unix_calls.specs.Work.{total_work}
use Rattle.unix_calls.proofs.work.total_work.Given as goal

abbrev pub invariant-loop-start : goal.invariant-loop-start
invariant-loop-start l = l.total ≡ total_work l.works (take l.start-index l.starts)
