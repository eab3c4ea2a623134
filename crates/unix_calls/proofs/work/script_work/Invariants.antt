use Rattle.std.proofs.Common.{◌≡◌, take}
use Rattle.unix_calls.specs.Work.{script_work}
use Rattle.unix_calls.proofs.work.script_work.Given as goal

abbrev pub invariant-loop-statement : goal.invariant-loop-statement
invariant-loop-statement l = l.work ≡ script_work l.earlier (take l.statement-index l.statements)
