use Rattle.std.proofs.Common.{◌≡◌, take}
use Rattle.std.specs.List.{fold}
use Rattle.job_plans.specs.declared.Phase.TheVariants.{Idle}
use Rattle.job_files.specs.MethodReading.{phase_with}
use Rattle.job_files.proofs.rows.phase_of.Given as goal

abbrev pub invariant-loop-line : goal.invariant-loop-line
invariant-loop-line l = l.phase ≡ fold (phase_with l.job) Idle (take l.line-index l.lines)
