use Rattle.std.proofs.Common.{◌≡◌, map, take}
use Rattle.job_plans.specs.Acts.{stage_statements}
use Rattle.job_plans.specs.Worlds.{script_with}
use Rattle.job_shell.proofs.worlds.stage_scripts.Given as goal

abbrev pub invariant-loop-status : goal.invariant-loop-status
invariant-loop-status l = l.scripts ≡ map (λ e. script_with (stage_statements e)) (take l.status-index l.statuses)
