use Rattle.std.proofs.Common.{◌≡◌, map, take}
use Rattle.std.specs.List.{flat_map}
use Rattle.job_plans.specs.Acts.{statement_of}
use Rattle.job_plans.specs.Plans.{line_acts, first_of}
use Rattle.job_shell.proofs.worlds.shell_script.Given as goal

abbrev pub invariant-loop-line : goal.invariant-loop-line
invariant-loop-line l = l.script ≡ map statement_of (flat_map (line_acts l.file.jobs l.statuses (first_of l.file)) (take l.line-index l.line-items))
