-- The world of a plan.
use Rattle.std.specs.Prelude.{ℕ, ◌+◌, List, [], ◌∷◌, ◌++◌, map, length, None}
use Rattle.unix_calls.specs.declared.Statement.{Statement}
use Rattle.unix_calls.specs.declared.Script.{Script}
use Rattle.unix_calls.specs.declared.Start.{Start}
use Rattle.unix_calls.specs.declared.World.{World}
use Rattle.job_plans.specs.declared.files.JobFile.{JobFile}
use Rattle.job_plans.specs.Acts.{statement_of, stage_statements}
use Rattle.job_plans.specs.Plans.{Plan, plan_of, statuses}

abbrev pub script_with : List Statement → Script
script_with statements = record { statements = statements }

-- the shell is the first process of node 0
abbrev pub shell_start : ℕ → ℕ → Start
shell_start script var = record { node = record { 0 = 0 }; script = script; var = var; pid = record { 0 = 2 }; uid = 0; joined = None }

-- a script for each of these statuses, and then the shell's; the shell's variable comes behind those of the stages
abbrev pub world_with : ℕ → List ℕ → Plan → World
world_with nodes statuses plan = record {
  nodes = nodes;
  vars = plan.count + 1;
  scripts = map (λ e. script_with (stage_statements e)) statuses ++ script_with (map statement_of plan.acts) ∷ [];
  starts = shell_start (length statuses) plan.count ∷ [];
}

-- the world of a job file
abbrev pub world_of : JobFile → World
world_of file = world_with file.nodes (statuses file) (plan_of file)
