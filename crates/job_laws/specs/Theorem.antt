-- What the legal histories of job files mean.
use Rattle.std.specs.Prelude.{ℕ, ◌≡◌, List, slice_get, Some}
use Rattle.unix_names.specs.declared.NodeId.{NodeId}
use Rattle.unix_calls.specs.declared.Entry.{Entry}
use Rattle.unix_calls.specs.Valid.{IsValid}
use Rattle.kernel_model.specs.Legal.{IsLegal}
use Rattle.proc_image.specs.Follows.{Follows}
use Rattle.job_plans.specs.declared.JobFile.{JobFile}
use Rattle.job_plans.specs.Acts.{Begin}
use Rattle.job_plans.specs.Plans.{Plan, plan_of, statuses, IsAccepted}
use Rattle.job_plans.specs.Worlds.{world_with, world_of}
use Rattle.job_laws.specs.Orders.{IsPlan}
use Rattle.job_laws.specs.Means.{Means}

-- each stage is forked with the script of its status
abbrev pub HasScripts : List ℕ → Plan → Type 0
HasScripts statuses plan = (k v script : ℕ) (node : NodeId) → slice_get plan.acts k ≡ Some (Begin v script node) → slice_get statuses script ≡ Some (plan.status v)

-- each legal history that follows the scripts of an orderly plan's world means what the plan says
abbrev pub PlansMean : Type 0
PlansMean = (nodes : ℕ) (statuses : List ℕ) (plan : Plan) (history : List Entry) → IsPlan plan → HasScripts statuses plan → IsValid (world_with nodes statuses plan)
    → IsLegal (world_with nodes statuses plan) history → Follows (world_with nodes statuses plan) history → Means (world_with nodes statuses plan) plan history

-- the plan of each accepted file is orderly, and its stages get the scripts of their statuses
abbrev pub AcceptedArePlans : Type 0
AcceptedArePlans = (file : JobFile) → IsAccepted file → IsPlan (plan_of file) × HasScripts (statuses file) (plan_of file)

-- each legal history that follows the scripts of an accepted file's world means what the file says
abbrev pub FilesMean : Type 0
FilesMean = (file : JobFile) (history : List Entry) → IsAccepted file → IsValid (world_of file) → IsLegal (world_of file) history → Follows (world_of file) history → Means (world_of file) (plan_of file) history
