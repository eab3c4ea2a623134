-- What the plan of `cluster 2`, `job a 3@0 4@1`, `run a` is.
use Rattle.std.proofs.Common.{◌≡◌, [], ◌∷◌, refl}
use Rattle.unix_names.specs.declared.Signal.TheVariants.{Cont}
use Rattle.job_plans.specs.declared.JobFile.{JobFile}
use Rattle.job_plans.specs.declared.JobLine.TheVariants.{Run}
use Rattle.job_plans.specs.Acts.{Begin, Await, Join, Send, Reap}
use Rattle.job_plans.specs.Plans.{plan_of, statuses}

unfoldable file : JobFile
file = record {
  nodes = 2;
  jobs = record { stages = record { status = 3; node = record { 0 = 0 } } ∷ record { status = 4; node = record { 0 = 1 } } ∷ [] } ∷ [];
  lines = Run 0 ∷ [];
}

does_this : (plan_of file).acts ≡ Begin 0 0 (record { 0 = 0 }) ∷ Await 0 ∷ Begin 1 1 (record { 0 = 1 }) ∷ Await 1 ∷ Join 0 0 ∷ Join 1 0 ∷ Send 0 Cont ∷ Reap 0 ∷ Reap 1 ∷ []
unfolding file
does_this = refl

has_these : statuses file ≡ 3 ∷ 4 ∷ []
unfolding file
has_these = refl
