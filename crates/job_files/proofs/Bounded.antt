-- The bounds that a reading keeps.
use Rattle.std.proofs.Common.{◌≡◌, ◌≤◌, ◌<◌, ℕ, List, [], ◌∷◌, length, refl, arith, get_or, zero, suc, Option, None, Some, slice_get}
use Rattle.std.specs.Prelude.{All}
use Rattle.std.proofs.lemmas.List.Elements.{All-append}
use Rattle.proc_image.proofs.Fits.{All-slice_get}
use Rattle.script_words.specs.Words.{Row}
use Rattle.job_plans.specs.declared.Job.{Job}
use Rattle.job_plans.specs.declared.limits.TheConstants.{MOST_STAGES}
use Rattle.job_plans.specs.Files.{stages_in, stages_of}
use Rattle.job_files.specs.declared.drafts.Draft.{Draft}
use Rattle.job_files.specs.declared.drafts.Item.{Item}
use Rattle.job_files.specs.declared.drafts.Item.TheVariants as item
use Rattle.job_files.specs.MethodReading.{with_item}
use Rattle.job_files.specs.MethodBounds.{HasFew, IsBounded, KeepsBounds}

pub few_stages : (jobs : List Job) (j : ℕ) → All HasFew jobs → length (stages_of jobs j) ≤ MOST_STAGES
few_stages jobs j all = go (slice_get jobs j) refl
  where
    go : (o : Option Job) → slice_get jobs j ≡ o → length (stages_in o) ≤ MOST_STAGES
    go None e = omega arith
    go (Some job) e = All-slice_get HasFew jobs j job all e

All-single : {X : Type 0} (P : X → Type 0) (x : X) → P x → All P (x ∷ [])
All-single {X} P x p k d l = go k l
  where
    go : (k : ℕ) → k < 1 → P (get_or (x ∷ []) k d)
    go zero l = p
    go (suc k) l = let no : ⊥ = omega (arith, l) in absurd no

pub bounded_after : (draft : Draft) (row : Row) (it : Item) → IsBounded draft → KeepsBounds draft it → IsBounded (with_item draft row it)
bounded_after draft row item.Nothing b k = b
bounded_after draft row (item.Nodes n) b k = record { stages = b.stages; steps = b.steps; jobs = b.jobs }
bounded_after draft row (item.Job job) b k = record { stages = k.1; steps = b.steps; jobs = All-append HasFew draft.jobs (job ∷ []) b.jobs (All-single HasFew job k.0) }
bounded_after draft row (item.Tells line) b k = record { stages = b.stages; steps = k; jobs = b.jobs }
