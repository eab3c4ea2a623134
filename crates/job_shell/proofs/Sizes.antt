-- Stages, line by line.
use Rattle.std.proofs.Common.{◌≡◌, ◌≤◌, ◌<◌, ◌+◌, ℕ, Bool, true, false, cond, List, [], ◌∷◌, ◌++◌, length, take, drop, get_or, refl, sym, ap, ◌∙◌, arith, append_assoc}
use Rattle.std.specs.Prelude.{map, All}
use Rattle.std.proofs.lemmas.List.{at_drop_more, take_more}
use Rattle.std.proofs.lemmas.List.Sums.{fold_push}
use Rattle.job_plans.specs.declared.Stage.{Stage}
use Rattle.job_plans.specs.declared.Job.{Job}
use Rattle.job_plans.specs.declared.JobLine.{JobLine}
use Rattle.job_plans.specs.declared.JobLine.TheVariants.{Run, Start, Stop, End, Bring}
use Rattle.unix_calls.specs.declared.Statement.{Statement}
use Rattle.job_plans.specs.Acts.{Join, Reap, statement_of}
use Rattle.job_plans.specs.Plans.{joined, reaped, stages_started, starts, first_from, with_status, statuses_of}
use Rattle.job_files.specs.MethodBounds.{HasFew}
use Rattle.job_files.proofs.Bounded.{few_stages}

-- one stage more
pub statuses_more : (stages : List Stage) (i : ℕ) (d : Stage) → i < length stages → statuses_of (take (i + 1) stages) ≡ with_status (statuses_of (take i stages)) (get_or stages i d)
statuses_more stages i d lt = ap statuses_of (take_more stages i d lt) ∙ fold_push with_status [] (take i stages) (get_or stages i d)

passed : {X : Type 0} (b : Bool) (x y : X) → b ≡ false → cond b x y ≡ y
passed false x y e = refl
passed true x y e = cc

-- a line that doesn't start the job
pub first_more : (jobs : List Job) (n j : ℕ) (lines : List JobLine) (i : ℕ) (d : JobLine) (total : ℕ) → i < length lines → starts j (get_or lines i d) ≡ false → first_from jobs n (drop i lines) j ≡ total
    → first_from jobs (n + length (stages_started jobs (get_or lines i d))) (drop (i + 1) lines) j ≡ total
first_more jobs n j lines i d total lt not_here so_far =
    sym (at_drop_more (λ ls. first_from jobs n ls j) lines i d lt ∙ passed (starts j (get_or lines i d)) n (first_from jobs (n + length (stages_started jobs (get_or lines i d))) (drop (i + 1) lines) j) not_here) ∙ so_far

-- a line starts eight stages at most
pub few_started : (jobs : List Job) (line : JobLine) → All HasFew jobs → length (stages_started jobs line) ≤ 8
few_started jobs (Run j) all = few_stages jobs j all
few_started jobs (Start j) all = few_stages jobs j all
few_started jobs (Stop j) all = omega arith
few_started jobs (End j) all = omega arith
few_started jobs (Bring j) all = omega arith

-- one stage more of those that get a group, or are waited for
joins_rest : List Statement → ℕ → ℕ → List Stage → List Statement
joins_rest script first v stages = script ++ map statement_of (joined first v stages)

pub joins_more : (script : List Statement) (first k : ℕ) (stages : List Stage) (d : Stage) (total : List Statement) → k < length stages → script ++ map statement_of (joined first (first + k) (drop k stages)) ≡ total
    → (script ++ statement_of (Join (first + k) first) ∷ []) ++ map statement_of (joined first (first + (k + 1)) (drop (k + 1) stages)) ≡ total
unfolding joins_rest
joins_more script first k stages d total lt so_far =
    let place : first + (k + 1) ≡ first + k + 1 = omega arith in
    append_assoc script (statement_of (Join (first + k) first) ∷ []) (map statement_of (joined first (first + (k + 1)) (drop (k + 1) stages)))
    ∙ ap (λ v. script ++ (statement_of (Join (first + k) first) ∷ map statement_of (joined first v (drop (k + 1) stages)))) place
    ∙ sym (at_drop_more (joins_rest script first (first + k)) stages k d lt) ∙ so_far

reaps_rest : List Statement → ℕ → List Stage → List Statement
reaps_rest script v stages = script ++ map statement_of (reaped v stages)

pub reaps_more : (script : List Statement) (first k : ℕ) (stages : List Stage) (d : Stage) (total : List Statement) → k < length stages → script ++ map statement_of (reaped (first + k) (drop k stages)) ≡ total
    → (script ++ statement_of (Reap (first + k)) ∷ []) ++ map statement_of (reaped (first + (k + 1)) (drop (k + 1) stages)) ≡ total
unfolding reaps_rest
reaps_more script first k stages d total lt so_far =
    let place : first + (k + 1) ≡ first + k + 1 = omega arith in
    append_assoc script (statement_of (Reap (first + k)) ∷ []) (map statement_of (reaped (first + (k + 1)) (drop (k + 1) stages)))
    ∙ ap (λ v. script ++ (statement_of (Reap (first + k)) ∷ map statement_of (reaped v (drop (k + 1) stages)))) place
    ∙ sym (at_drop_more (reaps_rest script (first + k)) stages k d lt) ∙ so_far
