-- No more stages are started than the jobs have, since each job is started at most once.
use Rattle.std.proofs.Common.{◌≡◌, ◌≢◌, ◌⊎◌, inl, inr, ◌<◌, ◌≤◌, ◌+◌, ℕ, zero, suc, List, [], ◌∷◌, length, refl, sym, ap, ◌∙◌, arith, length-append, slice_get}
use Rattle.job_plans.specs.declared.Job.{Job}
use Rattle.job_plans.specs.declared.JobLine.{JobLine}
use Rattle.job_plans.specs.declared.JobLine.TheVariants.{Run, Start, Stop, End, Bring}
use Rattle.job_plans.specs.declared.Phase.{Phase}
use Rattle.job_plans.specs.declared.Phase.TheVariants.{Idle, Background, Done}
use Rattle.job_plans.specs.Files.{put_at, stages_in, stages_of, all_idle, AreLines, total}
use Rattle.job_plans.specs.Plans.{all_stages}
use Rattle.job_laws.proofs.Shell.{put_same, put_other, cases_same}

idle_size : Phase → Job → ℕ
idle_size Idle job = length job.stages
idle_size Background job = 0
idle_size Done job = 0

-- how many stages the jobs have that are not started, counted from the k-th job on
left : (ℕ → Phase) → ℕ → List Job → ℕ
left phase k [] = 0
left phase k (job ∷ jobs) = idle_size (phase k) job + left phase (k + 1) jobs

left_all : (k : ℕ) (jobs : List Job) → left all_idle k jobs ≡ total jobs
unfolding left idle_size
left_all k [] = refl
left_all k (job ∷ jobs) = ap (λ n. length job.stages + n) (left_all (k + 1) jobs)

left_same : (phase : ℕ → Phase) (j : ℕ) (now : Phase) (k : ℕ) (jobs : List Job) → j < k → left (put_at j now phase) k jobs ≡ left phase k jobs
unfolding left
left_same phase j now k [] l = refl
left_same phase j now k (job ∷ jobs) l =
    ap (λ (p : Phase). idle_size p job + left (put_at j now phase) (k + 1) jobs) (put_other j k now phase (omega (arith, l)))
    ∙ ap (λ n. idle_size (phase k) job + n) (left_same phase j now (k + 1) jobs (omega (arith, l)))

not_idle_size : (now : Phase) (job : Job) → now ≢ Idle → idle_size now job ≡ 0
unfolding idle_size
not_idle_size Idle job ne = absurd (ne refl)
not_idle_size Background job ne = refl
not_idle_size Done job ne = refl

idle_is : (p : Phase) (job : Job) → p ≡ Idle → idle_size p job ≡ length job.stages
unfolding idle_size
idle_is p job e = ap (λ (q : Phase). idle_size q job) e

taken : (phase : ℕ → Phase) (now : Phase) (k i : ℕ) (jobs : List Job) → now ≢ Idle → i < length jobs → phase (k + i) ≡ Idle
    → left phase k jobs ≡ length (stages_in (slice_get jobs i)) + left (put_at (k + i) now phase) k jobs
unfolding left
taken phase now k i [] ne l idle = let no : ⊥ = omega (arith, l) in absurd no
taken phase now k zero (job ∷ jobs) ne l idle =
    let place : k + 0 ≡ k = omega arith in
    let here = idle_is (phase k) job (sym (ap phase place) ∙ idle) in
    let gone = ap (λ (p : Phase). idle_size p job) (ap (put_at (k + 0) now phase) (sym place) ∙ put_same (k + 0) now phase) ∙ not_idle_size now job ne in
    let rest = left_same phase (k + 0) now (k + 1) jobs (omega arith) in
    omega (arith, here, gone, rest)
taken phase now k (suc i) (job ∷ jobs) ne l idle =
    let place : k + suc i ≡ k + 1 + i = omega arith in
    let more = taken phase now (k + 1) i jobs ne (omega (arith, l)) (sym (ap phase place) ∙ idle) in
    let same = ap (λ (p : Phase). idle_size p job) (put_other (k + suc i) k now phase (omega arith)) in
    let moved = ap (λ x. left (put_at x now phase) (k + 1) jobs) place in
    omega (arith, more, same, moved)

taken_first : (phase : ℕ → Phase) (now : Phase) (j : ℕ) (jobs : List Job) → now ≢ Idle → j < length jobs → phase j ≡ Idle
    → left phase 0 jobs ≡ length (stages_of jobs j) + left (put_at j now phase) 0 jobs
taken_first phase now j jobs ne l idle =
    let place : 0 + j ≡ j = omega arith in
    taken phase now 0 j jobs ne l (ap phase place ∙ idle) ∙ ap (λ x. length (stages_of jobs j) + left (put_at x now phase) 0 jobs) place

background_kept : (phase : ℕ → Phase) (now : Phase) (j k : ℕ) (jobs : List Job) → now ≢ Idle → phase j ≢ Idle → left (put_at j now phase) k jobs ≡ left phase k jobs
unfolding left
background_kept phase now j k [] ne was = refl
background_kept phase now j k (job ∷ jobs) ne was = go (cases_same k j) (background_kept phase now j (k + 1) jobs ne was)
  where
    none : (p : Phase) → p ≢ Idle → idle_size p job ≡ 0
    none p ne = not_idle_size p job ne

    go : (k ≡ j) ⊎ (k ≢ j) → left (put_at j now phase) (k + 1) jobs ≡ left phase (k + 1) jobs
        → idle_size (put_at j now phase k) job + left (put_at j now phase) (k + 1) jobs ≡ idle_size (phase k) job + left phase (k + 1) jobs
    go (inl e) rest =
        let new = ap (λ (p : Phase). idle_size p job) (ap (put_at j now phase) e ∙ put_same j now phase) ∙ none now ne in
        let old = ap (λ (p : Phase). idle_size p job) (ap phase e) ∙ none (phase j) was in
        omega (arith, new, old, rest)
    go (inr other) rest =
        ap (λ (p : Phase). idle_size p job + left (put_at j now phase) (k + 1) jobs) (put_other j k now phase other) ∙ ap (λ n. idle_size (phase k) job + n) rest

started_within : (jobs : List Job) (lines : List JobLine) (phase : ℕ → Phase) → AreLines (length jobs) phase lines → length (all_stages jobs lines) ≤ left phase 0 jobs
started_within jobs [] phase are = omega arith
started_within jobs (Run j ∷ lines) phase are =
    let more = started_within jobs lines (put_at j Done phase) are.2 in
    let size = length-append (stages_of jobs j) (all_stages jobs lines) in
    let out = taken_first phase Done j jobs (λ e. cc) are.0 are.1 in
    omega (arith, more, size, out)
started_within jobs (Start j ∷ lines) phase are =
    let more = started_within jobs lines (put_at j Background phase) are.2 in
    let size = length-append (stages_of jobs j) (all_stages jobs lines) in
    let out = taken_first phase Background j jobs (λ e. cc) are.0 are.1 in
    omega (arith, more, size, out)
started_within jobs (Stop j ∷ lines) phase are = started_within jobs lines phase are.2
started_within jobs (End j ∷ lines) phase are = started_within jobs lines phase are.2
started_within jobs (Bring j ∷ lines) phase are =
    let more = started_within jobs lines (put_at j Done phase) are.2 in
    let same = background_kept phase Done j 0 jobs (λ e. cc) (λ e. let no : Background ≡ Idle = sym are.1 ∙ e in cc) in
    omega (arith, more, same)

pub few_started : (jobs : List Job) (lines : List JobLine) → AreLines (length jobs) all_idle lines → length (all_stages jobs lines) ≤ total jobs
few_started jobs lines are = omega (arith, started_within jobs lines all_idle are, left_all 0 jobs)
