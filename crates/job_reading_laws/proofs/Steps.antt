-- How many statements the shell has.
use Rattle.std.proofs.Common.{◌≡◌, ◌<◌, ◌+◌, ◌*◌, ℕ, zero, suc, List, [], ◌∷◌, ◌++◌, length, length-append, refl, ap, arith, slice_get}
use Rattle.std.specs.List.{flat_map}
use Rattle.unix_names.specs.declared.Signal.TheVariants as signal
use Rattle.job_plans.specs.declared.Stage.{Stage}
use Rattle.job_plans.specs.declared.Job.{Job}
use Rattle.job_plans.specs.declared.JobLine.{JobLine}
use Rattle.job_plans.specs.declared.JobLine.TheVariants.{Run, Start, Stop, End, Bring}
use Rattle.job_plans.specs.declared.Phase.{Phase}
use Rattle.job_plans.specs.Acts.{Act, Send}
use Rattle.job_plans.specs.Files.{stages_in, stages_of, total, job_of, after_line, AreLines}
use Rattle.job_plans.specs.Plans.{begun, joined, reaped, started, line_acts}
use Rattle.job_files.specs.MethodReading.{step_count}

pub step_total : List Job → List JobLine → ℕ
step_total jobs [] = 0
step_total jobs (line ∷ lines) = step_count jobs line + step_total jobs lines

pub no_steps : (jobs : List Job) → step_total jobs [] ≡ 0
unfolding step_total
no_steps jobs = refl

pub steps_push : (jobs : List Job) (lines : List JobLine) (line : JobLine) → step_total jobs (lines ++ line ∷ []) ≡ step_total jobs lines + step_count jobs line
unfolding step_total
steps_push jobs [] line = omega arith
steps_push jobs (x ∷ lines) line = let rest = steps_push jobs lines line in omega (arith, rest)

-- ---- jobs that come later change nothing
front : {X : Type 0} (xs ys : List X) (i : ℕ) → i < length xs → slice_get (xs ++ ys) i ≡ slice_get xs i
front [] ys i l = let no : ⊥ = omega (arith, l) in absurd no
front (x ∷ xs) ys zero l = refl
front (x ∷ xs) ys (suc i) l = front xs ys i (omega (arith, l))

pub one_step : (jobs more : List Job) (line : JobLine) → job_of line < length jobs → step_count (jobs ++ more) line ≡ step_count jobs line
one_step jobs more (Run j) l = ap (λ o. 4 * length (stages_in o) + 1) (front jobs more j l)
one_step jobs more (Start j) l = ap (λ o. 3 * length (stages_in o) + 1) (front jobs more j l)
one_step jobs more (Stop j) l = refl
one_step jobs more (End j) l = refl
one_step jobs more (Bring j) l = ap (λ o. length (stages_in o) + 1) (front jobs more j l)

pub steps_wider : (jobs : List Job) (job : Job) (lines : List JobLine) (phase : ℕ → Phase) → AreLines (length jobs) phase lines → step_total (jobs ++ job ∷ []) lines ≡ step_total jobs lines
unfolding step_total
steps_wider jobs job [] phase are = refl
steps_wider jobs job (line ∷ lines) phase are =
    let here = one_step jobs (job ∷ []) line are.0 in
    let rest = steps_wider jobs job lines (after_line line phase) are.2 in
    omega (arith, here, rest)

pub steps_cons : (jobs : List Job) (line : JobLine) (lines : List JobLine) → step_total jobs (line ∷ lines) ≡ step_count jobs line + step_total jobs lines
unfolding step_total
steps_cons jobs line lines = refl

pub total_push : (jobs : List Job) (job : Job) → total (jobs ++ job ∷ []) ≡ total jobs + length job.stages
total_push [] job = omega arith
total_push (x ∷ jobs) job = let rest = total_push jobs job in omega (arith, rest)

-- ---- the steps of the shell are so many
begun_many : (statuses : List ℕ) (v : ℕ) (stages : List Stage) → length (begun statuses v stages) ≡ 2 * length stages
begun_many statuses v [] = refl
begun_many statuses v (s ∷ stages) = let rest = begun_many statuses (v + 1) stages in omega (arith, rest)

joined_many : (f v : ℕ) (stages : List Stage) → length (joined f v stages) ≡ length stages
joined_many f v [] = refl
joined_many f v (s ∷ stages) = let rest = joined_many f (v + 1) stages in omega (arith, rest)

reaped_many : (v : ℕ) (stages : List Stage) → length (reaped v stages) ≡ length stages
reaped_many v [] = refl
reaped_many v (s ∷ stages) = let rest = reaped_many (v + 1) stages in omega (arith, rest)

started_many : (statuses : List ℕ) (v : ℕ) (stages : List Stage) → length (started statuses v stages) ≡ 3 * length stages + 1
started_many statuses v stages =
    let last : List Act = Send v signal.Cont ∷ [] in
    let a = length-append (begun statuses v stages) (joined v v stages ++ last) in
    let b = length-append (joined v v stages) last in
    omega (arith, a, b, begun_many statuses v stages, joined_many v v stages)

line_many : (jobs : List Job) (statuses : List ℕ) (first : ℕ → ℕ) (line : JobLine) → length (line_acts jobs statuses first line) ≡ step_count jobs line
line_many jobs statuses first (Run j) =
    let stages = stages_of jobs j in
    let a = length-append (started statuses (first j) stages) (reaped (first j) stages) in
    omega (arith, a, started_many statuses (first j) stages, reaped_many (first j) stages)
line_many jobs statuses first (Start j) = started_many statuses (first j) (stages_of jobs j)
line_many jobs statuses first (Stop j) = refl
line_many jobs statuses first (End j) = refl
line_many jobs statuses first (Bring j) = let a = reaped_many (first j) (stages_of jobs j) in omega (arith, a)

pub acts_many : (jobs : List Job) (statuses : List ℕ) (first : ℕ → ℕ) (lines : List JobLine) → length (flat_map (line_acts jobs statuses first) lines) ≡ step_total jobs lines
unfolding step_total
acts_many jobs statuses first [] = refl
acts_many jobs statuses first (line ∷ lines) =
    let here = line_many jobs statuses first line in
    let rest = acts_many jobs statuses first lines in
    let both = length-append (line_acts jobs statuses first line) (flat_map (line_acts jobs statuses first) lines) in
    omega (arith, here, rest, both)
