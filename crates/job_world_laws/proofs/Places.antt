-- The stages are forked at nodes of the cluster, by scripts that there are; and what statuses those have.
use Rattle.std.proofs.Common.{◌≡◌, ◌<◌, ◌≤◌, ◌+◌, ℕ, suc, List, [], ◌∷◌, ◌++◌, length, length-append, refl, ap, arith, Option, None, Some, slice_get, All, fold, ◌==◌}
use Rattle.std.specs.List.{flat_map, list_any}
use Rattle.std.proofs.lemmas.Bool.{cond_both}
use Rattle.std.proofs.lemmas.Option.{slice_get_within}
use Rattle.std.proofs.lemmas.List.Elements.{All-nil, All-cons, All-head, All-tail, All-append, All-push}
use Rattle.unix_names.specs.declared.NodeId.{NodeId}
use Rattle.unix_names.specs.declared.Signal.TheVariants as signal
use Rattle.proc_image.proofs.Fits.{All-slice_get}
use Rattle.job_plans.specs.declared.Stage.{Stage}
use Rattle.job_plans.specs.declared.Job.{Job}
use Rattle.job_plans.specs.declared.JobLine.{JobLine}
use Rattle.job_plans.specs.declared.JobLine.TheVariants.{Run, Start, Stop, End, Bring}
use Rattle.job_plans.specs.Acts.{Act, Begin, Await, Join, Send, Reap}
use Rattle.job_plans.specs.Files.{stages_in, stages_of, IsStage, IsJob}
use Rattle.job_plans.specs.Plans.{begun, joined, reaped, started, place_of, line_acts, with_status, statuses_of}

-- ---- nodes
abbrev pub IsPlaced : ℕ → Act → Type 0
IsPlaced nodes (Begin v script node) = node.0 < nodes
IsPlaced nodes _ = Unit {0}

module _ (nodes : ℕ) where
  begun_placed : (statuses : List ℕ) (v : ℕ) (stages : List Stage) → All (IsStage nodes) stages → All (IsPlaced nodes) (begun statuses v stages)
  begun_placed statuses v [] all = All-nil (IsPlaced nodes)
  begun_placed statuses v (s ∷ stages) all =
      let later : List Act = begun statuses (v + 1) stages in
      All-cons (IsPlaced nodes) (Begin v (place_of s.status statuses) s.node) (Await v ∷ later) (All-head (IsStage nodes) s stages all).1
      (All-cons (IsPlaced nodes) (Await v) later tt (begun_placed statuses (v + 1) stages (All-tail (IsStage nodes) s stages all)))

  joined_placed : (f v : ℕ) (stages : List Stage) → All (IsPlaced nodes) (joined f v stages)
  joined_placed f v [] = All-nil (IsPlaced nodes)
  joined_placed f v (s ∷ stages) = All-cons (IsPlaced nodes) (Join v f) (joined f (v + 1) stages) tt (joined_placed f (v + 1) stages)

  reaped_placed : (v : ℕ) (stages : List Stage) → All (IsPlaced nodes) (reaped v stages)
  reaped_placed v [] = All-nil (IsPlaced nodes)
  reaped_placed v (s ∷ stages) = All-cons (IsPlaced nodes) (Reap v) (reaped (v + 1) stages) tt (reaped_placed (v + 1) stages)

  started_placed : (statuses : List ℕ) (v : ℕ) (stages : List Stage) → All (IsStage nodes) stages → All (IsPlaced nodes) (started statuses v stages)
  started_placed statuses v stages all =
      All-append (IsPlaced nodes) (begun statuses v stages) (joined v v stages ++ Send v signal.Cont ∷ []) (begun_placed statuses v stages all)
      (All-append (IsPlaced nodes) (joined v v stages) (Send v signal.Cont ∷ []) (joined_placed v v stages) (All-cons (IsPlaced nodes) (Send v signal.Cont) [] tt (All-nil (IsPlaced nodes))))

  job_stages : (jobs : List Job) (j : ℕ) → All (IsJob nodes) jobs → All (IsStage nodes) (stages_of jobs j)
  job_stages jobs j all = go (slice_get jobs j) refl
    where
      go : (o : Option Job) → slice_get jobs j ≡ o → All (IsStage nodes) (stages_in o)
      go None e = All-nil (IsStage nodes)
      go (Some job) e = (All-slice_get (IsJob nodes) jobs j job all e).stages

  module _ (jobs : List Job) (statuses : List ℕ) (first : ℕ → ℕ) (all : All (IsJob nodes) jobs) where
    line_placed : (line : JobLine) → All (IsPlaced nodes) (line_acts jobs statuses first line)
    line_placed (Run j) =
        All-append (IsPlaced nodes) (started statuses (first j) (stages_of jobs j)) (reaped (first j) (stages_of jobs j))
        (started_placed statuses (first j) (stages_of jobs j) (job_stages jobs j all)) (reaped_placed (first j) (stages_of jobs j))
    line_placed (Start j) = started_placed statuses (first j) (stages_of jobs j) (job_stages jobs j all)
    line_placed (Stop j) = All-cons (IsPlaced nodes) (Send (first j) signal.Stop) [] tt (All-nil (IsPlaced nodes))
    line_placed (End j) = All-cons (IsPlaced nodes) (Send (first j) signal.Term) (Send (first j) signal.Cont ∷ []) tt (All-cons (IsPlaced nodes) (Send (first j) signal.Cont) [] tt (All-nil (IsPlaced nodes)))
    line_placed (Bring j) = All-cons (IsPlaced nodes) (Send (first j) signal.Cont) (reaped (first j) (stages_of jobs j)) tt (reaped_placed (first j) (stages_of jobs j))

    -- each fork is at a node of the cluster
    pub lines_placed : (lines : List JobLine) → All (IsPlaced nodes) (flat_map (line_acts jobs statuses first) lines)
    lines_placed [] = All-nil (IsPlaced nodes)
    lines_placed (line ∷ lines) = All-append (IsPlaced nodes) (line_acts jobs statuses first line) (flat_map (line_acts jobs statuses first) lines) (line_placed line) (lines_placed lines)

-- ---- scripts
abbrev pub IsScripted : ℕ → Act → Type 0
IsScripted count (Begin v script node) = script < count
IsScripted count _ = Unit {0}

-- each fork has a script, where that has a status
pub all_scripted : (statuses : List ℕ) (status : ℕ → ℕ) (acts : List Act)
    → ((k v script : ℕ) (node : NodeId) → slice_get acts k ≡ Some (Begin v script node) → slice_get statuses script ≡ Some (status v)) → All (IsScripted (length statuses)) acts
all_scripted statuses status [] has = All-nil (IsScripted (length statuses))
all_scripted statuses status (a ∷ acts) has = All-cons (IsScripted (length statuses)) a acts (one a (λ v script node e. has 0 v script node (ap Some e))) (all_scripted statuses status acts (λ k. has (suc k)))
  where
    one : (a : Act) → ((v script : ℕ) (node : NodeId) → a ≡ Begin v script node → slice_get statuses script ≡ Some (status v)) → IsScripted (length statuses) a
    one (Begin v script node) h = slice_get_within statuses script (status v) (h v script node refl)
    one (Await v) h = tt
    one (Join v f) h = tt
    one (Send f s) h = tt
    one (Reap v) h = tt

-- ---- statuses
abbrev IsStatus : ℕ → Type 0
IsStatus e = e < 256

one_status : (stage : Stage) (xs : List ℕ) (P : List ℕ → Type 0) → P xs → P (xs ++ stage.status ∷ []) → P (with_status xs stage)
one_status stage xs P a b = cond_both (list_any (λ e. e == stage.status) xs) xs (xs ++ stage.status ∷ []) P (λ _. a) (λ _. b)

small_from : (nodes : ℕ) (stages : List Stage) (xs : List ℕ) → All (IsStage nodes) stages → All IsStatus xs → All IsStatus (fold with_status xs stages)
small_from nodes [] xs all small = small
small_from nodes (s ∷ stages) xs all small =
    small_from nodes stages (with_status xs s) (All-tail (IsStage nodes) s stages all) (one_status s xs (All IsStatus) small (All-push IsStatus xs s.status small (All-head (IsStage nodes) s stages all).0))

-- each status is below 256
pub small_statuses : (nodes : ℕ) (stages : List Stage) → All (IsStage nodes) stages → All (λ e. e < 256) (statuses_of stages)
small_statuses nodes stages all = small_from nodes stages [] all (All-nil IsStatus)

few_from : (stages : List Stage) (xs : List ℕ) → length (fold with_status xs stages) ≤ length xs + length stages
few_from [] xs = omega arith
few_from (s ∷ stages) xs =
    let rest = few_from stages (with_status xs s) in
    let here = one_status s xs (λ ys. length ys ≤ length xs + 1) (omega arith) (let l = length-append xs (s.status ∷ []) in omega (arith, l)) in
    omega (arith, rest, here)

-- there are no more of them than stages
pub few_statuses : (stages : List Stage) → length (statuses_of stages) ≤ length stages
few_statuses stages = let k = few_from stages [] in omega (arith, k)
