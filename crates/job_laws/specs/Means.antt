-- What a plan means in a history, as its user sees it: the four clauses.
use Rattle.std.specs.Prelude.{ℕ, ◌≡◌, ◌<◌, ◌⊎◌, ◌↔◌, true, List, [], ◌∷◌, ◌++◌, slice_get, Option, None, Some, pos, neg_ℤ}
use Rattle.unix_names.specs.declared.Pid.{Pid}
use Rattle.unix_names.specs.declared.Signal.{Signal}
use Rattle.unix_names.specs.declared.Signal.TheVariants.{Stop, Cont, Term}
use Rattle.unix_names.specs.declared.WaitStatus.{WaitStatus}
use Rattle.unix_names.specs.declared.WaitStatus.TheVariants as status
use Rattle.unix_names.specs.States.{is_living}
use Rattle.unix_calls.specs.declared.Call.TheVariants.{Getpid, Kill}
use Rattle.unix_calls.specs.declared.Reply.{Reply}
use Rattle.unix_calls.specs.declared.Entry.{Entry}
use Rattle.unix_calls.specs.declared.Entry.TheVariants.{Called}
use Rattle.unix_calls.specs.declared.World.{World}
use Rattle.process_table.specs.declared.Row.{Row}
use Rattle.process_table.specs.Rows.{row_of}
use Rattle.kernel_model.specs.Step.{sent}
use Rattle.kernel_model.specs.Legal.{after_all}
use Rattle.proc_image.specs.Scripts.{Progress}
use Rattle.proc_image.specs.Follows.{first_running, after_entries}
use Rattle.job_plans.specs.Acts.{Send, Reap}
use Rattle.job_plans.specs.Plans.{Plan}
use Rattle.job_laws.specs.Forks.{pid, IsStage}
use Rattle.job_laws.specs.Reports.{reports_of}

-- ---- how far the shell is
abbrev pub place_in : Option Progress → ℕ
place_in None = 0
place_in (Some at) = at.position

-- the number of statements that the shell has passed
abbrev pub shell_place : World → List Entry → ℕ
shell_place world before = place_in (after_entries world (first_running world) before 2)

-- ---- the four clauses, for a plan
module _ (world : World) (plan : Plan) where
  abbrev pub row_there : List Entry → ℕ → Option Row
  row_there before p = row_of (after_all world before) (pid p)

  -- after this history every stage of the job of this first stage is in its group
  abbrev pub AreTogether : List Entry → ℕ → Type 0
  AreTogether before f = (p : ℕ) × IsStage before f (pid p) ×
      ((u : ℕ) → u < plan.count → plan.first u ≡ f → (q : ℕ) × IsStage before u (pid q) × (r : Row) × (row_there before q ≡ Some r) × (r.group ≡ pid p))

  -- 1. before each getpid of a stage there is a place where every stage of its job is in the first one's group
  abbrev pub GetpidsComeAfter : List Entry → Type 0
  GetpidsComeAfter history = (before later : List Entry) (p : Pid) (reply : Reply) (v : ℕ) → history ≡ before ++ Called p Getpid reply ∷ later → IsStage before v p →
      (early rest : List Entry) × (before ≡ early ++ rest) × AreTogether early (plan.first v)

  -- 2. where there is a kill of a job's group, its living members are exactly the living stages of the job
  abbrev pub KillsReachTheJob : List Entry → Type 0
  KillsReachTheJob history = (before later : List Entry) (p : Pid) (f g s : ℕ) (reply : Reply) → history ≡ before ++ Called p (Kill (neg_ℤ (pos g)) s) reply ∷ later → IsStage before f (pid g) → plan.first f ≡ f →
      (q : ℕ) (r : Row) → row_there before q ≡ Some r → is_living r.life ≡ true →
      (r.group ≡ pid g) ↔ ((u : ℕ) × IsStage before u (pid q) × (plan.first u ≡ f))

  -- an end of the job of this first stage is asked for within the first k steps
  abbrev pub IsEndAsked : ℕ → ℕ → Type 0
  IsEndAsked f k = (i : ℕ) × (i < k) × (slice_get plan.acts i ≡ Some (Send f Term))

  -- 3. where the shell has passed the wait for a stage, its end was reported exactly once, and with its status, or with the end that was asked for before
  abbrev pub StagesAreReported : List Entry → Type 0
  StagesAreReported history = (before later : List Entry) (v k : ℕ) → history ≡ before ++ later → slice_get plan.acts k ≡ Some (Reap v) → k < shell_place world before →
      (w : WaitStatus) × (reports_of v before ≡ record { stage = v; status = w } ∷ []) ×
      ((w ≡ status.Exited (plan.status v)) ⊎ ((w ≡ status.Killed Term) × IsEndAsked (plan.first v) k))

  -- the shell lives after this history
  abbrev pub ShellLives : List Entry → Type 0
  ShellLives before = (r : Row) × (row_there before 2 ≡ Some r) × (is_living r.life ≡ true)

  abbrev pub IsShellSignal : Signal → Type 0
  IsShellSignal s = (s ≡ Stop) ⊎ ((s ≡ Cont) ⊎ (s ≡ Term))

  abbrev pub AllAre : (Signal → Type 0) → List Signal → Type 0
  AllAre P [] = Unit {0}
  AllAre P (s ∷ signals) = P s × AllAre P signals

  -- 4. no other signal is generated for a stage while the shell lives before and after
  abbrev pub OnlyShellSignals : List Entry → Type 0
  OnlyShellSignals history = (before later : List Entry) (entry : Entry) (v q : ℕ) (r : Row) → history ≡ before ++ entry ∷ later → ShellLives before → ShellLives (before ++ entry ∷ []) →
      IsStage before v (pid q) → row_there before q ≡ Some r → is_living r.life ≡ true → AllAre IsShellSignal (sent (after_all world before) entry r)

pub record Means (world : World) (plan : Plan) (history : List Entry) : Type 0 where
  pub getpids : GetpidsComeAfter world plan history
  pub kills : KillsReachTheJob world plan history
  pub ends : StagesAreReported world plan history
  pub signals : OnlyShellSignals world plan history
