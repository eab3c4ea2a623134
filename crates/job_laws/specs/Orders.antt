-- Which plans keep the order of a shell: each step only where the stages are so far.
use Rattle.std.specs.Prelude.{ℕ, Bool, true, false, ◌==◌, ◌≡◌, ◌≢◌, ◌⊎◌, ◌<◌, ◌≤◌, List, [], ◌∷◌, if◌then◌else◌}
use Rattle.unix_names.specs.declared.Signal.{Signal}
use Rattle.unix_names.specs.declared.Signal.TheVariants.{Stop, Cont, Term}
use Rattle.job_plans.specs.Acts.{Act, Begin, Await, Join, Send, Reap}
use Rattle.job_plans.specs.Files.{put_at}
use Rattle.job_plans.specs.Plans.{Plan}
use Rattle.job_plans.specs.declared.limits.TheConstants.{MOST_STAGES_IN_ALL}

-- ---- how far the shell is with a stage
pub data Mark : Type 0 where
  -- not forked
  Absent : Mark
  -- forked
  Born : Mark
  -- seen stopped
  Seen : Mark
  -- in its job's group
  Member : Mark
  -- let go; an end was asked for, or not
  Going : Bool → Mark
  -- waited for
  Reaped : Mark

abbrev pub Marks : Type 0
Marks = ℕ → Mark

abbrev pub none_yet : Marks
none_yet v = Absent

-- what a signal of the shell makes of a stage
abbrev pub sent_mark : Signal → Mark → Mark
sent_mark Cont Member = Going false
sent_mark Term (Going b) = Going true
sent_mark s m = m

abbrev pub after_act : (ℕ → ℕ) → Act → Marks → Marks
after_act first (Begin v script node) marks = put_at v Born marks
after_act first (Await v) marks = put_at v Seen marks
after_act first (Join v f) marks = put_at v Member marks
after_act first (Send f s) marks = λ u. if first u == f then sent_mark s (marks u) else marks u
after_act first (Reap v) marks = put_at v Reaped marks

-- forked, and not waited for
abbrev pub is_held : Mark → Bool
is_held Absent = false
is_held Reaped = false
is_held _ = true

abbrev pub IsGoing : Mark → Type 0
IsGoing m = (b : Bool) × (m ≡ Going b)

-- a signal that the shell may send to a job: the continue that lets its stages go, or one of three to stages that go
abbrev pub IsSendable : Plan → Marks → ℕ → Signal → Type 0
IsSendable plan marks f s =
    ((s ≡ Cont) × ((u : ℕ) → u < plan.count → plan.first u ≡ f → marks u ≡ Member))
    ⊎ (((s ≡ Stop) ⊎ ((s ≡ Cont) ⊎ (s ≡ Term))) × ((u : ℕ) → u < plan.count → plan.first u ≡ f → IsGoing (marks u)))

-- no first stage of a stage that is still held is waited for
abbrev pub IsWhole : Plan → Marks → Type 0
IsWhole plan marks = (u : ℕ) → is_held (marks u) ≡ true → is_held (marks (plan.first u)) ≡ true

-- the stages are forked in order of their numbers, and when one is forked, no first stage of a stage that is still held is waited for
pub record MayBegin (plan : Plan) (marks : Marks) (v : ℕ) : Type 0 where
  pub below : v < plan.count
  pub earlier : (u : ℕ) → u < v → marks u ≢ Absent
  pub later : (u : ℕ) → v ≤ u → marks u ≡ Absent
  pub whole : IsWhole plan marks
  pub own_first : (plan.first v ≡ v) ⊎ (is_held (marks (plan.first v)) ≡ true)

abbrev pub MayAct : Plan → Marks → Act → Type 0
MayAct plan marks (Begin v script node) = MayBegin plan marks v
MayAct plan marks (Await v) = marks v ≡ Born
MayAct plan marks (Join v f) = (marks v ≡ Seen) × (f ≡ plan.first v) × ((v ≡ f) ⊎ ((marks f ≡ Member) × (plan.first f ≡ f)))
MayAct plan marks (Send f s) = (f < plan.count) × (plan.first f ≡ f) × IsWhole plan marks × IsSendable plan marks f s
MayAct plan marks (Reap v) = IsGoing (marks v)

abbrev pub marks_after : Plan → List Act → Marks → Marks
marks_after plan [] marks = marks
marks_after plan (a ∷ acts) marks = marks_after plan acts (after_act plan.first a marks)

-- let go, or waited for
abbrev pub IsLoosed : Mark → Type 0
IsLoosed m = IsGoing m ⊎ (m ≡ Reaped)

-- each step may be done where it stands, and at the end every stage was let go
abbrev pub IsOrderly : Plan → List Act → Marks → Type 0
IsOrderly plan [] marks = (u : ℕ) → u < plan.count → IsLoosed (marks u)
IsOrderly plan (a ∷ acts) marks = MayAct plan marks a × IsOrderly plan acts (after_act plan.first a marks)

-- a plan that keeps the order of a shell, for at most 63 stages with statuses below 256
pub record IsPlan (plan : Plan) : Type 0 where
  pub few : plan.count ≤ MOST_STAGES_IN_ALL
  pub statuses : (v : ℕ) → v < plan.count → plan.status v < 256
  pub orderly : IsOrderly plan plan.acts none_yet
