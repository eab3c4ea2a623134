-- the clauses on kills and signals, and the theorem for a plan
use Rattle.std.proofs.Common.{◌≡◌, ◌≢◌, ◌==◌, ◌⊎◌, inl, inr, ◌<◌, ◌↔◌, ℕ, zero, suc, ℤ, pos, neg_ℤ, Bool, true, false, cond, List, [], ◌∷◌, ◌++◌, refl, sym, ap, ◌∙◌, subst, arith, None, Some}
use Rattle.unix_names.specs.declared.Pid.{Pid}
use Rattle.unix_names.specs.declared.Signal.{Signal}
use Rattle.unix_names.specs.declared.Signal.TheVariants.{Stop, Term}
use Rattle.unix_names.specs.Signals.{number_of}
use Rattle.unix_names.proofs.SignalLaws.{signal_of-number_of}
use Rattle.unix_calls.specs.declared.Call.{Call}
use Rattle.unix_calls.specs.declared.Call.TheVariants as calls
use Rattle.unix_calls.specs.declared.Reply.{Reply}
use Rattle.unix_calls.specs.declared.Reply.TheVariants.{Fine}
use Rattle.unix_calls.specs.declared.Event.{Event}
use Rattle.unix_calls.specs.declared.Event.TheVariants.{Caught, Discarded, StoppedBy, EndedBy, Continued, Moved as MovedEvent}
use Rattle.unix_calls.specs.declared.Entry.{Entry}
use Rattle.unix_calls.specs.declared.Entry.TheVariants.{Called, Happened}
use Rattle.unix_calls.specs.declared.World.{World}
use Rattle.unix_calls.specs.Calls.{target_of}
use Rattle.process_table.specs.declared.Row.{Row}
use Rattle.process_table.specs.Rows.{row_of, in_group, is_pid}
use Rattle.kernel_rules.specs.Kill.{is_permitted, sent_by_kill, sent_by_kill_call}
use Rattle.kernel_rules.specs.Events.{may_happen, sent_by_event}
use Rattle.kernel_model.specs.declared.verdict.Verdict.TheVariants.{Legal}
use Rattle.kernel_model.specs.Sound.{IsSound}
use Rattle.kernel_model.specs.Step.{process_of, verdict, after, row_verdict, sent, sent_at}
use Rattle.kernel_rules.specs.Calls.{sent_by_call}
use Rattle.kernel_model.specs.Legal.{boot, after_all}
use Rattle.proc_image.specs.Follows.{Running, IsInOrder, AsksNext}
use Rattle.list_laws.proofs.Filters.{some_same}
use Rattle.list_laws.proofs.Finding.{same_number}
use Rattle.kernel_laws.proofs.Rows.{row_pid}
use Rattle.kernel_laws.proofs.Legal.{actor, event_allowed}
use Rattle.job_plans.specs.Acts.{Send}
use Rattle.job_laws.specs.Orders.{is_held, IsPlan, MayAct}
use Rattle.job_plans.specs.Plans.{Plan}
use Rattle.job_laws.specs.Forks.{shell, pid, IsStage}
use Rattle.job_laws.specs.Means.{KillsReachTheJob, OnlyShellSignals, IsShellSignal, AllAre, Means}
use Rattle.job_laws.proofs.Family.{shell_row, not_same}
use Rattle.job_laws.proofs.Core.{group_at}
use Rattle.job_laws.proofs.Signals.{stop_is, end_is, empty_two}
use Rattle.job_laws.proofs.Stages.{stage_call, stage_sends, none_pends}
use Rattle.job_laws.proofs.Kept.{family, held_below}
use Rattle.job_laws.proofs.Shell.{IsWorldOf, cases_same}
use Rattle.job_laws.proofs.ShellSteps.{shell_call, IsShellCall}
use Rattle.job_laws.proofs.Sends.{member_of, stranger_of, told_as, told_held}
use Rattle.job_laws.proofs.Living.{Living, stage_is, stage_of, Who, by_shell, by_stage, who}
use Rattle.job_laws.proofs.Gone.{IsLast, late_call, shell_gone}
use Rattle.job_laws.proofs.Run.{table_push, T, R, State, Holds, here, getpids, ends}

neg_same : (a b : ℕ) → neg_ℤ (pos a) ≡ neg_ℤ (pos b) → a ≡ b
neg_same zero zero e = refl
neg_same zero (suc b) e = cc
neg_same (suc a) zero e = cc
neg_same (suc a) (suc b) e = let same : a ≡ b = cc in ap suc same

neg_not : (a b : ℕ) → 0 < b → neg_ℤ (pos a) ≡ pos b → ⊥
neg_not zero b h e = let same : 0 ≡ b = cc in omega (arith, h, same)
neg_not (suc a) b h e = cc

module _ (world : World) (plan : Plan) (fits : IsWorldOf world plan) (good : IsPlan plan) (before : List Entry) (l : Living world plan before (T world plan fits good before) (R world plan fits good before)) (sound : IsSound (T world plan fits good before)) where
  abbrev rows : List Row
  rows = T world plan fits good before

  abbrev running : Running
  running = R world plan fits good before

  below : (u : ℕ) → is_held (l.marks u) ≡ true → u < l.n
  below u held = held_below world plan l.marks l.p l.n rows running sound l.core u held

  -- a kill of a group is a signal of the shell to a job
  group_kill : (p : Pid) (g s : ℕ) (reply : Reply) (f : ℕ) → verdict rows (Called p (calls.Kill (neg_ℤ (pos g)) s) reply) ≡ Legal → IsInOrder world running (Called p (calls.Kill (neg_ℤ (pos g)) s) reply) → IsStage before f (pid g) → (t : Signal) × MayAct plan l.marks (Send f t)
  group_kill p g s reply f legal order stage = by (who world plan fits good before rows running sound refl l (Called p (calls.Kill (neg_ℤ (pos g)) s) reply) legal)
    where
      known : (f < l.n) × (l.p f ≡ g)
      known = stage_of world plan before rows running l f g stage

      shell_may : (call : Call) → call ≡ calls.Kill (neg_ℤ (pos g)) s → IsShellCall world plan fits good.few l.marks l.p l.n l.done l.left rows running sound l.core l.at l.few call → (t : Signal) × MayAct plan l.marks (Send f t)
      shell_may call is (inl k) = let no : calls.Exit 0 ≡ calls.Kill (neg_ℤ (pos g)) s = sym k.1 ∙ is in cc
      shell_may call is (inr (inr (inl k))) = let no : calls.Fork ≡ calls.Kill (neg_ℤ (pos g)) s = sym k ∙ is in cc
      shell_may call is (inr (inr (inr (inl (z, b, c, k))))) = let no : calls.Waitpid z b c ≡ calls.Kill (neg_ℤ (pos g)) s = sym k ∙ is in cc
      shell_may call is (inr (inr (inr (inr (t, z, k))))) = let no : calls.Setpgid t z ≡ calls.Kill (neg_ℤ (pos g)) s = sym k ∙ is in cc
      shell_may call is (inr (inl (h, t, k))) =
          let same : calls.Kill (neg_ℤ (pos (l.p h))) (number_of t) ≡ calls.Kill (neg_ℤ (pos g)) s = sym k.call_is ∙ is in
          let target : neg_ℤ (pos (l.p h)) ≡ neg_ℤ (pos g) = cc in
          let group : l.p h ≡ g = neg_same (l.p h) g target in
          let held = told_held t (l.marks h) (told_as plan l.marks h t k.may.3 h k.may.0 k.may.1) in
          let told : IsStage before h (pid g) = subst (λ x. IsStage before h (pid x)) group (stage_is world plan before rows running l h sound held) in
          let one : h ≡ f = some_same h f (sym told ∙ stage) in
          (t, subst (λ x. MayAct plan l.marks (Send x t)) one k.may)

      not_stage : (u : ℕ) → 2 < l.p u → (calls.Kill (neg_ℤ (pos g)) s ≡ calls.Kill (pos (l.p u)) 19) ⊎ ((calls.Kill (neg_ℤ (pos g)) s ≡ calls.Getpid) ⊎ (calls.Kill (neg_ℤ (pos g)) s ≡ calls.Exit (plan.status u))) → ⊥
      not_stage u low (inl k) = let target : neg_ℤ (pos g) ≡ pos (l.p u) = cc in neg_not g (l.p u) (omega (arith, low)) target
      not_stage u low (inr (inl k)) = cc
      not_stage u low (inr (inr k)) = cc

      by : Who world plan fits good before rows running sound refl l (Called p (calls.Kill (neg_ℤ (pos g)) s) reply) → (t : Signal) × MayAct plan l.marks (Send f t)
      by (by_shell e) = shell_may (calls.Kill (neg_ℤ (pos g)) s) refl
          (shell_call world plan fits good.few l.marks l.p l.n l.done l.left rows running sound l.core l.at l.few (calls.Kill (neg_ℤ (pos g)) s) l.orderly (subst (λ (x : Pid). AsksNext world x (calls.Kill (neg_ℤ (pos g)) s) (running x.0)) e order))
      by (by_stage u held e) =
          let few = l.few in
          let low = l.core.numbers u (below u held) in
          let b = below u held in
          let c = stage_call world rows sound (family world plan l.marks l.p l.n rows running sound l.core) running (l.p u) (l.marks u) (plan.status u) (group_at (l.marks u) (l.p (plan.first u))) (l.core.held u held) low (good.statuses u (omega (arith, b, few)))
          (calls.Kill (neg_ℤ (pos g)) s) reply (subst (λ x. verdict rows (Called x (calls.Kill (neg_ℤ (pos g)) s) reply) ≡ Legal) e legal) (subst (λ x. IsInOrder world running (Called x (calls.Kill (neg_ℤ (pos g)) s) reply)) e order) in
          absurd (not_stage u low c)

  -- the living members of a job's group, where it may be signalled
  pub members_are : (f g : ℕ) (t : Signal) → MayAct plan l.marks (Send f t) → IsStage before f (pid g) → (q : ℕ) (r : Row) → row_of rows (pid q) ≡ Some r → (r.group ≡ pid g) ↔ ((u : ℕ) × IsStage before u (pid q) × (plan.first u ≡ f))
  members_are f g t may stage q r there = by (l.core.nobody (pid q) r there)
    where
      known : (f < l.n) × (l.p f ≡ g)
      known = stage_of world plan before rows running l f g stage

      low : 2 < g
      low = subst (λ x. 2 < x) known.1 (l.core.numbers f known.0)

      whose : (v : ℕ) (held : is_held (l.marks v) ≡ true) → (l.core.held v held).row.group ≡ pid (l.p f) → (plan.first v ≡ f) ⊎ (plan.first v ≢ f) → plan.first v ≡ f
      whose v held e (inl i) = i
      whose v held e (inr ne) =
          let out = stranger_of world plan l.marks l.p l.n rows running sound l.core f t may.0 may.1 may.2 may.3 l.few v held ne in
          let inside : in_group (pid (l.p f)) (l.core.held v held).row ≡ true = ap (λ (x : Pid). x.0 == l.p f) e ∙ same_number (l.p f) in
          cc

      by : (q ≡ 2) ⊎ ((v : ℕ) × (is_held (l.marks v) ≡ true) × (l.p v ≡ q)) → (r.group ≡ pid g) ↔ ((u : ℕ) × IsStage before u (pid q) × (plan.first u ≡ f))
      by (inl two) =
          let is : r ≡ shell_row = some_same r shell_row (sym there ∙ ap (λ x. row_of rows (pid x)) two ∙ l.core.shell_there) in (
            λ e. (let no : 2 ≡ g = ap (λ (x : Pid). x.0) (ap (λ (x : Row). x.group) (sym is) ∙ e) in let never : ⊥ = omega (arith, no, low) in absurd never),
            λ k. (let s = stage_of world plan before rows running l k.0 q k.1 in let lower = l.core.numbers k.0 s.0 in let same = s.1 in let never : ⊥ = omega (arith, lower, same, two) in absurd never),
          )
      by (inr (v, held, is)) =
          let h = l.core.held v held in
          let row_is : h.row ≡ r = some_same h.row r (sym h.there ∙ ap (λ x. row_of rows (pid x)) is ∙ there) in
          let told : IsStage before v (pid q) = subst (λ x. IsStage before v (pid x)) is (stage_is world plan before rows running l v sound held) in (
            λ e. (v, told, whose v held (ap (λ (x : Row). x.group) row_is ∙ e ∙ ap pid (sym known.1)) (cases_same (plan.first v) f)),
            λ k. (
                let same : k.0 ≡ v = some_same k.0 v (sym k.1 ∙ told) in
                ap (λ (x : Row). x.group) (sym row_is) ∙ member_of world plan l.marks l.p l.n rows running sound l.core f t may.0 may.1 may.2 may.3 l.few v held (ap plan.first (sym same) ∙ k.2) ∙ ap pid known.1
                ),
          )

  -- ---- what an entry sends to a stage
  abbrev All : List Signal → Type 0
  All signals = AllAre world plan (IsShellSignal world plan) signals

  of_empty : (signals : List Signal) → signals ≡ [] → All signals
  of_empty signals e = subst (AllAre world plan (IsShellSignal world plan)) (sym e) tt

  of_one : (signals : List Signal) (s : Signal) → IsShellSignal world plan s → signals ≡ s ∷ [] → All signals
  of_one signals s is e = subst (AllAre world plan (IsShellSignal world plan)) (sym e) (is, tt)

  may_signal : (f : ℕ) (t : Signal) → MayAct plan l.marks (Send f t) → IsShellSignal world plan t
  may_signal f t may = elim may.3 [ inl k ↦ inr (inl k.0) | inr k ↦ k.0 ]

  chosen : (t : Signal) → IsShellSignal world plan t → (b : Bool) → All (cond b (t ∷ []) [])
  chosen t is true = (is, tt)
  chosen t is false = tt

  pub sends_only : (entry : Entry) (q : ℕ) (r : Row) → verdict rows entry ≡ Legal → IsInOrder world running entry → ((row_of (after rows entry) shell ≡ None) → ⊥) → row_of rows (pid q) ≡ Some r → q ≢ 2 → All (sent rows entry r)
  sends_only entry q r legal order stays there ne = by (who world plan fits good before rows running sound refl l entry legal)
    where
      other : is_pid shell r ≡ false
      other = not_same r.pid.0 2 (λ e. ne (sym (ap (λ (x : Pid). x.0) (row_pid rows (pid q) r there)) ∙ e))

      by_kill : (z : ℤ) (t : Signal) → IsShellSignal world plan t → (reply : Reply) → All (sent_by_kill_call shell_row (target_of z) (number_of t) reply r)
      by_kill z t is Fine = subst (λ o. All (sent_by_kill shell_row (target_of z) (number_of t) o r)) (sym (signal_of-number_of t)) (chosen t is (is_permitted shell_row (target_of z) (number_of t) r))
      by_kill z t is _ = tt

      by_shell_call : (call : Call) (reply : Reply) → ((row_of (after rows (Called shell call reply)) shell ≡ None) → ⊥) →
          IsShellCall world plan fits good.few l.marks l.p l.n l.done l.left rows running sound l.core l.at l.few call → All (sent_by_call rows shell_row call reply r)
      by_shell_call call reply stays (inl k) = absurd (stays (ap (λ c. row_of (after rows (Called shell c reply)) shell) k.1 ∙ shell_gone world plan good before rows running sound l k.0 reply))
      by_shell_call call reply stays (inr (inl (f, t, k))) = subst (λ c. All (sent_by_call rows shell_row c reply r)) (sym k.call_is) (by_kill (neg_ℤ (pos (l.p f))) t (may_signal f t k.may) reply)
      by_shell_call call reply stays (inr (inr (inl k))) = of_empty (sent_by_call rows shell_row call reply r) (ap (λ c. sent_by_call rows shell_row c reply r) k)
      by_shell_call call reply stays (inr (inr (inr (inl (z, b, c, k))))) = of_empty (sent_by_call rows shell_row call reply r) (ap (λ c. sent_by_call rows shell_row c reply r) k)
      by_shell_call call reply stays (inr (inr (inr (inr (t, z, k))))) = of_empty (sent_by_call rows shell_row call reply r) (ap (λ c. sent_by_call rows shell_row c reply r) k)

      by_shell_event : (event : Event) → may_happen rows shell_row event ≡ true → All (sent_by_event rows shell_row event r)
      by_shell_event (Caught s) m = tt
      by_shell_event (Discarded s) m = tt
      by_shell_event (StoppedBy s) m = absurd (none_pends shell_row.sig Stop refl (stop_is rows shell_row refl (empty_two shell_row.sig refl) s m).1)
      by_shell_event (EndedBy s) m = absurd (none_pends shell_row.sig Term refl (end_is rows shell_row refl (empty_two shell_row.sig refl) s m).1)
      by_shell_event Continued m = cc
      by_shell_event MovedEvent m = tt

      shells : (entry : Entry) → process_of entry ≡ shell → verdict rows entry ≡ Legal → IsInOrder world running entry → ((row_of (after rows entry) shell ≡ None) → ⊥) → All (sent rows entry r)
      shells (Called p call reply) is legal order stays =
          let at : sent rows (Called p call reply) r ≡ sent_by_call rows shell_row call reply r = ap (λ x. sent_at rows (row_of rows x) (Called p call reply) r) is ∙ ap (λ o. sent_at rows o (Called p call reply) r) l.core.shell_there in
          subst (AllAre world plan (IsShellSignal world plan)) (sym at) (by_shell_call call reply (subst (λ x. (row_of (after rows (Called x call reply)) shell ≡ None) → ⊥) is stays)
          (shell_call world plan fits good.few l.marks l.p l.n l.done l.left rows running sound l.core l.at l.few call l.orderly (subst (λ (x : Pid). AsksNext world x call (running x.0)) is order)))
      shells (Happened p event) is legal order stays =
          let a = actor rows (Happened p event) legal in
          let same : a.row ≡ shell_row = some_same a.row shell_row (sym a.there ∙ ap (row_of rows) is ∙ l.core.shell_there) in
          let at : sent rows (Happened p event) r ≡ sent_by_event rows shell_row event r = ap (λ x. sent_at rows (row_of rows x) (Happened p event) r) is ∙ ap (λ o. sent_at rows o (Happened p event) r) l.core.shell_there in
          subst (AllAre world plan (IsShellSignal world plan)) (sym at) (by_shell_event event (event_allowed rows shell_row event (subst (λ x. row_verdict rows x (Happened p event) ≡ Legal) same a.legal)))

      by : Who world plan fits good before rows running sound refl l entry → All (sent rows entry r)
      by (by_shell e) = shells entry e legal order stays
      by (by_stage u held e) =
          let few = l.few in
          let b = below u held in
          let s = stage_sends world rows sound (family world plan l.marks l.p l.n rows running sound l.core) running (l.p u) (l.marks u) (plan.status u) (group_at (l.marks u) (l.p (plan.first u))) (l.core.held u held) (l.core.numbers u b) (good.statuses u (omega (arith, b, few)))
          entry e legal order r other in
          elim s [ inl i ↦ of_empty (sent rows entry r) i | inr i ↦ of_one (sent rows entry r) Stop (inl refl) i ]

module _ (world : World) (plan : Plan) (fits : IsWorldOf world plan) (good : IsPlan plan) (history : List Entry) (begin : Holds world plan fits good [] history) where
  -- ---- 2
  pub kills : KillsReachTheJob world plan history
  kills before later p f g s reply is stage own q r there alive = at h.state
    where
      h : Holds world plan fits good before (Called p (calls.Kill (neg_ℤ (pos g)) s) reply ∷ later)
      h = here world plan fits good history begin before (Called p (calls.Kill (neg_ℤ (pos g)) s) reply ∷ later) is

      last_not : IsLast world plan (calls.Kill (neg_ℤ (pos g)) s) → ⊥
      last_not (inl k) = cc
      last_not (inr k) = let no = k.1 in cc

      at : State world plan fits good before (T world plan fits good before) (R world plan fits good before) → (r.group ≡ pid g) ↔ ((u : ℕ) × IsStage before u (pid q) × (plan.first u ≡ f))
      at (inl l) = let m = group_kill world plan fits good before l h.sound p g s reply f h.legal.0 h.follows.0 stage in members_are world plan fits good before l h.sound f g m.0 m.1 stage q r there
      at (inr gone) =
          let a = actor (T world plan fits good before) (Called p (calls.Kill (neg_ℤ (pos g)) s) reply) h.legal.0 in
          absurd (last_not (late_call world plan (R world plan fits good before) p (calls.Kill (neg_ℤ (pos g)) s) reply (gone.loose p a.row a.there a.lives).1 h.follows.0).0)

  -- ---- 4
  pub signals : OnlyShellSignals world plan history
  signals before later entry v q r is lives_before lives_after stage there alive = at h.state
    where
      h : Holds world plan fits good before (entry ∷ later)
      h = here world plan fits good history begin before (entry ∷ later) is

      gone_not : row_of (after (after_all world before) entry) shell ≡ None → ⊥
      gone_not none = let no : row_of (after_all world (before ++ entry ∷ [])) shell ≡ None = ap (λ x. row_of x shell) (table_push (boot world) before entry) ∙ none in let some = lives_after.1 in cc

      at : State world plan fits good before (T world plan fits good before) (R world plan fits good before) → AllAre world plan (IsShellSignal world plan) (sent (after_all world before) entry r)
      at (inr gone) = absurd ((gone.loose shell lives_before.0 lives_before.1 lives_before.2).0 refl)
      at (inl l) =
          let s = stage_of world plan before (T world plan fits good before) (R world plan fits good before) l v q stage in
          let low = l.core.numbers v s.0 in
          let same = s.1 in
          sends_only world plan fits good before l h.sound entry q r h.legal.0 h.follows.0 gone_not there (omega (arith, low, same))

  pub means : Means world plan history
  means = record { getpids = getpids world plan fits good history begin; kills = kills; ends = ends world plan fits good history begin; signals = signals }
