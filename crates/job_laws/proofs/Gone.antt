-- the invariant after the shell's end: who is left asks for its pid, and ends
use Rattle.std.proofs.Common.{◌≡◌, ◌≢◌, ◌==◌, ◌⊎◌, inl, inr, ◌<◌, ◌≤◌, ℕ, zero, suc, true, false, List, [], ◌∷◌, ◌++◌, length, refl, sym, ap, ◌∙◌, subst, arith, Option, None, Some, slice_get, append-nil}
use Rattle.std.specs.Prelude.{map, option_and_then}
use Rattle.std.specs.Option.{option_map}
use Rattle.std.proofs.lemmas.Option.{slice_get_within}
use Rattle.unix_names.specs.declared.Pid.{Pid}
use Rattle.unix_names.specs.declared.WaitStatus.TheVariants as status
use Rattle.unix_names.specs.States.{is_living}
use Rattle.unix_calls.specs.declared.Call.{Call}
use Rattle.unix_calls.specs.declared.Call.TheVariants as calls
use Rattle.unix_calls.specs.declared.Reply.{Reply}
use Rattle.unix_calls.specs.declared.Statement.{Statement}
use Rattle.unix_calls.specs.declared.Statement.TheVariants as statement
use Rattle.unix_calls.specs.declared.Entry.{Entry}
use Rattle.unix_calls.specs.declared.Entry.TheVariants.{Called, Happened}
use Rattle.unix_calls.specs.declared.World.{World}
use Rattle.process_table.specs.declared.Row.{Row}
use Rattle.process_table.specs.Rows.{row_of}
use Rattle.kernel_model.specs.declared.verdict.Verdict.TheVariants.{Legal}
use Rattle.kernel_model.specs.Sound.{IsSound}
use Rattle.kernel_model.specs.Step.{process_of, verdict, after}
use Rattle.process_table.specs.Changes.{regrouped_at, leading_at}
use Rattle.proc_image.specs.Scripts.{Progress, next_statement, call_or_exit, moved_on, after_reply_or_exit}
use Rattle.proc_image.specs.Follows.{Running, after_entry, after_call, put, IsInOrder, AsksNext}
use Rattle.list_laws.specs.Keyed.{option_filter}
use Rattle.list_laws.proofs.Filters.{some_same, mapped_some}
use Rattle.list_laws.proofs.Finding.{same_number}
use Rattle.kernel_laws.proofs.Rows.{row_here, comes, row_map}
use Rattle.kernel_laws.proofs.Legal.{actor, after_is}
use Rattle.kernel_laws.proofs.Ends.{is_left, after_end_of, row_after_end}
use Rattle.kernel_laws.proofs.Forms.{Form, ForksAs, quiet, forked, regrouped, leading, step_form}
use Rattle.kernel_laws.proofs.Others.{first as pick_first, second as pick_second}
use Rattle.job_plans.specs.Acts.{Reap, stage_statements}
use Rattle.job_laws.specs.Orders.{is_held, IsPlan, IsOrderly, IsLoosed}
use Rattle.job_plans.specs.Plans.{Plan}
use Rattle.job_plans.specs.Worlds.{script_with}
use Rattle.job_laws.specs.Forks.{shell, pid, forks, IsStage, stage_in}
use Rattle.job_laws.proofs.Family.{shell_row, not_same}
use Rattle.job_laws.proofs.Core.{IsLetGo, lives, over, IsStageAs}
use Rattle.job_laws.proofs.Kept.{held_below}
use Rattle.job_laws.proofs.Shell.{cases_same}
use Rattle.job_laws.proofs.ShellSteps.{IsQuietEntry}
use Rattle.job_laws.proofs.Tales.{Together, HasReport, together_more, report_quiet, forks_more}
use Rattle.job_laws.proofs.Living.{Living, stage_of, quiet_other}

-- ---- who lives after a step that forks nobody lived before it
pub came_living : (rows : List Row) (entry : Entry) (q : Pid) (now : Row) → IsSound rows → verdict rows entry ≡ Legal → ((n : ℕ) → ForksAs entry n → ⊥) → row_of (after rows entry) q ≡ Some now → is_living now.life ≡ true →
    (c : Row) × (row_of rows q ≡ Some c) × (is_living c.life ≡ true)
came_living rows entry q now sound legal none there alive =
    let a = actor rows entry legal in
    go (step_form rows a.row entry (row_here rows (process_of entry) a.row a.there) a.lives a.legal) (ap (λ t. row_of t q) (sym (after_is rows entry a.row a.there)) ∙ there)
  where
    mapped : (f : Row → Row) → ((c : Row) → (f c).pid ≡ c.pid) → ((c : Row) → (f c).life ≡ c.life) → row_of (map f rows) q ≡ Some now → (c : Row) × (row_of rows q ≡ Some c) × (is_living c.life ≡ true)
    mapped f keeps same e =
        let m = mapped_some f (row_of rows q) now (sym (row_map rows f keeps q) ∙ e) in
        (m.0, m.1, ap is_living (sym (same m.0)) ∙ ap (λ x. is_living x.life) (sym m.2) ∙ alive)

    go : {r : Row} {t : List Row} → Form rows r entry t → row_of t q ≡ Some now → (c : Row) × (row_of rows q ≡ Some c) × (is_living c.life ≡ true)
    go (quiet keep f k m e) h =
        let c = comes rows keep f k.pid sound.distinct q now (ap (λ t. row_of t q) (sym e) ∙ h) in
        (c.from, c.there, k.lived c.from (row_here rows q c.from c.there) (ap (λ x. is_living x.life) (sym c.is) ∙ alive))
    go (forked n is u e) h = absurd (none n is)
    go (regrouped p g is k e) h = mapped (regrouped_at p g) (λ c. refl) (λ c. refl) (ap (λ t. row_of t q) (sym e) ∙ h)
    go {r} (leading n e) h = mapped (leading_at r.pid) (λ c. refl) (λ c. refl) (ap (λ t. row_of t q) (sym e) ∙ h)

module _ (world : World) (plan : Plan) where
  -- past the first statement of a stage's script
  pub record IsLate (o : Option Progress) : Type 0 where
    pub at : Progress
    pub is : o ≡ Some at
    pub status : ℕ
    pub script : slice_get world.scripts at.script ≡ Some (script_with (stage_statements status))
    pub past : 1 ≤ at.position

  pub record Gone (before : List Entry) (rows : List Row) (running : Running) : Type 0 where
    pub loose : (q : Pid) (r : Row) → row_of rows q ≡ Some r → is_living r.life ≡ true → (q.0 ≢ 2) × IsLate (running q.0)
    pub together : (v q : ℕ) → IsStage before v (pid q) → Together world plan before (plan.first v)
    pub reported : (k v : ℕ) → slice_get plan.acts k ≡ Some (Reap v) → HasReport world plan before v k

  -- what such a process asks
  abbrev pub IsLast : Call → Type 0
  IsLast call = (call ≡ calls.Getpid) ⊎ ((n : ℕ) × (call ≡ calls.Exit n))

  late_statement : (e k : ℕ) → 1 ≤ k → (slice_get (stage_statements e) k ≡ Some statement.Getpid) ⊎ ((slice_get (stage_statements e) k ≡ Some (statement.Exit e)) ⊎ (slice_get (stage_statements e) k ≡ None))
  late_statement e zero h = let no : ⊥ = omega (arith, h) in absurd no
  late_statement e (suc zero) h = inl refl
  late_statement e (suc (suc zero)) h = inr (inl refl)
  late_statement e (suc (suc (suc k))) h = inr (inr refl)

  -- its next call, and how far it is then
  pub late_call : (running : Running) (q : Pid) (call : Call) (reply : Reply) → IsLate (running q.0) → AsksNext world q call (running q.0) → IsLast call × IsLate (after_entry world running (Called q call reply) q.0) × ((x : ℕ) → x ≢ q.0 → after_entry world running (Called q call reply) x ≡ running x)
  late_call running q call reply late asks = go (late_statement late.status late.at.position late.past)
    where
      next : next_statement world late.at ≡ slice_get (stage_statements late.status) late.at.position
      next = ap (option_and_then (λ script. slice_get script.statements late.at.position)) late.script

      asked : call ≡ call_or_exit q late.at (next_statement world late.at)
      asked = subst (AsksNext world q call) late.is asks

      far : (call : Call) → after_call world q call reply running (Some late.at) ≡ put q.0 (Some (moved_on world late.at reply)) running → (s : Option Statement) → next_statement world late.at ≡ s → 1 ≤ (after_reply_or_exit reply late.at s).position → (after_reply_or_exit reply late.at s).script ≡ late.at.script →
          IsLate (after_entry world running (Called q call reply) q.0) × ((x : ℕ) → x ≢ q.0 → after_entry world running (Called q call reply) x ≡ running x)
      far call plain s is past same =
          let runs : after_entry world running (Called q call reply) ≡ put q.0 (Some (after_reply_or_exit reply late.at s)) running = ap (after_call world q call reply running) late.is ∙ plain ∙ ap (λ s. put q.0 (Some (after_reply_or_exit reply late.at s)) running) is in (
            record { at = after_reply_or_exit reply late.at s; is = ap (λ f. f q.0) runs ∙ pick_first (q.0 == q.0) (Some (after_reply_or_exit reply late.at s)) (running q.0) (same_number q.0); status = late.status; script = ap (slice_get world.scripts) same ∙ late.script; past = past },
            λ x ne. ap (λ f. f x) runs ∙ pick_second (x == q.0) (Some (after_reply_or_exit reply late.at s)) (running x) (not_same x q.0 ne),
          )

      go : (slice_get (stage_statements late.status) late.at.position ≡ Some statement.Getpid) ⊎ ((slice_get (stage_statements late.status) late.at.position ≡ Some (statement.Exit late.status)) ⊎ (slice_get (stage_statements late.status) late.at.position ≡ None)) →
          IsLast call × IsLate (after_entry world running (Called q call reply) q.0) × ((x : ℕ) → x ≢ q.0 → after_entry world running (Called q call reply) x ≡ running x)
      go (inl e) =
          let is : call ≡ calls.Getpid = asked ∙ ap (call_or_exit q late.at) (next ∙ e) in
          let past = late.past in
          let f = far calls.Getpid refl (Some statement.Getpid) (next ∙ e) (omega (arith, past)) refl in
          (inl is, subst (λ c. IsLate (after_entry world running (Called q c reply) q.0)) (sym is) f.0, subst (λ c. (x : ℕ) → x ≢ q.0 → after_entry world running (Called q c reply) x ≡ running x) (sym is) f.1)
      go (inr (inl e)) =
          let is : call ≡ calls.Exit late.status = asked ∙ ap (call_or_exit q late.at) (next ∙ e) in
          let past = late.past in
          let f = far (calls.Exit late.status) refl (Some (statement.Exit late.status)) (next ∙ e) (omega (arith, past)) refl in
          (inr (late.status, is), subst (λ c. IsLate (after_entry world running (Called q c reply) q.0)) (sym is) f.0, subst (λ c. (x : ℕ) → x ≢ q.0 → after_entry world running (Called q c reply) x ≡ running x) (sym is) f.1)
      go (inr (inr e)) =
          let is : call ≡ calls.Exit 0 = asked ∙ ap (call_or_exit q late.at) (next ∙ e) in
          let f = far (calls.Exit 0) refl None (next ∙ e) late.past refl in
          (inr (0, is), subst (λ c. IsLate (after_entry world running (Called q c reply) q.0)) (sym is) f.0, subst (λ c. (x : ℕ) → x ≢ q.0 → after_entry world running (Called q c reply) x ≡ running x) (sym is) f.1)

  -- ---- a step after the shell's end
  module _ (before : List Entry) (rows : List Row) (running : Running) (sound : IsSound rows) (gone : Gone before rows running) where
    told_on : (entry : Entry) → IsQuietEntry entry → (v q : ℕ) → IsStage (before ++ entry ∷ []) v (pid q) → IsStage before v (pid q)
    told_on entry hush v q is = ap (λ f. stage_in f q) (sym (forks_more before entry ∙ hush.0 (forks before))) ∙ is

    after_it : (entry : Entry) → verdict rows entry ≡ Legal → ((n : ℕ) → ForksAs entry n → ⊥) → IsQuietEntry entry → ((q : Pid) → q.0 ≢ 2 → IsLate (running q.0) → IsLate (after_entry world running entry q.0)) → Gone (before ++ entry ∷ []) (after rows entry) (after_entry world running entry)
    after_it entry legal none hush on = record {
      loose = λ q r e alive. (let c = came_living rows entry q r sound legal none e alive in let l = gone.loose q c.0 c.1 c.2 in (l.0, on q l.0 l.1));
      together = λ v q is. together_more world plan before entry (plan.first v) (gone.together v q (told_on entry hush v q is));
      reported = λ k v is. report_quiet world plan before entry v k hush.1 (gone.reported k v is);
    }

    pub gone_step : (entry : Entry) → verdict rows entry ≡ Legal → IsInOrder world running entry → Gone (before ++ entry ∷ []) (after rows entry) (after_entry world running entry)
    gone_step (Called p call reply) legal order =
        let a = actor rows (Called p call reply) legal in
        let l = gone.loose p a.row a.there a.lives in
        let c = late_call running p call reply l.1 order in
        after_it (Called p call reply) legal (last_forks c.0) (quiet_other (Called p call reply) p.0 refl l.0) (λ q ne late. on q c.1 c.2 late (cases_same q.0 p.0))
      where
        on : (q : Pid) → IsLate (after_entry world running (Called p call reply) p.0) → ((x : ℕ) → x ≢ p.0 → after_entry world running (Called p call reply) x ≡ running x) → IsLate (running q.0) → (q.0 ≡ p.0) ⊎ (q.0 ≢ p.0) → IsLate (after_entry world running (Called p call reply) q.0)
        on q own others late (inl e) = subst (λ x. IsLate (after_entry world running (Called p call reply) x)) (sym e) own
        on q own others late (inr ne) = subst IsLate (sym (others q.0 ne)) late

        last_forks : IsLast call → (n : ℕ) → ForksAs (Called p call reply) n → ⊥
        last_forks (inl is) n f = subst (λ c. ForksAs (Called p c reply) n) is f
        last_forks (inr k) n f = subst (λ c. ForksAs (Called p c reply) n) k.1 f
    gone_step (Happened p event) legal order =
        let a = actor rows (Happened p event) legal in
        let l = gone.loose p a.row a.there a.lives in
        after_it (Happened p event) legal (λ n f. f) (quiet_other (Happened p event) p.0 refl l.0) (λ q ne late. late)

  -- ---- the shell's end
  module _ (good : IsPlan plan) (before : List Entry) (rows : List Row) (running : Running) (sound : IsSound rows) (l : Living world plan before rows running) (ends : l.left ≡ []) (reply : Reply) where
    abbrev leaving : Entry
    leaving = Called shell (calls.Exit 0) reply

    finished : (u : ℕ) → u < plan.count → IsLoosed (l.marks u)
    finished = subst (λ x. IsOrderly plan x l.marks) ends l.orderly

    pub shell_gone : row_of (after rows leaving) shell ≡ None
    shell_gone = ap (λ t. row_of t shell) (after_is rows leaving shell_row l.core.shell_there) ∙ row_after_end rows shell_row (status.Exited 0) sound.distinct shell
        ∙ ap (λ o. option_map (after_end_of rows shell_row (status.Exited 0)) (option_filter (is_left rows shell_row (status.Exited 0)) o)) l.core.shell_there

    stays_late : (x : ℕ) → x ≢ 2 → after_entry world running leaving x ≡ running x
    stays_late x ne = ap (λ f. f x) (ap (after_call world shell (calls.Exit 0) reply running) l.at.runs) ∙ pick_second (x == 2) (Some (moved_on world l.at.at reply)) (running x) (not_same x 2 ne)

    quiet_exit : IsQuietEntry leaving
    quiet_exit = ((λ forks. refl), (λ forks. refl))

    told_before : (v q : ℕ) → IsStage (before ++ leaving ∷ []) v (pid q) → IsStage before v (pid q)
    told_before v q is = ap (λ f. stage_in f q) (sym (forks_more before leaving ∙ quiet_exit.0 (forks before))) ∙ is

    late_stage : (u : ℕ) → is_held (l.marks u) ≡ true → (r : Row) → row_of rows (pid (l.p u)) ≡ Some r → is_living r.life ≡ true → IsLate (after_entry world running leaving (l.p u))
    late_stage u held r there alive =
        let below = held_below world plan l.marks l.p l.n rows running sound l.core u held in
        let few = l.few in
        let low = l.core.numbers u below in
        let h = l.core.held u held in
        let same : h.row ≡ r = some_same h.row r (sym h.there ∙ there) in
        record { at = h.at; is = stays_late (l.p u) (omega (arith, low)) ∙ h.runs; status = plan.status u; script = h.script; past = state (finished u (omega (arith, below, few))) h.at.position h.row (ap (λ x. is_living x.life) same ∙ alive) h.state }
      where
        state : IsLoosed (l.marks u) → (k : ℕ) (c : Row) → is_living c.life ≡ true → IsStageAs (l.marks u) (plan.status u) k c → 1 ≤ k
        state (inr e) k c a s = let no : is_held (l.marks u) ≡ false = ap is_held e in cc
        state (inl (b, e)) k c a s = go (subst (λ m. IsStageAs m (plan.status u) k c) e s)
          where
            go : IsLetGo b (plan.status u) k c → 1 ≤ k
            go (lives (inl one) x y) = omega (arith, one)
            go (lives (inr two) x y) = omega (arith, two)
            go (over w m x) = let no : is_living c.life ≡ false = ap is_living m in cc

    pub shell_ends : verdict rows leaving ≡ Legal → Gone (before ++ leaving ∷ []) (after rows leaving) (after_entry world running leaving)
    shell_ends legal = record {
      loose = λ q r e alive. (let c = came_living rows leaving q r sound legal (λ n f. f) e alive in who q r e c.0 c.1 c.2 (l.core.nobody q c.0 c.1));
      together = λ v q is. (let s = stage_of world plan before rows running l v q (told_before v q is) in let below = s.0 in let few = l.few in together_more world plan before leaving (plan.first v) (l.tale.together v s.0 (finished v (omega (arith, below, few)))));
      reported = λ k v is. report_quiet world plan before leaving v k quiet_exit.1 (l.tale.reported k v (within k v is) is);
    }
      where
        all_done : plan.acts ≡ l.done
        all_done = l.at.split ∙ ap (λ x. l.done ++ x) ends ∙ append-nil l.done

        within : (k v : ℕ) → slice_get plan.acts k ≡ Some (Reap v) → k < length l.done
        within k v is = slice_get_within l.done k (Reap v) (ap (λ acts. slice_get acts k) (sym all_done) ∙ is)

        who : (q : Pid) (r : Row) → row_of (after rows leaving) q ≡ Some r → (c : Row) → row_of rows q ≡ Some c → is_living c.life ≡ true → (q.0 ≡ 2) ⊎ ((u : ℕ) × (is_held (l.marks u) ≡ true) × (l.p u ≡ q.0)) → (q.0 ≢ 2) × IsLate (after_entry world running leaving q.0)
        who q r e c h a (inl two) = let none : row_of (after rows leaving) q ≡ None = ap (λ x. row_of (after rows leaving) (pid x)) two ∙ shell_gone in cc
        who q r e c h a (inr (u, held, is)) =
            let low = l.core.numbers u (held_below world plan l.marks l.p l.n rows running sound l.core u held) in
            (omega (arith, low, is), subst (λ x. IsLate (after_entry world running leaving x)) is (late_stage u held c (ap (λ x. row_of rows (pid x)) is ∙ h) a))
