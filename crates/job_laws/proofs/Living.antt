-- the invariant while the shell lives
use Rattle.std.proofs.Common.{◌≡◌, ◌≢◌, ◌==◌, ◌⊎◌, inl, inr, ◌<◌, ◌≤◌, ℕ, suc, true, false, cond, List, [], ◌∷◌, ◌++◌, refl, sym, ap, ◌∙◌, subst, arith, Some}
use Rattle.unix_names.specs.declared.Pid.{Pid}
use Rattle.unix_names.specs.declared.Signal.{Signal}
use Rattle.unix_names.specs.declared.Signal.TheVariants.{Stop, Term}
use Rattle.unix_calls.specs.declared.Call.{Call}
use Rattle.unix_calls.specs.declared.Call.TheVariants as calls
use Rattle.unix_calls.specs.declared.Reply.{Reply}
use Rattle.unix_calls.specs.declared.Reply.TheVariants.{Child}
use Rattle.unix_calls.specs.declared.Event.{Event}
use Rattle.unix_calls.specs.declared.Event.TheVariants.{Caught, Discarded, StoppedBy, EndedBy, Continued, Moved as MovedEvent}
use Rattle.unix_calls.specs.declared.Entry.{Entry}
use Rattle.unix_calls.specs.declared.Entry.TheVariants.{Called, Happened}
use Rattle.unix_calls.specs.declared.World.{World}
use Rattle.process_table.specs.declared.Row.{Row}
use Rattle.process_table.specs.Rows.{row_of}
use Rattle.kernel_rules.specs.Events.{may_happen}
use Rattle.kernel_model.specs.declared.verdict.Verdict.TheVariants.{Legal}
use Rattle.kernel_model.specs.Sound.{IsSound}
use Rattle.kernel_model.specs.Step.{process_of, verdict, after, row_verdict}
use Rattle.kernel_model.specs.Legal.{after_all}
use Rattle.proc_image.specs.Follows.{Running, after_entry, IsInOrder, AsksNext}
use Rattle.list_laws.proofs.Filters.{some_same}
use Rattle.kernel_laws.proofs.Legal.{actor, after_is, event_allowed}
use Rattle.job_plans.specs.Acts.{Act, Begin, Await, Join, Send, Reap}
use Rattle.job_laws.specs.Orders.{Born, Seen, Member, Going, Reaped, Marks, is_held, after_act, IsPlan, IsOrderly, MayAct, IsSendable}
use Rattle.job_plans.specs.Files.{put_at}
use Rattle.job_plans.specs.Plans.{Plan}
use Rattle.job_laws.specs.Forks.{shell, pid, forked_number, forks, IsStage, stage_in}
use Rattle.job_laws.specs.Reports.{reported, report_for}
use Rattle.job_laws.specs.Means.{AreTogether}
use Rattle.job_laws.proofs.Family.{shell_row, not_same}
use Rattle.job_laws.proofs.Core.{Core, group_at}
use Rattle.job_laws.proofs.Signals.{no_catch, no_discard, stop_is, end_is, empty_two}
use Rattle.job_laws.proofs.Stages.{stage_moved, none_pends}
use Rattle.job_laws.proofs.Kept.{family, held_below, core_stage}
use Rattle.job_laws.proofs.Shell.{IsWorldOf, ShellAt}
use Rattle.job_laws.proofs.ShellSteps.{IsQuietEntry, is_plain, Step, stays, begins, acts, reaps, leaves, shell_step}
use Rattle.job_laws.proofs.Tales.{is_loosed, stage_told, stage_found, Tale, tale_quiet, tale_begins, tale_puts, tale_sends, tale_reaps}

-- the entry of another process than the shell forks nobody for it, and reports nothing to it
pub quiet_other : (entry : Entry) (q : ℕ) → process_of entry ≡ pid q → q ≢ 2 → IsQuietEntry entry
quiet_other (Called p call reply) q is ne = ((λ forks. ap (λ b. cond b (forked_number call reply forks) forks) other), (λ forks. silent forks call reply))
  where
    other : (p.0 == 2) ≡ false
    other = not_same p.0 2 (λ e. ne (sym (ap (λ x. x.0) is) ∙ e))

    silent : (forks : List ℕ) (call : Call) (reply : Reply) → reported forks (Called p call reply) ≡ []
    silent forks (calls.Waitpid sel stopped continued) (Child c w) = ap (λ b. cond b (report_for (stage_in forks c.0) w) []) other
    silent forks _ _ = refl
quiet_other (Happened p event) q is ne = ((λ forks. refl), (λ forks. refl))

module _ (world : World) (plan : Plan) where
  pub record Living (before : List Entry) (rows : List Row) (running : Running) : Type 0 where
    pub marks : Marks
    pub p : ℕ → ℕ
    pub n : ℕ
    pub done : List Act
    pub left : List Act
    pub core : Core world plan marks p n rows running
    pub at : ShellAt world plan p n done left running
    pub orderly : IsOrderly plan left marks
    pub tale : Tale world plan marks p n done before
    pub few : n ≤ plan.count

  -- a held stage is known by its fork
  pub stage_is : (before : List Entry) (rows : List Row) (running : Running) (l : Living before rows running) (v : ℕ) → IsSound rows → is_held (l.marks v) ≡ true → IsStage before v (pid (l.p v))
  stage_is before rows running l v sound held =
      ap (λ f. stage_in f (l.p v)) (l.tale.told) ∙ stage_told l.p l.n v (held_below world plan l.marks l.p l.n rows running sound l.core v held) (λ u a b. l.core.apart v u held a b)

  -- a stage known by its fork
  pub stage_of : (before : List Entry) (rows : List Row) (running : Running) (l : Living before rows running) (v q : ℕ) → IsStage before v (pid q) → (v < l.n) × (l.p v ≡ q)
  stage_of before rows running l v q is = stage_found l.p l.n q v (ap (λ f. stage_in f q) (sym (l.tale.told)) ∙ is)

  module _ (fits : IsWorldOf world plan) (good : IsPlan plan) (before : List Entry) (rows : List Row) (running : Running) (sound : IsSound rows) (table : rows ≡ after_all world before) (l : Living before rows running) where
    -- the shell's exit
    abbrev pub IsLeaving : Entry → Type 0
    IsLeaving entry = (reply : Reply) × (l.left ≡ []) × (entry ≡ Called shell (calls.Exit 0) reply)

    abbrev Next : Entry → Type 0
    Next entry = Living (before ++ entry ∷ []) (after rows entry) (after_entry world running entry) ⊎ IsLeaving entry

    split_is : (a : Act) (rest : List Act) → l.left ≡ a ∷ rest → plan.acts ≡ l.done ++ a ∷ rest
    split_is a rest e = l.at.split ∙ ap (λ x. l.done ++ x) e

    may : (a : Act) (rest : List Act) → l.left ≡ a ∷ rest → MayAct plan l.marks a × IsOrderly plan rest (after_act plan.first a l.marks)
    may a rest e = subst (λ x. IsOrderly plan x l.marks) e l.orderly

    -- where the first continue of a job comes, its stages are together
    stood : (f : ℕ) (s : Signal) → MayAct plan l.marks (Send f s) → (u : ℕ) → u < l.n → plan.first u ≡ f → l.marks u ≡ Member → AreTogether world plan before f
    stood f s m u below is member = go m.3
      where
        go : IsSendable plan l.marks f s → AreTogether world plan before f
        go (inr k) = let few = l.few in let g = k.1 u (omega (arith, below, few)) is in let no : Member ≡ Going g.0 = sym member ∙ g.1 in cc
        go (inl k) = (l.p f, stage_is before rows running l f sound (ap is_held (k.1 f m.0 m.1)), each)
          where
            each : (u : ℕ) → u < plan.count → plan.first u ≡ f → (q : ℕ) × IsStage before u (pid q) × (r : Row) × (row_of (after_all world before) (pid q) ≡ Some r) × (r.group ≡ pid (l.p f))
            each u below is =
                let member = k.1 u below is in
                let h = l.core.held u (ap is_held member) in
                (l.p u, stage_is before rows running l u sound (ap is_held member), h.row, ap (λ t. row_of t (pid (l.p u))) (sym table) ∙ h.there, h.group ∙ ap (λ m. group_at m (l.p (plan.first u))) member ∙ ap (λ v. pid (l.p v)) is)

    tale_acts : (a : Act) (rest : List Act) (entry : Entry) → l.left ≡ a ∷ rest → is_plain a ≡ true → IsQuietEntry entry → MayAct plan l.marks a → Tale world plan (after_act plan.first a l.marks) l.p l.n (l.done ++ a ∷ []) (before ++ entry ∷ [])
    tale_acts (Await v) rest entry e plain quiet m = tale_puts world plan l.marks l.p l.n l.done before l.tale v Seen (Await v) rest entry (split_is (Await v) rest e) refl quiet refl (ap is_loosed m)
    tale_acts (Join v f) rest entry e plain quiet m = tale_puts world plan l.marks l.p l.n l.done before l.tale v Member (Join v f) rest entry (split_is (Join v f) rest e) refl quiet refl (ap is_loosed m.0)
    tale_acts (Send f s) rest entry e plain quiet m = tale_sends world plan l.marks l.p l.n l.done before l.tale f s rest entry (split_is (Send f s) rest e) quiet (stood f s m)
    tale_acts (Begin v script node) rest entry e plain quiet m = cc
    tale_acts (Reap v) rest entry e plain quiet m = cc

    of_step : (entry : Entry) → Step world plan l.marks l.p l.n l.done l.left entry (after rows entry) (after_entry world running entry) → Next entry
    of_step entry (stays core at quiet) = inl (record { marks = l.marks; p = l.p; n = l.n; done = l.done; left = l.left; core = core; at = at; orderly = l.orderly; tale = tale_quiet world plan l.marks l.p l.n l.done before entry quiet l.tale; few = l.few })
    of_step entry (begins v script node rest k e n_is is core at) =
        let m = may (Begin v script node) rest e in
        inl (record {
          marks = put_at v Born l.marks;
          p = put_at v k l.p;
          n = suc l.n;
          done = l.done ++ Begin v script node ∷ [];
          left = rest;
          core = core;
          at = at;
          orderly = m.1;
          tale = subst (λ x. Tale world plan (put_at v Born l.marks) (put_at v k l.p) (suc l.n) (l.done ++ Begin v script node ∷ []) (before ++ x ∷ [])) (sym is)
              (tale_begins world plan l.marks l.p l.n l.done before l.tale v script node rest k (split_is (Begin v script node) rest e) n_is (m.0.later v (omega arith)));
          few = (let below = m.0.below in omega (arith, below, n_is));
        })
    of_step entry (acts a rest e plain core at quiet) =
        let m = may a rest e in
        inl (record { marks = after_act plan.first a l.marks; p = l.p; n = l.n; done = l.done ++ a ∷ []; left = rest; core = core; at = at; orderly = m.1; tale = tale_acts a rest entry e plain quiet m.0; few = l.few })
    of_step entry (reaps v rest w b e going end is core at) =
        let m = may (Reap v) rest e in
        let held : is_held (l.marks v) ≡ true = ap is_held going in
        inl (record {
          marks = put_at v Reaped l.marks;
          p = l.p;
          n = l.n;
          done = l.done ++ Reap v ∷ [];
          left = rest;
          core = core;
          at = at;
          orderly = m.1;
          tale = subst (λ x. Tale world plan (put_at v Reaped l.marks) l.p l.n (l.done ++ Reap v ∷ []) (before ++ x ∷ [])) (sym is)
              (tale_reaps world plan l.marks l.p l.n l.done before l.tale v rest w b (split_is (Reap v) rest e) (held_below world plan l.marks l.p l.n rows running sound l.core v held) going end (stage_is before rows running l v sound held));
          few = l.few;
        })
    of_step entry (leaves reply e is) = inr (reply, e, is)

    -- an event of the shell: it is moved, and no more
    shell_event : (event : Event) → may_happen rows shell_row event ≡ true → Next (Happened shell event)
    shell_event (Caught s) m = absurd (no_catch rows shell_row refl (empty_two shell_row.sig refl) s m)
    shell_event (Discarded s) m = absurd (no_discard rows shell_row refl (empty_two shell_row.sig refl) s m)
    shell_event (StoppedBy s) m = absurd (none_pends shell_row.sig Stop refl (stop_is rows shell_row refl (empty_two shell_row.sig refl) s m).1)
    shell_event (EndedBy s) m = absurd (none_pends shell_row.sig Term refl (end_is rows shell_row refl (empty_two shell_row.sig refl) s m).1)
    shell_event Continued m = cc
    shell_event MovedEvent m =
        let same : after rows (Happened shell MovedEvent) ≡ rows = after_is rows (Happened shell MovedEvent) shell_row l.core.shell_there in
        of_step (Happened shell MovedEvent) (stays (subst (λ t. Core world plan l.marks l.p l.n t running) (sym same) l.core) l.at ((λ forks. refl), (λ forks. refl)))

    stage_entry : (v : ℕ) (entry : Entry) → is_held (l.marks v) ≡ true → process_of entry ≡ pid (l.p v) → verdict rows entry ≡ Legal → IsInOrder world running entry → Next entry
    stage_entry v entry held is legal order =
        let below = held_below world plan l.marks l.p l.n rows running sound l.core v held in
        let few = l.few in
        let low = l.core.numbers v below in
        let fam = family world plan l.marks l.p l.n rows running sound l.core in
        let moved = stage_moved world rows sound fam running (l.p v) (l.marks v) (plan.status v) (group_at (l.marks v) (l.p (plan.first v))) (l.core.held v held) low (good.statuses v (omega (arith, below, few))) entry is legal order in
        of_step entry (stays (core_stage world plan l.marks l.p l.n rows running sound l.core v entry held legal moved.no_fork moved.stage moved.elsewhere moved.others)
        (record { at = l.at.at; runs = moved.others 2 (omega (arith, low)) ∙ l.at.runs; script = l.at.script; split = l.at.split; position = l.at.position; vars = l.at.vars; room = l.at.room })
        (quiet_other entry (l.p v) is (omega (arith, low))))

    shell_entry : (entry : Entry) → process_of entry ≡ shell → verdict rows entry ≡ Legal → IsInOrder world running entry → Next entry
    shell_entry (Called q call reply) is legal order =
        subst (λ q. Next (Called q call reply)) (sym is) (of_step (Called shell call reply)
        (shell_step world plan fits good.few l.marks l.p l.n l.done l.left rows running sound l.core l.at l.few call reply l.orderly (subst (λ q. verdict rows (Called q call reply) ≡ Legal) is legal) (subst (λ (q : Pid). AsksNext world q call (running q.0)) is order)))
    shell_entry (Happened q event) is legal order =
        let a = actor rows (Happened q event) legal in
        let same : a.row ≡ shell_row = some_same a.row shell_row (sym a.there ∙ ap (row_of rows) is ∙ l.core.shell_there) in
        subst (λ q. Next (Happened q event)) (sym is) (shell_event event (event_allowed rows shell_row event (subst (λ r. row_verdict rows r (Happened q event) ≡ Legal) same a.legal)))

    -- who made an entry
    pub data Who (entry : Entry) : Type 0 where
      by_shell : process_of entry ≡ shell → Who entry
      by_stage : (v : ℕ) → is_held (l.marks v) ≡ true → process_of entry ≡ pid (l.p v) → Who entry

    pub who : (entry : Entry) → verdict rows entry ≡ Legal → Who entry
    who entry legal =
        let a = actor rows entry legal in
        elim (l.core.nobody (process_of entry) a.row a.there) [ inl two ↦ by_shell (ap pid two) | inr k ↦ by_stage k.0 k.1 (ap pid (sym k.2)) ]

    pub living_step : (entry : Entry) → verdict rows entry ≡ Legal → IsInOrder world running entry → Living (before ++ entry ∷ []) (after rows entry) (after_entry world running entry) ⊎ IsLeaving entry
    living_step entry legal order = elim (who entry legal) [ by_shell is ↦ shell_entry entry is legal order | by_stage v held is ↦ stage_entry v entry held is legal order ]
