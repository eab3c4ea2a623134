-- each step of the shell, in its script's order
use Rattle.std.proofs.Common.{◌≡◌, ◌≢◌, ◌==◌, ◌⊎◌, inl, inr, ◌<◌, ◌≤◌, ℕ, zero, suc, ℤ, pos, neg_ℤ, Bool, true, false, List, [], ◌∷◌, ◌++◌, length, refl, sym, ap, ◌∙◌, subst, arith, Option, None, Some, slice_get, append_assoc}
use Rattle.std.specs.Prelude.{map, option_and_then, unwrap_or, slice_set}
use Rattle.unix_names.specs.declared.Pid.{Pid}
use Rattle.unix_names.specs.declared.NodeId.{NodeId}
use Rattle.unix_names.specs.declared.Signal.{Signal}
use Rattle.unix_names.specs.declared.Signal.TheVariants.{Stop}
use Rattle.unix_names.specs.Signals.{number_of}
use Rattle.unix_names.specs.declared.Life.TheVariants as life
use Rattle.unix_names.specs.declared.WaitStatus.{WaitStatus}
use Rattle.unix_names.specs.declared.WaitStatus.TheVariants as status
use Rattle.unix_names.specs.States.{is_living}
use Rattle.unix_calls.specs.declared.Call.{Call}
use Rattle.unix_calls.specs.declared.Call.TheVariants as calls
use Rattle.unix_calls.specs.declared.Reply.{Reply}
use Rattle.unix_calls.specs.declared.Reply.TheVariants.{Fine, Number, Child, Again}
use Rattle.unix_calls.specs.declared.Entry.{Entry}
use Rattle.unix_calls.specs.declared.Entry.TheVariants.{Called}
use Rattle.unix_calls.specs.declared.World.{World}
use Rattle.process_table.specs.declared.Row.{Row}
use Rattle.process_table.specs.Rows.{row_of, child_count}
use Rattle.kernel_rules.specs.Calls.{allows, after_call as table_after}
use Rattle.kernel_rules.specs.Wait.{report_of, is_report}
use Rattle.kernel_model.specs.declared.verdict.Verdict.TheVariants.{Legal}
use Rattle.kernel_model.specs.Sound.{IsSound}
use Rattle.kernel_model.specs.Step.{verdict, after}
use Rattle.proc_image.specs.Scripts.{Progress, next_statement, call_or_exit, after_reply, after_reply_or_exit, passed, nobody, forked_by, child_of}
use Rattle.proc_image.specs.Follows.{Running, after_entry, after_call, with_child, put, AsksNext}
use Rattle.list_laws.proofs.Filters.{some_same}
use Rattle.list_laws.proofs.Finding.{same_number}
use Rattle.kernel_laws.proofs.Rows.{row_here}
use Rattle.kernel_laws.proofs.Forms.{ForksAs}
use Rattle.kernel_laws.proofs.Forks.{fresh_number}
use Rattle.kernel_laws.proofs.Legal.{actor, after_is, call_allowed}
use Rattle.kernel_laws.proofs.Others.{first as pick_first, second as pick_second}
use Rattle.job_plans.specs.Acts.{Act, Begin, Await, Join, Send, Reap, statement_of}
use Rattle.job_laws.specs.Orders.{Born, Seen, Member, Going, Reaped, Marks, is_held, after_act, MayAct, MayBegin, IsOrderly, IsGoing}
use Rattle.job_plans.specs.Files.{put_at}
use Rattle.job_plans.specs.Plans.{Plan}
use Rattle.job_laws.specs.Forks.{shell, pid, with_fork, stage_in}
use Rattle.job_laws.specs.Reports.{reported, report_for}
use Rattle.job_laws.proofs.Family.{shell_row, not_same}
use Rattle.job_laws.proofs.Core.{HasStage, Core, group_at, IsNew, first, second, third, IsHalted, IsLetGo, lives, over, IsItsEnd, IsStageAs}
use Rattle.kernel_rules.specs.Fork.{is_fresh}
use Rattle.kernel_laws.specs.Effects.{IsUnused}
use Rattle.job_laws.proofs.Kept.{family, has_same, held_below, children_fewer}
use Rattle.job_laws.proofs.Waits.{Told, told, wait_elsewhere, wait_own, wait_gone, same_status, only_ends}
use Rattle.job_laws.proofs.Shell.{put_same, put_other, cases_same, IsWorldOf, ShellAt, core_put, core_reap}
use Rattle.job_laws.proofs.Sends.{core_send, send_fine, told_as, told_held}
use Rattle.job_laws.proofs.Begins.{fork_answer, count_is, core_begin}
use Rattle.job_laws.proofs.Joins.{MayJoin, join_fine, join_elsewhere, join_own}

-- ---- lists
pub got_there : {X Y : Type 0} (f : X → Y) (done : List X) (a : X) (rest : List X) → slice_get (map f (done ++ a ∷ rest)) (length done) ≡ Some (f a)
got_there f [] a rest = refl
got_there f (x ∷ done) a rest = got_there f done a rest

pub got_plain : {X : Type 0} (done : List X) (a : X) (rest : List X) → slice_get (done ++ a ∷ rest) (length done) ≡ Some a
got_plain [] a rest = refl
got_plain (x ∷ done) a rest = got_plain done a rest

pub got_end : {X Y : Type 0} (f : X → Y) (done : List X) → slice_get (map f (done ++ [])) (length done) ≡ None
got_end f [] = refl
got_end f (x ∷ done) = got_end f done

pub length_more : {X : Type 0} (done : List X) (a : X) → length (done ++ a ∷ []) ≡ suc (length done)
length_more [] a = refl
length_more (x ∷ done) a = ap suc (length_more done a)

pub set_same : (xs : List ℕ) (i x : ℕ) → i < length xs → slice_get (slice_set xs i x) i ≡ Some x
set_same [] i x h = let no : ⊥ = omega (arith, h) in absurd no
set_same (y ∷ xs) zero x h = refl
set_same (y ∷ xs) (suc i) x h = set_same xs i x (omega (arith, h))

pub set_other : (xs : List ℕ) (i j x : ℕ) → j ≢ i → slice_get (slice_set xs i x) j ≡ slice_get xs j
set_other [] i j x ne = refl
set_other (y ∷ xs) zero zero x ne = absurd (ne refl)
set_other (y ∷ xs) zero (suc j) x ne = refl
set_other (y ∷ xs) (suc i) zero x ne = refl
set_other (y ∷ xs) (suc i) (suc j) x ne = set_other xs i j x (λ e. ne (ap suc e))

pub set_length : (xs : List ℕ) (i x : ℕ) → length (slice_set xs i x) ≡ length xs
set_length [] i x = refl
set_length (y ∷ xs) zero x = refl
set_length (y ∷ xs) (suc i) x = ap suc (set_length xs i x)

-- ---- what the shell's entry is, and what it leads to
-- it forks nobody, and reports no end
abbrev pub IsQuietEntry : Entry → Type 0
IsQuietEntry entry = ((forks : List ℕ) → with_fork forks entry ≡ forks) × ((forks : List ℕ) → reported forks entry ≡ [])

-- a step that forks nobody and reports no end
abbrev pub is_plain : Act → Bool
is_plain (Begin v script node) = false
is_plain (Reap v) = false
is_plain _ = true

module _ (world : World) (plan : Plan) where
  pub data Step (marks : Marks) (p : ℕ → ℕ) (n : ℕ) (done left : List Act) (entry : Entry) (now : List Row) (running' : Running) : Type 0 where
    stays : Core world plan marks p n now running' → ShellAt world plan p n done left running' → IsQuietEntry entry → Step marks p n done left entry now running'
    begins : (v script : ℕ) (node : NodeId) (rest : List Act) (k : ℕ) → left ≡ Begin v script node ∷ rest → n ≡ v → entry ≡ Called shell calls.Fork (Number k) →
        Core world plan (put_at v Born marks) (put_at v k p) (suc n) now running' → ShellAt world plan (put_at v k p) (suc n) (done ++ Begin v script node ∷ []) rest running' → Step marks p n done left entry now running'
    acts : (a : Act) (rest : List Act) → left ≡ a ∷ rest → is_plain a ≡ true → Core world plan (after_act plan.first a marks) p n now running' → ShellAt world plan p n (done ++ a ∷ []) rest running' → IsQuietEntry entry → Step marks p n done left entry now running'
    reaps : (v : ℕ) (rest : List Act) (w : WaitStatus) (b : Bool) → left ≡ Reap v ∷ rest → marks v ≡ Going b → IsItsEnd b (plan.status v) w → entry ≡ Called shell (calls.Waitpid (pos (p v)) false false) (Child (pid (p v)) w) →
        Core world plan (put_at v Reaped marks) p n now running' → ShellAt world plan p n (done ++ Reap v ∷ []) rest running' → Step marks p n done left entry now running'
    leaves : (reply : Reply) → left ≡ [] → entry ≡ Called shell (calls.Exit 0) reply → Step marks p n done left entry now running'

  module _ (fits : IsWorldOf world plan) (low_plan : plan.count ≤ 63) (marks : Marks) (p : ℕ → ℕ) (n : ℕ) (done left : List Act) (rows : List Row) (running : Running) (sound : IsSound rows) (core : Core world plan marks p n rows running)
      (here : ShellAt world plan p n done left running) (few_forked : n ≤ plan.count) where
    next_is : (a : Act) (rest : List Act) → left ≡ a ∷ rest → next_statement world here.at ≡ Some (statement_of a)
    next_is a rest e = ap (option_and_then (λ script. slice_get script.statements here.at.position)) here.script
        ∙ ap (slice_get (map statement_of plan.acts)) here.position ∙ ap (λ acts. slice_get (map statement_of acts) (length done)) (here.split ∙ ap (λ l. done ++ l) e) ∙ got_there statement_of done a rest

    next_none : left ≡ [] → next_statement world here.at ≡ None
    next_none e = ap (option_and_then (λ script. slice_get script.statements here.at.position)) here.script
        ∙ ap (slice_get (map statement_of plan.acts)) here.position ∙ ap (λ acts. slice_get (map statement_of acts) (length done)) (here.split ∙ ap (λ l. done ++ l) e) ∙ got_end statement_of done

    calls_it : (a : Act) (rest : List Act) (call : Call) → left ≡ a ∷ rest → AsksNext world shell call (running 2) → call ≡ call_or_exit shell here.at (Some (statement_of a))
    calls_it a rest call e next = subst (AsksNext world shell call) here.runs next ∙ ap (call_or_exit shell here.at) (next_is a rest e)

    var_is : (v : ℕ) → v < n → unwrap_or (slice_get here.at.vars v) nobody ≡ p v
    var_is v l = ap (λ o. unwrap_or o nobody) (here.vars v l)

    runs_on : (call : Call) (reply : Reply) (a : Act) (rest : List Act) → left ≡ a ∷ rest → after_entry world running (Called shell call reply) ≡ with_child world shell here.at call reply (put 2 (Some (after_reply reply here.at (statement_of a))) running)
    runs_on call reply a rest e = ap (after_call world shell call reply running) here.runs ∙ ap (λ o. with_child world shell here.at call reply (put 2 (Some (after_reply_or_exit reply here.at o)) running)) (next_is a rest e)

    table_is : (call : Call) (reply : Reply) → after rows (Called shell call reply) ≡ table_after rows shell_row call reply
    table_is call reply = after_is rows (Called shell call reply) shell_row core.shell_there

    -- the shell passes a statement
    on_it : Running → Type 0
    on_it running' = running' ≡ put 2 (Some (passed here.at)) running

    others_stay : (at : Progress) (x : ℕ) → x ≢ 2 → put 2 (Some at) running x ≡ running x
    others_stay at x ne = pick_second (x == 2) (Some at) (running x) (not_same x 2 ne)

    split_more : (a : Act) (rest : List Act) → left ≡ a ∷ rest → plan.acts ≡ (done ++ a ∷ []) ++ rest
    split_more a rest e = here.split ∙ ap (λ l. done ++ l) e ∙ sym (append_assoc done (a ∷ []) rest)

    passed_at : (a : Act) (rest : List Act) → left ≡ a ∷ rest → ShellAt world plan p n (done ++ a ∷ []) rest (put 2 (Some (passed here.at)) running)
    passed_at a rest e = record {
      at = passed here.at;
      runs = refl;
      script = here.script;
      split = split_more a rest e;
      position = ap suc here.position ∙ sym (length_more done a);
      vars = here.vars;
      room = here.room;
    }

    fewer : (entry : Entry) → verdict rows entry ≡ Legal → ((m : ℕ) → ForksAs entry m → ⊥) → child_count (after rows entry) shell ≤ child_count rows shell
    fewer entry legal none = children_fewer rows entry sound legal none

    abbrev StepOf : Call → Reply → Type 0
    StepOf call reply = Step marks p n done left (Called shell call reply) (after rows (Called shell call reply)) (after_entry world running (Called shell call reply))

    forked_below : (v : ℕ) → is_held (marks v) ≡ true → v < n
    forked_below v h = held_below world plan marks p n rows running sound core v h

    -- ---- a stage is forked
    begin_step : (v script : ℕ) (node : NodeId) (rest : List Act) (reply : Reply) → left ≡ Begin v script node ∷ rest → MayBegin plan marks v → allows rows shell_row calls.Fork reply ≡ true → StepOf calls.Fork reply
    begin_step v script node rest reply e may ok =
        let few = core.few in
        let n_is = count_is world plan marks p n rows running sound core v may in
        let below = may.below in
        let answer = fork_answer rows reply (omega (arith, few, n_is, below, low_plan)) ok in
        subst (StepOf calls.Fork) (sym answer.1) (go answer.0 answer.2)
      where
        go : (k : ℕ) → is_fresh rows k ≡ true → StepOf calls.Fork (Number k)
        go k fresh =
            let n_is = count_is world plan marks p n rows running sound core v may in
            let unused = fresh_number rows k fresh in
            let child = forked_by shell here.at script in
            let after_it = after_reply (Number k) here.at (statement_of (Begin v script node)) in
            let runs : after_entry world running (Called shell calls.Fork (Number k)) ≡ put k (Some child) (put 2 (Some after_it) running) =
            runs_on calls.Fork (Number k) (Begin v script node) rest e ∙ ap (λ o. put k (option_and_then (child_of shell here.at) o) (put 2 (Some after_it) running)) (next_is (Begin v script node) rest e) in
            let low = fork_differs k unused in
            let my_script = fits.stage_script (length done) v script node (at_it v script node rest e) in
            let then_core = core_begin world plan marks p n rows running sound core v may k unused child (put k (Some child) (put 2 (Some after_it) running))
            (pick_first (k == k) (Some child) _ (same_number k)) my_script refl (λ x two other. pick_second (x == k) (Some child) _ (not_same x k other) ∙ others_stay after_it x two) in
            begins v script node rest k e n_is refl
            (subst (λ t. Core world plan (put_at v Born marks) (put_at v k p) (suc n) t (after_entry world running (Called shell calls.Fork (Number k)))) (sym (table_is calls.Fork (Number k))) (subst (Core world plan (put_at v Born marks) (put_at v k p) (suc n) _) (sym runs) then_core))
            (subst (ShellAt world plan (put_at v k p) (suc n) (done ++ Begin v script node ∷ []) rest) (sym runs) (record {
              at = after_it;
              runs = pick_second (2 == k) (Some child) _ (not_same 2 k low);
              script = here.script;
              split = split_more (Begin v script node) rest e;
              position = ap suc here.position ∙ sym (length_more done (Begin v script node));
              vars = λ u l. var_then k u l (cases_same u v);
              room = set_length here.at.vars v k ∙ here.room;
            }))
          where
            at_it : (v script : ℕ) (node : NodeId) (rest : List Act) → left ≡ Begin v script node ∷ rest → slice_get plan.acts (length done) ≡ Some (Begin v script node)
            at_it v script node rest e = ap (λ acts. slice_get acts (length done)) (here.split ∙ ap (λ l. done ++ l) e) ∙ got_plain done (Begin v script node) rest

            fork_differs : (k : ℕ) → IsUnused rows k → 2 ≢ k
            fork_differs k unused is = unused.no_pid shell_row core.shell_there is

            var_then : (k u : ℕ) → u < suc n → (u ≡ v) ⊎ (u ≢ v) → slice_get (slice_set here.at.vars v k) u ≡ Some (put_at v k p u)
            var_then k u l (inl is) =
                let room = here.room in
                let below = may.below in
                subst (λ u. slice_get (slice_set here.at.vars v k) u ≡ Some (put_at v k p u)) (sym is) (set_same here.at.vars v k (omega (arith, room, below)) ∙ ap Some (sym (put_same v k p)))
            var_then k u l (inr ne) =
                let n_is = count_is world plan marks p n rows running sound core v may in
                set_other here.at.vars v u k ne ∙ here.vars u (omega (arith, l, ne, n_is)) ∙ ap Some (sym (put_other v u k p ne))

    -- ---- a stage is waited for
    again_step : (a : Act) (rest : List Act) (call : Call) → left ≡ a ∷ rest → table_after rows shell_row call Again ≡ rows → after_reply Again here.at (statement_of a) ≡ here.at →
        with_child world shell here.at call Again (put 2 (Some here.at) running) ≡ put 2 (Some here.at) running → IsQuietEntry (Called shell call Again) → StepOf call Again
    again_step a rest call e same same_place no_child quiet =
        let runs : after_entry world running (Called shell call Again) ≡ put 2 (Some here.at) running = runs_on call Again a rest e ∙ ap (λ at. with_child world shell here.at call Again (put 2 (Some at) running)) same_place ∙ no_child in
        stays
        (subst (λ t. Core world plan marks p n t (after_entry world running (Called shell call Again))) (sym (table_is call Again ∙ same)) (subst (Core world plan marks p n rows) (sym runs) (record {
          shell_there = core.shell_there;
          held = λ u h. let low = core.numbers u (forked_below u h) in has_same world (p u) (marks u) (plan.status u) (group_at (marks u) (p (plan.first u))) rows rows running (put 2 (Some here.at) running) refl (others_stay here.at (p u) (omega (arith, low))) (core.held u h);
          nobody = core.nobody;
          later = core.later;
          forked = core.forked;
          numbers = core.numbers;
          apart = core.apart;
          few = core.few;
        })))
        (subst (ShellAt world plan p n done left) (sym runs) (record { at = here.at; runs = refl; script = here.script; split = here.split; position = here.position; vars = here.vars; room = here.room }))
        quiet

    await_step : (v : ℕ) (rest : List Act) (reply : Reply) → left ≡ Await v ∷ rest → marks v ≡ Born → verdict rows (Called shell (calls.Waitpid (pos (p v)) true false) reply) ≡ Legal → allows rows shell_row (calls.Waitpid (pos (p v)) true false) reply ≡ true → StepOf (calls.Waitpid (pos (p v)) true false) reply
    await_step v rest reply e born legal ok = go reply legal (told rows sound.distinct (p v) (omega (arith, low)) h.row h.there h.child true false reply ok)
      where
        held : is_held (marks v) ≡ true
        held = ap is_held born

        h : HasStage world (p v) (marks v) (plan.status v) (group_at (marks v) (p (plan.first v))) rows running
        h = core.held v held

        low : 2 < p v
        low = core.numbers v (forked_below v held)

        state : IsNew h.at.position h.row
        state = subst (λ m. IsStageAs m (plan.status v) h.at.position h.row) born h.state

        in_shell : h.row.group ≡ shell
        in_shell = h.group ∙ ap (λ m. group_at m (p (plan.first v))) born

        report : (w : WaitStatus) → is_report (report_of h.row.life h.row.change true false) w ≡ true → IsNew h.at.position h.row → (w ≡ status.Stopped Stop) × IsHalted h.at.position (record h.row { change = None }) × (is_living h.row.life ≡ true)
        report w r (first a l c x) = let no : is_report (report_of life.Runs None true false) w ≡ true = ap (λ l. is_report (report_of l None true false) w) (sym l) ∙ ap (λ c. is_report (report_of h.row.life c true false) w) (sym c) ∙ r in cc
        report w r (second a l c x) = let no : is_report (report_of life.Runs None true false) w ≡ true = ap (λ l. is_report (report_of l None true false) w) (sym l) ∙ ap (λ c. is_report (report_of h.row.life c true false) w) (sym c) ∙ r in cc
        report w r (third a l c x) = (
          same_status (status.Stopped Stop) w (ap (λ l. is_report (report_of l (Some (status.Stopped Stop)) true false) w) (sym l) ∙ ap (λ c. is_report (report_of h.row.life c true false) w) (sym c) ∙ r),
          record { at = a; life = l; change = refl; sig = x },
          ap is_living l,
        )

        quiet : (o : Option ℕ) → report_for o (status.Stopped Stop) ≡ []
        quiet None = refl
        quiet (Some u) = refl

        tell : (w : WaitStatus) → verdict rows (Called shell (calls.Waitpid (pos (p v)) true false) (Child (pid (p v)) w)) ≡ Legal → (w ≡ status.Stopped Stop) × IsHalted h.at.position (record h.row { change = None }) × (is_living h.row.life ≡ true) →
            StepOf (calls.Waitpid (pos (p v)) true false) (Child (pid (p v)) w)
        tell w legal k =
            let call = calls.Waitpid (pos (p v)) true false in
            let reply = Child (pid (p v)) w in
            let runs : after_entry world running (Called shell call reply) ≡ put 2 (Some (passed here.at)) running = runs_on call reply (Await v) rest e in
            acts (Await v) rest e refl
            (subst (Core world plan (put_at v Seen marks) p n (after rows (Called shell call reply))) (sym runs)
            (core_put world plan marks p n rows running sound core v Seen (after rows (Called shell call reply)) (put 2 (Some (passed here.at)) running) held refl (fewer (Called shell call reply) legal (λ m x. x))
            (record {
              row = record h.row { change = None };
              there = ap (λ t. row_of t (pid (p v))) (table_is call reply) ∙ wait_own rows sound.distinct (p v) (omega (arith, low)) h.row h.there h.child w k.2;
              child = record { parent = h.child.parent; session = h.child.session; uid = h.child.uid; execed = h.child.execed; other = h.child.other };
              group = in_shell;
              at = h.at;
              runs = others_stay (passed here.at) (p v) (omega (arith, low)) ∙ h.runs;
              script = h.script;
              state = k.1;
            })
            (λ x ne. ap (λ t. row_of t x) (table_is call reply) ∙ wait_elsewhere rows sound.distinct (p v) (omega (arith, low)) h.row h.there h.child w x ne) (others_stay (passed here.at))))
            (subst (ShellAt world plan p n (done ++ Await v ∷ []) rest) (sym runs) (passed_at (Await v) rest e))
            ((λ forks. refl), (λ forks. ap (λ w. report_for (stage_in forks (p v)) w) k.0 ∙ quiet (stage_in forks (p v))))

        go : (reply : Reply) → verdict rows (Called shell (calls.Waitpid (pos (p v)) true false) reply) ≡ Legal → Told rows sound.distinct (p v) (omega (arith, low)) h.row h.there h.child true false reply → StepOf (calls.Waitpid (pos (p v)) true false) reply
        go reply legal (inl again) = subst (StepOf (calls.Waitpid (pos (p v)) true false)) (sym again) (again_step (Await v) rest (calls.Waitpid (pos (p v)) true false) e refl refl refl ((λ forks. refl), (λ forks. refl)))
        go reply legal (inr (w, is, r)) = subst (StepOf (calls.Waitpid (pos (p v)) true false)) (sym is) (tell w (subst (λ y. verdict rows (Called shell (calls.Waitpid (pos (p v)) true false) y) ≡ Legal) is legal) (report w r state))

    reap_step : (v : ℕ) (rest : List Act) (reply : Reply) → left ≡ Reap v ∷ rest → IsGoing (marks v) → verdict rows (Called shell (calls.Waitpid (pos (p v)) false false) reply) ≡ Legal → allows rows shell_row (calls.Waitpid (pos (p v)) false false) reply ≡ true → StepOf (calls.Waitpid (pos (p v)) false false) reply
    reap_step v rest reply e going legal ok = go reply legal (told rows sound.distinct (p v) (omega (arith, low)) h.row h.there h.child false false reply ok)
      where
        held : is_held (marks v) ≡ true
        held = ap is_held going.1

        h : HasStage world (p v) (marks v) (plan.status v) (group_at (marks v) (p (plan.first v))) rows running
        h = core.held v held

        low : 2 < p v
        low = core.numbers v (forked_below v held)

        state : IsLetGo going.0 (plan.status v) h.at.position h.row
        state = subst (λ m. IsStageAs m (plan.status v) h.at.position h.row) going.1 h.state

        report : (w : WaitStatus) → h.row.life ≡ life.Ended w → IsLetGo going.0 (plan.status v) h.at.position h.row → IsItsEnd going.0 (plan.status v) w
        report w l (lives k a x) = let no : is_living (life.Ended w) ≡ true = ap is_living (sym l) ∙ a in cc
        report w l (over u m is) = let same : life.Ended u ≡ life.Ended w = sym m ∙ l in let one : u ≡ w = cc in subst (IsItsEnd going.0 (plan.status v)) one is

        tell : (w : WaitStatus) → verdict rows (Called shell (calls.Waitpid (pos (p v)) false false) (Child (pid (p v)) w)) ≡ Legal → h.row.life ≡ life.Ended w → StepOf (calls.Waitpid (pos (p v)) false false) (Child (pid (p v)) w)
        tell w legal l =
            let call = calls.Waitpid (pos (p v)) false false in
            let reply = Child (pid (p v)) w in
            let runs : after_entry world running (Called shell call reply) ≡ put 2 (Some (passed here.at)) running = runs_on call reply (Reap v) rest e in
            reaps v rest w going.0 e going.1 (report w l state) refl
            (subst (Core world plan (put_at v Reaped marks) p n (after rows (Called shell call reply))) (sym runs)
            (core_reap world plan marks p n rows running sound core v (after rows (Called shell call reply)) (put 2 (Some (passed here.at)) running) held (fewer (Called shell call reply) legal (λ m x. x))
            (ap (λ t. row_of t (pid (p v))) (table_is call reply) ∙ wait_gone rows sound.distinct (p v) (omega (arith, low)) h.row h.there h.child w (ap is_living l))
            (λ x ne. ap (λ t. row_of t x) (table_is call reply) ∙ wait_elsewhere rows sound.distinct (p v) (omega (arith, low)) h.row h.there h.child w x ne) (others_stay (passed here.at))))
            (subst (ShellAt world plan p n (done ++ Reap v ∷ []) rest) (sym runs) (passed_at (Reap v) rest e))

        go : (reply : Reply) → verdict rows (Called shell (calls.Waitpid (pos (p v)) false false) reply) ≡ Legal → Told rows sound.distinct (p v) (omega (arith, low)) h.row h.there h.child false false reply → StepOf (calls.Waitpid (pos (p v)) false false) reply
        go reply legal (inl again) = subst (StepOf (calls.Waitpid (pos (p v)) false false)) (sym again) (again_step (Reap v) rest (calls.Waitpid (pos (p v)) false false) e refl refl refl ((λ forks. refl), (λ forks. refl)))
        go reply legal (inr (w, is, r)) = subst (StepOf (calls.Waitpid (pos (p v)) false false)) (sym is) (tell w (subst (λ y. verdict rows (Called shell (calls.Waitpid (pos (p v)) false false) y) ≡ Legal) is legal) (only_ends h.row.life h.row.change w r))

    -- ---- a stage gets its group
    join_step : (v f : ℕ) (rest : List Act) (reply : Reply) → left ≡ Join v f ∷ rest → MayAct plan marks (Join v f) → verdict rows (Called shell (calls.Setpgid (p v) (pos (p f))) reply) ≡ Legal → allows rows shell_row (calls.Setpgid (p v) (pos (p f))) reply ≡ true → StepOf (calls.Setpgid (p v) (pos (p f))) reply
    join_step v f rest reply e may legal ok =
        subst (StepOf (calls.Setpgid (p v) (pos (p f)))) (sym fine) (go (subst (λ y. verdict rows (Called shell (calls.Setpgid (p v) (pos (p f))) y) ≡ Legal) fine legal))
      where
        held : is_held (marks v) ≡ true
        held = ap is_held may.0

        h : HasStage world (p v) (marks v) (plan.status v) (group_at (marks v) (p (plan.first v))) rows running
        h = core.held v held

        low : 2 < p v
        low = core.numbers v (forked_below v held)

        state : IsHalted h.at.position h.row
        state = subst (λ m. IsStageAs m (plan.status v) h.at.position h.row) may.0 h.state

        first_held : (v ≡ f) ⊎ ((marks f ≡ Member) × (plan.first f ≡ f)) → is_held (marks f) ≡ true
        first_held (inl is) = subst (λ u. is_held (marks u) ≡ true) is held
        first_held (inr k) = ap is_held k.0

        low_group : 2 < p f
        low_group = core.numbers f (forked_below f (first_held may.2))

        joins : (v ≡ f) ⊎ ((marks f ≡ Member) × (plan.first f ≡ f)) → MayJoin rows (family world plan marks p n rows running sound core) (p v) (p f) low low_group h.row h.there h.child (ap is_living state.life)
        joins (inl is) = inl (ap p (sym is))
        joins (inr k) =
            let hf = core.held f (ap is_held k.0) in
            let group : hf.row.group ≡ pid (p f) = hf.group ∙ ap (λ m. group_at m (p (plan.first f))) k.0 ∙ ap (λ u. pid (p u)) k.1 in
            inr (hf.row, row_here rows (pid (p f)) hf.row hf.there, ap (λ (x : Pid). x.0 == p f) group ∙ same_number (p f), ap (λ (x : Pid). x.0 == 2) hf.child.session)

        fine : reply ≡ Fine
        fine = join_fine rows (family world plan marks p n rows running sound core) (p v) (p f) low low_group h.row h.there h.child (ap is_living state.life) (joins may.2) reply ok

        go : verdict rows (Called shell (calls.Setpgid (p v) (pos (p f))) Fine) ≡ Legal → StepOf (calls.Setpgid (p v) (pos (p f))) Fine
        go legal =
            let call = calls.Setpgid (p v) (pos (p f)) in
            let runs : after_entry world running (Called shell call Fine) ≡ put 2 (Some (passed here.at)) running = runs_on call Fine (Join v f) rest e in
            acts (Join v f) rest e refl
            (subst (Core world plan (put_at v Member marks) p n (after rows (Called shell call Fine))) (sym runs)
            (core_put world plan marks p n rows running sound core v Member (after rows (Called shell call Fine)) (put 2 (Some (passed here.at)) running) held refl (fewer (Called shell call Fine) legal (λ m x. x))
            (record {
              row = record h.row { group = pid (p f) };
              there = ap (λ t. row_of t (pid (p v))) (table_is call Fine) ∙ join_own rows (family world plan marks p n rows running sound core) (p v) (p f) low low_group h.row h.there h.child (ap is_living state.life);
              child = record { parent = h.child.parent; session = h.child.session; uid = h.child.uid; execed = h.child.execed; other = h.child.other };
              group = ap (λ u. pid (p u)) may.1;
              at = h.at;
              runs = others_stay (passed here.at) (p v) (omega (arith, low)) ∙ h.runs;
              script = h.script;
              state = record { at = state.at; life = state.life; change = state.change; sig = state.sig };
            })
            (λ x ne. ap (λ t. row_of t x) (table_is call Fine) ∙ join_elsewhere rows (family world plan marks p n rows running sound core) (p v) (p f) low low_group h.row h.there h.child (ap is_living state.life) x ne) (others_stay (passed here.at))))
            (subst (ShellAt world plan p n (done ++ Join v f ∷ []) rest) (sym runs) (passed_at (Join v f) rest e)) ((λ forks. refl), (λ forks. refl))

    -- ---- a job is signalled
    send_step : (f : ℕ) (s : Signal) (rest : List Act) (reply : Reply) → left ≡ Send f s ∷ rest → MayAct plan marks (Send f s) → verdict rows (Called shell (calls.Kill (neg_ℤ (pos (p f))) (number_of s)) reply) ≡ Legal → allows rows shell_row (calls.Kill (neg_ℤ (pos (p f))) (number_of s)) reply ≡ true → StepOf (calls.Kill (neg_ℤ (pos (p f))) (number_of s)) reply
    send_step f s rest reply e may legal ok = subst (StepOf (calls.Kill (neg_ℤ (pos (p f))) (number_of s))) (sym fine) (go (subst (λ y. verdict rows (Called shell (calls.Kill (neg_ℤ (pos (p f))) (number_of s)) y) ≡ Legal) fine legal))
      where
        fine : reply ≡ Fine
        fine = send_fine world plan marks p n rows running sound core f s may.0 may.1 may.2 may.3 few_forked reply ok

        go : verdict rows (Called shell (calls.Kill (neg_ℤ (pos (p f))) (number_of s)) Fine) ≡ Legal → StepOf (calls.Kill (neg_ℤ (pos (p f))) (number_of s)) Fine
        go legal =
            let runs : after_entry world running (Called shell (calls.Kill (neg_ℤ (pos (p f))) (number_of s)) Fine) ≡ put 2 (Some (passed here.at)) running = runs_on (calls.Kill (neg_ℤ (pos (p f))) (number_of s)) Fine (Send f s) rest e in
            acts (Send f s) rest e refl
            (subst (Core world plan (after_act plan.first (Send f s) marks) p n _) (sym runs)
            (core_send world plan marks p n rows running sound core f s may.0 may.1 may.2 may.3 few_forked (put 2 (Some (passed here.at)) running) (others_stay (passed here.at)) (fewer (Called shell (calls.Kill (neg_ℤ (pos (p f))) (number_of s)) Fine) legal (λ m x. x))))
            (subst (ShellAt world plan p n (done ++ Send f s ∷ []) rest) (sym runs) (passed_at (Send f s) rest e)) ((λ forks. refl), (λ forks. refl))

    -- ---- each call of the shell
    act_step : (a : Act) (rest : List Act) (reply : Reply) → left ≡ a ∷ rest → MayAct plan marks a → verdict rows (Called shell (call_or_exit shell here.at (Some (statement_of a))) reply) ≡ Legal →
        allows rows shell_row (call_or_exit shell here.at (Some (statement_of a))) reply ≡ true → StepOf (call_or_exit shell here.at (Some (statement_of a))) reply
    act_step (Begin v script node) rest reply e may legal ok = begin_step v script node rest reply e may ok
    act_step (Await v) rest reply e may legal ok =
        let is = var_is v (forked_below v (ap is_held may)) in
        subst (λ q. StepOf (calls.Waitpid (pos q) true false) reply) (sym is) (await_step v rest reply e may (subst (λ q. verdict rows (Called shell (calls.Waitpid (pos q) true false) reply) ≡ Legal) is legal) (subst (λ q. allows rows shell_row (calls.Waitpid (pos q) true false) reply ≡ true) is ok))
    act_step (Reap v) rest reply e may legal ok =
        let is = var_is v (forked_below v (ap is_held may.1)) in
        subst (λ q. StepOf (calls.Waitpid (pos q) false false) reply) (sym is) (reap_step v rest reply e may (subst (λ q. verdict rows (Called shell (calls.Waitpid (pos q) false false) reply) ≡ Legal) is legal) (subst (λ q. allows rows shell_row (calls.Waitpid (pos q) false false) reply ≡ true) is ok))
    act_step (Join v f) rest reply e may legal ok =
        let is = var_is v (forked_below v (ap is_held may.0)) in
        let is_first = var_is f (forked_below f (first_held may.2)) in
        subst (λ q. StepOf (calls.Setpgid q (pos (unwrap_or (slice_get here.at.vars f) nobody))) reply) (sym is) (subst (λ g. StepOf (calls.Setpgid (p v) (pos g)) reply) (sym is_first)
        (join_step v f rest reply e may
        (subst (λ g. verdict rows (Called shell (calls.Setpgid (p v) (pos g)) reply) ≡ Legal) is_first (subst (λ q. verdict rows (Called shell (calls.Setpgid q (pos (unwrap_or (slice_get here.at.vars f) nobody))) reply) ≡ Legal) is legal))
        (subst (λ g. allows rows shell_row (calls.Setpgid (p v) (pos g)) reply ≡ true) is_first (subst (λ q. allows rows shell_row (calls.Setpgid q (pos (unwrap_or (slice_get here.at.vars f) nobody))) reply ≡ true) is ok))))
      where
        first_held : (v ≡ f) ⊎ ((marks f ≡ Member) × (plan.first f ≡ f)) → is_held (marks f) ≡ true
        first_held (inl is) = subst (λ u. is_held (marks u) ≡ true) is (ap is_held may.0)
        first_held (inr k) = ap is_held k.0
    act_step (Send f s) rest reply e may legal ok =
        let held = told_held s (marks f) (told_as plan marks f s may.3 f may.0 may.1) in
        let is = var_is f (forked_below f held) in
        subst (λ q. StepOf (calls.Kill (neg_ℤ (pos q)) (number_of s)) reply) (sym is) (send_step f s rest reply e may (subst (λ q. verdict rows (Called shell (calls.Kill (neg_ℤ (pos q)) (number_of s)) reply) ≡ Legal) is legal) (subst (λ q. allows rows shell_row (calls.Kill (neg_ℤ (pos q)) (number_of s)) reply ≡ true) is ok))

    pub shell_step : (call : Call) (reply : Reply) → IsOrderly plan left marks → verdict rows (Called shell call reply) ≡ Legal → AsksNext world shell call (running 2) → StepOf call reply
    shell_step call reply orderly legal next = go left refl orderly
      where
        ok : allows rows shell_row call reply ≡ true
        ok =
            let a = actor rows (Called shell call reply) legal in
            let same : a.row ≡ shell_row = some_same a.row shell_row (sym a.there ∙ core.shell_there) in
            ap (λ r. allows rows r call reply) (sym same) ∙ (call_allowed rows a.row call reply a.legal).1

        go : (l : List Act) → left ≡ l → IsOrderly plan l marks → StepOf call reply
        go [] e o = leaves reply e (ap (λ c. Called shell c reply) (subst (AsksNext world shell call) here.runs next ∙ ap (call_or_exit shell here.at) (next_none e)))
        go (a ∷ rest) e o =
            let is = calls_it a rest call e next in
            subst (λ c. StepOf c reply) (sym is) (act_step a rest reply e o.0 (subst (λ c. verdict rows (Called shell c reply) ≡ Legal) is legal) (subst (λ c. allows rows shell_row c reply ≡ true) is ok))

    -- ---- what the shell asks for
    -- a kill is the next signal to a job
    pub record IsSending (call : Call) (f : ℕ) (s : Signal) : Type 0 where
      pub call_is : call ≡ calls.Kill (neg_ℤ (pos (p f))) (number_of s)
      pub may : MayAct plan marks (Send f s)

    -- a call of the shell is its last exit, a signal to a job, or one that sends nothing
    abbrev pub IsShellCall : Call → Type 0
    IsShellCall call = ((left ≡ []) × (call ≡ calls.Exit 0)) ⊎ (((f : ℕ) × (s : Signal) × IsSending call f s) ⊎ ((call ≡ calls.Fork) ⊎ (((z : ℤ) × (b c : Bool) × (call ≡ calls.Waitpid z b c)) ⊎ ((t : ℕ) × (z : ℤ) × (call ≡ calls.Setpgid t z)))))

    pub shell_call : (call : Call) → IsOrderly plan left marks → AsksNext world shell call (running 2) → IsShellCall call
    shell_call call orderly next = go left refl orderly
      where
        act : (a : Act) → MayAct plan marks a → call ≡ call_or_exit shell here.at (Some (statement_of a)) → IsShellCall call
        act (Begin v script node) may is = inr (inr (inl is))
        act (Await v) may is = inr (inr (inr (inl (pos (unwrap_or (slice_get here.at.vars v) nobody), true, false, is))))
        act (Reap v) may is = inr (inr (inr (inl (pos (unwrap_or (slice_get here.at.vars v) nobody), false, false, is))))
        act (Join v f) may is = inr (inr (inr (inr (unwrap_or (slice_get here.at.vars v) nobody, pos (unwrap_or (slice_get here.at.vars f) nobody), is))))
        act (Send f s) may is =
            let held = told_held s (marks f) (told_as plan marks f s may.3 f may.0 may.1) in
            inr (inl (f, s, record { call_is = is ∙ ap (λ q. calls.Kill (neg_ℤ (pos q)) (number_of s)) (var_is f (forked_below f held)); may = may }))

        go : (l : List Act) → left ≡ l → IsOrderly plan l marks → IsShellCall call
        go [] e o = inl (e, subst (AsksNext world shell call) here.runs next ∙ ap (call_or_exit shell here.at) (next_none e))
        go (a ∷ rest) e o = act a o.0 (calls_it a rest call e next)
