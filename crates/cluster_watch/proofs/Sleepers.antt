-- who is not nudged rests on, and whom a decision puts to rest rests
use Rattle.std.proofs.Common.{◌≡◌, ◌≢◌, ◌⊎◌, inl, inr, ◌<◌, ◌==◌, ◌&&◌, ℕ, ℤ, Bool, true, false, cond, not, List, [], ◌∷◌, ◌++◌, refl, sym, ap, ◌∙◌, subst, Option, None, Some, is_some}
use Rattle.std.specs.List.{list_any}
use Rattle.std.specs.Option.{option_map}
use Rattle.std.proofs.lemmas.Bool.{and_parts, and_from, ne_eqb}
use Rattle.list_laws.specs.Keyed.{option_filter}
use Rattle.list_laws.proofs.Filters.{some_same}
use Rattle.list_laws.proofs.Elements.{any_some, any_found}
use Rattle.unix_names.specs.declared.Pid.{Pid}
use Rattle.unix_names.specs.declared.Name.{Name}
use Rattle.unix_names.specs.declared.Name.TheVariants as name
use Rattle.unix_names.specs.declared.Errno.TheVariants.{ECHILD}
use Rattle.unix_names.specs.declared.Signal.{Signal}
use Rattle.unix_names.specs.declared.Signal.TheVariants.{Kill}
use Rattle.unix_names.specs.Sets.{has}
use Rattle.unix_names.specs.States.{is_living}
use Rattle.unix_calls.specs.declared.Call.{Call}
use Rattle.unix_calls.specs.declared.Call.TheVariants.{Waitpid}
use Rattle.unix_calls.specs.declared.Reply.{Reply}
use Rattle.unix_calls.specs.declared.Reply.TheVariants.{Again}
use Rattle.unix_calls.specs.declared.Entry.{Entry}
use Rattle.unix_calls.specs.declared.Entry.TheVariants.{Called, Happened}
use Rattle.unix_calls.specs.declared.Job.{Job}
use Rattle.unix_calls.specs.declared.Phase.{Phase}
use Rattle.unix_calls.specs.declared.Phase.TheVariants as phases
use Rattle.unix_calls.specs.declared.Selector.{Selector}
use Rattle.unix_calls.specs.declared.Selector.TheVariants as selector
use Rattle.unix_calls.specs.declared.World.{World}
use Rattle.unix_calls.specs.Calls.{selector_of}
use Rattle.unix_calls.specs.Valid.{IsValid}
use Rattle.signal_state.specs.Sig.{deliverable, generated_all}
use Rattle.proc_image.specs.declared.image.Image.{Image}
use Rattle.proc_image.specs.Scripts.{next_call, moved_on, stands_again}
use Rattle.proc_image.specs.Follows.{Running, first_running, after_entry, after_entries}
use Rattle.proc_image.specs.Images.{progress_of}
use Rattle.proc_image.proofs.FollowsLaws.{after_entries-push}
use Rattle.record_bag.specs.declared.Held.{Held}
use Rattle.record_bag.specs.declared.Bag.{Bag}
use Rattle.record_bag.specs.declared.vector.Site.{Site}
use Rattle.record_bag.specs.declared.vector.Decided.{Decided}
use Rattle.record_bag.specs.Bags.{is_held, held_at}
use Rattle.process_table.specs.declared.Row.{Row}
use Rattle.process_table.specs.Rows.{is_parent, row_of, AreDistinct}
use Rattle.kernel_rules.specs.Wait.{selects, is_match, report_of, is_ready_match}
use Rattle.kernel_rules.specs.Calls.{allows}
use Rattle.kernel_rules.specs.Replies.{is_first}
use Rattle.kernel_model.specs.Legal.{boot, after_all}
use Rattle.kernel_model.specs.Step.{process_of, after, sent}
use Rattle.kernel_laws.specs.Effects.{IsSignalled}
use Rattle.kernel_laws.proofs.Rows.{number, row_pid, row_here, distinct_from}
use Rattle.kernel_laws.proofs.Others.{nothing_sent, others_signalled}
use Rattle.kernel_laws.proofs.Legal.{actor, after_is, call_allowed}
use Rattle.kernel_laws.proofs.Steps.{step_keeps}
use Rattle.kernel_rules.specs.Events.{StaysStopped}
use Rattle.audit_core.specs.Finished.{SleepsOn, last_call}
use Rattle.cluster_contents.specs.Histories.{with_entry}
use Rattle.history_laws.proofs.Histories.{table-push}
use Rattle.history_laws.proofs.Progress.{IsNoForkOf, progress_own, progress_kept}
use Rattle.cluster_watch.proofs.LastCalls.{waiting, last-push, last_own, last_other}
use Rattle.node_state.specs.Phases.{asleep_if, image_after}
use Rattle.cluster_contents.specs.Placement.{View, view, Contents, JobFits}
use Rattle.decide_law.specs.Wakes.{Report, report_in, seen_by, is_nudged}
use Rattle.decide_law.specs.Law.{sent_to, next, IsStep}
use Rattle.decide_law.proofs.ByName.{IsEntry, entry_is}
use Rattle.cluster_contents.specs.Standing.{IsProcess, ProcessIs, Standing}
use Rattle.cluster_watch.specs.Watched.{IsResting, Rests}
use Rattle.cluster_contents.proofs.Signals.{process_is}
use Rattle.cluster_contents.proofs.Decided.{fork_number, asks_next, me, no_own_fork}

-- ---- what a wait sees
pub seen_some : (m : Pid) (rows : List Row) (q : Pid) (c : Row) → row_of rows q ≡ Some c → is_parent m c ≡ true → seen_by m rows q ≡ Some (report_in c)
seen_some m rows q c e mine = ap (λ o. option_map report_in (option_filter (is_parent m) o)) e ∙ ap (λ b. option_map report_in (cond b (Some c) None)) mine

-- a row that is seen
pub record IsSeen (m : Pid) (rows : List Row) (q : Pid) (x : Report) : Type 0 where
  pub row : Row
  pub there : row_of rows q ≡ Some row
  pub mine : is_parent m row ≡ true
  pub report : report_in row ≡ x

pub seen_back : (m : Pid) (rows : List Row) (q : Pid) (x : Report) → seen_by m rows q ≡ Some x → IsSeen m rows q x
seen_back m rows q x e = go (row_of rows q) refl e
  where
    go : (o : Option Row) → row_of rows q ≡ o → option_map report_in (option_filter (is_parent m) o) ≡ Some x → IsSeen m rows q x
    go None is e = cc
    go (Some c) is e = by (is_parent m c) refl e
      where
        by : (b : Bool) → is_parent m c ≡ b → option_map report_in (cond b (Some c) None) ≡ Some x → IsSeen m rows q x
        by true mine e = record { row = c; there = is; mine = mine; report = some_same _ _ e }
        by false mine e = cc

-- tests of children that see the same
any_seen : (m : Pid) (rows now : List Row) (t u : Row → Bool) → AreDistinct rows → ((q : Pid) → seen_by m now q ≡ seen_by m rows q) →
    ((c : Row) → t c ≡ true → is_parent m c ≡ true) → ((c c' : Row) → c'.pid ≡ c.pid → report_in c' ≡ report_in c → is_parent m c' ≡ true → t c ≡ true → u c' ≡ true) → list_any t rows ≡ true → list_any u now ≡ true
any_seen m rows now t u distinct same child like e =
    let f = any_found number t rows (distinct_from rows distinct) e in
    let c = f.0 in
    let s = seen_back m now c.pid (report_in c) (same c.pid ∙ seen_some m rows c.pid c f.1 (child c f.2)) in
    any_some number u c.pid.0 now s.row s.there (like c s.row (row_pid now c.pid s.row s.there) s.report s.mine f.2)

pub same_truth : (a b : Bool) → (a ≡ true → b ≡ true) → (b ≡ true → a ≡ true) → a ≡ b
same_truth true true f g = refl
same_truth true false f g = sym (f refl)
same_truth false true f g = g refl
same_truth false false f g = refl

selects_like : (sel : Selector) (w w' c c' : Row) → w'.group ≡ w.group → c'.pid ≡ c.pid → c'.group ≡ c.group → selects w' sel c' ≡ selects w sel c
selects_like selector.Any w w' c c' mine named group = refl
selects_like selector.OwnGroup w w' c c' mine named group = ap (λ g. c'.group.0 == g.0) mine ∙ ap (λ g. g.0 == w.group.0) group
selects_like (selector.One p) w w' c c' mine named group = ap (λ q. q.0 == p.0) named
selects_like (selector.InGroup g) w w' c c' mine named group = ap (λ h. h.0 == g.0) group

-- where a process sees the same, its wait is answered alike
module _ (rows now : List Row) (distinct : AreDistinct rows) (distinct_now : AreDistinct now) (w w' : Row) (named : w'.pid ≡ w.pid) (group : w'.group ≡ w.group) (same : (q : Pid) → seen_by w.pid now q ≡ seen_by w.pid rows q) (sel : Selector) where
  matches : (u v : Row) → u.pid ≡ w.pid → v.pid ≡ w.pid → v.group ≡ u.group → (c c' : Row) → c'.pid ≡ c.pid → report_in c' ≡ report_in c → is_parent w.pid c' ≡ true → is_match u sel c ≡ true → is_match v sel c' ≡ true
  matches u v up vp g c c' pid rep mine e =
      let parts = and_parts (is_parent u.pid c) (selects u sel c) e in
      and_from (is_parent v.pid c') (selects v sel c') (ap (λ p. is_parent p c') vp ∙ mine) (selects_like sel u v c c' g pid (ap (λ (x : Report). x.group) rep) ∙ parts.1)

  ready : (u v : Row) → u.pid ≡ w.pid → v.pid ≡ w.pid → v.group ≡ u.group → (stopped continued : Bool) → (c c' : Row) → c'.pid ≡ c.pid → report_in c' ≡ report_in c → is_parent w.pid c' ≡ true → is_ready_match u sel stopped continued c ≡ true → is_ready_match v sel stopped continued c' ≡ true
  ready u v up vp g stopped continued c c' pid rep mine e =
      let parts = and_parts (is_match u sel c) (is_some (report_of c.life c.change stopped continued)) e in
      and_from (is_match v sel c') (is_some (report_of c'.life c'.change stopped continued)) (matches u v up vp g c c' pid rep mine parts.0)
      (ap (λ (x : Report). is_some (report_of x.life x.change stopped continued)) rep ∙ parts.1)

  child : (u : Row) → u.pid ≡ w.pid → (c : Row) → is_match u sel c ≡ true → is_parent w.pid c ≡ true
  child u up c e = ap (λ p. is_parent p c) (sym up) ∙ (and_parts (is_parent u.pid c) (selects u sel c) e).0

  pub matches_same : list_any (is_match w' sel) now ≡ list_any (is_match w sel) rows
  matches_same = same_truth (list_any (is_match w' sel) now) (list_any (is_match w sel) rows)
      (any_seen w.pid now rows (is_match w' sel) (is_match w sel) distinct_now (λ q. sym (same q)) (child w' named) (matches w' w named refl (sym group)))
      (any_seen w.pid rows now (is_match w sel) (is_match w' sel) distinct same (child w refl) (matches w w' refl named group))

  pub ready_same : (stopped continued : Bool) → list_any (is_ready_match w' sel stopped continued) now ≡ list_any (is_ready_match w sel stopped continued) rows
  ready_same stopped continued = same_truth (list_any (is_ready_match w' sel stopped continued) now) (list_any (is_ready_match w sel stopped continued) rows)
      (any_seen w.pid now rows (is_ready_match w' sel stopped continued) (is_ready_match w sel stopped continued) distinct_now (λ q. sym (same q)) (λ c e. child w' named c (and_parts (is_match w' sel c) (is_some (report_of c.life c.change stopped continued)) e).0) (ready w' w named refl (sym group) stopped continued))
      (any_seen w.pid rows now (is_ready_match w sel stopped continued) (is_ready_match w' sel stopped continued) distinct same (λ c e. child w refl c (and_parts (is_match w sel c) (is_some (report_of c.life c.change stopped continued)) e).0) (ready w w' refl named group stopped continued))

pub again_same : (rows now : List Row) → AreDistinct rows → AreDistinct now → (w w' : Row) → w'.pid ≡ w.pid → w'.group ≡ w.group → ((q : Pid) → seen_by w.pid now q ≡ seen_by w.pid rows q) → (sel : ℤ) (stopped continued : Bool) →
    allows rows w (Waitpid sel stopped continued) Again ≡ true → allows now w' (Waitpid sel stopped continued) Again ≡ true
again_same rows now d d' w w' named group same sel stopped continued e =
    ap (λ b. is_first (cond b None (Some ECHILD)) Again (not (list_any (is_ready_match w' (selector_of sel) stopped continued) now))) (matches_same rows now d d' w w' named group same (selector_of sel))
    ∙ ap (λ b. is_first (cond (list_any (is_match w (selector_of sel)) rows) None (Some ECHILD)) Again (not b)) (ready_same rows now d d' w w' named group same (selector_of sel) stopped continued) ∙ e

-- who is asleep after a decision could run, and waits again
phase_case : (t : Bool) (ph : Phase) → IsResting (asleep_if t ph) → ph ≢ phases.Asleep → (ph ≡ phases.Stopped) ⊎ (t ≡ true)
phase_case true phases.Ready r ne = inr refl
phase_case true phases.Asleep r ne = absurd (ne refl)
phase_case true phases.Stopped r ne = inl refl
phase_case true phases.Gone r ne = absurd r
phase_case false phases.Ready r ne = absurd r
phase_case false phases.Asleep r ne = absurd (ne refl)
phase_case false phases.Stopped r ne = inl refl
phase_case false phases.Gone r ne = absurd r

only_stopped : (ph : Phase) → IsResting ph → ph ≢ phases.Asleep → ph ≡ phases.Stopped
only_stopped phases.Ready r ne = absurd r
only_stopped phases.Asleep r ne = absurd (ne refl)
only_stopped phases.Stopped r ne = refl
only_stopped phases.Gone r ne = absurd r

module _ (world : World) (valid : IsValid world) (rows : List Row) (running : Running) (W : Contents) (st : Standing world rows running W) (image : Image) (job : Job) (bag : Bag) (site : Site) (d : Decided) (bag' : Bag)
    (holds : (n : Name) (h : Held) → held_at bag n ≡ Some h → W.what n ≡ h) (step : IsStep rows (next rows d.entry) image.pid job site bag d bag')
    (mine : W.proc image.pid ≡ Some (view image)) (wants : JobFits world image job) (absent : row_of rows site.fresh ≡ None) (unheld : is_held bag (name.V site.fresh) ≡ false) (here : site.node.0 < world.nodes)
    (history : List Entry) (table : after_all world history ≡ rows) (far : after_entries world (first_running world) history ≡ running) where
  table_next : (o : Option Entry) → after_all world (with_entry history o) ≡ next rows o
  table_next None = table
  table_next (Some e) = table-push (boot world) history e ∙ ap (λ t. after t e) table

  -- no fork gives the number of a process that is there
  no_fork : (e : Entry) → d.entry ≡ Some e → (q : Pid) (r : Row) → row_of rows q ≡ Some r → IsNoForkOf e q.0
  no_fork e is q r there n f = ne_eqb q.0 n (λ s.
      let k = fork_number world valid rows running W st image job bag site d bag' holds step mine wants absent unheld here d.born step.birth e n is f in
      let same : q ≡ site.fresh = ap (λ (m : ℕ). record { 0 = m }) (s ∙ k.0) in
      let x : None ≡ Some r = sym absent ∙ ap (row_of rows) (sym same) ∙ there in cc)

  -- ---- another process, which is not nudged
  module _ (q : Pid) (other : q.0 ≢ image.pid.0) (quiet : is_nudged d.nudges q ≡ false) (r r' : Row) (there : row_of rows q ≡ Some r) (lives : is_living r.life ≡ true) (e : Entry) (is : d.entry ≡ Some e) (later : row_of (after rows e) q ≡ Some r') where
    l : IsEntry rows image.pid job e
    l = entry_is step e is

    pid_is : r.pid ≡ q
    pid_is = row_pid rows q r there

    apart : (r.pid.0 == (process_of e).0) ≡ false
    apart = ne_eqb r.pid.0 (process_of e).0 (λ s. other (ap (λ (u : Pid). u.0) (sym pid_is) ∙ s ∙ ap (λ (u : Pid). u.0) (process_is image.pid job e l.of)))

    signalled : IsSignalled (sent rows e r) e r r'
    signalled = others_signalled rows e st.sound l.legal r r' (row_here rows q r there) apart (ap (row_of (after rows e)) pid_is ∙ later)

    lives' : is_living r'.life ≡ true
    lives' = ap is_living signalled.life ∙ lives

    then_later : row_of (next rows d.entry) q ≡ Some r'
    then_later = ap (λ o. row_of (next rows o) q) is ∙ later

    unsent : sent rows e r ≡ []
    unsent = go (sent rows e r) refl
      where
        go : (ss : List Signal) → sent rows e r ≡ ss → ss ≡ []
        go [] f = refl
        go (s ∷ ss) f =
            let x : true ≡ false = sym (step.nudged q r r' other there then_later lives' (λ none. let y : s ∷ ss ≡ [] = sym f ∙ ap (λ o. sent_to rows o r) (sym is) ∙ none in absurd (cc y))) ∙ quiet in absurd (cc x)

    signals : r'.sig ≡ r.sig
    signals = signalled.sig ∙ ap (λ ss. generated_all r.sig (cond (is_living r.life) ss [])) unsent ∙ nothing_sent (is_living r.life) r.sig

    stopped_on : StaysStopped r → StaysStopped r'
    stopped_on s = record {
      stopped = ap (λ x. x.stopped) signals ∙ s.stopped;
      not_due = ap (λ x. x.due) signals ∙ s.not_due;
      not_killed = ap (λ x. has x.pending Kill) signals ∙ s.not_killed;
    }

    sees : (r'.group ≡ r.group) × ((u : Pid) → seen_by q (next rows d.entry) u ≡ seen_by q rows u)
    sees = step.wakes q r r' other there then_later lives' quiet

    sleeps_on : SleepsOn world history r → SleepsOn world (history ++ e ∷ []) r'
    sleeps_on s =
        let at = s.progress in
        let longer = history ++ e ∷ [] in
        let wait = waiting world r.pid at Again s.waits in
        let alone = no_fork e is r.pid r (row_here rows q r there) in
        let before : allows rows r (next_call world r.pid at) Again ≡ true = subst (λ t. allows t r (next_call world r.pid at) Again ≡ true) table s.still in
        let seen : (u : Pid) → seen_by r.pid (after rows e) u ≡ seen_by r.pid rows u = λ u. subst (λ p. seen_by p (after rows e) u ≡ seen_by p rows u) (sym pid_is) (subst (λ o. seen_by q (next rows o) u ≡ seen_by q rows u) is (sees.1 u)) in
        let still = again_same rows (after rows e) st.sound.distinct (step_keeps rows e st.sound l.legal).distinct r r' signalled.pid sees.0 seen wait.sel wait.stopped wait.continued (subst (λ c. allows rows r c Again ≡ true) wait.call before) in
        record {
          free = ap (λ x. not x.stopped && (deliverable x == 0)) signals ∙ s.free;
          progress = at;
          runs = ap (λ p. after_entries world (first_running world) longer p.0) signalled.pid ∙ ap (λ f. f r.pid.0) (after_entries-push world (first_running world) history e)
              ∙ progress_kept world (after_entries world (first_running world) history) e r.pid.0 apart alone ∙ s.runs;
          waits = s.waits;
          asked = subst (λ p. last_call longer p ≡ Some (Called p (next_call world p at) Again)) (sym signalled.pid) (last-push history e r.pid ∙ last_other r.pid (last_call history r.pid) e apart alone ∙ s.asked);
          still = subst (λ p. allows (after_all world longer) r' (next_call world p at) Again ≡ true) (sym signalled.pid)
              (subst (λ t. allows t r' (next_call world r.pid at) Again ≡ true) (sym (table_next (Some e))) (subst (λ c. allows (after rows e) r' c Again ≡ true) (sym wait.call) still));
        }

    rests_after : StaysStopped r ⊎ SleepsOn world history r → StaysStopped r' ⊎ SleepsOn world (history ++ e ∷ []) r'
    rests_after (inl s) = inl (stopped_on s)
    rests_after (inr s) = inr (sleeps_on s)

  pub others_rest : (q : Pid) (x : View) → q.0 ≢ image.pid.0 → W.proc q ≡ Some x → is_nudged d.nudges q ≡ false → Rests world history q → Rests world (with_entry history d.entry) q
  others_rest q x other view_is quiet rests = go d.entry refl
    where
      process : IsProcess world (row_of rows q) (running q.0) x
      process = subst (ProcessIs world (row_of rows q) (running q.0)) view_is (st.procs q)

      go : (o : Option Entry) → d.entry ≡ o → Rests world (with_entry history o) q
      go None is r' later = rests r' later
      go (Some e) is r' later =
          rests_after q other quiet process.process r' process.there process.lives e is (ap (λ t. row_of t q) (sym (table_next (Some e))) ∙ later)
          (rests process.process (ap (λ t. row_of t q) table ∙ process.there))

  -- ---- the process itself
  stopped_rests : d.phase ≡ phases.Stopped → Rests world (with_entry history d.entry) image.pid
  stopped_rests stopped r' later = inl (step.rests stopped r' (ap (λ t. row_of t image.pid) (sym (table_next d.entry)) ∙ later))

  asleep_rests : (caller : Pid) (call : Call) (reply : Reply) → d.entry ≡ Some (Called caller call reply) → stands_again world (progress_of image) reply ≡ true → Rests world (history ++ Called caller call reply ∷ []) image.pid
  asleep_rests caller call reply is again =
      let p = image.pid in
      let at = progress_of image in
      let l = entry_is step (Called caller call reply) is in
      let wait = waiting world p at reply again in
      let called : call ≡ next_call world p at = asks_next world valid rows running W st image job bag site d bag' holds step mine wants absent unheld here call ((l.of).1).0 ((l.of).1).1 in
      let same : Called caller call reply ≡ Called p (Waitpid wait.sel wait.stopped wait.continued) Again =
      ap (λ c. Called c call reply) (l.of).0 ∙ ap (λ c. Called p c reply) (called ∙ wait.call) ∙ ap (λ y. Called p (Waitpid wait.sel wait.stopped wait.continued) y) wait.again in
      subst (λ e. Rests world (history ++ e ∷ []) image.pid) (sym same)
      (at_rest wait.sel wait.stopped wait.continued (subst (λ e. d.entry ≡ Some e) same is) wait.call wait.stays (subst (λ y. stands_again world at y ≡ true) wait.again again))
    where
      at_rest : (sel : ℤ) (stopped continued : Bool) → d.entry ≡ Some (Called image.pid (Waitpid sel stopped continued) Again) → next_call world image.pid (progress_of image) ≡ Waitpid sel stopped continued → moved_on world (progress_of image) Again ≡ progress_of image →
          stands_again world (progress_of image) Again ≡ true → Rests world (history ++ Called image.pid (Waitpid sel stopped continued) Again ∷ []) image.pid
      at_rest sel stopped continued is call stays waits r' later =
          let p = image.pid in
          let at = progress_of image in
          let e = Called p (Waitpid sel stopped continued) Again in
          let longer = history ++ e ∷ [] in
          let l = entry_is step e is in
          let a = actor rows e l.legal in
          let allowed = call_allowed rows a.row (Waitpid sel stopped continued) Again a.legal in
          let unchanged : after rows e ≡ rows = after_is rows e a.row a.there in
          let now_is : after_all world longer ≡ rows = table_next (Some e) ∙ unchanged in
          let same : a.row ≡ r' = some_same a.row r' (sym a.there ∙ ap (λ t. row_of t p) (sym now_is) ∙ later) in
          let named : (a.row).pid ≡ p = row_pid rows p a.row a.there in
          let mine_far : running p.0 ≡ Some at = (me world valid rows running W st image job bag site d bag' holds step mine wants absent unheld here).progress in
          subst (λ (r : Row). StaysStopped r ⊎ SleepsOn world longer r) same (inr (record {
            free = allowed.0;
            progress = at;
            runs = ap (λ (u : Pid). after_entries world (first_running world) longer u.0) named ∙ ap (λ f. f p.0) (after_entries-push world (first_running world) history e)
                ∙ ap (λ f. after_entry world f e p.0) far ∙ progress_own world running e at mine_far (no_own_fork world valid rows running W st image job bag site d bag' holds step mine wants absent unheld here e is) ∙ ap Some stays;
            waits = waits;
            asked = subst (λ u. last_call longer u ≡ Some (Called u (next_call world u at) Again)) (sym named)
                (last-push history e p ∙ last_own p (last_call history p) (Waitpid sel stopped continued) Again ∙ ap (λ c. Some (Called p c Again)) (sym call));
            still = subst (λ u. allows (after_all world longer) a.row (next_call world u at) Again ≡ true) (sym named)
                (subst (λ t. allows t a.row (next_call world p at) Again ≡ true) (sym now_is) (subst (λ c. allows rows a.row c Again ≡ true) (sym call) allowed.1));
          }))

  pub caller_rests : IsResting (image_after world image d.own d.phase d.entry).phase → Rests world (with_entry history d.entry) image.pid
  caller_rests resting = go d.entry refl resting
    where
      go : (o : Option Entry) → d.entry ≡ o → IsResting (image_after world image d.own d.phase o).phase → Rests world (with_entry history o) image.pid
      go None is r = subst (λ o. Rests world (with_entry history o) image.pid) is (stopped_rests (only_stopped d.phase r step.awake))
      go (Some (Happened q event)) is r = subst (λ o. Rests world (with_entry history o) image.pid) is (stopped_rests (only_stopped d.phase r step.awake))
      go (Some (Called caller call reply)) is r = by (phase_case (stands_again world (progress_of image) reply) d.phase r step.awake)
        where
          by : (d.phase ≡ phases.Stopped) ⊎ (stands_again world (progress_of image) reply ≡ true) → Rests world (history ++ Called caller call reply ∷ []) image.pid
          by (inl stopped) = subst (λ o. Rests world (with_entry history o) image.pid) is (stopped_rests stopped)
          by (inr again) = asleep_rests caller call reply is again
