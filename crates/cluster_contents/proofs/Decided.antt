-- a decision keeps what stands of the contents
use Rattle.std.proofs.Common.{◌≡◌, ◌≢◌, ◌==◌, ◌⊎◌, inl, inr, ◌<◌, ℕ, Bool, true, false, cond, List, [], ◌∷◌, length, refl, sym, ap, ◌∙◌, subst, Option, None, Some}
use Rattle.std.specs.Prelude.{unwrap_or, is_some}
use Rattle.std.specs.Option.{option_map}
use Rattle.std.proofs.lemmas.Bool.{eqb-true, eqb-false, eq-eqb, ne_eqb}
use Rattle.unix_names.specs.declared.Pid.{Pid}
use Rattle.unix_names.specs.declared.NodeId.{NodeId}
use Rattle.unix_names.specs.declared.Name.{Name}
use Rattle.unix_names.specs.declared.Name.TheVariants as name
use Rattle.unix_names.specs.States.{is_living}
use Rattle.unix_calls.specs.declared.Call.{Call}
use Rattle.unix_calls.specs.declared.Call.TheVariants.{Fork}
use Rattle.unix_calls.specs.declared.Reply.TheVariants.{Number}
use Rattle.unix_calls.specs.declared.Entry.{Entry}
use Rattle.unix_calls.specs.declared.Entry.TheVariants.{Called, Happened}
use Rattle.unix_calls.specs.declared.Job.{Job}
use Rattle.unix_calls.specs.declared.Job.TheVariants.{Ask, Look, Push}
use Rattle.unix_calls.specs.declared.Phase.{Phase}
use Rattle.unix_calls.specs.declared.Phase.TheVariants as phases
use Rattle.unix_calls.specs.declared.World.{World}
use Rattle.unix_calls.specs.Valid.{IsValid}
use Rattle.list_laws.proofs.Filters.{some_same}
use Rattle.list_laws.proofs.Finding.{same_number}
use Rattle.vproc_record.specs.declared.Vproc.{Vproc}
use Rattle.group_record.specs.declared.Group.{Group}
use Rattle.proc_image.specs.declared.image.Image.{Image}
use Rattle.proc_image.specs.Scripts.{Progress, next_call, stands_again}
use Rattle.proc_image.specs.Follows.{Running, after_entry, AsksNext, IsInOrder}
use Rattle.proc_image.specs.Images.{progress_of, child_image, next_node, unless_stopped}
use Rattle.proc_image.proofs.Fits.{IsFit-moved}
use Rattle.record_bag.specs.declared.Held.{Held}
use Rattle.record_bag.specs.declared.Held.TheVariants as held
use Rattle.record_bag.specs.declared.Bag.{Bag}
use Rattle.record_bag.specs.declared.vector.Site.{Site}
use Rattle.record_bag.specs.declared.vector.Decided.{Decided}
use Rattle.record_bag.specs.Bags.{is_held, held_at}
use Rattle.process_table.specs.declared.Row.{Row}
use Rattle.process_table.specs.Rows.{row_of, is_stopped}
use Rattle.kernel_model.specs.Step.{process_of, after}
use Rattle.kernel_rules.specs.Fork.{newborn}
use Rattle.kernel_model.specs.Sound.{IsSound}
use Rattle.kernel_laws.specs.Effects.{IsForkOf}
use Rattle.kernel_laws.proofs.Rows.{number}
use Rattle.kernel_laws.proofs.Forms.{ForksAs}
use Rattle.kernel_laws.proofs.Coming.{only_forks_add}
use Rattle.unix_calls.specs.declared.Call.TheVariants as calls
use Rattle.unix_calls.specs.declared.Event.TheVariants as events
use Rattle.unix_names.specs.declared.Signal.{Signal}
use Rattle.signal_state.specs.Signals.{Signals}
use Rattle.signal_state.specs.Sig.{generated, generated_all, child}
use Rattle.sig_stream.specs.Streams.{tail}
use Rattle.kernel_laws.proofs.Legal.{after_is}
use Rattle.kernel_laws.proofs.Steps.{step_keeps}
use Rattle.history_laws.specs.Living.{IsOver}
use Rattle.history_laws.proofs.Lives.{KeepsLife, keeps_life}
use Rattle.list_laws.proofs.Middles.{at-append_same}
use Rattle.history_laws.proofs.Names.{forks}
use Rattle.history_laws.proofs.Progress.{IsNoForkOf, moved_by, progress_own, progress_kept, progress_child}
use Rattle.node_state.specs.Phases.{asleep_if, phase_after, image_by, image_after, child_of}
use Rattle.cluster_contents.specs.Placement.{View, view, Contents, JobFits}
use Rattle.decide_law.specs.Law.{is_stopped_phase, IsNoBirth, BirthIs, IsBorn, PhaseIs, IsOwn, next, IsStep}
use Rattle.decide_law.specs.Places.{place_after}
use Rattle.decide_law.specs.Agrees.{vproc_at, VprocAgrees, RecordAgrees}
use Rattle.decide_law.proofs.ByName.{vproc_found, IsEntryOf, held_same_names, entry_is}
use Rattle.cluster_contents.proofs.Pendings.{pending_kept}
use Rattle.cluster_contents.specs.Standing.{ArePending, born_at, IsProcess, ProcessIs, Standing, proc_with, view_unless_gone, proc_child, contents_after}
use Rattle.cluster_contents.proofs.Signals.{vproc_present, group_present, vproc_is, HeldCase, held_case, held_none, process_is, what_held, what_kept, agrees_after, other_owns, own_owns, child_owns}

-- how far each process is after what was decided
abbrev pub running_if : World → Running → Option Entry → Running
running_if world running None = running
running_if world running (Some e) = after_entry world running e

pub fork_form : (e : Entry) (n : ℕ) → ForksAs e n → (q : Pid) × (e ≡ Called q Fork (Number n))
fork_form (Called caller Fork (Number m)) n is = (caller, ap (λ k. Called caller Fork (Number k)) is)
fork_form (Called caller Fork _) n is = absurd is
fork_form (Called caller _ reply) n is = absurd is
fork_form (Happened q event) n is = absurd is

pub forks_as : (e : Entry) (q : Pid) → IsForkOf q e → ForksAs e q.0
forks_as (Called p Fork (Number n)) q is = sym is
forks_as (Called p Fork _) q is = absurd is
forks_as (Called p _ reply) q is = absurd is
forks_as (Happened p event) q is = absurd is

-- a process whose row lives on
process_on : (world : World) (before now : Option Row) (far far' : Option Progress) (x : Option View) → KeepsLife before now → far' ≡ far → ProcessIs world before far x → ProcessIs world now far' x
process_on world before now far far' None keeps same over = keeps.over over
process_on world before now far far' (Some x) keeps same is =
    let on = keeps.alive is.process is.there is.lives in
    record {
      process = on.0;
      there = on.1;
      lives = ap is_living on.2 ∙ is.lives;
      progress = same ∙ is.progress;
      stopped = is.stopped ∙ sym (ap is_stopped on.2);
      script = is.script;
      vars = is.vars;
    }

asleep : (t : Bool) (ph : Phase) (row : Option Row) → PhaseIs ph row → PhaseIs (asleep_if t ph) row
asleep true phases.Ready row is = is
asleep true phases.Asleep row is = is
asleep true phases.Stopped row is = is
asleep true phases.Gone row is = is
asleep false ph row is = is

over_of : (row : Option Row) → PhaseIs phases.Gone row → IsOver row
over_of None is = tt
over_of (Some r) is = is r refl

-- what is generated for a process is not its child's
child_blind : (x : Signals) (ss : List Signal) → child (generated_all x ss) ≡ child x
unfolding generated
child_blind x [] = refl
child_blind x (s ∷ ss) = child_blind (generated x s) ss

none_row : (rows : List Row) (o : Option Row) → VprocAgrees rows None o → o ≡ None
none_row rows None a = refl
none_row rows (Some r) a = absurd a

some_row : (rows : List Row) (v : Vproc) (o : Option Row) → VprocAgrees rows (Some v) o → (r : Row) × (o ≡ Some r)
some_row rows v None a = absurd a
some_row rows v (Some r) a = (r, refl)

-- what a phase leaves of an image
leaves : (world : World) (ph : Phase) (i : Image) (row : Option Row) (far : Option Progress) → PhaseIs ph row → far ≡ Some (progress_of i) → (progress_of i).script < length world.scripts → length (progress_of i).vars ≡ world.vars →
    ProcessIs world row far (view_unless_gone ph (record i { phase = ph }))
leaves world phases.Gone i row far is at script vars = over_of row is
leaves world phases.Ready i row far is at script vars = record { process = is.0; there = is.1; lives = is.2; progress = at; stopped = is.3; script = script; vars = vars }
leaves world phases.Asleep i row far is at script vars = record { process = is.0; there = is.1; lives = is.2; progress = at; stopped = is.3; script = script; vars = vars }
leaves world phases.Stopped i row far is at script vars = record { process = is.0; there = is.1; lives = is.2; progress = at; stopped = is.3; script = script; vars = vars }

pub gone_view : (ph : Phase) (i : Image) (x : View) → view_unless_gone ph i ≡ Some x → x ≡ view i
gone_view phases.Gone i x e = cc
gone_view phases.Ready i x e = cc
gone_view phases.Asleep i x e = cc
gone_view phases.Stopped i x e = cc

lives_row : (world : World) (row : Option Row) (far : Option Progress) (x : View) (o : Option View) (r : Row) → o ≡ Some x → ProcessIs world row far o → row ≡ Some r → is_living r.life ≡ true
lives_row world row far x o r e is there =
    let p = subst (ProcessIs world row far) e is in
    ap (λ c. is_living c.life) (some_same r p.process (sym there ∙ p.there)) ∙ p.lives

module _ (world : World) (valid : IsValid world) (rows : List Row) (running : Running) (W : Contents) (st : Standing world rows running W) (image : Image) (job : Job) (bag : Bag) (site : Site) (d : Decided) (bag' : Bag)
    (holds : (n : Name) (h : Held) → held_at bag n ≡ Some h → W.what n ≡ h) (step : IsStep rows (next rows d.entry) image.pid job site bag d bag')
    (mine : W.proc image.pid ≡ Some (view image)) (wants : JobFits world image job) (absent : row_of rows site.fresh ≡ None) (unheld : is_held bag (name.V site.fresh) ≡ false) (here : site.node.0 < world.nodes) where
  pub me : IsProcess world (row_of rows image.pid) (running image.pid.0) (view image)
  me = subst (ProcessIs world (row_of rows image.pid) (running image.pid.0)) mine (st.procs image.pid)

  -- a call is the next one of the script
  pub asks_next : (call : Call) (at : Option NodeId) → job ≡ Ask call at → call ≡ next_call world image.pid (progress_of image)
  asks_next call at e = go image.phase wants
    where
      go : (ph : Phase) → (job ≡ unless_stopped ph (Ask (next_call world image.pid (progress_of image)) (next_node world (progress_of image)))) ⊎ ((k : NodeId) × (job ≡ Push k) × (is_stopped_phase ph ≡ false) × (k.0 < world.nodes)) → call ≡ next_call world image.pid (progress_of image)
      go phases.Stopped (inl f) = let x : Ask call at ≡ Look = sym e ∙ f in cc
      go phases.Ready (inl f) = let x : Ask call at ≡ Ask (next_call world image.pid (progress_of image)) (next_node world (progress_of image)) = sym e ∙ f in cc
      go phases.Asleep (inl f) = let x : Ask call at ≡ Ask (next_call world image.pid (progress_of image)) (next_node world (progress_of image)) = sym e ∙ f in cc
      go phases.Gone (inl f) = let x : Ask call at ≡ Ask (next_call world image.pid (progress_of image)) (next_node world (progress_of image)) = sym e ∙ f in cc
      go ph (inr f) = let x : Ask call at ≡ Push f.0 = sym e ∙ f.1 in cc

  -- the entry follows the script
  pub in_order : (e : Entry) → IsEntryOf image.pid job e → IsInOrder world running e
  in_order (Called caller call reply) of =
      subst (λ o. AsksNext world caller call o) (sym (ap (λ (q : Pid). running q.0) of.0 ∙ me.progress)) (asks_next call (of.1).0 (of.1).1 ∙ ap (λ q. next_call world q (progress_of image)) (sym of.0))
  in_order (Happened q event) of = tt

  apart_fresh : image.pid.0 ≢ site.fresh.0
  apart_fresh e =
      let same : image.pid ≡ site.fresh = ap (λ (k : ℕ). record { 0 = k }) e in
      let f : None ≡ Some me.process = sym absent ∙ ap (row_of rows) (sym same) ∙ me.there in
      cc

  pub fork_number : (b : Option Vproc) → BirthIs (next rows d.entry) image.pid site d.entry bag' b → (e : Entry) (n : ℕ) → d.entry ≡ Some e → ForksAs e n → (n ≡ site.fresh.0) × ((v : Vproc) × (b ≡ Some v))
  fork_number None none e n is f = let form = fork_form e n f in absurd (subst IsNoBirth (is ∙ ap Some form.1) none)
  fork_number (Some v) born e n is f =
      let form = fork_form e n f in
      let same : Some (Called image.pid Fork (Number site.fresh.0)) ≡ Some (Called form.0 Fork (Number n)) = sym born.entry_is ∙ is ∙ ap Some form.1 in
      (cc, (v, refl))

  pub no_own_fork : (e : Entry) → d.entry ≡ Some e → IsNoForkOf e image.pid.0
  no_own_fork e is n f = ne_eqb image.pid.0 n (λ s. apart_fresh (s ∙ (fork_number d.born step.birth e n is f).0))

  abbrev pub image_now : Image
  image_now = image_after world image d.own d.phase d.entry

  own_process : (o : Option Entry) → d.entry ≡ o → ProcessIs world (row_of (next rows o) image.pid) (running_if world running o image.pid.0) (view_unless_gone (image_after world image d.own d.phase o).phase (image_after world image d.own d.phase o))
  own_process None is = leaves world d.phase (record image { own = d.own }) (row_of rows image.pid) (running image.pid.0) (subst (λ o. PhaseIs d.phase (row_of (next rows o) image.pid)) is step.phase) me.progress me.script me.vars
  own_process (Some e) is =
      leaves world (phase_after world image d.phase e) (record (image_by world image e) { own = d.own }) (row_of (after rows e) image.pid) (after_entry world running e image.pid.0)
      (phase_on e (subst (λ o. PhaseIs d.phase (row_of (next rows o) image.pid)) is step.phase)) (far e (entry_is step e is).of (no_own_fork e is)) (fits e).0 (fits e).1
    where
      phase_on : (e : Entry) → PhaseIs d.phase (row_of (after rows e) image.pid) → PhaseIs (phase_after world image d.phase e) (row_of (after rows e) image.pid)
      phase_on (Called caller call reply) is = asleep (stands_again world (progress_of image) reply) d.phase (row_of (after rows (Called caller call reply)) image.pid) is
      phase_on (Happened q event) is = is

      moved_is : (e : Entry) → moved_by world (progress_of image) e ≡ progress_of (image_by world image e)
      moved_is (Called caller call reply) = refl
      moved_is (Happened q event) = refl

      far : (e : Entry) → IsEntryOf image.pid job e → IsNoForkOf e image.pid.0 → after_entry world running e image.pid.0 ≡ Some (progress_of (image_by world image e))
      far e of none =
          let same = process_is image.pid job e of in
          ap (λ (q : Pid). after_entry world running e q.0) (sym same)
          ∙ progress_own world running e (progress_of image) (ap (λ (q : Pid). running q.0) same ∙ me.progress) (subst (λ (q : Pid). IsNoForkOf e q.0) (sym same) none) ∙ ap Some (moved_is e)

      fits : (e : Entry) → ((progress_of (image_by world image e)).script < length world.scripts) × (length (progress_of (image_by world image e)).vars ≡ world.vars)
      fits (Called caller call reply) = let f = IsFit-moved world image reply valid (record { script = me.script; vars = me.vars }) in (f.script, f.vars)
      fits (Happened q event) = (me.script, me.vars)

  other_process : (q : Pid) → q.0 ≢ image.pid.0 → ((e : Entry) (n : ℕ) → d.entry ≡ Some e → ForksAs e n → q.0 ≢ n) → ProcessIs world (row_of (next rows d.entry) q) (running_if world running d.entry q.0) (W.proc q)
  other_process q other unforked = go d.entry refl
    where
      go : (o : Option Entry) → d.entry ≡ o → ProcessIs world (row_of (next rows o) q) (running_if world running o q.0) (W.proc q)
      go None is = st.procs q
      go (Some e) is =
          let l = entry_is step e is in
          let apart : (q.0 == (process_of e).0) ≡ false = ne_eqb q.0 (process_of e).0 (λ s. other (s ∙ ap (λ (u : Pid). u.0) (process_is image.pid job e l.of))) in
          process_on world (row_of rows q) (row_of (after rows e) q) (running q.0) (after_entry world running e q.0) (W.proc q)
          (keeps_life rows e st.sound l.legal q apart (λ f. unforked e q.0 is (forks_as e q f) refl)) (progress_kept world running e q.0 apart (λ n f. ne_eqb q.0 n (unforked e n is f))) (st.procs q)

  -- ---- the child
  pub record Forked (v : Vproc) : Type 0 where
    pub born : IsBorn (next rows d.entry) image.pid site d.entry bag' v
    pub signals : (r : Row) → row_of (next rows d.entry) v.pid ≡ Some r → r.sig ≡ child image.own.sig
    pub child : Progress
    pub is : child_of world image (Some v) ≡ Some (child_image image v.pid child)
    pub maker : child.maker ≡ image.pid
    pub vars : child.vars ≡ (progress_of image).vars
    pub process : ProcessIs world (row_of (next rows d.entry) v.pid) (running_if world running d.entry v.pid.0) (Some (view (child_image image v.pid child)))

  row_born : row_of (after rows (Called image.pid Fork (Number site.fresh.0))) site.fresh ≡ Some (newborn me.process site.fresh.0)
  row_born = ap (λ t. row_of t site.fresh) (after_is rows (Called image.pid Fork (Number site.fresh.0)) me.process me.there) ∙ at-append_same number site.fresh.0 rows (newborn me.process site.fresh.0) (same_number site.fresh.0) absent

  -- the caller's row has its image's signals, with what was generated since
  own_child : child me.process.sig ≡ child image.own.sig
  own_child =
      let of = vproc_present rows image.pid me.process (W.what (name.V image.pid)) me.there (st.agrees (name.V image.pid)) in
      let g = group_present rows image.pid me.process of.0.group (W.what (name.G of.0.group)) me.there of.2.group (st.agrees (name.G of.0.group)) in
      let o = st.owns image.pid (view image) me.process of.0 g.0 mine me.there of.1 g.1 in
      ap child o.sig ∙ child_blind image.own.sig (tail image.own.taken of.0 g.0)

  pub forked : (v : Vproc) → d.born ≡ Some v → Forked v
  forked v is =
      let born : IsBorn (next rows d.entry) image.pid site d.entry bag' v = subst (λ b. BirthIs (next rows d.entry) image.pid site d.entry bag' b) is step.birth in
      let l = entry_is step (Called image.pid Fork (Number site.fresh.0)) born.entry_is in
      let child = forks world image.pid (progress_of image) valid me.script (sym (asks_next Fork ((l.of).1).0 ((l.of).1).1)) in
      record {
        born = born;
        child = child.child;
        is = ap (option_map (child_image image v.pid)) child.is;
        maker = child.maker;
        vars = child.vars;
        signals = λ r there.
            let same : r ≡ newborn me.process site.fresh.0 = some_same _ _ (sym there ∙ ap (λ (q : Pid). row_of (next rows d.entry) q) born.pid ∙ ap (λ o. row_of (next rows o) site.fresh) born.entry_is ∙ row_born) in
            ap (λ (c : Row). c.sig) same ∙ own_child;
        process = subst (λ (q : Pid). ProcessIs world (row_of (next rows d.entry) q) (running_if world running d.entry q.0) (Some (view (child_image image q child.child)))) (sym born.pid)
            (subst (λ o. ProcessIs world (row_of (next rows o) site.fresh) (running_if world running o site.fresh.0) (Some (view (child_image image site.fresh child.child)))) (sym born.entry_is)
            (record {
              process = newborn me.process site.fresh.0;
              there = row_born;
              lives = refl;
              progress = progress_child world running image.pid (progress_of image) site.fresh.0 me.progress ∙ child.is;
              stopped = refl;
              script = child.script;
              vars = ap (λ l. length l) child.vars ∙ me.vars;
            }));
      }

  abbrev pub after_it : Contents
  after_it = contents_after W image.pid image_now site.node.0 d.born (child_of world image d.born) bag'

  -- who each process is then
  pub data Who (q : Pid) : Type 0 where
    TheChild : (v : Vproc) → d.born ≡ Some v → q ≡ v.pid → Forked v → Who q
    Itself : q ≡ image.pid → after_it.proc q ≡ view_unless_gone image_now.phase image_now → Who q
    Another : q.0 ≢ image.pid.0 → born_at d.born (name.V q) ≡ None → ((e : Entry) (n : ℕ) → d.entry ≡ Some e → ForksAs e n → q.0 ≢ n) → after_it.proc q ≡ W.proc q → Who q

  pub who : (q : Pid) → Who q
  who q = go d.born refl
    where
      itself_or : (b : Option Vproc) → d.born ≡ b → (child : Option Image) → child_of world image d.born ≡ child → (proc_child (proc_with W.proc image.pid (view_unless_gone image_now.phase image_now)) child q ≡ proc_with W.proc image.pid (view_unless_gone image_now.phase image_now) q) →
          born_at d.born (name.V q) ≡ None → ((e : Entry) (n : ℕ) → d.entry ≡ Some e → ForksAs e n → q.0 ≢ n) → (t : Bool) → (q.0 == image.pid.0) ≡ t → Who q
      itself_or b is child e skip none unforked true t =
          Itself (ap (λ (k : ℕ). record { 0 = k }) (eqb-true _ _ t)) (ap (λ c. proc_child (proc_with W.proc image.pid (view_unless_gone image_now.phase image_now)) c q) e ∙ skip ∙ ap (λ b. cond b (view_unless_gone image_now.phase image_now) (W.proc q)) t)
      itself_or b is child e skip none unforked false t =
          Another (eqb-false _ _ t) none unforked (ap (λ c. proc_child (proc_with W.proc image.pid (view_unless_gone image_now.phase image_now)) c q) e ∙ skip ∙ ap (λ b. cond b (view_unless_gone image_now.phase image_now) (W.proc q)) t)

      born : (v : Vproc) → d.born ≡ Some v → Forked v → (t : Bool) → (q.0 == v.pid.0) ≡ t → Who q
      born v is f true t = TheChild v is (ap (λ (k : ℕ). record { 0 = k }) (eqb-true _ _ t)) f
      born v is f false t =
          itself_or (Some v) is (Some (child_image image v.pid f.child)) (ap (child_of world image) is ∙ f.is)
          (ap (λ b. cond b (Some (view (child_image image v.pid f.child))) (proc_with W.proc image.pid (view_unless_gone image_now.phase image_now) q)) t)
          (ap (λ b. born_at b (name.V q)) is ∙ ap (λ b. cond b (Some (held.V (Some v))) None) t)
          (λ e n at forks s. eqb-false _ _ t (s ∙ (fork_number d.born step.birth e n at forks).0 ∙ ap (λ (u : Pid). u.0) (sym f.born.pid))) (q.0 == image.pid.0) refl

      go : (b : Option Vproc) → d.born ≡ b → Who q
      go None is =
          itself_or None is None (ap (child_of world image) is) refl (ap (λ b. born_at b (name.V q)) is)
          (λ e n at forks s. let w = (fork_number d.born step.birth e n at forks).1 in let f : None ≡ Some w.0 = sym is ∙ w.1 in cc) (q.0 == image.pid.0) refl
      go (Some v) is = born v is (forked v is) (q.0 == v.pid.0) refl

  pub procs_after : (q : Pid) → ProcessIs world (row_of (next rows d.entry) q) (running_if world running d.entry q.0) (after_it.proc q)
  procs_after q = go (who q)
    where
      go : Who q → ProcessIs world (row_of (next rows d.entry) q) (running_if world running d.entry q.0) (after_it.proc q)
      go (TheChild v is same f) =
          subst (λ (u : Pid). ProcessIs world (row_of (next rows d.entry) u) (running_if world running d.entry u.0) (after_it.proc u)) (sym same)
          (subst (ProcessIs world (row_of (next rows d.entry) v.pid) (running_if world running d.entry v.pid.0))
          (sym (ap (λ c. proc_child (proc_with W.proc image.pid (view_unless_gone image_now.phase image_now)) c v.pid) (ap (child_of world image) is ∙ f.is) ∙ ap (λ b. cond b (Some (view (child_image image v.pid f.child))) (proc_with W.proc image.pid (view_unless_gone image_now.phase image_now) v.pid)) (eq-eqb v.pid.0 v.pid.0 refl)))
          f.process)
      go (Itself same e) =
          subst (ProcessIs world (row_of (next rows d.entry) q) (running_if world running d.entry q.0)) (sym e)
          (subst (λ (u : Pid). ProcessIs world (row_of (next rows d.entry) u) (running_if world running d.entry u.0) (view_unless_gone image_now.phase image_now)) (sym same) (own_process d.entry refl))
      go (Another ne none unforked e) = subst (ProcessIs world (row_of (next rows d.entry) q) (running_if world running d.entry q.0)) (sym e) (other_process q ne unforked)

  owns_after : (q : Pid) (x : View) (r : Row) (v : Vproc) (g : Group) → after_it.proc q ≡ Some x → row_of (next rows d.entry) q ≡ Some r → after_it.what (name.V q) ≡ held.V (Some v) → after_it.what (name.G v.group) ≡ held.G (Some g) → IsOwn x.own v g r
  owns_after q x r v g is there hv hg = go (who q)
    where
      living : is_living r.life ≡ true
      living = lives_row world (row_of (next rows d.entry) q) (running_if world running d.entry q.0) x (after_it.proc q) r is (procs_after q) there

      go : Who q → IsOwn x.own v g r
      go (TheChild w born same f) =
          let at_child : after_it.proc q ≡ Some (view (child_image image w.pid f.child)) =
          ap after_it.proc same ∙ ap (λ c. proc_child (proc_with W.proc image.pid (view_unless_gone image_now.phase image_now)) c w.pid) (ap (child_of world image) born ∙ f.is) ∙ ap (λ b. cond b (Some (view (child_image image w.pid f.child))) (proc_with W.proc image.pid (view_unless_gone image_now.phase image_now) w.pid)) (eq-eqb w.pid.0 w.pid.0 refl) in
          let val : view (child_image image w.pid f.child) ≡ x = some_same _ _ (sym at_child ∙ is) in
          subst (λ y. IsOwn y.own v g r) val
          (child_owns world rows running W st image.pid job image.own bag site d bag' holds step w born (held_none bag' (name.V w.pid) (held_same_names step.names (name.V w.pid) ∙ ap (λ u. is_held bag (name.V u)) f.born.pid ∙ unheld)) r v g
          (ap (row_of (next rows d.entry)) (sym same) ∙ there) (f.signals r (ap (row_of (next rows d.entry)) (sym same) ∙ there)) (ap (λ u. after_it.what (name.V u)) (sym same) ∙ hv) hg)
      go (Itself same e) =
          let val : x ≡ view image_now = gone_view image_now.phase image_now x (sym e ∙ is) in
          subst (λ y. IsOwn y.own v g r) (sym val)
          (subst (λ o. IsOwn o v g r) (own_is d.entry)
          (own_owns world rows running W st image.pid job image.own bag site d bag' holds step r v g (ap (row_of (next rows d.entry)) (sym same) ∙ there) living (ap (λ u. after_it.what (name.V u)) (sym same) ∙ hv) hg))
        where
          own_is : (o : Option Entry) → d.own ≡ (image_after world image d.own d.phase o).own
          own_is None = refl
          own_is (Some e) = refl
      go (Another ne none unforked e) =
          let was : W.proc q ≡ Some x = sym e ∙ is in
          let p = subst (ProcessIs world (row_of rows q) (running q.0)) was (st.procs q) in
          other_owns world rows running W st image.pid job image.own bag site d bag' holds step q x p.process r ne none was p.there there living v g hv hg

  -- a record comes under a name that is held in no other way than by a birth, whose name is not held
  none_comes : (q : Pid) (v : Vproc) → vproc_at bag q ≡ Some None → vproc_at bag' q ≡ Some (Some v) → ⊥
  none_comes q v before then_at = go d.entry refl
    where
      was : row_of rows q ≡ None
      was = none_row rows (row_of rows q) (subst (RecordAgrees rows (name.V q)) (holds (name.V q) (held.V None) (ap (option_map held.V) before)) (st.agrees (name.V q)))

      comes : (r : Row) × (row_of (next rows d.entry) q ≡ Some r)
      comes = some_row (next rows d.entry) v (row_of (next rows d.entry) q) (step.agrees.vprocs q (Some v) then_at)

      go : (o : Option Entry) → d.entry ≡ o → ⊥
      go None is = let f : None ≡ Some comes.0 = sym was ∙ ap (λ o. row_of (next rows o) q) (sym is) ∙ comes.1 in cc
      go (Some e) is =
          let forks = forks_as e q (only_forks_add rows e q comes.0 st.sound (entry_is step e is).legal was (ap (λ o. row_of (next rows o) q) (sym is) ∙ comes.1)) in
          let same : q ≡ site.fresh = ap (λ (k : ℕ). record { 0 = k }) (fork_number d.born step.birth e q.0 is forks).0 in
          let f : true ≡ false = sym (ap is_some before) ∙ ap (λ u. is_held bag (name.V u)) same ∙ unheld in
          cc

  -- a migration and a push take the caller to the site
  within : (o : Option Entry) (was : NodeId) → was.0 < world.nodes → (place_after o was site.node).0 < world.nodes
  within None was h = h
  within (Some (Called p calls.Migrate reply)) was h = here
  within (Some (Called p _ reply)) was h = h
  within (Some (Happened p events.Moved)) was h = here
  within (Some (Happened p _)) was h = h

  held_place : (q : Pid) (v : Vproc) → vproc_at bag' q ≡ Some (Some v) → v.loc.0 < world.nodes
  held_place q v then_at = go (vproc_at bag q) refl
    where
      by : (w : Vproc) → vproc_at bag q ≡ Some (Some w) → w.loc.0 < world.nodes → (t : Bool) → (q.0 == image.pid.0) ≡ t → v.loc.0 < world.nodes
      by w e old true t =
          let same : q ≡ image.pid = ap (λ (k : ℕ). record { 0 = k }) (eqb-true _ _ t) in
          let moved : v.loc ≡ place_after d.entry w.loc site.node = step.place w v (ap (vproc_at bag) (sym same) ∙ e) (ap (vproc_at bag') (sym same) ∙ then_at) in
          subst (λ (k : NodeId). k.0 < world.nodes) (sym moved) (within d.entry w.loc old)
      by w e old false t = subst (λ (k : NodeId). k.0 < world.nodes) (sym (step.places q w v (eqb-false _ _ t) e then_at)) old

      go : (o : Option (Option Vproc)) → vproc_at bag q ≡ o → v.loc.0 < world.nodes
      go None e = let f : true ≡ false = sym (ap is_some then_at) ∙ held_same_names step.names (name.V q) ∙ ap is_some e in cc
      go (Some None) e = absurd (none_comes q v e then_at)
      go (Some (Some w)) e = by w e (st.places q w (holds (name.V q) (held.V (Some w)) (ap (option_map held.V) e))) (q.0 == image.pid.0) refl

  places_after : (q : Pid) (v : Vproc) → after_it.what (name.V q) ≡ held.V (Some v) → v.loc.0 < world.nodes
  places_after q v hv = go (held_case bag' (name.V q)) (born_at d.born (name.V q)) refl
    where
      go : HeldCase bag' (name.V q) → (o : Option Held) → born_at d.born (name.V q) ≡ o → v.loc.0 < world.nodes
      go (inl c) o e = held_place q v (vproc_found bag' q (Some v) (c.1 ∙ ap Some (sym (what_held world rows running W st image.pid job image.own bag site d bag' holds step (name.V q) c.0 c.1) ∙ hv)))
      go (inr c) None e = st.places q v (sym (what_kept world rows running W st image.pid job image.own bag site d bag' holds step (name.V q) (sym (held_same_names step.names (name.V q)) ∙ c.1) e) ∙ hv)
      go (inr c) (Some h) e = by_born d.born refl e
        where
          by_born : (b : Option Vproc) → d.born ≡ b → born_at b (name.V q) ≡ Some h → v.loc.0 < world.nodes
          by_born None is f = cc
          by_born (Some w) is f = at_pid (q.0 == w.pid.0) refl f
            where
              at_pid : (t : Bool) → (q.0 == w.pid.0) ≡ t → cond t (Some (held.V (Some w))) None ≡ Some h → v.loc.0 < world.nodes
              at_pid true t g =
                  let val : held.V (Some w) ≡ h = cc in
                  let there : after_it.what (name.V q) ≡ h = ap (λ o. unwrap_or o (unwrap_or (born_at d.born (name.V q)) (W.what (name.V q)))) c.0 ∙ ap (λ o. unwrap_or o (W.what (name.V q))) e in
                  let same : w ≡ v = vproc_is w v (val ∙ sym there ∙ hv) in
                  subst (λ u. u.loc.0 < world.nodes) same (subst (λ (k : NodeId). k.0 < world.nodes) (sym (forked w is).born.place) here)
              at_pid false t g = cc

  sound_after : (o : Option Entry) → d.entry ≡ o → IsSound (next rows o)
  sound_after None is = st.sound
  sound_after (Some e) is = step_keeps rows e st.sound (entry_is step e is).legal

  pending_after : (o : Option Entry) → d.entry ≡ o → ArePending (next rows o)
  pending_after None is = st.pending
  pending_after (Some e) is = pending_kept rows e st.sound (entry_is step e is).legal st.pending

  -- the contents stand after the decision
  pub standing_kept : Standing world (next rows d.entry) (running_if world running d.entry) after_it
  standing_kept = record {
    sound = sound_after d.entry refl;
    pending = pending_after d.entry refl;
    agrees = agrees_after world rows running W st image.pid job image.own bag site d bag' holds step;
    procs = procs_after;
    owns = owns_after;
    places = places_after;
  }
