-- a courier in its turn: its questions fit, and what follows from their answers
use Rattle.std.proofs.Common.{◌≡◌, ◌≢◌, ◌⊎◌, inl, inr, ◌<◌, ◌≤◌, ◌+◌, ◌*◌, ◌/◌, ◌==◌, nat_lt, ℕ, suc, Bool, true, false, cond, List, ◌++◌, length, refl, sym, ap, ◌∙◌, subst, arith, Option, None, Some, All}
use Rattle.std.proofs.lemmas.Bool.{eqb-true, eqb-false, ne_eqb, lt-ltb}
use Rattle.std.proofs.lemmas.Nat.{div-mul-add}
use Rattle.std.specs.Prelude.{IfSome}
use Rattle.record_bag.specs.Bags.{is_held, held_at, held_names}
use Rattle.cluster_moves.proofs.Returns.{more_below, carried_some, bag_given, take, join}
use Rattle.unix_names.specs.declared.Pid.{Pid}
use Rattle.unix_names.specs.declared.NodeId.{NodeId}
use Rattle.unix_names.specs.declared.Name.{Name}
use Rattle.unix_names.specs.declared.Name.TheVariants as name
use Rattle.unix_names.specs.Names.{home, pid_of}
use Rattle.unix_calls.specs.declared.Call.{Call}
use Rattle.unix_calls.specs.declared.Call.TheVariants.{Fork}
use Rattle.unix_calls.specs.declared.Reply.{Reply}
use Rattle.unix_calls.specs.declared.Reply.TheVariants.{Number}
use Rattle.unix_calls.specs.declared.Entry.{Entry}
use Rattle.unix_calls.specs.declared.Entry.TheVariants.{Called, Happened}
use Rattle.unix_calls.specs.declared.Job.TheVariants.{Ask as AskJob, Look, Push}
use Rattle.unix_calls.specs.declared.Phase.{Phase}
use Rattle.unix_calls.specs.declared.Phase.TheVariants as phases
use Rattle.unix_calls.specs.declared.World.{World}
use Rattle.unix_calls.specs.Valid.{IsValid, IsStatement}
use Rattle.unix_calls.specs.Calls.{EntryHasNames, IsEntry}
use Rattle.unix_calls.specs.declared.Statement.{Statement}
use Rattle.unix_calls.specs.declared.Statement.TheVariants as Statements
use Rattle.std.specs.Option.{option_map, option_map_or}
use Rattle.proc_image.specs.Scripts.{nobody, node_of, next_call, next_statement, forked}
use Rattle.proc_image.proofs.Fits.{next_statement-valid}
use Rattle.vproc_record.specs.declared.Vproc.{Vproc}
use Rattle.proc_image.specs.Follows.{Running, IsInOrder, first_running, after_entries}
use Rattle.proc_image.specs.Images.{next_node, progress_of, child_image}
use Rattle.record_bag.specs.declared.Held.{Held}
use Rattle.record_bag.specs.declared.Held.TheVariants as held
use Rattle.record_bag.specs.declared.Bag.{Bag}
use Rattle.record_bag.specs.declared.vector.Decided.{Decided}
use Rattle.record_bag.specs.declared.vector.Outcome.{Outcome}
use Rattle.record_bag.specs.declared.vector.Outcome.TheVariants.{Done, Need, Away}
use Rattle.record_table.specs.declared.slot.Slot.{Slot}
use Rattle.record_table.specs.declared.slot.Slot.TheVariants.{Home, Out}
use Rattle.record_table.specs.declared.slot.Line.{Line}
use Rattle.record_table.specs.Places.{joined}
use Rattle.record_table.specs.Slots.{slot_at}
use Rattle.courier_core.specs.declared.courier.Courier.{Courier}
use Rattle.courier_core.specs.declared.courier.Message.TheVariants as message
use Rattle.courier_core.specs.Wants.{lists, lacking}
use Rattle.courier_core.specs.Couriers.{asked as wanted_or, next_want, must_restart}
use Rattle.courier_core.proofs.Order.{IsLeast-least_of}
use Rattle.courier_core.proofs.Lists.{lists-lacking}
use Rattle.list_laws.proofs.Filters.{some_same}
use Rattle.process_table.specs.declared.Row.{Row}
use Rattle.process_table.specs.Rows.{row_of}
use Rattle.kernel_model.specs.declared.verdict.Verdict.TheVariants.{Legal}
use Rattle.kernel_model.specs.Step.{verdict, after}
use Rattle.kernel_laws.proofs.Rows.{row_pid}
use Rattle.kernel_laws.proofs.Forms.{ForksAs}
use Rattle.kernel_laws.proofs.Coming.{only_forks_add}
use Rattle.node_state.specs.declared.State.{State}
use Rattle.node_state.specs.Wires.{posted}
use Rattle.node_state.specs.Endings.{finished}
use Rattle.node_state.specs.Phases.{image_after, child_of}
use Rattle.node_core.specs.Advance.{Ask, is_stepped, fresh_number, site_of, asked, empty_bag, wanted_at, wanted, restarted, needed_least, needed, stepped_by, stepped}
use Rattle.node_core.specs.declared.step.Step.{Step}
use Rattle.node_core.specs.declared.step.Step.TheVariants.{Again, Over}
use Rattle.cluster_state.specs.Cluster.{Cluster}
use Rattle.cluster_contents.specs.Placement.{Where, Wire, InLine, In, Hand, AtHome, With, Nowhere, Sane, Token, Proc, Rec, Places, moved, View, view, Contents, carried_by, carried, JobFits, WaitsFor, CourierFits, IsUngiven, Known, CourierItem}
use Rattle.decide_law.specs.Law.{is_stopped_phase, Asks, next, IsStep, BirthIs}
use Rattle.decide_law.specs.Places.{JobGoes}
use Rattle.decide_law.specs.Agrees.{RecordAgrees}
use Rattle.decide_law.proofs.ByName.{agrees_by_name, IsEntryOf, entry_is as step_entry}
use Rattle.cluster_contents.specs.Numbers.{IsShort, RowsName, JobNames}
use Rattle.decide_law.specs.Needs.{IsNamed, AreTold}
use Rattle.decide_law.proofs.CallNames.{has_names}
use Rattle.decide_law.specs.Vector.{IsAskedFor, IsAnswer, IsVector}
use Rattle.cluster_contents.specs.Standing.{IsProcess, ProcessIs, Standing, ProgressNames, Knows, contents_after, serials_after}
use Rattle.cluster_moves.proofs.Things.{tok_cases, moved-same, moved-other}
use Rattle.cluster_moves.proofs.Store.{written}
use Rattle.cluster_moves.proofs.Moves.{carried_other, hand_out, hand_kept, lost_kept, sane_proc, sane_rec, bag_more, Bench, post_ride}
use Rattle.cluster_contents.proofs.Signals.{HeldCase, held_case}
use Rattle.cluster_contents.proofs.Decided.{running_if, TheChild, Itself, Another, forks_as, gone_view, asks_next, in_order, fork_number}
use Rattle.cluster_endings.proofs.Finish.{Absent, Ended, now, stands, someone, Someone, child_view, finished_keeps, present_after}
use Rattle.fork_laws.proofs.Lengths.{step_short}
use Rattle.courier_core.proofs.Keeping.{lists-either, all_added-from}
use Rattle.cluster_contents.proofs.Known.{job_given, moved_given, known_small, known_nobody, short_zero, short_one, short_nobody}
use Rattle.cluster_contents.proofs.Written.{legal_written}
use Rattle.kernel_model.specs.Legal.{after_all}
use Rattle.cluster_contents.specs.Histories.{with_entry}
use Rattle.cluster_watch.specs.Watched.{WatchesAt, Rests}
use Rattle.fork_laws.specs.Made.{made_if}
use Rattle.fork_laws.proofs.Made.{made_if-more}
use Rattle.cluster_watch.proofs.WatchMoves.{watch_post}
use Rattle.cluster_watch.proofs.WatchReturns.{bag_watch, take_watch, join_watch}
use Rattle.cluster_contents.proofs.NamesKept.{NamesKept}
use Rattle.cluster_endings.proofs.WatchFinish.{alive, finished_watch}
use Rattle.cluster_turns.proofs.Asked.{named_more, progress_more, names_held, waits_for, named_known, told_at, never_none}

-- a courier in its turn
module _ (world : World) (C : Cluster) (k : ℕ) where
  pub record InTurn (m : ℕ) (rows : List Row) (running : Running) (history : List Entry) (W : Contents) (L : Places) (s : State) (c : Courier) : Type 0 where
    pub bench : Bench world C k W L s
    pub hand : L (Proc c.image.pid) ≡ Hand
    pub fits : CourierFits world W L c
    pub standing : Standing world rows running W
    pub missing : Absent W L
    pub knows : Knows world m rows W L
    -- nothing else is in hand
    pub only : (u : Token) → L u ≡ Hand → u ≡ Proc c.image.pid
    pub present : (q : Pid) (x : View) → W.proc q ≡ Some x → L (Proc q) ≢ Nowhere
    pub sane : Sane L
    pub watch : WatchesAt world C k W (Rests world history) s

  -- between two turns
  pub record Between (m : ℕ) (rows : List Row) (running : Running) (history : List Entry) (W : Contents) (L : Places) (s : State) : Type 0 where
    pub bench : Bench world C k W L s
    pub standing : Standing world rows running W
    pub missing : Absent W L
    pub knows : Knows world m rows W L
    pub idle : (u : Token) → L u ≢ Hand
    pub present : (q : Pid) (x : View) → W.proc q ≡ Some x → L (Proc q) ≢ Nowhere
    pub sane : Sane L
    pub watch : WatchesAt world C k W (Rests world history) s

  -- the entry is legal, follows the script, and can stand in a history
  abbrev pub EntryIs : List Row → Running → Option Entry → Type 0
  EntryIs rows running None = Unit {0}
  EntryIs rows running (Some e) = (verdict rows e ≡ Legal) × IsInOrder world running e × IsEntry e

  pub record Outcome_is (m : ℕ) (rows : List Row) (running : Running) (history : List Entry) (serials : ℕ → ℕ) (entry : Option Entry) (s : State) : Type 0 where
    pub entry_is : EntryIs rows running entry
    pub contents : Contents
    pub elsewhere : (j : ℕ) → j ≢ k → contents.serials j ≡ serials j
    pub places : Places
    pub between : Between (made_if entry m) (next rows entry) (running_if world running entry) (with_entry history entry) contents places s

  abbrev pub StepIs : ℕ → List Row → Running → List Entry → Contents → State → Step → Type 0
  StepIs m rows running history W s (Again c) = (L : Places) × InTurn m rows running history W L s c
  StepIs m rows running history W s (Over entry) = Outcome_is m rows running history W.serials entry s

  module _ (valid : IsValid world) (ask : Ask) (vector : IsVector world.nodes ask) (inside : k < world.nodes) (names_kept : NamesKept)
      (m : ℕ) (room : m < 999999) (rows : List Row) (running : Running) (history : List Entry) (table_is : after_all world history ≡ rows) (far_is : after_entries world (first_running world) history ≡ running) (W : Contents) (L : Places) (s : State) (c : Courier) (t : InTurn m rows running history W L s c) where
    p : Pid
    p = c.image.pid

    pub me : IsProcess world (row_of rows c.image.pid) (running c.image.pid.0) (view c.image)
    me = subst (ProcessIs world (row_of rows c.image.pid) (running c.image.pid.0)) t.fits.image (t.standing.procs c.image.pid)

    -- ---- the fresh number
    serial_is : s.serial ≡ W.serials k
    serial_is = t.bench.serial

    small : s.serial < 999999
    small = let a = t.knows.few k in let b = serial_is in omega arith

    number_is : fresh_number s ≡ 1000000 * k + s.serial
    number_is = ap (λ i. 1000000 * i + s.serial) t.bench.id

    fresh_ungiven : IsUngiven world W.serials (fresh_number s)
    fresh_ungiven = record {
      node = k;
      serial = s.serial;
      within = inside;
      is = number_is;
      from = let b = serial_is in omega arith;
      small = let b = small in omega arith;
      somebody = λ e. let a = number_is in let b = small in omega arith;
    }

    pub fresh_home : home (name.V (site_of s).fresh) world.nodes ≡ k
    fresh_home =
        let quotient : fresh_number s / 1000000 ≡ k = ap (λ n. n / 1000000) (number_is ∙ ap (λ n. n + s.serial) (times k)) ∙ div-mul-add k 1000000 s.serial (let b = small in omega arith) in
        ap (λ q. cond (nat_lt q world.nodes) q 0) quotient ∙ ap (λ b. cond b k 0) (lt-ltb k world.nodes inside)
      where
        times : (n : ℕ) → 1000000 * n ≡ n * 1000000
        times n = omega arith

    -- ---- each question fits
    holds_what : (n : Name) (h : Held) → held_at c.bag n ≡ Some h → (L (Rec n) ≡ With c.image.pid) × (W.what n ≡ h)
    holds_what n h e = carried_some c.image.pid (L (Rec n)) (W.what n) h (sym (t.fits.bag.holds n) ∙ e)

    looks_if : (ph : Phase) → JobFits world (record c.image { phase = ph }) c.job → ((is_stopped_phase ph ≡ true → c.job ≡ Look) × (is_stopped_phase ph ≡ false → c.job ≢ Look))
    looks_if phases.Stopped (inl e) = ((λ x. e), (λ x. cc))
    looks_if phases.Ready (inl e) = ((λ x. cc), (λ x y. let z : Look ≡ AskJob (next_call world c.image.pid (progress_of c.image)) (next_node world (progress_of c.image)) = sym y ∙ e in cc))
    looks_if phases.Asleep (inl e) = ((λ x. cc), (λ x y. let z : Look ≡ AskJob (next_call world c.image.pid (progress_of c.image)) (next_node world (progress_of c.image)) = sym y ∙ e in cc))
    looks_if phases.Gone (inl e) = ((λ x. cc), (λ x y. let z : Look ≡ AskJob (next_call world c.image.pid (progress_of c.image)) (next_node world (progress_of c.image)) = sym y ∙ e in cc))
    looks_if ph (inr e) = ((λ x. let z : true ≡ false = sym x ∙ e.2 in cc), (λ x y. let z : Look ≡ Push e.0 = sym y ∙ e.1 in cc))

    looks : (is_stopped_phase c.image.phase ≡ true → c.job ≡ Look) × (is_stopped_phase c.image.phase ≡ false → c.job ≢ Look)
    looks = looks_if c.image.phase t.fits.job

    -- its numbers, those of its job and of the table are short
    short_me : IsShort c.image.pid.0
    short_me = subst (λ (q : Pid). IsShort q.0) (row_pid rows c.image.pid me.process me.there) (t.knows.short_table c.image.pid me.process me.there).0

    short_job : JobNames IsShort c.job
    short_job = job_given IsShort short_zero short_one short_nobody world c.image c.job t.fits.job short_me (t.knows.short_procs c.image.pid (view c.image) t.fits.image)

    short_fresh : IsShort (fresh_number s)
    short_fresh = let nodes = valid.limits.nodes in let few = small in let is = number_is in omega (arith, inside, nodes, few, is)

    pub asks : Asks world.nodes rows c.image.pid c.job c.image.own c.bag (site_of s)
    asks = record {
      sound = t.standing.sound;
      agrees = agrees_by_name c.bag rows (λ n h e. subst (RecordAgrees rows n) (holds_what n h e).1 (t.standing.agrees n));
      few = let a = t.knows.short in omega (arith, room, a);
      row = me.process;
      there = me.there;
      living = me.lives;
      looks = λ e. looks.0 (me.stopped ∙ e);
      calls = λ e. looks.1 (me.stopped ∙ e);
      own_is = λ v g hv hg. t.standing.owns c.image.pid (view c.image) me.process v g t.fits.image me.there (holds_what (name.V c.image.pid) (held.V (Some v)) (ap (option_map held.V) hv)).1 (holds_what (name.G v.group) (held.G (Some g)) (ap (option_map held.G) hg)).1;
      fresh = t.knows.no_row (site_of s).fresh fresh_ungiven;
      fresh_held = unheld_fresh (held_case c.bag (name.V (site_of s).fresh));
      here = subst (λ j. j < world.nodes) (sym t.bench.id) inside;
      unused = record {
        least = let a = t.knows.least k in let b = serial_is in let c = number_is in omega arith;
        somebody = fresh_ungiven.somebody;
        no_pid = λ r e same. (t.knows.table r.pid r e).0 (subst (IsUngiven world W.serials) (sym same) fresh_ungiven);
        no_group = λ r e same. (t.knows.table r.pid r e).2 (subst (IsUngiven world W.serials) (sym same) fresh_ungiven);
        no_session = λ r e same. (t.knows.table r.pid r e).3 (subst (IsUngiven world W.serials) (sym same) fresh_ungiven);
      };
      goes = goes_by c.image.phase t.fits.job;
      pending = t.standing.pending c.image.pid me.process me.there;
      placed = λ v hv. t.standing.places c.image.pid v (holds_what (name.V c.image.pid) (held.V (Some v)) (ap (option_map held.V) hv)).1;
      numbers = named_known IsShort rows c.image.pid c.job short_me short_job t.knows.short_table;
    }
      where
        to_node : (o : Option Statement) → next_statement world (progress_of c.image) ≡ o → JobGoes world.nodes (AskJob (next_call world c.image.pid (progress_of c.image)) (option_map_or node_of o None))
        to_node None e = tt
        to_node (Some st) e = go st (next_statement-valid world (progress_of c.image) st valid e)
          where
            if_some : (at : Option NodeId) → IfSome at (λ (n : NodeId). n.0 < world.nodes) → JobGoes world.nodes (AskJob (next_call world c.image.pid (progress_of c.image)) at)
            if_some None f = tt
            if_some (Some n) f = f

            go : (st : Statement) → IsStatement world c.image.script st → JobGoes world.nodes (AskJob (next_call world c.image.pid (progress_of c.image)) (node_of st))
            go (Statements.Fork var script at) f = if_some at f.2
            go (Statements.Migrate n) f = f
            go _ f = tt

        goes_by : (ph : Phase) → JobFits world (record c.image { phase = ph }) c.job → JobGoes world.nodes c.job
        goes_by ph (inr e) = subst (JobGoes world.nodes) (sym e.1) e.3
        goes_by phases.Stopped (inl e) = subst (JobGoes world.nodes) (sym e) tt
        goes_by phases.Ready (inl e) = subst (JobGoes world.nodes) (sym e) (to_node (next_statement world (progress_of c.image)) refl)
        goes_by phases.Asleep (inl e) = subst (JobGoes world.nodes) (sym e) (to_node (next_statement world (progress_of c.image)) refl)
        goes_by phases.Gone (inl e) = subst (JobGoes world.nodes) (sym e) (to_node (next_statement world (progress_of c.image)) refl)

        unheld_fresh : HeldCase c.bag (name.V (site_of s).fresh) → is_held c.bag (name.V (site_of s).fresh) ≡ false
        unheld_fresh (inl h) = let x : AtHome ≡ With c.image.pid = sym (t.knows.at_home (name.V (site_of s).fresh) fresh_ungiven) ∙ (holds_what (name.V (site_of s).fresh) h.0 h.1).0 in cc
        unheld_fresh (inr h) = h.1

    -- ---- what is named
    given_me : Known world W c.image.pid.0
    given_me = subst (λ (q : Pid). Known world W q.0) (row_pid rows c.image.pid me.process me.there) (t.knows.table c.image.pid me.process me.there).0

    given_zero : Known world W 0
    given_zero = known_small world W 0 t.knows.least (omega arith)

    given_one : Known world W 1
    given_one = known_small world W 1 t.knows.least (omega arith)

    given_job : JobNames (Known world W) c.job
    given_job = job_given (Known world W) given_zero given_one (known_nobody world W) world c.image c.job t.fits.job given_me (t.knows.procs c.image.pid (view c.image) t.fits.image)

    told : (names : List Name) → AreTold rows c.image.pid c.job names → (n : Name) → lists names n ≡ true → Known world W (pid_of n)
    told names is n e = named_known (Known world W) rows c.image.pid c.job given_me given_job t.knows.table (pid_of n) (told_at rows c.image.pid c.job names is n e)

    -- a held name is known
    held_known : (n : Name) → is_held c.bag n ≡ true → Known world W (pid_of n)
    held_known n e u = go (held_case c.bag n)
      where
        go : HeldCase c.bag n → ⊥
        go (inl h) = let x : AtHome ≡ With c.image.pid = sym (t.knows.at_home n u) ∙ (holds_what n h.0 h.1).0 in cc
        go (inr h) = let x : true ≡ false = sym e ∙ h.1 in cc

    -- ---- a record is needed
    more_few : Knows world m rows W L → (M : Places) → ((n : Name) → IsUngiven world W.serials (pid_of n) → M (Rec n) ≡ AtHome) → Knows world m rows W M
    more_few k M at = record { table = k.table; procs = k.procs; short_table = k.short_table; short_procs = k.short_procs; no_row = k.no_row; at_home = at; least = k.least; few = k.few; short = k.short }

    later : Knows world m rows W L → (M : Places) → ((n : Name) → IsUngiven world W.serials (pid_of n) → M (Rec n) ≡ AtHome) → Knows world m rows W M
    later k M at = more_few k M at

    missing_proc : (M : Places) → ((q : Pid) → q.0 ≢ c.image.pid.0 → M (Proc q) ≡ L (Proc q)) → ((n : Name) → M (Rec n) ≡ L (Rec n)) → Absent W M
    missing_proc M same recs q none = (same q not_me ∙ (t.missing q none).0, λ n. ap (λ o. carried_by q o (W.what n)) (recs n) ∙ (t.missing q none).1 n)
      where
        not_me : q.0 ≢ c.image.pid.0
        not_me e =
            let eq : q ≡ c.image.pid = ap (λ (i : ℕ). record { 0 = i }) e in
            let x : None ≡ Some (view c.image) = sym none ∙ ap W.proc eq ∙ t.fits.image in
            cc

    proc_differs : (q : Pid) → q.0 ≢ c.image.pid.0 → Proc c.image.pid ≢ Proc q
    proc_differs q ne e = let same : q ≡ c.image.pid = cc in ne (ap (λ (i : Pid). i.0) same)

    -- the courier goes into a container
    put_away : (X : Where) (s' : State) → Bench world C k W (moved L (Proc c.image.pid) (In X)) s' → WatchesAt world C k W (Rests world history) s' → Outcome_is m rows running history W.serials None s'
    put_away X s' b watch = record {
      entry_is = tt;
      contents = W;
      elsewhere = λ j ne. refl;
      places = moved L (Proc c.image.pid) (In X);
      between = record {
        bench = b;
        standing = t.standing;
        missing = missing_proc (moved L (Proc c.image.pid) (In X)) (λ q ne. moved-other L (Proc c.image.pid) (In X) (Proc q) (proc_differs q ne)) (λ n. refl);
        knows = later t.knows (moved L (Proc c.image.pid) (In X)) (λ n u. t.knows.at_home n u);
        idle = λ u e. let h = hand_kept L (Proc c.image.pid) (In X) u (λ x. cc) e in h.1 (sym (t.only u h.0));
        present = λ q x is e. t.present q x is (lost_kept L (Proc c.image.pid) (In X) (Proc q) (λ y. cc) e).0;
        sane = sane_proc L c.image.pid (In X) tt t.sane;
        watch = watch;
      };
    }

    -- the record is taken, waited for or looked for
    wanted_is : (x : Name) → Known world W (pid_of x) → WaitsFor x c → StepIs m rows running history W (wanted s c x).state (wanted s c x).step
    wanted_is x known waits = go (home x s.nodes == s.id) refl
      where
        here : (a : Slot Held (Line Courier)) → slot_at s.slots x ≡ a → home x world.nodes ≡ k → StepIs m rows running history W (wanted_at s c x a).state (wanted_at s c x a).step
        here (Home h) e at =
            let r = take world C k W L s c.image.pid x h t.bench t.hand at e in (
              moved L (Rec x) (With c.image.pid),
              record {
                bench = r.2;
                hand = t.hand;
                fits = record { image = t.fits.image; job = t.fits.job; bag = bag_more W L x c.image.pid c.bag h t.bench.matches.kinds r.1 t.fits.bag; wants = t.fits.wants; below = more_below c x h t.fits.below waits };
                standing = t.standing;
                missing = λ q none. ((t.missing q none).0, λ n. taken_bare q none n (tok_cases (Rec x) (Rec n)));
                knows = more_few t.knows (moved L (Rec x) (With c.image.pid)) (λ n u. moved-other L (Rec x) (With c.image.pid) (Rec n) (λ same. let eq : x ≡ n = cc in known (subst (λ (i : Name). IsUngiven world W.serials (pid_of i)) (sym eq) u)) ∙ t.knows.at_home n u);
                only = λ u e. t.only u (hand_kept L (Rec x) (With c.image.pid) u (λ x. cc) e).0;
                present = t.present;
                sane = sane_rec L x (With c.image.pid) tt t.sane;
                watch = take_watch world C k W L s x h (Rests world history) e t.watch;
              },
            )
          where
            taken_bare : (q : Pid) → W.proc q ≡ None → (n : Name) → (Rec x ≡ Rec n) ⊎ (Rec x ≢ Rec n) → carried W (moved L (Rec x) (With c.image.pid)) q n ≡ None
            taken_bare q none n (inl e) =
                ap (λ u. carried_by q (moved L (Rec x) (With c.image.pid) u) (W.what n)) (sym e) ∙ ap (λ o. carried_by q o (W.what n)) (moved-same L (Rec x) (With c.image.pid))
                ∙ carried_other q c.image.pid (W.what n) (λ s. let eq : q ≡ c.image.pid = ap (λ (i : ℕ). record { 0 = i }) s in let x : None ≡ Some (view c.image) = sym none ∙ ap W.proc eq ∙ t.fits.image in cc)
            taken_bare q none n (inr ne) = ap (λ o. carried_by q o (W.what n)) (moved-other L (Rec x) (With c.image.pid) (Rec n) ne) ∙ (t.missing q none).1 n
        here (Out line) e at = put_away (InLine x) (written world C k s x (Out (joined line c))) (join world C k W L s c x line t.bench t.hand t.fits waits at e) (join_watch world C k W L s c x line (Rests world history) at e t.watch)

        go : (b : Bool) → (home x s.nodes == s.id) ≡ b → StepIs m rows running history W (cond b (wanted_at s c x (slot_at s.slots x)) (is_stepped (posted s (home x s.nodes) (message.Ride c)) (Over None))).state (cond b (wanted_at s c x (slot_at s.slots x)) (is_stepped (posted s (home x s.nodes) (message.Ride c)) (Over None))).step
        go true e = here (slot_at s.slots x) refl (ap (home x) (sym t.bench.nodes) ∙ eqb-true _ _ e ∙ t.bench.id)
        go false e = put_away (Wire k (home x s.nodes)) (posted s (home x s.nodes) (message.Ride c)) (post_ride world C k W L s (home x s.nodes) c t.bench (hand_out L (Proc c.image.pid) t.hand) t.fits) (watch_post world C k W (Rests world history) s (home x s.nodes) (message.Ride c) (CourierItem c) (λ xs. refl) tt t.watch)

    -- all goes back
    restarted_is : (names : List Name) → ((n : Name) → lists names n ≡ true → Known world W (pid_of n)) → StepIs m rows running history W (restarted s c names).state (restarted s c names).step
    restarted_is names known =
        let g = bag_given world C k W L c.image.pid s c.bag t.bench t.hand t.fits.bag in (
          g.places,
          record {
            bench = g.bench;
            hand = g.hand;
            fits = record {
              image = t.fits.image;
              job = t.fits.job;
              bag = record { holds = λ n. none_held n ∙ sym (g.none n); vprocs = tt; groups = tt };
              wants = λ n e. remembers n (all_added-from c.wants (names ++ held_names c.bag) n e);
              below = λ w q e held less. absurd (empty_held q held);
            };
            standing = t.standing;
            missing = λ q none. let w = t.missing q none in (g.keeps.nowhere q (not_me q none) w.0, λ n. g.keeps.bags q (not_me q none) (inr w.0) n (W.what n) ∙ w.1 n);
            knows = more_few t.knows g.places (λ n u. g.keeps.homes n (t.knows.at_home n u));
            only = λ u e. t.only u (g.hands u e);
            present = λ q x is e. t.present q x is (g.lost (Proc q) e);
            sane = g.keeps.sane t.sane;
            watch = bag_watch world C k W L c.image.pid s c.bag (Rests world history) t.bench t.hand t.fits.bag (alive world rows running W t.standing) t.watch;
          },
        )
      where
        empty_held : (n : Name) → is_held empty_bag n ≡ true → ⊥
        empty_held (name.V q) e = cc
        empty_held (name.G q) e = cc

        none_held : (n : Name) → held_at empty_bag n ≡ None
        none_held (name.V q) = refl
        none_held (name.G q) = refl

        not_me : (q : Pid) → W.proc q ≡ None → q.0 ≢ c.image.pid.0
        not_me q none e =
            let eq : q ≡ c.image.pid = ap (λ (i : ℕ). record { 0 = i }) e in
            let x : None ≡ Some (view c.image) = sym none ∙ ap W.proc eq ∙ t.fits.image in
            cc

        remembers : (n : Name) → (lists c.wants n ≡ true) ⊎ (lists (names ++ held_names c.bag) n ≡ true) → Known world W (pid_of n)
        remembers n (inl e) = t.fits.wants n e
        remembers n (inr e) = elim (lists-either names (held_names c.bag) n e) [ inl a ↦ known n a | inr b ↦ held_known n (held_listed n b) ]
          where
            held_listed : (n : Name) → lists (held_names c.bag) n ≡ true → is_held c.bag n ≡ true
            held_listed n e = names_held c.bag t.fits.bag.vprocs t.fits.bag.groups n e

    needed_is : (names : List Name) → IsAskedFor rows c.image.pid c.job c.bag names → StepIs m rows running history W (needed s c names).state (needed s c names).step
    needed_is names need = go (next_want c names) refl
      where
        never : next_want c names ≡ None → ⊥
        never e = never_none c names need.some need.lacking e

        known : (n : Name) → lists names n ≡ true → Known world W (pid_of n)
        known = told names need.told

        at : (x : Name) → next_want c names ≡ Some x → (b : Bool) → must_restart c x ≡ b → StepIs m rows running history W (cond b (restarted s c names) (wanted s c x)).state (cond b (restarted s c names) (wanted s c x)).step
        at x e true f = restarted_is names (told names need.told)
        at x e false f =
            let least = IsLeast-least_of x (lacking c.bag (wanted_or c names)) e in
            let there = lists-lacking c.bag (wanted_or c names) x least.among in
            wanted_is x (elim (lists-either c.wants names x there.0) [ inl a ↦ t.fits.wants x a | inr b ↦ told names need.told x b ]) (waits_for c names t.fits.bag.vprocs t.fits.bag.groups x e f)

        go : (o : Option Name) → next_want c names ≡ o → StepIs m rows running history W (needed_least s c names o).state (needed_least s c names o).step
        go None e = absurd (never e)
        go (Some x) e = at x e (must_restart c x) refl

    -- ---- a decision
    module _ (d : Decided) (bag' : Bag) (step : IsStep rows (next rows d.entry) c.image.pid c.job (site_of s) c.bag d bag') where
      ended : Ended world C k valid rows running W t.standing L s c.image c.job c.bag (site_of s) d bag' t.bench t.hand t.fits.bag step t.fits.image t.fits.job t.missing asks.fresh (t.knows.at_home (name.V (site_of s).fresh) fresh_ungiven) fresh_home asks.here t.bench.id (finished world s c.image bag' d)
      ended = finished_keeps world C k valid rows running W t.standing L s c.image c.job c.bag (site_of s) d bag' t.bench t.hand t.fits.bag step t.fits.image t.fits.job t.missing asks.fresh (t.knows.at_home (name.V (site_of s).fresh) fresh_ungiven) fresh_home asks.here t.bench.id

      abbrev then_W : Contents
      then_W = now world C k valid rows running W t.standing L s c.image c.job c.bag (site_of s) d bag' t.bench t.hand t.fits.bag step t.fits.image t.fits.job t.missing asks.fresh (t.knows.at_home (name.V (site_of s).fresh) fresh_ungiven) fresh_home asks.here t.bench.id

      fork_is : (e : Entry) (n : ℕ) → d.entry ≡ Some e → ForksAs e n → (n ≡ fresh_number s) × ((v : Vproc) × (d.born ≡ Some v))
      fork_is = fork_number world valid rows running W t.standing c.image c.job c.bag (site_of s) d bag' (λ n h e. (holds_what n h e).1) step t.fits.image t.fits.job asks.fresh asks.fresh_held asks.here d.born step.birth

      -- what was given out stays so
      still : (b : Option Vproc) (q : ℕ) → IsUngiven world (serials_after W.serials s.id b) q → IsUngiven world W.serials q
      still None q u = u
      still (Some v) q u = record { node = u.node; serial = u.serial; within = u.within; is = u.is; from = less (u.node == s.id) u.from; small = u.small; somebody = u.somebody }
        where
          less : (t : Bool) → cond t (W.serials u.node + 1) (W.serials u.node) ≤ u.serial → W.serials u.node ≤ u.serial
          less true h = omega arith
          less false h = h

      -- a child's number is given out
      born_known : (v : Vproc) → d.born ≡ Some v → Known world then_W (fresh_number s)
      born_known v is u = go (u.node == s.id) refl (subst (λ b. serials_after W.serials s.id b u.node ≤ u.serial) is u.from)
        where
          split : (j t a b : ℕ) → 1000000 * j + a ≡ 1000000 * t + b → a < 1000000 → b < 1000000 → (j ≡ t) × (a ≡ b)
          split j t a b e la lb = (omega arith, omega arith)

          go : (t : Bool) → (u.node == s.id) ≡ t → cond t (W.serials u.node + 1) (W.serials u.node) ≤ u.serial → ⊥
          go true e h =
              let node : u.node ≡ s.id = eqb-true _ _ e in
              let i = u.is in
              let sp = split s.id u.node s.serial u.serial i (omega (arith, small)) u.small in
              let same : W.serials u.node ≡ W.serials k = ap W.serials (node ∙ t.bench.id) in
              let e2 = serial_is in
              let e3 = sp.1 in
              omega (arith, h)
          go false e h =
              let i = u.is in
              let sp = split s.id u.node s.serial u.serial i (omega (arith, small)) u.small in
              absurd (eqb-false _ _ e (sym sp.0))

      known_more : (q : ℕ) → Known world W q → Known world then_W q
      known_more q g u = g (still d.born q u)

      -- what is said of the numbers of the table, and of each process, is said of them afterwards, where it is said of a child's number
      module _ (Given Given' : ℕ → Type 0) (more : (q : ℕ) → Given q → Given' q) (zero_given : Given' 0) (one_given : Given' 1) (nobody_given : Given' nobody) (mine : Given' c.image.pid.0)
          (born : (v : Vproc) → d.born ≡ Some v → Given' (fresh_number s)) (table : RowsName Given rows) (procs : (q : Pid) (x : View) → W.proc q ≡ Some x → ProgressNames Given x.at) where
        table_after : (o : Option Entry) → d.entry ≡ o → RowsName Given' (next rows o)
        table_after None is = named_more Given Given' rows more table
        table_after (Some e) is =
            names_kept Given' rows e t.standing.sound (step_entry step e is).legal one_given
            (λ n f. let r = fork_is e n is f in subst (λ (i : ℕ). Given' i) (sym r.0) (born (r.1).0 (r.1).1)) (named_more Given Given' rows more table)

        my_names : ProgressNames Given' (progress_of c.image)
        my_names = progress_more Given Given' (progress_of c.image) more (procs c.image.pid (view c.image) t.fits.image)

        own_names : (o : Option Entry) → d.entry ≡ o → ProgressNames Given' (progress_of (image_after world c.image d.own d.phase o))
        own_names None is = my_names
        own_names (Some (Happened q event)) is = my_names
        own_names (Some (Called caller call reply)) is =
            moved_given Given' zero_given one_given nobody_given world c.image.pid (progress_of c.image) reply
            (λ f. reply_known reply (λ n e. let r = fork_is (Called caller call reply) n is (subst (λ (x : Call). ForksAs (Called caller x reply) n) (sym (asked_fork ∙ f)) (subst (λ (x : Reply). ForksAs (Called caller Fork x) n) (sym e) refl)) in
            subst (λ (i : ℕ). Given' i) (sym r.0) (born (r.1).0 (r.1).1))) my_names
          where
            asked_fork : call ≡ next_call world c.image.pid (progress_of c.image)
            asked_fork =
                let l = step_entry step (Called caller call reply) is in
                asks_next world valid rows running W t.standing c.image c.job c.bag (site_of s) d bag' (λ n h e. (holds_what n h e).1) step t.fits.image t.fits.job asks.fresh asks.fresh_held asks.here call ((l.of).1).0 ((l.of).1).1

            reply_known : (reply : Reply) → ((n : ℕ) → reply ≡ Number n → Given' n) → Given' (forked reply)
            reply_known (Number n) born = born n refl
            reply_known _ born = nobody_given

        procs_named : (q : Pid) (x : View) → then_W.proc q ≡ Some x → ProgressNames Given' x.at
        procs_named q x e = go (someone world C k valid rows running W t.standing L s c.image c.job c.bag (site_of s) d bag' t.bench t.hand t.fits.bag step t.fits.image t.fits.job t.missing asks.fresh (t.knows.at_home (name.V (site_of s).fresh) fresh_ungiven) fresh_home asks.here t.bench.id q)
          where
            go : Someone world C k valid rows running W t.standing L s c.image c.job c.bag (site_of s) d bag' t.bench t.hand t.fits.bag step t.fits.image t.fits.job t.missing asks.fresh (t.knows.at_home (name.V (site_of s).fresh) fresh_ungiven) fresh_home asks.here t.bench.id q → ProgressNames Given' x.at
            go (TheChild v is same f) =
                let there = child_view world C k valid rows running W t.standing L s c.image c.job c.bag (site_of s) d bag' t.bench t.hand t.fits.bag step t.fits.image t.fits.job t.missing asks.fresh (t.knows.at_home (name.V (site_of s).fresh) fresh_ungiven) fresh_home asks.here t.bench.id v is f in
                let val : view (child_image c.image v.pid f.child) ≡ x = some_same _ _ (sym there ∙ ap then_W.proc (sym same) ∙ e) in
                subst (λ (y : View). ProgressNames Given' y.at) val (record {
                  maker = subst (λ (u : Pid). Given' u.0) (sym f.maker) mine;
                  vars = subst (λ l. All Given' l) (sym f.vars) my_names.vars;
                })
            go (Itself same here) =
                let val : x ≡ view (image_after world c.image d.own d.phase d.entry) = gone_view (image_after world c.image d.own d.phase d.entry).phase (image_after world c.image d.own d.phase d.entry) x (sym here ∙ e) in
                subst (λ (y : View). ProgressNames Given' y.at) (sym val) (own_names d.entry refl)
            go (Another ne none unforked was) = progress_more Given Given' x.at more (procs q x (sym was ∙ e))

      no_row_after : (q : Pid) → IsUngiven world then_W.serials q.0 → row_of (next rows d.entry) q ≡ None
      no_row_after q u = go d.entry refl
        where
          was : row_of rows q ≡ None
          was = t.knows.no_row q (still d.born q.0 u)

          go : (o : Option Entry) → d.entry ≡ o → row_of (next rows o) q ≡ None
          go None is = was
          go (Some e) is = by (row_of (after rows e) q) refl
            where
              by : (o : Option Row) → row_of (after rows e) q ≡ o → o ≡ None
              by None f = refl
              by (Some r) f =
                  let forks = forks_as e q (only_forks_add rows e q r t.standing.sound (step_entry step e is).legal was f) in
                  let b = fork_is e q.0 is forks in
                  absurd (born_known (b.1).0 (b.1).1 (subst (λ (i : ℕ). IsUngiven world then_W.serials i) b.0 u))

      serial_least : (b : Option Vproc) (j : ℕ) → 2 ≤ serials_after W.serials s.id b j
      serial_least None j = t.knows.least j
      serial_least (Some v) j = go (j == s.id)
        where
          go : (x : Bool) → 2 ≤ cond x (W.serials j + 1) (W.serials j)
          go true = let a = t.knows.least j in omega arith
          go false = t.knows.least j

      next_short : (o : Option Entry) → d.entry ≡ o → length (next rows o) ≤ made_if o m
      next_short None is = t.knows.short
      next_short (Some e) is = step_short rows e t.standing.sound (step_entry step e is).legal m t.knows.short

      serial_few : (b : Option Vproc) → d.born ≡ b → (j : ℕ) → serials_after W.serials s.id b j ≤ made_if d.entry m
      serial_few None is j = let a = t.knows.few j in let b = made_if-more d.entry m in omega arith
      serial_few (Some v) is j = subst (λ o. cond (j == s.id) (W.serials j + 1) (W.serials j) ≤ made_if o m) (sym (born_entry v is)) (go (j == s.id))
        where
          born_entry : (v : Vproc) → d.born ≡ Some v → d.entry ≡ Some (Called c.image.pid Fork (Number (site_of s).fresh.0))
          born_entry v is = (subst (λ b. BirthIs (next rows d.entry) c.image.pid (site_of s) d.entry bag' b) is step.birth).entry_is

          go : (x : Bool) → cond x (W.serials j + 1) (W.serials j) ≤ suc m
          go true = let a = t.knows.few j in omega arith
          go false = let a = t.knows.few j in omega arith

      entry_is : (o : Option Entry) → d.entry ≡ o → EntryIs rows running o
      entry_is None is = tt
      entry_is (Some e) is =
          let l = step_entry step e is in (
            l.legal,
            in_order world valid rows running W t.standing c.image c.job c.bag (site_of s) d bag' (λ n h e. (holds_what n h e).1) step t.fits.image t.fits.job asks.fresh asks.fresh_held asks.here e l.of,
            legal_written rows e l.legal (names_of e l.of),
          )
        where
          names_of : (e : Entry) → IsEntryOf c.image.pid c.job e → EntryHasNames e
          names_of (Called caller call reply) of = has_names rows c.image.pid call (of.1).0 (λ n named. asks.numbers n (subst (λ j. IsNamed rows c.image.pid j n) (sym (of.1).1) named))
          names_of (Happened q event) of = tt

      serial_elsewhere : (b : Option Vproc) (j : ℕ) → j ≢ k → serials_after W.serials s.id b j ≡ W.serials j
      serial_elsewhere None j ne = refl
      serial_elsewhere (Some v) j ne = ap (λ x. cond x (W.serials j + 1) (W.serials j)) (ne_eqb j s.id (λ e. ne (e ∙ t.bench.id)))

      -- the contents afterwards stand for the next table
      pub standing_then : Standing world (next rows d.entry) (running_if world running d.entry) (contents_after W c.image.pid (image_after world c.image d.own d.phase d.entry) (site_of s).node.0 d.born (child_of world c.image d.born) bag')
      standing_then = stands world C k valid rows running W t.standing L s c.image c.job c.bag (site_of s) d bag' t.bench t.hand t.fits.bag step t.fits.image t.fits.job t.missing asks.fresh (t.knows.at_home (name.V (site_of s).fresh) fresh_ungiven) fresh_home asks.here t.bench.id

      pub done_is : Outcome_is m rows running history W.serials d.entry (finished world s c.image bag' d)
      done_is = record {
        entry_is = entry_is d.entry refl;
        contents = then_W;
        elsewhere = serial_elsewhere d.born;
        places = ended.places;
        between = record {
          bench = ended.bench;
          standing = stands world C k valid rows running W t.standing L s c.image c.job c.bag (site_of s) d bag' t.bench t.hand t.fits.bag step t.fits.image t.fits.job t.missing asks.fresh (t.knows.at_home (name.V (site_of s).fresh) fresh_ungiven) fresh_home asks.here t.bench.id;
          missing = ended.nobodies;
          knows = record {
            table = table_after (Known world W) (Known world then_W) known_more (known_more 0 given_zero) (known_more 1 given_one) (known_nobody world then_W) (known_more c.image.pid.0 given_me) born_known t.knows.table t.knows.procs d.entry refl;
            procs = procs_named (Known world W) (Known world then_W) known_more (known_more 0 given_zero) (known_more 1 given_one) (known_nobody world then_W) (known_more c.image.pid.0 given_me) born_known t.knows.table t.knows.procs;
            short_table = table_after IsShort IsShort (λ q g. g) short_zero short_one short_nobody short_me (λ v is. short_fresh) t.knows.short_table t.knows.short_procs d.entry refl;
            short_procs = procs_named IsShort IsShort (λ q g. g) short_zero short_one short_nobody short_me (λ v is. short_fresh) t.knows.short_table t.knows.short_procs;
            no_row = no_row_after;
            at_home = λ n u. ended.rest_home n (t.knows.at_home n (still d.born (pid_of n) u));
            least = serial_least d.born;
            few = serial_few d.born refl;
            short = next_short d.entry refl;
          };
          idle = ended.idle t.only;
          present = present_after world C k valid rows running W t.standing L s c.image c.job c.bag (site_of s) d bag' t.bench t.hand t.fits.bag step t.fits.image t.fits.job t.missing asks.fresh (t.knows.at_home (name.V (site_of s).fresh) fresh_ungiven) fresh_home asks.here t.bench.id t.present ended.places ended.found;
          sane = ended.sanely t.sane;
          watch = finished_watch world C k valid rows running W t.standing L s c.image c.job c.bag (site_of s) d bag' t.bench t.hand t.fits.bag step t.fits.image t.fits.job t.missing asks.fresh (t.knows.at_home (name.V (site_of s).fresh) fresh_ungiven) fresh_home asks.here t.bench.id history table_is far_is t.watch;
        };
      }

    -- one question, and what follows from its answer
    pub stepped_is : StepIs m rows running history W (stepped world ask s c).state (stepped world ask s c).step
    stepped_is = go (asked ask s c).outcome (asked ask s c).bag (vector.answers rows c.image.pid c.job c.image.own c.bag (site_of s) asks)
      where
        go : (o : Outcome) (b : Bag) → IsAnswer world.nodes rows c.image.pid c.job (site_of s) c.bag b o → StepIs m rows running history W (stepped_by world s c o b).state (stepped_by world s c o b).step
        go (Done d) b is = done_is d b is
        go (Need names) b is = subst (λ x. StepIs m rows running history W (needed s (record c { bag = x }) names).state (needed s (record c { bag = x }) names).step) (sym is.1) (needed_is names is.0)
        go (Away to) b is = subst (λ x. StepIs m rows running history W (posted s to.0 (message.Ride (record c { bag = x }))) (Over None)) (sym is.1) (put_away (Wire k to.0) (posted s to.0 (message.Ride c)) (post_ride world C k W L s to.0 c t.bench (hand_out L (Proc c.image.pid) t.hand) t.fits) (watch_post world C k W (Rests world history) s to.0 (message.Ride c) (CourierItem c) (λ xs. refl) tt t.watch))
