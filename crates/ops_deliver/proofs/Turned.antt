-- a stop and a continuing are steps of the one kernel
use Rattle.std.proofs.Common.{◌≡◌, ◌≢◌, ◌==◌, ◌&&◌, ◌||◌, ◌↔◌, ◌++◌, ◌≤◌, append_assoc, append-nil, ℕ, Bool, true, false, cond, List, [], ◌∷◌, length, drop, refl, sym, ap, ◌∙◌, subst, arith, Option, None, Some, inl, inr, ◌⊎◌}
use Rattle.std.specs.Prelude.{map, filter, is_some}
use Rattle.std.specs.Option.{option_map}
use Rattle.std.specs.List.{list_any}
use Rattle.std.proofs.lemmas.Bool.{eqb-true, eqb-false, ne_eqb, eq-eqb}
use Rattle.std.proofs.lemmas.List.Elements.{All-weaker}
use Rattle.list_laws.specs.Keyed.{option_filter}
use Rattle.list_laws.proofs.Filters.{some_same, length-filter-map}
use Rattle.list_laws.proofs.Elements.{filter-same}
use Rattle.list_laws.proofs.Finding.{found, same_number}
use Rattle.unix_names.specs.declared.Pid.{Pid}
use Rattle.unix_names.specs.declared.NodeId.{NodeId}
use Rattle.unix_names.specs.declared.Signal.{Signal}
use Rattle.unix_names.specs.declared.Signal.TheVariants.{Chld}
use Rattle.unix_names.specs.declared.Life.{Life}
use Rattle.unix_names.specs.declared.WaitStatus.{WaitStatus}
use Rattle.unix_names.specs.States.{is_living}
use Rattle.unix_calls.specs.declared.Entry.{Entry}
use Rattle.unix_calls.specs.declared.Job.{Job}
use Rattle.unix_calls.specs.declared.Phase.{Phase}
use Rattle.unix_calls.specs.declared.Phase.TheVariants as phase
use Rattle.signal_state.specs.Signals.{Signals}
use Rattle.signal_state.specs.Sig.{generated_all}
use Rattle.vproc_record.specs.declared.Vproc.{Vproc}
use Rattle.group_record.specs.declared.Group.{Group}
use Rattle.group_record.specs.Log.{concerns, log_part}
use Rattle.sig_stream.specs.Streams.{stream}
use Rattle.record_bag.specs.declared.bag.Bag.{Bag}
use Rattle.record_bag.specs.declared.vector.Site.{Site}
use Rattle.record_bag.specs.Bags.{present, vproc_in}
use Rattle.process_table.specs.declared.Row.{Row}
use Rattle.process_table.specs.Rows.{row_of, is_pid, is_parent, in_group, is_stopped}
use Rattle.process_table.specs.Orphans.{is_stopped_in}
use Rattle.process_table.specs.Changes.{received}
use Rattle.kernel_model.specs.declared.Verdict.TheVariants.{Legal}
use Rattle.kernel_model.specs.Sound.{IsSound}
use Rattle.kernel_model.specs.Step.{process_of, verdict, after, sent}
use Rattle.kernel_rules.specs.Events.{StaysStopped}
use Rattle.kernel_rules.specs.Ending.{sent_to_parent}
use Rattle.decide_law.specs.Agrees.{vproc_at, group_at, stopped_in, IsRecordOf, VprocAgrees, VprocsAgree, IsGroupOf, GroupAgrees, Agrees}
use Rattle.decide_law.specs.Counts.{passes, is_stopped_to}
use Rattle.decide_law.specs.Wakes.{report_in, seen_by}
use Rattle.decide_law.specs.Nudges.{parent_of_row, nudges_of}
use Rattle.decide_law.specs.Places.{is_placed, place_after}
use Rattle.decide_law.specs.Footprints.{with_group, parent_footprint}
use Rattle.decide_law.specs.Parts.{EachHeld}
use Rattle.decide_law.specs.Law.{Settled, next, IsAnswerTo, IsNoBirth, IsStep}
use Rattle.decide_law.specs.Effects.{only, same, changed, to_one, Effect, decided_by, written}
use Rattle.decide_law.proofs.Records.{number, distinct, pid_same, row_pid, row_own, only_other}
use Rattle.decide_law.proofs.Counts.{no_system, recount, passes_stopped}
use Rattle.decide_law.proofs.Phases.{lives_on}
use Rattle.decide_law.proofs.Shell.{own_record, group_is}
use Rattle.decide_law.proofs.Changes.{vproc_changed, group_changed, names_changed, agrees_changed, only_at_same, only_at_other}
use Rattle.decide_law.proofs.AppendStep.{from_found}
use Rattle.ops_deliver.proofs.Grown.{HoldsBoth, both_held, in_other, longer, part_grown, flip}
use Rattle.ops_deliver.specs.Turn.{turned_vproc, turned_vprocs, parent_entries, turned_group, turned_groups, turn_by}
use Rattle.ops_deliver.proofs.TurnedRows.{turned_at, turn, turned_rows, turned_is, row_turn, here_turn, comes_turn, uid_turn, links_turn, vproc_turn, own_count, sum}

-- the entry is such a change of the process of row r
pub record IsTurning (rows : List Row) (p : Pid) (job : Job) (r : Row) (e : Entry) (ph : Phase) (l : Life) (w : WaitStatus) (k : Signals → Signals) : Type 0 where
  pub legal : verdict rows e ≡ Legal
  pub of : process_of e ≡ p
  pub asked : IsAnswerTo job (Some e)
  pub table : after rows e ≡ received (sent_to_parent r) (map (turned_at r.pid l w k) rows)
  pub sends : (c : Row) → sent rows e c ≡ sent_to_parent r c
  pub place : (was here : NodeId) → place_after (Some e) was here ≡ was
  pub unplaced : is_placed (Some e) ≡ false
  pub tells : (now : List Row) (before left : Bag) → nudges_of rows now p before left (Some e) ≡ parent_of_row (row_of rows p)
  pub born : IsNoBirth (Some e)
  pub lives : is_living l ≡ true
  pub stops : (ph ≡ phase.Stopped) ↔ (is_stopped l ≡ true)
  pub stays : ph ≢ phase.Gone
  pub awake : ph ≢ phase.Asleep
  -- whom it stops stays stopped
  pub rests : ph ≡ phase.Stopped → (c : Row) → c.sig ≡ k r.sig → StaysStopped c
  pub ignores : (x : Signals) → (k x).ignored ≡ x.ignored

-- a living process with another life, its parent at hand
record IsTurned (rows : List Row) (bag : Bag) (r : Row) (l : Life) (k : Signals → Signals) : Type 0 where
  pub sound : IsSound rows
  pub agrees : Agrees bag rows
  pub row : row_of rows r.pid ≡ Some r
  pub living : is_living r.life ≡ true
  pub own : HoldsBoth bag r.pid
  pub parent : (row_of rows r.parent ≡ None) ⊎ HoldsBoth bag r.parent
  pub lives : is_living l ≡ true
  pub ignores : (x : Signals) → (k x).ignored ≡ x.ignored

own_parent : (rows : List Row) (bag : Bag) (r : Row) (l : Life) (k : Signals → Signals) → IsTurned rows bag r l k → r.parent.0 ≢ r.pid.0
own_parent rows bag r l k a = (a.sound.each r.pid r a.row).not_own_parent

own_row : (rows : List Row) (bag : Bag) (r : Row) (l : Life) (k : Signals → Signals) (c : Row) → IsTurned rows bag r l k → row_of rows c.pid ≡ Some c → is_pid r.pid c ≡ true → c ≡ r
own_row rows bag r l k c a at_c e = some_same c r (sym at_c ∙ ap (row_of rows) (pid_same c.pid r.pid (eqb-true _ _ e)) ∙ a.row)

vprocs_turn : (rows : List Row) (bag : Bag) (r : Row) (l : Life) (w : WaitStatus) (k : Signals → Signals) → IsTurned rows bag r l k → VprocsAgree (turned_vprocs bag r.pid l w) (turned_rows rows r l w k)
vprocs_turn rows bag r l w k a = λ q h e. go q h (vproc_at bag q) refl (sym (vproc_changed (only r.pid (option_map (turned_vproc l w))) same bag q) ∙ e)
  where
    go : (q : Pid) (h : Option Vproc) (o : Option (Option Vproc)) → vproc_at bag q ≡ o → option_map (only r.pid (option_map (turned_vproc l w)) q) o ≡ Some h → VprocAgrees (turned_rows rows r l w k) h (row_of (turned_rows rows r l w k) q)
    go q h None e m = cc
    go q h (Some y) e m = subst (λ (z : Option Vproc). VprocAgrees (turned_rows rows r l w k) z (row_of (turned_rows rows r l w k) q)) (some_same _ _ m) (vproc_turn rows r l w k q y a.ignores (a.agrees.vprocs q y e))

far_stopped : (rows : List Row) (r : Row) (l : Life) (w : WaitStatus) (k : Signals → Signals) (id : Pid) (c : Row) → is_pid r.pid c ≡ false → is_stopped_in id c ≡ is_stopped_in id (turn r l w k c)
far_stopped rows r l w k id c e = sym (ap (λ (b : Bool). in_group id c && is_stopped (cond b l c.life)) e)

stopped_turn : (rows : List Row) (bag : Bag) (r : Row) (l : Life) (w : WaitStatus) (k : Signals → Signals) (id : Pid) (g : Group) → IsTurned rows bag r l k → IsGroupOf rows id g → (turned_group bag r.pid r.parent l w id g).stopped ≡ stopped_in (turned_rows rows r l w k) id
stopped_turn rows bag r l w k id g a h =
    let later = turned_vprocs bag r.pid l w in
    let held : is_some (vproc_at bag r.pid) ≡ true = ap is_some a.own.held in
    let held_later : is_some (vproc_at later r.pid) ≡ true = ap is_some (vproc_changed (only r.pid (option_map (turned_vproc l w))) same bag r.pid ∙ only_at_same r.pid (option_map (turned_vproc l w)) r.pid (vproc_at bag r.pid) refl ∙ ap (option_map (option_map (turned_vproc l w))) a.own.held) in
    let was = own_count rows r.pid r (λ q. passes (is_stopped_to id) (vproc_in bag q)) (is_stopped_in id) a.sound a.row (passes_stopped rows bag id r a.agrees.vprocs a.row held) in
    let now = own_count rows r.pid r (λ q. passes (is_stopped_to id) (vproc_in later q)) (λ c. is_stopped_in id (turn r l w k c)) a.sound a.row
    (passes_stopped (turned_rows rows r l w k) later id (turn r l w k r) (vprocs_turn rows bag r l w k a) (here_turn rows r l w k r.pid r a.row) held_later) in
    sum g.stopped _ _ _ _ _ _ h.stopped was now (recount rows (is_pid r.pid) (is_stopped_in id) (λ c. is_stopped_in id (turn r l w k c)) a.sound (λ c here n. far_stopped rows r l w k id c n))
    ∙ sym (length-filter-map (is_stopped_in id) (turn r l w k) rows)

session_turn : (rows : List Row) (r : Row) (l : Life) (w : WaitStatus) (k : Signals → Signals) (id session : Pid) → ((q : Pid) (c : Row) → row_of rows q ≡ Some c → in_group id c ≡ true → c.session ≡ session) →
    (q : Pid) (c : Row) → row_of (turned_rows rows r l w k) q ≡ Some c → in_group id c ≡ true → c.session ≡ session
session_turn rows r l w k id session all q c here i = let b = comes_turn rows r l w k q c here in ap (λ (y : Row). y.session) b.2 ∙ all q b.0 b.1 (sym (ap (in_group id) b.2) ∙ i)

group_turn : (rows : List Row) (bag : Bag) (r : Row) (l : Life) (w : WaitStatus) (k : Signals → Signals) (id : Pid) (g : Group) → IsTurned rows bag r l k → IsGroupOf rows id g → IsGroupOf (turned_rows rows r l w k) id (turned_group bag r.pid r.parent l w id g)
group_turn rows bag r l w k id g a h = record {
  id_is = h.id_is;
  distinct = h.distinct;
  members = λ q. h.members q ∙ sym (uid_turn rows r l w k id q);
  session = session_turn rows r l w k id g.session h.session;
  from = All-weaker (λ m. m.from ≤ length g.log) (λ m. m.from ≤ length (g.log ++ parent_entries bag r.parent id)) (λ m b. longer m.from g.log (parent_entries bag r.parent id) b) g.members h.from;
  links = h.links ∙ sym (links_turn rows r l w k id a.sound a.row a.living a.lives);
  stopped = stopped_turn rows bag r l w k id g a h;
}

groups_turn : (rows : List Row) (bag : Bag) (r : Row) (l : Life) (w : WaitStatus) (k : Signals → Signals) (id : Pid) (h : Option Group) → IsTurned rows bag r l k → GroupAgrees rows id h → GroupAgrees (turned_rows rows r l w k) id (turned_groups bag r.pid r.parent l w id h)
groups_turn rows bag r l w k id None a n = λ q. uid_turn rows r l w k id q ∙ n q
groups_turn rows bag r l w k id (Some g) a n = (n.0, group_turn rows bag r l w k id g a n.1)

-- a group that is not held
own_out : (rows : List Row) (bag : Bag) (r : Row) (l : Life) (k : Signals → Signals) (id : Pid) → IsTurned rows bag r l k → group_at bag id ≡ None → in_group id r ≡ false
own_out rows bag r l k id a none = ap (λ (g : Pid). g.0 == id.0) (sym (own_record rows r.pid bag r a.own.vproc a.agrees a.row a.own.held).group) ∙ in_other bag id a.own.vproc.group none a.own.group

stopped_out : (rows : List Row) (bag : Bag) (r : Row) (l : Life) (w : WaitStatus) (k : Signals → Signals) (id : Pid) → IsTurned rows bag r l k → group_at bag id ≡ None → stopped_in (turned_rows rows r l w k) id ≡ stopped_in rows id
stopped_out rows bag r l w k id a none = length-filter-map (is_stopped_in id) (turn r l w k) rows ∙ ap length (filter-same number (λ c. is_stopped_in id (turn r l w k c)) (is_stopped_in id) rows (distinct rows a.sound.distinct) (λ c here. pick c here (is_pid r.pid c) refl))
  where
    pick : (c : Row) → row_of rows c.pid ≡ Some c → (b : Bool) → is_pid r.pid c ≡ b → is_stopped_in id (turn r l w k c) ≡ is_stopped_in id c
    pick c here true e =
        let out : in_group id c ≡ false = ap (in_group id) (own_row rows bag r l k c a here e) ∙ own_out rows bag r l k id a none in
        ap (λ b. b && is_stopped (turn r l w k c).life) out ∙ sym (ap (λ b. b && is_stopped c.life) out)
    pick c here false e = sym (far_stopped rows r l w k id c e)

groups_out : (rows : List Row) (bag : Bag) (r : Row) (l : Life) (w : WaitStatus) (k : Signals → Signals) (id : Pid) (h : Option Group) → IsTurned rows bag r l k → group_at bag id ≡ None → GroupAgrees rows id h → GroupAgrees (turned_rows rows r l w k) id h
groups_out rows bag r l w k id None a none n = λ q. uid_turn rows r l w k id q ∙ n q
groups_out rows bag r l w k id (Some g) a none n = (
  n.0,
  record {
    id_is = n.1.id_is;
    distinct = n.1.distinct;
    members = λ q. n.1.members q ∙ sym (uid_turn rows r l w k id q);
    session = session_turn rows r l w k id g.session n.1.session;
    from = n.1.from;
    links = n.1.links ∙ sym (links_turn rows r l w k id a.sound a.row a.living a.lives);
    stopped = n.1.stopped ∙ sym (stopped_out rows bag r l w k id a none);
  },
)

-- ---- the parent's signal
parent_in : (rows : List Row) (bag : Bag) (r : Row) (l : Life) (k : Signals → Signals) (x : Row) → IsTurned rows bag r l k → row_of rows x.pid ≡ Some x → is_pid r.parent x ≡ true → passes (λ d. d.group.0 == x.group.0) (vproc_in bag r.parent) ≡ true
parent_in rows bag r l k x a here e = go a.parent
  where
    at_x : row_of rows r.parent ≡ Some x
    at_x = ap (row_of rows) (pid_same r.parent x.pid (sym (eqb-true _ _ e))) ∙ here

    go : (row_of rows r.parent ≡ None) ⊎ HoldsBoth bag r.parent → passes (λ d. d.group.0 == x.group.0) (vproc_in bag r.parent) ≡ true
    go (inl n) = let h : row_of rows r.parent ≡ Some x = at_x in cc
    go (inr h) = ap (λ o. passes (λ d. d.group.0 == x.group.0) (present o)) h.held ∙ ap (λ (g : Pid). g.0 == x.group.0) (own_record rows r.parent bag x h.vproc a.agrees at_x h.held).group ∙ same_number x.group.0

chosen : (p : Pid) (uid : ℕ) (q : Pid) (a c t : Bool) → (q.0 == p.0) ≡ c → (a && c) ≡ t → map (λ e. e.signal) (filter (concerns p uid) (cond a (to_one Chld q ∷ []) [])) ≡ cond t (Chld ∷ []) []
chosen p uid q true true t e s = rw (← s) (rw e)
chosen p uid q true false t e s = rw (← s) (rw e)
chosen p uid q false c t e s = rw (← s)

entries_for : (rows : List Row) (bag : Bag) (r : Row) (l : Life) (k : Signals → Signals) (x : Row) (m : Pid) → IsTurned rows bag r l k → row_of rows m ≡ Some x → map (λ e. e.signal) (filter (concerns m x.uid) (parent_entries bag r.parent x.group)) ≡ sent_to_parent r x
entries_for rows bag r l k x m a here =
    chosen m x.uid r.parent (passes (λ d. d.group.0 == x.group.0) (vproc_in bag r.parent)) (r.parent.0 == m.0) (is_pid r.parent x) refl
    (ap (λ t. passes (λ d. d.group.0 == x.group.0) (vproc_in bag r.parent) && t) (flip r.parent.0 m.0 ∙ ap (λ (q : Pid). q.0 == r.parent.0) (sym (row_pid rows m x here)))
    ∙ both (passes (λ d. d.group.0 == x.group.0) (vproc_in bag r.parent)) (is_pid r.parent x) (parent_in rows bag r l k x a (row_own rows m x here)))
  where
    both : (i t : Bool) → (t ≡ true → i ≡ true) → (i && t) ≡ t
    both true t f = refl
    both false true f = let h : false ≡ true = f refl in cc
    both false false f = refl

-- a row whose group is not held gets nothing
nothing_sent : (rows : List Row) (bag : Bag) (r : Row) (l : Life) (k : Signals → Signals) (x : Row) → IsTurned rows bag r l k → row_of rows x.pid ≡ Some x → group_at bag x.group ≡ None → sent_to_parent r x ≡ []
nothing_sent rows bag r l k x a here none = ap (λ b. cond b (Chld ∷ []) []) (not_parent (is_pid r.parent x) refl)
  where
    not_parent : (b : Bool) → is_pid r.parent x ≡ b → b ≡ false
    not_parent false e = refl
    not_parent true e = go a.parent
      where
        at_x : row_of rows r.parent ≡ Some x
        at_x = ap (row_of rows) (pid_same r.parent x.pid (sym (eqb-true _ _ e))) ∙ here

        go : (row_of rows r.parent ≡ None) ⊎ HoldsBoth bag r.parent → true ≡ false
        go (inl n) = let h : row_of rows r.parent ≡ Some x = at_x in cc
        go (inr h) =
            let off : in_group x.group x ≡ false = ap (λ (g : Pid). g.0 == x.group.0) (sym (own_record rows r.parent bag x h.vproc a.agrees at_x h.held).group) ∙ in_other bag x.group h.vproc.group none h.group in
            let on : in_group x.group x ≡ true = same_number x.group.0 in cc

group_grown : (rows : List Row) (bag : Bag) (r : Row) (l : Life) (w : WaitStatus) (k : Signals → Signals) (fv : Pid → Option Vproc → Option Vproc) (m : Pid) (x : Row) (id : Pid) (g : Group) → IsTurned rows bag r l k → row_of rows m ≡ Some x → id ≡ x.group → group_at bag id ≡ Some (Some g) →
    (g' : Group) × (group_at (changed fv (turned_groups bag r.pid r.parent l w) bag) id ≡ Some (Some g')) × (log_part m x.uid g' ≡ log_part m x.uid g ++ sent_to_parent r x)
group_grown rows bag r l w k fv m x id g a here is held = (
  turned_group bag r.pid r.parent l w id g,
  group_changed fv (turned_groups bag r.pid r.parent l w) bag id ∙ ap (option_map (turned_groups bag r.pid r.parent l w id)) held,
  part_grown m x.uid g (turned_group bag r.pid r.parent l w id g) (parent_entries bag r.parent id) refl refl (from_found (length g.log) m.0 g.members (group_is rows bag id g a.agrees held).from)
      ∙ ap (λ s. log_part m x.uid g ++ s) (ap (λ (i : Pid). map (λ e. e.signal) (filter (concerns m x.uid) (parent_entries bag r.parent i))) is ∙ entries_for rows bag r l k x m a here),
)

-- ---- the step
turned_step : (rows : List Row) (job : Job) (site : Site) (sig : Signals) (bag : Bag) (r : Row) (v : Vproc) (g : Group) (e : Entry) (ph : Phase) (l : Life) (w : WaitStatus) (k : Signals → Signals) → IsTurned rows bag r l k → Settled rows r.pid sig bag r v g → IsTurning rows r.pid job r e ph l w k →
    IsStep rows (turned_rows rows r l w k) r.pid job site bag (decided_by (turn_by bag (k sig) e ph r.pid r.parent l w)) (written (turn_by bag (k sig) e ph r.pid r.parent l w) bag)
turned_step rows job site sig bag r v g e ph l w k a z q = record {
  legal = (q.legal, q.of);
  table = q.table ∙ turned_is rows r l w k;
  asked = q.asked;
  holds = ap is_some z.vproc;
  names = names_changed fv fg bag;
  agrees = agrees_changed rows (turned_rows rows r l w k) fv fg bag a.agrees
      (λ m h at_m. vproc_turn rows r l w k m h a.ignores (a.agrees.vprocs m h at_m))
      (λ id h at_id. groups_turn rows bag r l w k id h a (a.agrees.groups id h at_id));
  vprocs_elsewhere = λ m h away b kept. subst (λ (y : Option Vproc). VprocAgrees (turned_rows rows r l w k) y (row_of (turned_rows rows r l w k) m)) (only_other r.pid (option_map (turned_vproc l w)) m h (λ s. let held : is_some (vproc_at bag m) ≡ true = ap (λ (i : Pid). is_some (vproc_at bag i)) (pid_same m r.pid s) ∙ ap is_some a.own.held in let none : is_some (vproc_at bag m) ≡ false = ap is_some away in cc)) (vproc_turn rows r l w k m h a.ignores kept);
  groups_elsewhere = λ id h away kept. groups_out rows bag r l w k id h a away kept;
  own = λ r' here living.
      let of : IsRecordOf rows v r = own_record rows r.pid bag r v a.agrees a.row z.vproc in
      let t = group_grown rows bag r l w k fv r.pid r v.group g a a.row of.group z.group in
      let kept : stream (turned_vproc l w v) t.0 ≡ [] = ap (λ (s : List Signal). v.backlog ++ s) (part_at v t.0 r.pid r of.pid of.uid ∙ t.2 ∙ ap (λ (s : List Signal). log_part r.pid r.uid g ++ s) quiet ∙ append-nil (log_part r.pid r.uid g) ∙ sym (part_at v g r.pid r of.pid of.uid)) ∙ z.taken in (
        turned_vproc l w v,
        t.0,
        vproc_own r.pid refl v z.vproc,
        t.1,
        record {
          taken = omega arith;
          sig = ap (λ (c : Row). c.sig) (some_same _ _ (sym here ∙ here_turn rows r l w k r.pid r a.row)) ∙ own_sig ∙ ap k z.sig_is ∙ ap (λ (s : List Signal). generated_all (k sig) (drop 0 s)) (sym kept);
        },
      );
  others = λ m x x' ne here here' living. record {
    both = λ u h eu eh.
        let of : IsRecordOf rows u x = own_record rows m bag x u a.agrees here eu in
        let t = group_grown rows bag r l w k fv m x u.group h a here of.group eh in
        let at_m : u.pid ≡ m = of.pid ∙ row_pid rows m x here in (
          u,
          t.0,
          vproc_other m ne ∙ eu,
          t.1,
          ap (λ (s : List Signal). u.backlog ++ s) (part_at u t.0 m x at_m of.uid ∙ t.2 ∙ ap (λ (s : List Signal). s ++ sent_to_parent r x) (sym (part_at u h m x at_m of.uid)))
              ∙ sym (append_assoc u.backlog (log_part u.pid u.uid h) (sent_to_parent r x)) ∙ ap (λ (s : List Signal). stream u h ++ s) (sym (q.sends x)),
        );
    alone = λ u eu none.
        let of : IsRecordOf rows u x = own_record rows m bag x u a.agrees here eu in
        (u, vproc_other m ne ∙ eu, refl, refl, q.sends x ∙ nothing_sent rows bag r l k x a (row_own rows m x here) (ap (group_at bag) (sym of.group) ∙ none));
    log = λ h eu eh.
        let t = group_grown rows bag r l w k fv m x x.group h a here refl eh in
        (t.0, ap (λ (c : Row). c.group) (some_same _ _ (sym here' ∙ here_turn rows r l w k m x here)), t.1, t.2 ∙ ap (λ (s : List Signal). log_part m x.uid h ++ s) (sym (q.sends x)));
    neither = λ eu eh. q.sends x ∙ nothing_sent rows bag r l k x a (row_own rows m x here) eh;
  };
  nudged = λ m x x' ne here here' living some. nudge m x here (λ h. some (q.sends x ∙ h));
  wakes = λ m x x' ne here here' living none. (ap (λ (c : Row). c.group) (some_same _ _ (sym here' ∙ here_turn rows r l w k m x here)), λ i. unseen m x i here none);
  nudges = sym (q.tells (turned_rows rows r l w k) bag (changed fv fg bag) ∙ ap parent_of_row z.row);
  awake = q.awake;
  rests = λ stopped r' here. q.rests stopped r' (ap (λ (c : Row). c.sig) (some_same _ _ (sym here ∙ here_turn rows r l w k r.pid r a.row)) ∙ own_sig);
  places = λ m u u' ne eu eu'. loc_kept m u u' eu eu' (m.0 == r.pid.0) refl;
  place = λ u u' eu eu'. loc_kept r.pid u u' eu eu' (r.pid.0 == r.pid.0) refl ∙ sym (q.place u.loc site.node);
  arrives = λ placed u eu. let n : true ≡ false = sym placed ∙ q.unplaced in cc;
  birth = q.born;
  phase = lives_on ph _ (turn r l w k r) (here_turn rows r l w k r.pid r a.row) (ap is_living own_life ∙ q.lives) (subst (λ (y : Life). (ph ≡ phase.Stopped) ↔ (is_stopped y ≡ true)) (sym own_life) q.stops) q.stays;
}
  where
    fv : Pid → Option Vproc → Option Vproc
    fv = only r.pid (option_map (turned_vproc l w))

    fg : Pid → Option Group → Option Group
    fg = turned_groups bag r.pid r.parent l w

    part_at : (u : Vproc) (h : Group) (m : Pid) (x : Row) → u.pid ≡ m → u.uid ≡ x.uid → log_part u.pid u.uid h ≡ log_part m x.uid h
    part_at u h m x i n = ap (λ (y : Pid). log_part y u.uid h) i ∙ ap (λ (b : ℕ). log_part m b h) n

    own_life : (turn r l w k r).life ≡ l
    own_life = ap (λ (b : Bool). cond b l r.life) (same_number r.pid.0)

    quiet : sent_to_parent r r ≡ []
    quiet = ap (λ b. cond b (Chld ∷ []) []) (ne_eqb _ _ (λ s. own_parent rows bag r l k a (sym s)))

    own_sig : (turn r l w k r).sig ≡ k r.sig
    own_sig =
        ap (λ (b : Bool). generated_all (cond b (k r.sig) r.sig) (cond (is_living (turned_at r.pid l w k r).life) (sent_to_parent r r) [])) (same_number r.pid.0)
        ∙ ap (λ s. generated_all (k r.sig) (cond (is_living (turned_at r.pid l w k r).life) s [])) quiet ∙ nothing (is_living (turned_at r.pid l w k r).life)
      where
        nothing : (b : Bool) → generated_all (k r.sig) (cond b [] []) ≡ k r.sig
        nothing true = refl
        nothing false = refl

    vproc_own : (m : Pid) → m.0 ≡ r.pid.0 → (u : Vproc) → vproc_at bag m ≡ Some (Some u) → vproc_at (changed fv fg bag) m ≡ Some (Some (turned_vproc l w u))
    vproc_own m s u eu = vproc_changed fv fg bag m ∙ only_at_same r.pid (option_map (turned_vproc l w)) m (vproc_at bag m) s ∙ ap (option_map (option_map (turned_vproc l w))) eu

    vproc_other : (m : Pid) → m.0 ≢ r.pid.0 → vproc_at (changed fv fg bag) m ≡ vproc_at bag m
    vproc_other m ne = vproc_changed fv fg bag m ∙ only_at_other r.pid (option_map (turned_vproc l w)) m (vproc_at bag m) ne

    loc_kept : (m : Pid) (u u' : Vproc) → vproc_at bag m ≡ Some (Some u) → vproc_at (changed fv fg bag) m ≡ Some (Some u') → (b : Bool) → (m.0 == r.pid.0) ≡ b → u'.loc ≡ u.loc
    loc_kept m u u' eu eu' true s = ap (λ (y : Vproc). y.loc) (some_same u' (turned_vproc l w u) (some_same (Some u') (Some (turned_vproc l w u)) (sym eu' ∙ vproc_own m (eqb-true _ _ s) u eu)))
    loc_kept m u u' eu eu' false s = ap (λ (y : Vproc). y.loc) (some_same u' u (some_same (Some u') (Some u) (sym eu' ∙ vproc_other m (eqb-false _ _ s) ∙ eu)))

    -- the parent is no system process where it has a row, and so is nudged
    nudge : (m : Pid) (x : Row) → row_of rows m ≡ Some x → sent_to_parent r x ≢ [] → list_any (λ (n : Pid). n.0 == m.0) (cond (r.parent.0 == 1) [] (r.parent ∷ [])) ≡ true
    nudge m x here some = go (is_pid r.parent x) refl
      where
        go : (b : Bool) → is_pid r.parent x ≡ b → list_any (λ (n : Pid). n.0 == m.0) (cond (r.parent.0 == 1) [] (r.parent ∷ [])) ≡ true
        go true s =
            let own : r.parent.0 ≡ m.0 = sym (eqb-true _ _ s) ∙ found number m.0 rows x here in
            let not_one : (r.parent.0 == 1) ≡ false = ne_eqb _ _ (λ one. (a.sound.each m x here).not_system (found number m.0 rows x here ∙ sym own ∙ one)) in
            ap (λ b. list_any (λ (n : Pid). n.0 == m.0) (cond b [] (r.parent ∷ []))) not_one ∙ ap (λ n. (n == m.0) || false) own ∙ ap (λ b. b || false) (same_number m.0)
        go false s = absurd (some (ap (λ b. cond b (Chld ∷ []) []) s))

    unseen : (m : Pid) (x : Row) (i : Pid) → row_of rows m ≡ Some x → list_any (λ (n : Pid). n.0 == m.0) (cond (r.parent.0 == 1) [] (r.parent ∷ [])) ≡ false → seen_by m (turned_rows rows r l w k) i ≡ seen_by m rows i
    unseen m x i here none = ap (λ (o : Option Row). option_map report_in (option_filter (is_parent m) o)) (row_turn rows r l w k i) ∙ go (row_of rows i) (λ c s. row_own rows i c s)
      where
        up : m.0 ≢ r.parent.0
        up s = at_one (r.parent.0 == 1) refl none
          where
            at_one : (b : Bool) → (r.parent.0 == 1) ≡ b → list_any (λ (n : Pid). n.0 == m.0) (cond b [] (r.parent ∷ [])) ≡ false → ⊥
            at_one true t f = (a.sound.each m x here).not_system (found number m.0 rows x here ∙ s ∙ eqb-true _ _ t)
            at_one false t f = let yes : (r.parent.0 == m.0) ≡ true = eq-eqb _ _ (sym s) in let all : (r.parent.0 == m.0) || false ≡ true = ap (λ b. b || false) yes in absurd cc

        last : (c : Row) (b : Bool) → is_pid r.pid c ≡ false → option_map report_in (cond b (Some (turn r l w k c)) None) ≡ option_map report_in (cond b (Some c) None)
        last c true s = rw s
        last c false s = refl

        pick : (c : Row) → row_of rows c.pid ≡ Some c → (b : Bool) → is_pid r.pid c ≡ b → option_map report_in (option_filter (is_parent m) (Some (turn r l w k c))) ≡ option_map report_in (option_filter (is_parent m) (Some c))
        pick c at_c true s =
            let far : is_parent m c ≡ false = ap (is_parent m) (own_row rows bag r l k c a at_c s) ∙ ne_eqb _ _ (λ t. up (sym t)) in
            ap (λ (b : Bool). option_map report_in (cond b (Some (turn r l w k c)) None)) far ∙ sym (ap (λ (b : Bool). option_map report_in (cond b (Some c) None)) far)
        pick c at_c false s = last c (is_parent m c) s

        go : (o : Option Row) → ((c : Row) → o ≡ Some c → row_of rows c.pid ≡ Some c) → option_map report_in (option_filter (is_parent m) (option_map (turn r l w k) o)) ≡ option_map report_in (option_filter (is_parent m) o)
        go None at_c = refl
        go (Some c) at_c = pick c (at_c c refl) (is_pid r.pid c) refl

turn_law : (rows : List Row) (p : Pid) (job : Job) (site : Site) (sig : Signals) (bag : Bag) (r : Row) (v : Vproc) (g : Group) (e : Entry) (ph : Phase) (l : Life) (w : WaitStatus) (k : Signals → Signals) →
    Settled rows p sig bag r v g → (row_of rows r.parent ≡ None) ⊎ HoldsBoth bag r.parent → IsTurning rows p job r e ph l w k →
    IsStep rows (turned_rows rows r l w k) p job site bag (decided_by (turn_by bag (k sig) e ph v.pid v.parent l w)) (written (turn_by bag (k sig) e ph v.pid v.parent l w) bag)
turn_law rows p job site sig bag r v g e ph l w k s up q =
    let at_p : r.pid ≡ p = row_pid rows p r s.row in
    let of : IsRecordOf rows v r = own_record rows p bag r v s.agrees s.row s.vproc in
    let a : IsTurned rows bag r l k = record {
      sound = s.sound;
      agrees = s.agrees;
      row = row_own rows p r s.row;
      living = s.living;
      own = record { vproc = v; held = ap (vproc_at bag) at_p ∙ s.vproc; group = ap is_some s.group };
      parent = up;
      lives = q.lives;
      ignores = q.ignores;
    } in
    subst (λ (x : Effect). IsStep rows (turned_rows rows r l w k) p job site bag (decided_by x) (written x bag)) (sym (ap (λ (i : Pid). turn_by bag (k sig) e ph i v.parent l w) of.pid ∙ ap (λ (i : Pid). turn_by bag (k sig) e ph r.pid i l w) of.parent))
    (subst (λ (i : Pid). Settled rows i sig bag r v g → IsTurning rows i job r e ph l w k → IsStep rows (turned_rows rows r l w k) i job site bag (decided_by (turn_by bag (k sig) e ph r.pid r.parent l w)) (written (turn_by bag (k sig) e ph r.pid r.parent l w) bag)) at_p
    (λ z t. turned_step rows job site sig bag r v g e ph l w k a z t) s q)

-- ---- from what the footprint holds
up_held : (rows : List Row) (p : Pid) (sig : Signals) (bag : Bag) (r : Row) (v : Vproc) (g : Group) → Settled rows p sig bag r v g → EachHeld bag (parent_footprint bag v) → (row_of rows r.parent ≡ None) ⊎ HoldsBoth bag r.parent
up_held rows p sig bag r v g a h = subst (λ (q : Pid). (row_of rows q ≡ None) ⊎ HoldsBoth bag q) (own_record rows p bag r v a.agrees a.row a.vproc).parent (up (v.parent.0 == 1) refl h)
  where
    up : (b : Bool) → (v.parent.0 == 1) ≡ b → EachHeld bag (cond b [] (with_group bag v.parent)) → (row_of rows v.parent ≡ None) ⊎ HoldsBoth bag v.parent
    up true e k = inl (no_system rows v.parent a.sound (eqb-true _ _ e))
    up false e k = both_held rows bag v.parent a.agrees k

pub turning_step : (rows : List Row) (p : Pid) (job : Job) (site : Site) (sig : Signals) (bag : Bag) (r : Row) (v : Vproc) (g : Group) (e : Entry) (ph : Phase) (l : Life) (w : WaitStatus) (k : Signals → Signals) →
    Settled rows p sig bag r v g → EachHeld bag (parent_footprint bag v) → IsTurning rows p job r e ph l w k →
    IsStep rows (next rows (Some e)) p job site bag (decided_by (turn_by bag (k sig) e ph v.pid v.parent l w)) (written (turn_by bag (k sig) e ph v.pid v.parent l w) bag)
turning_step rows p job site sig bag r v g e ph l w k a held q =
    subst (λ (now : List Row). IsStep rows now p job site bag (decided_by (turn_by bag (k sig) e ph v.pid v.parent l w)) (written (turn_by bag (k sig) e ph v.pid v.parent l w) bag)) (sym (q.table ∙ turned_is rows r l w k))
    (turn_law rows p job site sig bag r v g e ph l w k a (up_held rows p sig bag r v g a held) q)
