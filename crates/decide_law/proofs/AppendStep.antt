-- decisions that append one entry to one log
use Rattle.std.proofs.Common.{◌≡◌, ◌≢◌, ◌==◌, ◌≤◌, ◌↔◌, ◌++◌, append_assoc, ℕ, Bool, true, false, cond, List, [], ◌∷◌, drop, length, refl, sym, ap, ◌∙◌, subst, arith, Option, None, Some, append-nil, length-append}
use Rattle.std.specs.Prelude.{map, is_some, All}
use Rattle.std.specs.List.{list_any}
use Rattle.std.specs.Option.{option_map}
use Rattle.std.proofs.lemmas.Bool.{eqb-true, eqb-false}
use Rattle.std.proofs.lemmas.List.Elements.{All-weaker, All-head, All-tail}
use Rattle.list_laws.specs.Keyed.{at}
use Rattle.list_laws.proofs.Filters.{some_same}
use Rattle.unix_names.specs.declared.Pid.{Pid}
use Rattle.unix_names.specs.declared.NodeId.{NodeId}
use Rattle.unix_names.specs.declared.Signal.{Signal}
use Rattle.unix_names.specs.declared.Signal.TheVariants.{Chld}
use Rattle.unix_names.specs.Sets.{has}
use Rattle.unix_names.specs.States.{is_living}
use Rattle.unix_calls.specs.declared.Entry.{Entry}
use Rattle.unix_calls.specs.declared.Job.{Job}
use Rattle.unix_calls.specs.declared.Phase.{Phase}
use Rattle.unix_calls.specs.declared.Phase.TheVariants as phase
use Rattle.signal_state.specs.Signals.{Signals}
use Rattle.signal_state.specs.Sig.{generated, generated_all}
use Rattle.vproc_record.specs.declared.Vproc.{Vproc}
use Rattle.group_record.specs.declared.Member.{Member}
use Rattle.group_record.specs.declared.LogEntry.{LogEntry}
use Rattle.group_record.specs.declared.Group.{Group}
use Rattle.group_record.specs.Members.{member_number, from_in}
use Rattle.group_record.specs.Log.{log_part, told}
use Rattle.group_record.specs.Groups.{with_entry}
use Rattle.group_record.proofs.LogLaws.{log_part-appended}
use Rattle.sig_stream.specs.Streams.{stream}
use Rattle.record_bag.specs.declared.bag.Bag.{Bag}
use Rattle.record_bag.specs.declared.vector.Site.{Site}
use Rattle.process_table.specs.declared.Row.{Row}
use Rattle.process_table.specs.Rows.{row_of, in_group, is_stopped}
use Rattle.process_table.specs.Changes.{receives}
use Rattle.decide_law.specs.Agrees.{vproc_at, group_at, IsRecordOf, VprocAgrees, IsGroupOf, GroupAgrees}
use Rattle.decide_law.specs.Law.{Settled, next, sent_to, IsLegalOf, IsAnswerTo, IsNoBirth, IsStep}
use Rattle.decide_law.specs.Places.{place_after, is_placed}
use Rattle.decide_law.specs.Effects.{only, same, changed, told_to, append, decided_by, written}
use Rattle.decide_law.proofs.Records.{pid_same, row_pid, only_keeps, still_record}
use Rattle.kernel_rules.specs.Events.{StaysStopped}
use Rattle.decide_law.proofs.Phases.{lives_on}
use Rattle.decide_law.proofs.Shell.{own_record, group_is}
use Rattle.decide_law.proofs.Changes.{vproc_changed, group_changed, names_changed, agrees_changed, only_at_same, only_at_other}
use Rattle.decide_law.proofs.Quiet.{same_at}
use Rattle.decide_law.proofs.Plain.{KeepsPlace, row_map, children_map, groups_map}
use Rattle.decide_law.specs.Nudges.{nudges_of}
use Rattle.decide_law.proofs.OwnStep.{kept_wakes}

-- ---- receiving
-- what is ignored stays so
ignored_all : (x : Signals) (ss : List Signal) → (generated_all x ss).ignored ≡ x.ignored
unfolding generated
ignored_all x [] = refl
ignored_all x (s ∷ ss) = ignored_all (generated x s) ss

pub receiving : (s : Row → List Signal) → KeepsPlace (receives s)
receiving s = record { pid = λ x. refl; parent = λ x. refl; group = λ x. refl; session = λ x. refl; uid = λ x. refl; life = λ x. refl }

pub record_received : (rows : List Row) (s : Row → List Signal) (y : Vproc) (x : Row) → IsRecordOf rows y x → IsRecordOf (map (receives s) rows) y (receives s x)
record_received rows s y x of =
    still_record rows (map (receives s) rows) y x (receives s x).sig y.ignchld y.children (of.ignchld ∙ ap (λ (n : ℕ). has n Chld) (sym (ignored_all x.sig (cond (is_living x.life) (s x) [])))) (of.children ∙ sym (children_map rows (receives s) x.pid (receiving s))) of

pub vproc_received : (rows : List Row) (s : Row → List Signal) (q : Pid) (h : Option Vproc) → VprocAgrees rows h (row_of rows q) → VprocAgrees (map (receives s) rows) h (row_of (map (receives s) rows) q)
vproc_received rows s q h a = subst (VprocAgrees (map (receives s) rows) h) (sym (row_map rows (receives s) q (receiving s))) (go h (row_of rows q) a)
  where
    go : (h : Option Vproc) (o : Option Row) → VprocAgrees rows h o → VprocAgrees (map (receives s) rows) h (option_map (receives s) o)
    go None None a = tt
    go None (Some x) a = absurd a
    go (Some y) None a = absurd a
    go (Some y) (Some x) a = record_received rows s y x a

-- ---- an entry more
told_group : (rows : List Row) (id : Pid) (g : Group) (e : LogEntry) → IsGroupOf rows id g → IsGroupOf rows id (with_entry g e)
told_group rows id g e k = record {
  id_is = k.id_is;
  distinct = k.distinct;
  members = k.members;
  session = k.session;
  from = All-weaker (λ m. m.from ≤ length g.log) (λ m. m.from ≤ length (g.log ++ e ∷ [])) (λ m h. simp length-append (omega arith)) g.members k.from;
  links = k.links;
  stopped = k.stopped;
}

told_agrees : (rows : List Row) (id : Pid) (e : LogEntry) (h : Option Group) → GroupAgrees rows id h → GroupAgrees rows id (option_map (told_to e) h)
told_agrees rows id e None a = a
told_agrees rows id e (Some g) a = (a.0, told_group rows id g e a.1)

-- where a member begins is within the log
pub from_found : (n q : ℕ) (ms : List Member) → All (λ m. m.from ≤ n) ms → from_in (at member_number q ms) ≤ n
from_found n q [] a = omega arith
from_found n q (m ∷ ms) a = go (m.pid.0 == q) (from_found n q ms (All-tail (λ m. m.from ≤ n) m ms a)) (All-head (λ m. m.from ≤ n) m ms a)
  where
    go : (b : Bool) → from_in (at member_number q ms) ≤ n → m.from ≤ n → from_in (cond b (Some m) (at member_number q ms)) ≤ n
    go true rest here = here
    go false rest here = rest

-- ---- the step
-- what such a decision owes beside: the entry tells each living process what it is sent, and each other one that is sent anything is nudged
pub record IsAppend (rows : List Row) (p : Pid) (job : Job) (site : Site) (bag : Bag) (r : Row) (s : Row → List Signal) (nudges : List Pid) (id : Pid) (e : LogEntry) (entry : Option Entry) (ph : Phase) : Type 0 where
  pub legal : IsLegalOf rows p entry
  pub asked : IsAnswerTo job entry
  pub table : next rows entry ≡ map (receives s) rows
  pub sends : (c : Row) → sent_to rows entry c ≡ s c
  pub place : (was here : NodeId) → place_after entry was here ≡ was
  pub unplaced : is_placed entry ≡ false
  pub nudges_are : (left : Bag) → nudges ≡ nudges_of rows (map (receives s) rows) p bag left entry
  pub born : IsNoBirth entry
  pub stops : (ph ≡ phase.Stopped) ↔ (is_stopped r.life ≡ true)
  pub stays : ph ≢ phase.Gone
  pub awake : ph ≢ phase.Asleep
  pub rests : ph ≡ phase.Stopped → StaysStopped (receives s r)
  pub held : is_some (group_at bag id) ≡ true
  pub tells : (q : Pid) (c : Row) (g : Group) → row_of rows q ≡ Some c → is_living c.life ≡ true → in_group id c ≡ true → group_at bag id ≡ Some (Some g) → told q c.uid e ≡ s c
  pub others : (q : Pid) (c : Row) → row_of rows q ≡ Some c → is_living c.life ≡ true → in_group id c ≡ false → s c ≡ []
  pub nudged : (q : Pid) (c : Row) → q.0 ≢ p.0 → row_of rows q ≡ Some c → is_living c.life ≡ true → s c ≢ [] → list_any (λ (n : Pid). n.0 == q.0) nudges ≡ true

pub append_step : (rows : List Row) (p : Pid) (job : Job) (site : Site) (sig : Signals) (bag : Bag) (r : Row) (v : Vproc) (g : Group) (s : Row → List Signal) (nudges : List Pid) (id : Pid) (e : LogEntry) (entry : Option Entry) (ph : Phase) →
    Settled rows p sig bag r v g → IsAppend rows p job site bag r s nudges id e entry ph → IsStep rows (map (receives s) rows) p job site bag (decided_by (append entry sig ph nudges id e)) (written (append entry sig ph nudges id e) bag)
append_step rows p job site sig bag r v g s nudges id e entry ph a q = record {
  legal = q.legal;
  table = q.table;
  asked = q.asked;
  holds = ap is_some a.vproc;
  names = names_changed same (only id (option_map (told_to e))) bag;
  agrees = agrees_changed rows (map (receives s) rows) same (only id (option_map (told_to e))) bag a.agrees
      (λ m h at_m. vproc_received rows s m h (a.agrees.vprocs m h at_m))
      (λ i h at_i. let k = groups_map rows (receives s) i h (receiving s) (a.agrees.groups i h at_i) in only_keeps (GroupAgrees (map (receives s) rows)) id (option_map (told_to e)) i h k (told_agrees (map (receives s) rows) i e h k));
  vprocs_elsewhere = λ m h away b k. vproc_received rows s m h k;
  groups_elsewhere = λ i h away k. groups_map rows (receives s) i h (receiving s) k;
  own = λ r' here alive.
      let of = own_record rows p bag r v a.agrees a.row a.vproc in
      let t = grown p r g v.group a.row a.living of.group a.group in
      let at_p : v.pid ≡ p = of.pid ∙ row_pid rows p r a.row in
      let all : stream v t.0 ≡ s r = ap (λ (l : List Signal). v.backlog ++ l) (part_at v t.0 p r at_p of.uid ∙ t.2 ∙ ap (λ (l : List Signal). l ++ s r) (sym (part_at v g p r at_p of.uid))) ∙ sym (append_assoc v.backlog (log_part v.pid v.uid g) (s r)) ∙ ap (λ (l : List Signal). l ++ s r) a.taken in (
        v,
        t.0,
        vproc_kept p ∙ a.vproc,
        t.1,
        record {
          taken = omega arith;
          sig = ap (λ (x : Row). x.sig) (some_same _ _ (sym here ∙ row_map rows (receives s) p (receiving s) ∙ ap (option_map (receives s)) a.row))
              ∙ ap (λ (b : Bool). generated_all r.sig (cond b (s r) [])) a.living ∙ ap (λ (x : Signals). generated_all x (s r)) a.sig_is ∙ ap (λ (l : List Signal). generated_all sig (drop 0 l)) (sym all);
        },
      );
  others = λ m x x' ne here here' alive.
      let living : is_living x.life ≡ true = sym (ap (λ (c : Row). is_living c.life) (same_row m x x' here here')) ∙ alive in
      record {
        both = λ u h eu eh.
            let of = own_record rows m bag x u a.agrees here eu in
            let t = grown m x h u.group here living of.group eh in
            let at_m : u.pid ≡ m = of.pid ∙ row_pid rows m x here in (
              u,
              t.0,
              vproc_kept m ∙ eu,
              t.1,
              ap (λ (l : List Signal). u.backlog ++ l) (part_at u t.0 m x at_m of.uid ∙ t.2 ∙ ap (λ (l : List Signal). l ++ s x) (sym (part_at u h m x at_m of.uid))) ∙ sym (append_assoc u.backlog (log_part u.pid u.uid h) (s x)) ∙ ap (λ (l : List Signal). stream u h ++ l) (sym (q.sends x)),
            );
        alone = λ u eu none. let of = own_record rows m bag x u a.agrees here eu in (u, vproc_kept m ∙ eu, refl, refl, q.sends x ∙ q.others m x here living (out_of x (ap (group_at bag) (sym of.group) ∙ none)));
        log = λ h eu eh. let t = grown m x h x.group here living refl eh in (t.0, ap (λ (c : Row). c.group) (same_row m x x' here here'), t.1, t.2 ∙ ap (λ (l : List Signal). log_part m x.uid h ++ l) (sym (q.sends x)));
        neither = λ eu eh. q.sends x ∙ q.others m x here living (out_of x eh);
      };
  nudged = λ m x x' ne here here' alive some. q.nudged m x ne here (sym (ap (λ (c : Row). is_living c.life) (same_row m x x' here here')) ∙ alive) (λ h. some (q.sends x ∙ h));
  wakes = kept_wakes rows (receives s) p nudges (receiving s) (λ c. refl);
  places = λ m u u' ne eu eu'. ap (λ (w : Vproc). w.loc) (some_same _ _ (some_same _ _ (sym eu' ∙ vproc_kept m ∙ eu)));
  place = λ u u' eu eu'. ap (λ (w : Vproc). w.loc) (some_same _ _ (some_same _ _ (sym eu' ∙ vproc_kept p ∙ eu))) ∙ sym (q.place u.loc site.node);
  arrives = λ placed u eu. let f : true ≡ false = sym placed ∙ q.unplaced in cc;
  nudges = q.nudges_are (written (append entry sig ph nudges id e) bag);
  birth = q.born;
  phase = lives_on ph _ (receives s r) (row_map rows (receives s) p (receiving s) ∙ ap (option_map (receives s)) a.row) a.living q.stops q.stays;
  awake = q.awake;
  rests = λ e r' here. subst StaysStopped (some_same (receives s r) r' (sym (row_map rows (receives s) p (receiving s) ∙ ap (option_map (receives s)) a.row) ∙ here)) (q.rests e);
}
  where
    vproc_kept : (m : Pid) → vproc_at (changed same (only id (option_map (told_to e))) bag) m ≡ vproc_at bag m
    vproc_kept m = vproc_changed same (only id (option_map (told_to e))) bag m ∙ same_at m (vproc_at bag m)

    same_row : (m : Pid) (x x' : Row) → row_of rows m ≡ Some x → row_of (map (receives s) rows) m ≡ Some x' → x' ≡ receives s x
    same_row m x x' here here' = some_same _ _ (sym here' ∙ row_map rows (receives s) m (receiving s) ∙ ap (option_map (receives s)) here)

    part_at : (u : Vproc) (h : Group) (m : Pid) (x : Row) → u.pid ≡ m → u.uid ≡ x.uid → log_part u.pid u.uid h ≡ log_part m x.uid h
    part_at u h m x i n = ap (λ (y : Pid). log_part y u.uid h) i ∙ ap (λ (k : ℕ). log_part m k h) n

    out_of : (x : Row) → group_at bag x.group ≡ None → in_group id x ≡ false
    out_of x none = go (in_group id x) refl
      where
        go : (b : Bool) → in_group id x ≡ b → b ≡ false
        go true t = let h : is_some (group_at bag x.group) ≡ true = ap (λ (i : Pid). is_some (group_at bag i)) (pid_same x.group id (eqb-true _ _ t)) ∙ q.held in let n : is_some (group_at bag x.group) ≡ false = ap is_some none in cc
        go false t = refl

    -- the group of a living row
    grown : (m : Pid) (x : Row) (h : Group) (i : Pid) → row_of rows m ≡ Some x → is_living x.life ≡ true → i ≡ x.group → group_at bag i ≡ Some (Some h) →
        (g' : Group) × (group_at (changed same (only id (option_map (told_to e))) bag) i ≡ Some (Some g')) × (log_part m x.uid g' ≡ log_part m x.uid h ++ s x)
    grown m x h i here living is at_i = go (i.0 == id.0) refl
      where
        go : (b : Bool) → (i.0 == id.0) ≡ b → (g' : Group) × (group_at (changed same (only id (option_map (told_to e))) bag) i ≡ Some (Some g')) × (log_part m x.uid g' ≡ log_part m x.uid h ++ s x)
        go true t =
            let one : i ≡ id = pid_same i id (eqb-true _ _ t) in
            let k : IsGroupOf rows i h = group_is rows bag i h a.agrees at_i in (
              with_entry h e,
              group_changed same (only id (option_map (told_to e))) bag i ∙ only_at_same id (option_map (told_to e)) i (group_at bag i) (eqb-true _ _ t) ∙ ap (option_map (option_map (told_to e))) at_i,
              log_part-appended h m x.uid e (from_found (length h.log) m.0 h.members k.from) ∙ ap (λ (l : List Signal). log_part m x.uid h ++ l) (q.tells m x h here living (ap (λ (j : Pid). j.0 == id.0) (sym is) ∙ t) (ap (group_at bag) (sym one) ∙ at_i)),
            )
        go false t = (
          h,
          group_changed same (only id (option_map (told_to e))) bag i ∙ only_at_other id (option_map (told_to e)) i (group_at bag i) (eqb-false _ _ t) ∙ at_i,
          sym (append-nil (log_part m x.uid h)) ∙ ap (λ (l : List Signal). log_part m x.uid h ++ l) (sym (q.others m x here living (ap (λ (j : Pid). j.0 == id.0) (sym is) ∙ t))),
        )
