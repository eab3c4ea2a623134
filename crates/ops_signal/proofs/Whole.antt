-- kill is a step of the one kernel
use Rattle.std.proofs.Common.{◌≡◌, ◌≢◌, ◌==◌, ◌&&◌, ◌||◌, ℕ, ℤ, Bool, true, false, cond, not, List, [], ◌∷◌, refl, sym, ap, ◌∙◌, subst, Option, None, Some}
use Rattle.std.specs.Prelude.{is_some, map, filter, if◌then◌else◌}
use Rattle.std.specs.List.{list_any}
use Rattle.std.proofs.lemmas.Bool.{eqb-true, eqb-false, ne_eqb, eq-eqb}
use Rattle.list_laws.proofs.Filters.{some_same, map-id, any-map, any-filter}
use Rattle.list_laws.proofs.Elements.{map-same, any_some}
use Rattle.list_laws.proofs.Finding.{same_number, found}
use Rattle.unix_names.specs.declared.Pid.{Pid}
use Rattle.unix_names.specs.declared.NodeId.{NodeId}
use Rattle.unix_names.specs.declared.Signal.{Signal}
use Rattle.unix_names.specs.declared.Name.TheVariants.{G}
use Rattle.unix_names.specs.declared.Errno.{Errno}
use Rattle.unix_names.specs.declared.Errno.TheVariants.{EPERM, ESRCH, EINVAL}
use Rattle.unix_names.specs.Signals.{signal_of}
use Rattle.unix_names.specs.States.{is_living}
use Rattle.unix_calls.specs.declared.Call.TheVariants.{Kill}
use Rattle.unix_calls.specs.declared.Reply.{Reply}
use Rattle.unix_calls.specs.declared.Reply.TheVariants.{Fine, Refused}
use Rattle.unix_calls.specs.declared.Entry.TheVariants.{Called}
use Rattle.unix_calls.specs.declared.Job.TheVariants.{Ask}
use Rattle.unix_calls.specs.declared.Phase.TheVariants as phase
use Rattle.unix_calls.specs.declared.Target.{Target}
use Rattle.unix_calls.specs.declared.Target.TheVariants.{OwnGroup, One, InGroup}
use Rattle.unix_calls.specs.Calls.{target_of}
use Rattle.signal_state.specs.Signals.{Signals}
use Rattle.signal_state.specs.Sig.{deliverable, generated_all}
use Rattle.vproc_record.specs.declared.Vproc.{Vproc}
use Rattle.group_record.specs.declared.Member.{Member}
use Rattle.group_record.specs.declared.LogEntry.{LogEntry}
use Rattle.group_record.specs.declared.Allow.TheVariants as allow
use Rattle.group_record.specs.declared.Group.{Group}
use Rattle.group_record.specs.Members.{member_number, member_of}
use Rattle.group_record.specs.Groups.{settled}
use Rattle.group_record.specs.Log.{told, allows as lets}
use Rattle.record_bag.specs.declared.bag.Bag.{Bag}
use Rattle.record_bag.specs.declared.vector.Site.{Site}
use Rattle.record_bag.specs.Bags.{present, vproc_in, group_in}
use Rattle.process_table.specs.declared.Row.{Row}
use Rattle.process_table.specs.Rows.{row_of, is_pid, in_group, is_stopped}
use Rattle.kernel_rules.specs.Events.{can_call}
use Rattle.kernel_rules.specs.Calls.{allows}
use Rattle.kernel_rules.specs.Permission.{may}
use Rattle.kernel_rules.specs.Kill.{is_named, is_permitted, is_sendable, is_system, sent_by_kill}
use Rattle.kernel_rules.specs.Kill as kernel
use Rattle.kernel_model.specs.declared.Verdict.TheVariants.{Legal}
use Rattle.kernel_model.specs.Sound.{IsSound}
use Rattle.process_table.specs.Changes.{receives}
use Rattle.kernel_model.specs.Step.{verdict, after, after_at, sent, sent_at}
use Rattle.kernel_choice.specs.Choice.{refused_or}
use Rattle.decide_law.specs.Agrees.{group_at, IsRecordOf, VprocAgrees, IsGroupOf}
use Rattle.decide_law.specs.Law.{Settled, next, IsNoBirth, IsStep}
use Rattle.decide_law.specs.Places.{is_placed}
use Rattle.decide_law.specs.Nudges.{but_caller, others_of, others_in, own_group, if_living, target_nudges, signal_nudges, nudges_of}
use Rattle.decide_law.specs.Effects.{Effect, replied, append, to_one, unless_refused, decided_by, written}
use Rattle.decide_law.specs.Footprints.{kill_footprint, target_footprint, with_living_group, living_group_shown}
use Rattle.decide_law.proofs.Records.{number, distinct, pid_same, row_own, member_has}
use Rattle.decide_law.specs.Parts.{EachHeld, IsCallStep}
use Rattle.decide_law.proofs.ReplyStep.{refused_legal, reply_step}
use Rattle.decide_law.proofs.AppendStep.{append_step}
use Rattle.decide_law.proofs.Shell.{own_record, group_is}
use Rattle.decide_law.proofs.Told.{present_vproc, present_group}
use Rattle.ops_signal.specs.Kill.{continues, may_process, is_nobody, is_forbidden, process_forbidden, kill_refusal, to_group, kill_entry, send_group, send_one, send, send_any, kill_effect}
use Rattle.ops_signal.proofs.Refusals.{may_told, may_in, refusal_is}

-- ---- the table
-- where no living process is sent anything
received_none : (rows : List Row) (f : Row → List Signal) → IsSound rows → ((c : Row) → row_of rows c.pid ≡ Some c → is_living c.life ≡ true → f c ≡ []) → map (receives f) rows ≡ rows
received_none rows f k e = map-same number (receives f) (λ c. c) rows (distinct rows k.distinct) (λ c here. ap (λ (l : List Signal). record c { sig = generated_all c.sig l }) (pick c here (is_living c.life) refl)) ∙ map-id rows
  where
    pick : (c : Row) → row_of rows c.pid ≡ Some c → (b : Bool) → is_living c.life ≡ b → cond b (f c) [] ≡ []
    pick c here true h = e c here h
    pick c here false h = refl

table_fine : (rows : List Row) (p : Pid) (r : Row) (z : ℤ) (s : ℕ) (o : Option Signal) → row_of rows p ≡ Some r → signal_of s ≡ o → after rows (kill_entry p z s) ≡ map (receives (sent_by_kill r (target_of z) s o)) rows
table_fine rows p r z s o here e = ap (λ x. after_at rows x (kill_entry p z s)) here ∙ ap (λ (x : Option Signal). map (receives (sent_by_kill r (target_of z) s x)) rows) e

sent_fine : (rows : List Row) (p : Pid) (r : Row) (z : ℤ) (s : ℕ) (o : Option Signal) (c : Row) → row_of rows p ≡ Some r → signal_of s ≡ o → sent rows (kill_entry p z s) c ≡ sent_by_kill r (target_of z) s o c
sent_fine rows p r z s o c here e = ap (λ x. sent_at rows x (kill_entry p z s) c) here ∙ ap (λ (x : Option Signal). sent_by_kill r (target_of z) s x c) e

-- ---- steps
abbrev StepBy : List Row → Pid → Option NodeId → Site → ℤ → ℕ → Bag → Effect → Type 0
StepBy rows p at site z s bag x = IsStep rows (next rows x.entry) p (Ask (Kill z s) at) site bag (decided_by x) (written x bag)

quiet_reply : (rows : List Row) (p : Pid) (site : Site) (at : Option NodeId) (sig : Signals) (bag : Bag) (r : Row) (v : Vproc) (g : Group) (z : ℤ) (s : ℕ) (reply : Reply) → Settled rows p sig bag r v g → is_stopped r.life ≡ false →
    verdict rows (Called p (Kill z s) reply) ≡ Legal → after rows (Called p (Kill z s) reply) ≡ rows → ((q : Pid) (c : Row) → row_of rows q ≡ Some c → is_living c.life ≡ true → sent rows (Called p (Kill z s) reply) c ≡ []) →
    is_placed (Some (Called p (Kill z s) reply)) ≡ false → ((before left : Bag) → nudges_of rows rows p before left (Some (Called p (Kill z s) reply)) ≡ []) → IsNoBirth (Some (Called p (Kill z s) reply)) → StepBy rows p at site z s bag (replied p (Kill z s) reply sig)
quiet_reply rows p site at sig bag r v g z s reply a alive legal table sends unplaced nobody born =
    reply_step rows p site at sig bag r v g (Kill z s) reply a alive record { legal = legal; table = table; sends = sends; place = λ was here. refl; unplaced = unplaced; nobody = nobody; born = born }

-- what a signal to these processes needs of an entry
pub record Reaches (rows : List Row) (p : Pid) (bag : Bag) (f : Row → List Signal) (id : Pid) (e : LogEntry) (nudges : List Pid) : Type 0 where
  pub held : is_some (group_at bag id) ≡ true
  pub tells : (q : Pid) (c : Row) (g : Group) → row_of rows q ≡ Some c → is_living c.life ≡ true → in_group id c ≡ true → group_at bag id ≡ Some (Some g) → told q c.uid e ≡ f c
  pub others : (q : Pid) (c : Row) → row_of rows q ≡ Some c → is_living c.life ≡ true → in_group id c ≡ false → f c ≡ []
  pub nudged : (q : Pid) (c : Row) → q.0 ≢ p.0 → row_of rows q ≡ Some c → is_living c.life ≡ true → f c ≢ [] → list_any (λ (n : Pid). n.0 == q.0) nudges ≡ true

sending : (rows : List Row) (p : Pid) (site : Site) (at : Option NodeId) (sig : Signals) (bag : Bag) (r : Row) (v : Vproc) (g : Group) (z : ℤ) (s : ℕ) (signal : Signal) (id : Pid) (e : LogEntry) (nudges : List Pid) → Settled rows p sig bag r v g → is_stopped r.life ≡ false →
    verdict rows (kill_entry p z s) ≡ Legal → signal_of s ≡ Some signal → nudges ≡ target_nudges rows p bag (target_of z) → Reaches rows p bag (sent_by_kill r (target_of z) s (Some signal)) id e nudges → StepBy rows p at site z s bag (append (Some (kill_entry p z s)) sig phase.Ready nudges id e)
sending rows p site at sig bag r v g z s signal id e nudges a alive legal is due m =
    subst (λ (now : List Row). IsStep rows now p (Ask (Kill z s) at) site bag (decided_by (append (Some (kill_entry p z s)) sig phase.Ready nudges id e)) (written (append (Some (kill_entry p z s)) sig phase.Ready nudges id e) bag)) (sym (table_fine rows p r z s (Some signal) a.row is))
    (append_step rows p (Ask (Kill z s) at) site sig bag r v g (sent_by_kill r (target_of z) s (Some signal)) nudges id e (Some (kill_entry p z s)) phase.Ready a record {
      legal = (legal, refl);
      asked = refl;
      table = table_fine rows p r z s (Some signal) a.row is;
      sends = λ c. sent_fine rows p r z s (Some signal) c a.row is;
      place = λ was here. refl;
      unplaced = refl;
      nudges_are = λ left. due ∙ sym (ap (signal_nudges rows p bag (target_of z)) is);
      born = tt;
      stops = (λ e. cc, λ e. cc);
      stays = λ e. cc;
      awake = λ e. cc;
      rests = λ e. absurd (cc e);
      held = m.held;
      tells = m.tells;
      others = m.others;
      nudged = m.nudged;
    })

-- ---- one process
-- who takes the signal is the process that is named
only_named : (b c : Bool) (signal : Signal) → cond (b && c) (signal ∷ []) [] ≢ [] → b ≡ true
only_named true c signal n = refl
only_named false c signal n = absurd (n refl)

unnamed : (b c : Bool) (signal : Signal) → b ≡ false → cond (b && c) (signal ∷ []) [] ≡ []
unnamed b c signal e = ap (λ (x : Bool). cond (x && c) (signal ∷ []) []) e

one_reaches : (rows : List Row) (p : Pid) (bag : Bag) (r : Row) (v : Vproc) (s : ℕ) (signal : Signal) (t : Pid) (u : Vproc) (x : Row) → row_of rows t ≡ Some x → IsRecordOf rows u x → may r x s ≡ true → is_some (group_at bag u.group) ≡ true →
    Reaches rows p bag (sent_by_kill r (One t) s (Some signal)) u.group (to_one signal t) (but_caller p t)
one_reaches rows p bag r v s signal t u x here of ok held = record {
  held = held;
  tells = λ q c g at_c living i g_at. tells q c at_c (t.0 == q.0) refl;
  others = λ q c at_c living out. unnamed (is_pid t c) (may r c s) signal (far q c at_c out (is_pid t c) refl);
  nudged = λ q c ne at_c living some. poked q c ne at_c (eqb-true _ _ (only_named (is_pid t c) (may r c s) signal some));
}
  where
    tells : (q : Pid) (c : Row) → row_of rows q ≡ Some c → (b : Bool) → (t.0 == q.0) ≡ b → cond (b && true) (signal ∷ []) [] ≡ cond (is_pid t c && may r c s) (signal ∷ []) []
    tells q c at_c true e =
        let one : t ≡ q = pid_same t q (eqb-true _ _ e) in
        let same : x ≡ c = some_same x c (sym here ∙ ap (row_of rows) one ∙ at_c) in
        sym (ap (λ (b : Bool). cond (b && may r c s) (signal ∷ []) []) (eq-eqb _ _ (found number q.0 rows c at_c ∙ sym (eqb-true _ _ e))) ∙ ap (λ (b : Bool). cond b (signal ∷ []) []) (ap (λ (y : Row). may r y s) (sym same) ∙ ok))
    tells q c at_c false e = sym (unnamed (is_pid t c) (may r c s) signal (ne_eqb _ _ (λ h. eqb-false _ _ e (sym h ∙ found number q.0 rows c at_c))))

    far : (q : Pid) (c : Row) → row_of rows q ≡ Some c → in_group u.group c ≡ false → (b : Bool) → is_pid t c ≡ b → b ≡ false
    far q c at_c out true e =
        let same : x ≡ c = some_same x c (sym here ∙ ap (row_of rows) (pid_same t c.pid (sym (eqb-true _ _ e))) ∙ row_own rows q c at_c) in
        let yes : in_group u.group c ≡ true = ap (in_group u.group) (sym same) ∙ ap (λ (i : Pid). x.group.0 == i.0) of.group ∙ same_number x.group.0 in cc
    far q c at_c out false e = refl

    poked : (q : Pid) (c : Row) → q.0 ≢ p.0 → row_of rows q ≡ Some c → c.pid.0 ≡ t.0 → list_any (λ (n : Pid). n.0 == q.0) (but_caller p t) ≡ true
    poked q c ne at_c e =
        let one : q.0 ≡ t.0 = sym (found number q.0 rows c at_c) ∙ e in
        ap (λ (b : Bool). list_any (λ (n : Pid). n.0 == q.0) (cond b [] (t ∷ []))) (ne_eqb _ _ (λ h. ne (one ∙ h))) ∙ ap (λ (b : Bool). b || false) (eq-eqb _ _ (sym one))

-- ---- a group
lets_is : (a c u : Bool) (n uid : ℕ) → (n == uid) ≡ u → lets (if a || c then allow.All else allow.Uid n) uid ≡ (a || (u || c))
lets_is true c u n uid e = refl
lets_is false true true n uid e = refl
lets_is false true false n uid e = refl
lets_is false false true n uid e = e
lets_is false false false n uid e = e

group_reaches : (rows : List Row) (p : Pid) (bag : Bag) (r : Row) (v : Vproc) (s : ℕ) (signal : Signal) (target : Target) (id : Pid) (g : Group) → IsRecordOf rows v r → IsGroupOf rows id g → group_at bag id ≡ Some (Some g) → ((c : Row) → is_named r target c ≡ in_group id c) →
    Reaches rows p bag (sent_by_kill r target s (Some signal)) id (to_group signal v s g) (others_of p g.members)
group_reaches rows p bag r v s signal target id g of k at_id is = record {
  held = ap is_some at_id;
  tells = λ q c h at_c living i h_at.
      ap (λ (b : Bool). cond b (signal ∷ []) []) (lets_is (v.uid == 0) (continues s v g.session) (v.uid == c.uid) v.uid c.uid refl ∙ may_in rows v r c s id g q of k at_c i)
      ∙ sym (ap (λ (b : Bool). cond (b && may r c s) (signal ∷ []) []) (is c ∙ i));
  others = λ q c at_c living out. unnamed (is_named r target c) (may r c s) signal (is c ∙ out);
  nudged = λ q c ne at_c living some. poked q c ne at_c (sym (is c) ∙ only_named (is_named r target c) (may r c s) signal some);
}
  where
    last : (q : Pid) → q.0 ≢ p.0 → (o : Option Member) → member_of g.members q ≡ o → is_some o ≡ true → list_any (λ (m : Member). not (m.pid.0 == p.0) && (m.pid.0 == q.0)) g.members ≡ true
    last q ne None e h = cc
    last q ne (Some m) e h =
        let n : m.pid.0 ≡ q.0 = found member_number q.0 g.members m e in
        any_some member_number (λ (m : Member). not (m.pid.0 == p.0) && (m.pid.0 == q.0)) q.0 g.members m e (ap (λ (b : Bool). not b && (m.pid.0 == q.0)) (ne_eqb _ _ (λ w. ne (sym n ∙ w))) ∙ eq-eqb _ _ n)

    poked : (q : Pid) (c : Row) → q.0 ≢ p.0 → row_of rows q ≡ Some c → in_group id c ≡ true → list_any (λ (n : Pid). n.0 == q.0) (others_of p g.members) ≡ true
    poked q c ne at_c i =
        any-map (λ (n : Pid). n.0 == q.0) (λ (m : Member). m.pid) (filter (λ m. not (m.pid.0 == p.0)) g.members) ∙ any-filter (λ (m : Member). m.pid.0 == q.0) (λ m. not (m.pid.0 == p.0)) g.members
        ∙ last q ne (member_of g.members q) refl (member_has rows id g q c k at_c i)

-- ---- which
none_facts : (x y n f : Bool) → (if not x then Some EINVAL else (if y then Some EPERM else (if n then Some ESRCH else (if f then Some EPERM else None)))) ≡ None → (x ≡ true) × (y ≡ false) × (n ≡ false) × (f ≡ false)
none_facts false y n f e = cc
none_facts true true n f e = cc
none_facts true false true f e = cc
none_facts true false false true e = cc
none_facts true false false false e = (refl, refl, refl, refl)

-- what no refusal tells
abbrev Passed : Bag → Vproc → Target → ℕ → Type 0
Passed bag v target s = (is_sendable s ≡ true) × (is_system target ≡ false) × (is_nobody bag target ≡ false) × (is_forbidden bag v target s ≡ false)

not_false : (b : Bool) → not b ≡ false → b ≡ true
not_false true e = refl
not_false false e = cc

-- to a group that is there
group_step : (rows : List Row) (p : Pid) (site : Site) (at : Option NodeId) (sig : Signals) (bag : Bag) (r : Row) (v : Vproc) (g : Group) (z : ℤ) (s : ℕ) (signal : Signal) (target : Target) (id : Pid) (h : Group) → Settled rows p sig bag r v g → is_stopped r.life ≡ false →
    verdict rows (kill_entry p z s) ≡ Legal → signal_of s ≡ Some signal → target_of z ≡ target → group_at bag id ≡ Some (Some h) → ((c : Row) → is_named r target c ≡ in_group id c) → others_in p (Some h) ≡ target_nudges rows p bag target → StepBy rows p at site z s bag (send_group sig p v z s signal id (group_in bag id))
group_step rows p site at sig bag r v g z s signal target id h a alive legal is names at_id same due =
    subst (λ (o : Option Group). StepBy rows p at site z s bag (send_group sig p v z s signal id o)) (sym (ap present at_id))
    (sending rows p site at sig bag r v g z s signal id (to_group signal v s h) (others_of p h.members) a alive legal is (due ∙ ap (target_nudges rows p bag) (sym names))
    (subst (λ (x : Target). Reaches rows p bag (sent_by_kill r x s (Some signal)) id (to_group signal v s h) (others_of p h.members)) (sym names)
    (group_reaches rows p bag r v s signal target id h (own_record rows p bag r v a.agrees a.row a.vproc) (group_is rows bag id h a.agrees at_id) at_id same)))

-- to a process that is there
one_step : (rows : List Row) (p : Pid) (site : Site) (at : Option NodeId) (sig : Signals) (bag : Bag) (r : Row) (v : Vproc) (g : Group) (z : ℤ) (s : ℕ) (signal : Signal) (t : Pid) (u : Vproc) (x : Row) → Settled rows p sig bag r v g → is_stopped r.life ≡ false →
    verdict rows (kill_entry p z s) ≡ Legal → signal_of s ≡ Some signal → target_of z ≡ One t → row_of rows t ≡ Some x → IsRecordOf rows u x → may r x s ≡ true → (b : Bool) → is_living u.life ≡ b → EachHeld bag (if b then G u.group ∷ [] else []) →
    StepBy rows p at site z s bag (if b then append (Some (kill_entry p z s)) sig phase.Ready (but_caller p t) u.group (to_one signal t) else replied p (Kill z s) Fine sig)
one_step rows p site at sig bag r v g z s signal t u x a alive legal is names here of ok true e held =
    sending rows p site at sig bag r v g z s signal u.group (to_one signal t) (but_caller p t) a alive legal is (sym (ap (target_nudges rows p bag) names ∙ ap (if_living p t) here ∙ ap (λ (b : Bool). cond b (but_caller p t) []) (sym (ap is_living of.life) ∙ e)))
    (subst (λ (y : Target). Reaches rows p bag (sent_by_kill r y s (Some signal)) u.group (to_one signal t) (but_caller p t)) (sym names) (one_reaches rows p bag r v s signal t u x here of ok held.0))
one_step rows p site at sig bag r v g z s signal t u x a alive legal is names here of ok false e held =
    quiet_reply rows p site at sig bag r v g z s Fine a alive legal
    (table_fine rows p r z s (Some signal) a.row is ∙ received_none rows (sent_by_kill r (target_of z) s (Some signal)) a.sound (λ c at_c living. nothing c.pid c at_c living))
    (λ q c at_c living. sent_fine rows p r z s (Some signal) c a.row is ∙ nothing q c at_c living) refl
    (λ before left. ap (signal_nudges rows p before (target_of z)) is ∙ ap (target_nudges rows p before) names ∙ ap (if_living p t) here ∙ ap (λ (b : Bool). cond b (but_caller p t) []) (sym (ap is_living of.life) ∙ e)) tt
  where
    far : (q : Pid) (c : Row) → row_of rows q ≡ Some c → is_living c.life ≡ true → (b : Bool) → is_pid t c ≡ b → b ≡ false
    far q c at_c living true i =
        let same : x ≡ c = some_same x c (sym here ∙ ap (row_of rows) (pid_same t c.pid (sym (eqb-true _ _ i))) ∙ row_own rows q c at_c) in
        let dead : is_living c.life ≡ false = ap (λ (y : Row). is_living y.life) (sym same) ∙ ap is_living (sym of.life) ∙ e in cc
    far q c at_c living false i = refl

    nothing : (q : Pid) (c : Row) → row_of rows q ≡ Some c → is_living c.life ≡ true → sent_by_kill r (target_of z) s (Some signal) c ≡ []
    nothing q c at_c living = ap (λ (y : Target). sent_by_kill r y s (Some signal) c) names ∙ unnamed (is_pid t c) (may r c s) signal (far q c at_c living (is_pid t c) refl)

-- by the target
process_step : (rows : List Row) (p : Pid) (site : Site) (at : Option NodeId) (sig : Signals) (bag : Bag) (r : Row) (v : Vproc) (g : Group) (z : ℤ) (s : ℕ) (signal : Signal) (t : Pid) → Settled rows p sig bag r v g → is_stopped r.life ≡ false →
    verdict rows (kill_entry p z s) ≡ Legal → signal_of s ≡ Some signal → target_of z ≡ One t → EachHeld bag (with_living_group bag t) → (h : Option Vproc) → vproc_in bag t ≡ h → is_some h ≡ true → process_forbidden v s h ≡ false → StepBy rows p at site z s bag (send_one sig p z s signal t h)
process_step rows p site at sig bag r v g z s signal t a alive legal is names held None e n f = cc
process_step rows p site at sig bag r v g z s signal t a alive legal is names held (Some u) e n f = by_row (row_of rows t) refl
  where
    living_held : EachHeld bag (if is_living u.life then G u.group ∷ [] else [])
    living_held = subst (λ (h : Option Vproc). EachHeld bag (living_group_shown h)) e held.1

    by_row : (o : Option Row) → row_of rows t ≡ o → StepBy rows p at site z s bag (send_one sig p z s signal t (Some u))
    by_row None here = absurd (subst (VprocAgrees rows (Some u)) here (a.agrees.vprocs t (Some u) (present_vproc bag t u e)))
    by_row (Some x) here =
        let of = own_record rows t bag x u a.agrees here (present_vproc bag t u e) in
        one_step rows p site at sig bag r v g z s signal t u x a alive legal is names here of (sym (may_told rows v u r x s (own_record rows p bag r v a.agrees a.row a.vproc) of) ∙ not_false (may_process v s u) f) (is_living u.life) refl living_held

there : (bag : Bag) (id : Pid) (h : Option Group) → group_in bag id ≡ h → is_some h ≡ true → (g : Group) × (group_at bag id ≡ Some (Some g))
there bag id None e n = cc
there bag id (Some g) e n = (g, present_group bag id g e)

not_system : (bag : Bag) (t : Pid) (b : Bool) → b ≡ false → EachHeld bag (if b then [] else with_living_group bag t) → EachHeld bag (with_living_group bag t)
not_system bag t true e h = cc
not_system bag t false e h = h

target_step : (rows : List Row) (p : Pid) (site : Site) (at : Option NodeId) (sig : Signals) (bag : Bag) (r : Row) (v : Vproc) (g : Group) (z : ℤ) (s : ℕ) (signal : Signal) (target : Target) → Settled rows p sig bag r v g → is_stopped r.life ≡ false →
    verdict rows (kill_entry p z s) ≡ Legal → signal_of s ≡ Some signal → target_of z ≡ target → EachHeld bag (target_footprint bag target) → Passed bag v target s → StepBy rows p at site z s bag (send bag sig p v z s signal target)
target_step rows p site at sig bag r v g z s signal OwnGroup a alive legal is names held f =
    group_step rows p site at sig bag r v g z s signal OwnGroup v.group g a alive legal is names a.group (λ c. ap (λ (i : Pid). c.group.0 == i.0) (sym (own_record rows p bag r v a.agrees a.row a.vproc).group))
    (sym (ap (λ (o : Option Row). others_in p (own_group bag o)) a.row ∙ ap (λ (i : Pid). others_in p (group_in bag i)) (sym (own_record rows p bag r v a.agrees a.row a.vproc).group) ∙ ap (λ (o : Option (Option Group)). others_in p (present o)) a.group))
target_step rows p site at sig bag r v g z s signal (InGroup id) a alive legal is names held f =
    let h = there bag id (group_in bag id) refl (not_false (is_some (group_in bag id)) f.2) in group_step rows p site at sig bag r v g z s signal (InGroup id) id h.0 a alive legal is names h.1 (λ c. refl) (sym (ap (λ (o : Option (Option Group)). others_in p (present o)) h.1))
target_step rows p site at sig bag r v g z s signal (One t) a alive legal is names held f =
    process_step rows p site at sig bag r v g z s signal t a alive legal is names (not_system bag t (t.0 == 1) f.1 held) (vproc_in bag t) refl (not_false (is_some (vproc_in bag t)) f.2) f.3

signal_step : (rows : List Row) (p : Pid) (site : Site) (at : Option NodeId) (sig : Signals) (bag : Bag) (r : Row) (v : Vproc) (g : Group) (z : ℤ) (s : ℕ) → Settled rows p sig bag r v g → is_stopped r.life ≡ false →
    verdict rows (kill_entry p z s) ≡ Legal → EachHeld bag (target_footprint bag (target_of z)) → Passed bag v (target_of z) s → (o : Option Signal) → signal_of s ≡ o → StepBy rows p at site z s bag (send_any bag sig p v z s o)
signal_step rows p site at sig bag r v g z s a alive legal held f None is =
    quiet_reply rows p site at sig bag r v g z s Fine a alive legal (table_fine rows p r z s None a.row is ∙ received_none rows (sent_by_kill r (target_of z) s None) a.sound (λ c at_c living. refl)) (λ q c at_c living. sent_fine rows p r z s None c a.row is) refl (λ before left. ap (signal_nudges rows p before (target_of z)) is) tt
signal_step rows p site at sig bag r v g z s a alive legal held f (Some signal) is = target_step rows p site at sig bag r v g z s signal (target_of z) a alive legal is refl held f

sendable_held : (bag : Bag) (target : Target) (b : Bool) → b ≡ true → EachHeld bag (if b then target_footprint bag target else []) → EachHeld bag (target_footprint bag target)
sendable_held bag target true e h = h
sendable_held bag target false e h = cc

refused_table : (rows : List Row) (p : Pid) (r : Row) (z : ℤ) (s : ℕ) (e : Errno) → row_of rows p ≡ Some r → after rows (Called p (Kill z s) (Refused e)) ≡ rows
refused_table rows p r z s e here = ap (λ o. after_at rows o (Called p (Kill z s) (Refused e))) here

refused_sent : (rows : List Row) (p : Pid) (r : Row) (z : ℤ) (s : ℕ) (e : Errno) (c : Row) → row_of rows p ≡ Some r → sent rows (Called p (Kill z s) (Refused e)) c ≡ []
refused_sent rows p r z s e c here = ap (λ o. sent_at rows o (Called p (Kill z s) (Refused e)) c) here

kill_step : (rows : List Row) (p : Pid) (site : Site) (at : Option NodeId) (sig : Signals) (bag : Bag) (r : Row) (v : Vproc) (g : Group) (z : ℤ) (s : ℕ) → Settled rows p sig bag r v g → is_stopped r.life ≡ false → deliverable sig ≡ 0 → EachHeld bag (kill_footprint bag (target_of z) s) →
    (o : Option Errno) → kill_refusal bag v (target_of z) s ≡ o → StepBy rows p at site z s bag (unless_refused o p (Kill z s) sig (send_any bag sig p v z s (signal_of s)))
kill_step rows p site at sig bag r v g z s a alive clear held (Some e) is =
    quiet_reply rows p site at sig bag r v g z s (Refused e) a alive
    (refused_legal rows p sig bag r v g (Kill z s) (Some e) Fine a alive clear (λ f. cc) (sym (refusal_is rows bag p v r (target_of z) s a.sound a.agrees (own_record rows p bag r v a.agrees a.row a.vproc) a.row held) ∙ is) refl)
    (refused_table rows p r z s e a.row) (λ q c at_c living. refused_sent rows p r z s e c a.row) refl (λ before left. refl) tt
kill_step rows p site at sig bag r v g z s a alive clear held None is =
    let f = none_facts (is_sendable s) (is_system (target_of z)) (is_nobody bag (target_of z)) (is_forbidden bag v (target_of z) s) is in
    signal_step rows p site at sig bag r v g z s a alive
    (refused_legal rows p sig bag r v g (Kill z s) None Fine a alive clear (λ f. cc) (sym (refusal_is rows bag p v r (target_of z) s a.sound a.agrees (own_record rows p bag r v a.agrees a.row a.vproc) a.row held) ∙ is) refl)
    (sendable_held bag (target_of z) (is_sendable s) f.0 held) f (signal_of s) refl

-- kill is a step of the one kernel
pub kill_is_step : (z : ℤ) (s : ℕ) → IsCallStep (Kill z s) (λ bag sig p v. kill_effect bag sig p v z s)
kill_is_step z s rows p site at sig bag r v g a alive clear held = kill_step rows p site at sig bag r v g z s a alive clear held (kill_refusal bag v (target_of z) s) refl
