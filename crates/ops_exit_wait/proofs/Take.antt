-- a child that has ended is taken
use Rattle.std.proofs.Common.{◌≡◌, ◌≢◌, ◌==◌, ◌++◌, ℕ, ℤ, Bool, true, false, cond, List, [], drop, refl, sym, ap, ◌∙◌, subst, arith, Option, None, Some, append-nil}
use Rattle.std.specs.Prelude.{is_some}
use Rattle.std.specs.Option.{option_map}
use Rattle.std.proofs.lemmas.Bool.{eqb-true, eqb-false, ne_eqb}
use Rattle.list_laws.specs.Keyed.{at, option_filter}
use Rattle.list_laws.proofs.Filters.{some_same}
use Rattle.list_laws.proofs.Finding.{found, same_number}
use Rattle.unix_names.specs.declared.Pid.{Pid}
use Rattle.unix_names.specs.declared.NodeId.{NodeId}
use Rattle.unix_names.specs.declared.Signal.{Signal}
use Rattle.unix_names.specs.declared.WaitStatus.{WaitStatus}
use Rattle.unix_names.specs.States.{is_living}
use Rattle.unix_calls.specs.declared.Job.TheVariants.{Ask}
use Rattle.unix_calls.specs.declared.Call.TheVariants.{Waitpid}
use Rattle.unix_calls.specs.declared.Reply.{Reply}
use Rattle.unix_calls.specs.declared.Reply.TheVariants.{Child}
use Rattle.unix_calls.specs.declared.Entry.TheVariants.{Called}
use Rattle.signal_state.specs.Signals.{Signals}
use Rattle.signal_state.specs.Sig.{generated_all}
use Rattle.vproc_record.specs.declared.Vproc.{Vproc}
use Rattle.vproc_record.specs.Lists.{without}
use Rattle.vproc_record.specs.Vprocs.{without_child}
use Rattle.group_record.specs.declared.Group.{Group}
use Rattle.group_record.specs.Groups.{left}
use Rattle.group_record.specs.Log.{log_part}
use Rattle.group_record.proofs.LogLaws.{log_part-left_other}
use Rattle.sig_stream.specs.Streams.{stream}
use Rattle.record_bag.specs.declared.bag.Bag.{Bag}
use Rattle.record_bag.specs.declared.vector.Site.{Site}
use Rattle.process_table.specs.declared.Row.{Row}
use Rattle.process_table.specs.Rows.{row_of, is_parent, in_group, is_stopped}
use Rattle.kernel_model.specs.declared.Verdict.TheVariants.{Legal}
use Rattle.kernel_model.specs.Sound.{IsSound}
use Rattle.kernel_model.specs.Step.{verdict, after, sent, sent_at}
use Rattle.decide_law.specs.Agrees.{vproc_at, group_at, children_of, IsRecordOf, VprocAgrees, GroupAgrees}
use Rattle.decide_law.specs.Wakes.{report_in, seen_by}
use Rattle.decide_law.specs.Law.{Settled, Grows, IsStep}
use Rattle.decide_law.specs.Effects.{only, changed, decided_by, written}
use Rattle.decide_law.proofs.Records.{number, pid_same, row_pid, only_same, only_other, member_has, still_record}
use Rattle.decide_law.proofs.Groups.{nobody, unless_empty_agrees, unless_empty_some}
use Rattle.decide_law.proofs.Shell.{own_record}
use Rattle.decide_law.proofs.Changes.{vproc_changed, group_changed, names_changed, agrees_changed}
use Rattle.ops_exit_wait.specs.Waitpid.{taken_vproc, leaves, take}
use Rattle.ops_exit_wait.proofs.Taken.{Takes, gone, row_other, row_none, stays_there, children_gone, children_kept, group_gone, group_out}

-- ---- records
-- what is held under each name agrees with the table without the child
pub vproc_gone : (rows : List Row) (p c q : Pid) (x : Row) (h : Option Vproc) → IsSound rows → row_of rows c ≡ Some x → x.parent ≡ p → VprocAgrees rows h (row_of rows q) → VprocAgrees (gone c rows) (taken_vproc p c q h) (row_of (gone c rows) q)
vproc_gone rows p c q x h k here up a = pick (q.0 == c.0) refl
  where
    at_p : (y : Vproc) (d : Row) (b : Bool) → (q.0 == p.0) ≡ b → row_of rows q ≡ Some d → IsRecordOf rows y d → VprocAgrees (gone c rows) (cond b (Some (without_child y c)) (Some y)) (Some d)
    at_p y d true e at_q of = still_record rows (gone c rows) y d d.sig y.ignchld (without c y.children) of.ignchld (ap (without c) of.children ∙ sym (children_gone rows c d.pid k)) of
    at_p y d false e at_q of =
        let ne : x.parent.0 ≢ d.pid.0 = λ s. eqb-false _ _ e (sym (found number q.0 rows d at_q) ∙ sym s ∙ ap (λ (i : Pid). i.0) up) in
        still_record rows (gone c rows) y d d.sig y.ignchld y.children of.ignchld (of.children ∙ sym (children_kept rows c d.pid x k here ne)) of

    other : (h : Option Vproc) (o : Option Row) → row_of rows q ≡ o → VprocAgrees rows h o → VprocAgrees (gone c rows) (only p (option_map (λ v. without_child v c)) q h) o
    other None None e a = none (q.0 == p.0)
      where
        none : (b : Bool) → VprocAgrees (gone c rows) (cond b (option_map (λ v. without_child v c) None) None) None
        none true = tt
        none false = tt
    other None (Some d) e a = absurd a
    other (Some y) None e a = absurd a
    other (Some y) (Some d) e a = at_p y d (q.0 == p.0) refl e a

    pick : (b : Bool) → (q.0 == c.0) ≡ b → VprocAgrees (gone c rows) (taken_vproc p c q h) (row_of (gone c rows) q)
    pick true e =
        subst (λ (o : Option Row). VprocAgrees (gone c rows) (taken_vproc p c q h) o) (sym (row_none rows c q k (eqb-true _ _ e)))
        (subst (λ (z : Option Vproc). VprocAgrees (gone c rows) z None) (sym (only_same c (λ x. None) q (only p (option_map (λ v. without_child v c)) q h) (eqb-true _ _ e))) tt)
    pick false e =
        subst (λ (o : Option Row). VprocAgrees (gone c rows) (taken_vproc p c q h) o) (sym (row_other rows c q k (eqb-false _ _ e)))
        (subst (λ (z : Option Vproc). VprocAgrees (gone c rows) z (row_of rows q)) (sym (only_other c (λ x. None) q (only p (option_map (λ v. without_child v c)) q h) (eqb-false _ _ e))) (other h (row_of rows q) refl a))

-- the group that the child was in, which may be absent now
left_agrees : (rows : List Row) (c id : Pid) (x : Row) (h : Option Group) → IsSound rows → row_of rows c ≡ Some x → is_living x.life ≡ false → GroupAgrees rows id h → GroupAgrees (gone c rows) id (leaves c h)
left_agrees rows c id x None k here ended a = group_out rows c id x None k here ended (nobody rows id c x a here) a
left_agrees rows c id x (Some g) k here ended a = unless_empty_agrees (gone c rows) id (left g c) (group_gone rows c id x g k here ended a.1)

nothing_sent : (rows : List Row) (p : Pid) (r : Row) (sel : ℤ) (stopped continued : Bool) (reply : Reply) (c : Row) → row_of rows p ≡ Some r → sent rows (Called p (Waitpid sel stopped continued) reply) c ≡ []
nothing_sent rows p r sel stopped continued reply c e = ap (λ o. sent_at rows o (Called p (Waitpid sel stopped continued) reply) c) e

-- ---- the law
pub take_law : (rows : List Row) (p : Pid) (site : Site) (at : Option NodeId) (sig : Signals) (bag : Bag) (r : Row) (v : Vproc) (g : Group) (sel : ℤ) (stopped continued : Bool) (u : Vproc) (x : Row) (w : WaitStatus) →
    Settled rows p sig bag r v g → Takes rows bag p u x → is_stopped r.life ≡ false → verdict rows (Called p (Waitpid sel stopped continued) (Child u.pid w)) ≡ Legal → after rows (Called p (Waitpid sel stopped continued) (Child u.pid w)) ≡ gone u.pid rows →
    IsStep rows (gone u.pid rows) p (Ask (Waitpid sel stopped continued) at) site bag (decided_by (take sig p (Waitpid sel stopped continued) u w)) (written (take sig p (Waitpid sel stopped continued) u w) bag)
take_law rows p site at sig bag r v g sel stopped continued u x w a m alive legal tbl = record {
  legal = (legal, refl);
  table = tbl;
  asked = refl;
  holds = ap is_some a.vproc;
  names = names_changed fv fg bag;
  agrees = agrees_changed rows (gone u.pid rows) fv fg bag a.agrees
      (λ q h e. vproc_gone rows p u.pid q x h a.sound m.row m.parent (a.agrees.vprocs q h e))
      (λ id h e. group_later id h (a.agrees.groups id h e) (id.0 == u.group.0) refl);
  vprocs_elsewhere = λ q h away b k. subst (λ (y : Option Vproc). VprocAgrees (gone u.pid rows) y (row_of (gone u.pid rows) q)) (only_other u.pid (λ x. None) q (only p (option_map (λ v. without_child v u.pid)) q h) (away_from q u.pid u m.held away) ∙ only_other p (option_map (λ v. without_child v u.pid)) q h (away_from q p v a.vproc away))
      (vproc_gone rows p u.pid q x h a.sound m.row m.parent k);
  groups_elsewhere = λ id h away k. group_out rows u.pid id x h a.sound m.row m.ended (out_of id away) k;
  own = λ r' here living.
      let s = stays p r g v.group a.row not_own of_v.group a.group in
      let at_p : v.pid ≡ p = of_v.pid ∙ row_pid rows p r a.row in
      let kept : stream (without_child v u.pid) s.0 ≡ [] = ap (λ (l : List Signal). v.backlog ++ l) (ap (λ (i : Pid). log_part i v.uid s.0) at_p ∙ ap (λ (n : ℕ). log_part p n s.0) of_v.uid ∙ s.2 ∙ ap (λ (n : ℕ). log_part p n g) (sym of_v.uid) ∙ ap (λ (i : Pid). log_part i v.uid g) (sym at_p)) ∙ a.taken in (
        without_child v u.pid,
        s.0,
        vproc_own p refl,
        s.1,
        record {
          taken = omega arith;
          sig = ap (λ (c : Row). c.sig) (some_same r' r (sym (stays_there rows u.pid p r' a.sound here).1 ∙ a.row)) ∙ a.sig_is ∙ ap (λ (l : List Signal). generated_all sig (drop 0 l)) (sym kept);
        },
      );
  others = λ q y y' ne here here' living. grows q y y' ne here here';
  nudged = λ q y y' ne here here' living some. absurd (some (nothing_sent rows p r sel stopped continued (Child u.pid w) y a.row));
  wakes = λ m y y' ne here here' living none. (ap (λ (c : Row). c.group) (some_same y' y (sym (stays_there rows u.pid m y' a.sound here').1 ∙ here)), λ q. unseen m ne q (q.0 == u.pid.0) refl);
  places = λ q z z' ne ez ez'. place q z z' ez ez';
  place = λ z z' ez ez'. place p z z' ez ez';
  arrives = λ placed y ey. let h : true ≡ false = sym placed in cc;
  nudges = refl;
  birth = tt;
  phase = (r, row_other rows u.pid p a.sound not_own ∙ a.row, a.living, sym alive);
  awake = λ e. cc;
  rests = λ e r' here. absurd (cc e);
}
  where
    fv : Pid → Option Vproc → Option Vproc
    fv = taken_vproc p u.pid

    fg : Pid → Option Group → Option Group
    fg = only u.group (leaves u.pid)

    m_parent : x.parent ≡ p
    m_parent = m.parent

    at_child : row_of rows u.pid ≡ Some x
    at_child = m.row

    of_v : IsRecordOf rows v r
    of_v = own_record rows p bag r v a.agrees a.row a.vproc

    of_u : IsRecordOf rows u x
    of_u = own_record rows u.pid bag x u a.agrees m.row m.held

    -- the child is another process than its parent
    not_own : p.0 ≢ u.pid.0
    not_own e = (a.sound.each u.pid x m.row).not_own_parent (ap (λ (i : Pid). i.0) m.parent ∙ e ∙ ap (λ (i : Pid). i.0) of_u.pid)

    away_from : (q t : Pid) (z : Vproc) → vproc_at bag t ≡ Some (Some z) → vproc_at bag q ≡ None → q.0 ≢ t.0
    away_from q t z held none e = let h : vproc_at bag q ≡ Some (Some z) = ap (vproc_at bag) (pid_same q t e) ∙ held in cc

    out_of : (id : Pid) → group_at bag id ≡ None → in_group id x ≡ false
    out_of id none = ap (λ (i : Pid). i.0 == id.0) (sym of_u.group) ∙ ne_eqb _ _ (λ e. let h : is_some (group_at bag id) ≡ true = ap (λ (i : Pid). is_some (group_at bag i)) (pid_same id u.group (sym e)) ∙ m.group in let n : is_some (group_at bag id) ≡ false = ap is_some none in cc)

    -- another process sees of the child nothing, and of others the same
    unseen : (m : Pid) → m.0 ≢ p.0 → (q : Pid) (b : Bool) → (q.0 == u.pid.0) ≡ b → seen_by m (gone u.pid rows) q ≡ seen_by m rows q
    unseen m ne q true e =
        let n : q.0 ≡ u.pid.0 = eqb-true _ _ e in
        let far : is_parent m x ≡ false = ne_eqb _ _ (λ s. ne (sym s ∙ ap (λ (i : Pid). i.0) m_parent)) in
        ap (λ (o : Option Row). option_map report_in (option_filter (is_parent m) o)) (row_none rows u.pid q a.sound n)
        ∙ sym (ap (λ (o : Option Row). option_map report_in (option_filter (is_parent m) o)) (ap (row_of rows) (pid_same q u.pid n) ∙ at_child) ∙ ap (λ (b : Bool). option_map report_in (cond b (Some x) None)) far)
    unseen m ne q false e = ap (λ (o : Option Row). option_map report_in (option_filter (is_parent m) o)) (row_other rows u.pid q a.sound (eqb-false _ _ e))

    -- what is held afterwards
    vproc_later : (q : Pid) (z : Vproc) → q.0 ≢ u.pid.0 → vproc_at bag q ≡ Some (Some z) → vproc_at (changed fv fg bag) q ≡ Some (only p (option_map (λ v. without_child v u.pid)) q (Some z))
    vproc_later q z ne e = vproc_changed fv fg bag q ∙ ap (option_map (fv q)) e ∙ ap Some (only_other u.pid (λ x. None) q (only p (option_map (λ v. without_child v u.pid)) q (Some z)) ne)

    vproc_own : (q : Pid) → q.0 ≡ p.0 → vproc_at (changed fv fg bag) q ≡ Some (Some (without_child v u.pid))
    vproc_own q e =
        vproc_later q v (λ s. not_own (sym e ∙ s)) (ap (vproc_at bag) (pid_same q p e) ∙ a.vproc) ∙ ap Some (only_same p (option_map (λ v. without_child v u.pid)) q (Some v) e)

    vproc_same : (q : Pid) (z : Vproc) → q.0 ≢ p.0 → q.0 ≢ u.pid.0 → vproc_at bag q ≡ Some (Some z) → vproc_at (changed fv fg bag) q ≡ Some (Some z)
    vproc_same q z np nc e = vproc_later q z nc e ∙ ap Some (only_other p (option_map (λ v. without_child v u.pid)) q (Some z) np)

    vproc_absent : (q : Pid) (z : Vproc) → q.0 ≡ u.pid.0 → vproc_at bag q ≡ Some (Some z) → vproc_at (changed fv fg bag) q ≡ Some None
    vproc_absent q z s e = vproc_changed fv fg bag q ∙ ap (option_map (fv q)) e ∙ ap Some (only_same u.pid (λ x. None) q (only p (option_map (λ v. without_child v u.pid)) q (Some z)) s)

    group_later : (id : Pid) (h : Option Group) → GroupAgrees rows id h → (b : Bool) → (id.0 == u.group.0) ≡ b → GroupAgrees (gone u.pid rows) id (fg id h)
    group_later id h k true e = subst (GroupAgrees (gone u.pid rows) id) (sym (only_same u.group (leaves u.pid) id h (eqb-true _ _ e))) (left_agrees rows u.pid id x h a.sound m.row m.ended k)
    group_later id h k false e =
        let out : in_group id x ≡ false = ap (λ (i : Pid). i.0 == id.0) (sym of_u.group) ∙ ne_eqb _ _ (λ s. eqb-false _ _ e (sym s)) in
        subst (GroupAgrees (gone u.pid rows) id) (sym (only_other u.group (leaves u.pid) id h (eqb-false _ _ e))) (group_out rows u.pid id x h a.sound m.row m.ended out k)

    -- the group of one that stays
    stays : (q : Pid) (c : Row) (h : Group) (id : Pid) → row_of rows q ≡ Some c → q.0 ≢ u.pid.0 → id ≡ c.group → group_at bag id ≡ Some (Some h) →
        (g' : Group) × (group_at (changed fv fg bag) id ≡ Some (Some g')) × (log_part q c.uid g' ≡ log_part q c.uid h)
    stays q c h id here ne is e = pick (id.0 == u.group.0) refl
      where
        now : group_at (changed fv fg bag) id ≡ Some (fg id (Some h))
        now = group_changed fv fg bag id ∙ ap (option_map (fg id)) e

        pick : (b : Bool) → (id.0 == u.group.0) ≡ b → (g' : Group) × (group_at (changed fv fg bag) id ≡ Some (Some g')) × (log_part q c.uid g' ≡ log_part q c.uid h)
        pick true s = (
          left h u.pid,
          now ∙ ap Some (only_same u.group (leaves u.pid) id (Some h) (eqb-true _ _ s)
              ∙ unless_empty_some (left h u.pid) q (member_has (gone u.pid rows) id (left h u.pid) q c (group_gone rows u.pid id x h a.sound m.row m.ended (a.agrees.groups id (Some h) e).1) (row_other rows u.pid q a.sound ne ∙ here) (ap (λ (i : Pid). c.group.0 == i.0) is ∙ same_number c.group.0))),
          log_part-left_other h u.pid q c.uid ne,
        )
        pick false s = (h, now ∙ ap Some (only_other u.group (leaves u.pid) id (Some h) (eqb-false _ _ s)), refl)

    grows : (q : Pid) (y y' : Row) → q.0 ≢ p.0 → row_of rows q ≡ Some y → row_of (gone u.pid rows) q ≡ Some y' → Grows bag (changed fv fg bag) q y y' (sent rows (Called p (Waitpid sel stopped continued) (Child u.pid w)) y)
    grows q y y' np here here' =
        let nc : q.0 ≢ u.pid.0 = (stays_there rows u.pid q y' a.sound here').0 in
        record {
          both = λ z h ez eh.
              let is : IsRecordOf rows z y = own_record rows q bag y z a.agrees here ez in
              let s = stays q y h z.group here nc is.group eh in
              let at_q : z.pid ≡ q = is.pid ∙ row_pid rows q y here in (
                z,
                s.0,
                vproc_same q z np nc ez,
                s.1,
                ap (λ (l : List Signal). z.backlog ++ l) (ap (λ (i : Pid). log_part i z.uid s.0) at_q ∙ ap (λ (n : ℕ). log_part q n s.0) is.uid ∙ s.2 ∙ ap (λ (n : ℕ). log_part q n h) (sym is.uid) ∙ ap (λ (i : Pid). log_part i z.uid h) (sym at_q))
                    ∙ sym (append-nil (stream z h)) ∙ ap (λ (l : List Signal). stream z h ++ l) (sym (nothing_sent rows p r sel stopped continued (Child u.pid w) y a.row)),
              );
          alone = λ z ez none. (z, vproc_same q z np nc ez, refl, refl, nothing_sent rows p r sel stopped continued (Child u.pid w) y a.row);
          log = λ h ez eh.
              let s = stays q y h y.group here nc refl eh in
              (s.0, ap (λ (c : Row). c.group) (some_same y' y (sym (stays_there rows u.pid q y' a.sound here').1 ∙ here)), s.1, s.2 ∙ sym (append-nil (log_part q y.uid h)) ∙ ap (λ (l : List Signal). log_part q y.uid h ++ l) (sym (nothing_sent rows p r sel stopped continued (Child u.pid w) y a.row)));
          neither = λ ez eh. nothing_sent rows p r sel stopped continued (Child u.pid w) y a.row;
        }

    place : (q : Pid) (z z' : Vproc) → vproc_at bag q ≡ Some (Some z) → vproc_at (changed fv fg bag) q ≡ Some (Some z') → z'.loc ≡ z.loc
    place q z z' ez ez' = pick (q.0 == u.pid.0) (q.0 == p.0) refl refl
      where
        pick : (b d : Bool) → (q.0 == u.pid.0) ≡ b → (q.0 == p.0) ≡ d → z'.loc ≡ z.loc
        pick true d eb ed = let none : vproc_at (changed fv fg bag) q ≡ Some None = vproc_absent q z (eqb-true _ _ eb) ez in let bad : Some None ≡ Some (Some z') = sym none ∙ ez' in absurd cc
        pick false true eb ed =
            let n : q.0 ≡ p.0 = eqb-true _ _ ed in
            let was : v ≡ z = some_same _ _ (some_same _ _ (sym a.vproc ∙ ap (vproc_at bag) (pid_same p q (sym n)) ∙ ez)) in
            let now : without_child v u.pid ≡ z' = some_same _ _ (some_same _ _ (sym (vproc_own q n) ∙ ez')) in
            sym (ap (λ (s : Vproc). s.loc) now) ∙ ap (λ (s : Vproc). s.loc) was
        pick false false eb ed =
            let now : z ≡ z' = some_same _ _ (some_same _ _ (sym (vproc_same q z (eqb-false _ _ ed) (eqb-false _ _ eb) ez) ∙ ez')) in
            sym (ap (λ (s : Vproc). s.loc) now)
