-- a fork is a step of the one kernel
use Rattle.std.proofs.Common.{◌≡◌, ◌≢◌, inl, inr, ◌==◌, ◌&&◌, ◌≤◌, ◌++◌, ℕ, Bool, true, false, cond, not, List, [], ◌∷◌, length, drop, refl, sym, ap, ◌∙◌, subst, arith, Option, None, Some, append-nil, length-append}
use Rattle.std.specs.Prelude.{map, filter, is_some}
use Rattle.std.specs.Option.{option_map, option_or}
use Rattle.std.proofs.lemmas.List.{map-append}
use Rattle.std.proofs.lemmas.Bool.{eqb-true, eqb-false, eq-eqb, ne_eqb}
use Rattle.std.proofs.lemmas.List.Elements.{filter-append, All-append, All-cons, All-nil}
use Rattle.list_laws.specs.Keyed.{option_filter}
use Rattle.list_laws.proofs.Filters.{some_same}
use Rattle.list_laws.proofs.Elements.{filter-same}
use Rattle.list_laws.proofs.Finding.{at-append, distinct-append, comes-append, same_number}
use Rattle.unix_names.specs.declared.Pid.{Pid}
use Rattle.unix_names.specs.declared.NodeId.{NodeId}
use Rattle.unix_names.specs.declared.Signal.{Signal}
use Rattle.unix_names.specs.States.{is_living}
use Rattle.unix_calls.specs.declared.Call.TheVariants.{Fork}
use Rattle.unix_calls.specs.declared.Reply.TheVariants.{Number}
use Rattle.unix_calls.specs.declared.Entry.TheVariants.{Called}
use Rattle.unix_calls.specs.declared.Job.TheVariants.{Ask}
use Rattle.signal_state.specs.Signals.{Signals}
use Rattle.signal_state.specs.Sig.{generated_all}
use Rattle.vproc_record.specs.declared.Vproc.{Vproc}
use Rattle.group_record.specs.declared.Member.{Member}
use Rattle.group_record.specs.declared.Group.{Group}
use Rattle.group_record.specs.Members.{member_number, member_of, uid_of}
use Rattle.group_record.specs.Log.{log_part}
use Rattle.group_record.specs.Groups.{joined, settled}
use Rattle.group_record.proofs.LogLaws.{member_of-joined_own, member_of-joined_other, log_part-joined_other}
use Rattle.sig_stream.specs.Streams.{stream}
use Rattle.record_bag.specs.declared.bag.Bag.{Bag}
use Rattle.record_bag.specs.declared.vector.Site.{Site}
use Rattle.process_table.specs.declared.Row.{Row}
use Rattle.process_table.specs.Rows.{row_of, is_parent, in_group, is_stopped}
use Rattle.process_table.specs.Orphans.{is_outside_parent, is_link_of, is_stopped_in}
use Rattle.kernel_model.specs.declared.Verdict.TheVariants.{Legal}
use Rattle.kernel_model.specs.Sound.{IsSound}
use Rattle.kernel_rules.specs.Fork.{newborn}
use Rattle.kernel_model.specs.Step.{verdict, sent, sent_at, after_at}
use Rattle.kernel_laws.specs.Effects.{IsUnused}
use Rattle.decide_law.specs.Agrees.{vproc_at, group_at, children_of, IsRecordOf, VprocAgrees, uid_in, links_in, stopped_in, IsGroupOf, GroupAgrees}
use Rattle.decide_law.specs.Wakes.{report_in, seen_by}
use Rattle.unix_names.specs.declared.Name.TheVariants.{V}
use Rattle.signal_state.specs.declared.Own.{Own}
use Rattle.decide_law.specs.Law.{Based, Settled, Grows, IsStep}
use Rattle.decide_law.specs.Effects.{only, folded, emptied, settled_for, settled_in, decided_by, written, left_by}
use Rattle.decide_law.proofs.Records.{number, distinct, pid_same, row_pid, only_same, only_other, still_record}
use Rattle.decide_law.proofs.Shell.{own_record, settling, shell}
use Rattle.decide_law.proofs.Changes.{vproc_changed, group_changed, names_changed, agrees_changed, only_at_same, only_at_other}
use Rattle.decide_law.proofs.ByName.{held_same_names}
use Rattle.ops_fork.proofs.Birth.{not_child, fork_born}
use Rattle.ops_fork.specs.Fork.{with_newborn, joins, fork_effect}
use Rattle.decide_law.specs.Places.{destination}

or_none : {X : Type 0} (o : Option X) → option_or o None ≡ o
or_none None = refl
or_none (Some x) = refl

one_if : (b : Bool) (x : Row) → b ≡ false → length (cond b (x ∷ []) []) ≡ 0
one_if true x e = cc
one_if false x e = refl

module _ (rows : List Row) (r : Row) (fresh : Pid) (sound : IsSound rows) (absent : row_of rows fresh ≡ None) (unused : IsUnused rows fresh.0) (there : row_of rows r.pid ≡ Some r) (other : r.pid.0 ≢ fresh.0) where
  abbrev pub later : List Row
  later = rows ++ newborn r fresh.0 ∷ []

  row_other : (q : Pid) → q.0 ≢ fresh.0 → row_of (rows ++ newborn r fresh.0 ∷ []) q ≡ row_of rows q
  row_other q ne = at-append number q.0 rows (newborn r fresh.0 ∷ []) ∙ ap (λ b. option_or (row_of rows q) (cond b (Some (newborn r fresh.0)) None)) (ne_eqb fresh.0 q.0 (λ e. ne (sym e))) ∙ or_none (row_of rows q)

  row_new : (q : Pid) → q.0 ≡ fresh.0 → row_of (rows ++ newborn r fresh.0 ∷ []) q ≡ Some (newborn r fresh.0)
  row_new q e = at-append number q.0 rows (newborn r fresh.0 ∷ []) ∙ ap (λ (n : ℕ). option_or (row_of rows (record { 0 = n })) (cond (fresh.0 == n) (Some (newborn r fresh.0)) None)) e ∙ ap (λ o. option_or o (cond (fresh.0 == fresh.0) (Some (newborn r fresh.0)) None)) absent ∙ ap (λ b. cond b (Some (newborn r fresh.0)) None) (same_number fresh.0)

  none_old : (q : Pid) → q.0 ≡ fresh.0 → row_of rows q ≡ None
  none_old q e = ap (λ (n : ℕ). row_of rows (record { 0 = n })) e ∙ absent

  kids : (q : Pid) (b : Bool) → (r.pid.0 == q.0) ≡ b → children_of (rows ++ newborn r fresh.0 ∷ []) q ≡ children_of rows q ++ cond b (fresh ∷ []) []
  kids q b e = ap (map (λ (c : Row). c.pid)) (filter-append (is_parent q) rows (newborn r fresh.0 ∷ [])) ∙ map-append (λ (c : Row). c.pid) (filter (is_parent q) rows) (filter (is_parent q) (newborn r fresh.0 ∷ []))
      ∙ ap (λ t. children_of rows q ++ map (λ (c : Row). c.pid) (cond t (newborn r fresh.0 ∷ []) [])) e ∙ ap (λ l. children_of rows q ++ l) (last b)
    where
      last : (b : Bool) → map (λ (c : Row). c.pid) (cond b (newborn r fresh.0 ∷ []) []) ≡ cond b (fresh ∷ []) []
      last true = refl
      last false = refl

  -- ---- processes
  record_later : (p q : Pid) → p.0 ≡ r.pid.0 → (y : Vproc) (x : Row) → row_of rows q ≡ Some x → IsRecordOf rows y x → IsRecordOf (rows ++ newborn r fresh.0 ∷ []) (cond (q.0 == p.0) (with_newborn fresh y) y) x
  record_later p q own y x here of = go (q.0 == p.0) refl
    where
      at_q : x.pid.0 ≡ q.0
      at_q = ap (λ (i : Pid). i.0) (row_pid rows q x here)

      go : (b : Bool) → (q.0 == p.0) ≡ b → IsRecordOf (rows ++ newborn r fresh.0 ∷ []) (cond b (with_newborn fresh y) y) x
      go true e =
          still_record rows (rows ++ newborn r fresh.0 ∷ []) y x x.sig y.ignchld (y.children ++ fresh ∷ []) of.ignchld
          (ap (λ l. l ++ fresh ∷ []) of.children ∙ sym (kids x.pid true (eq-eqb r.pid.0 x.pid.0 (sym own ∙ sym (eqb-true _ _ e) ∙ sym at_q)))) of
      go false e =
          still_record rows (rows ++ newborn r fresh.0 ∷ []) y x x.sig y.ignchld y.children of.ignchld
          (of.children ∙ sym (append-nil (children_of rows x.pid)) ∙ sym (kids x.pid false (ne_eqb r.pid.0 x.pid.0 (λ s. eqb-false _ _ e (sym at_q ∙ sym s ∙ sym own))))) of

  vproc_later : (p q : Pid) → p.0 ≡ r.pid.0 → q.0 ≢ fresh.0 → (h : Option Vproc) → VprocAgrees rows h (row_of rows q) → VprocAgrees (rows ++ newborn r fresh.0 ∷ []) (only p (option_map (with_newborn fresh)) q h) (row_of (rows ++ newborn r fresh.0 ∷ []) q)
  vproc_later p q own ne h a = subst (VprocAgrees (rows ++ newborn r fresh.0 ∷ []) (only p (option_map (with_newborn fresh)) q h)) (sym (row_other q ne)) (go h (row_of rows q) refl a)
    where
      none : (b : Bool) → VprocAgrees (rows ++ newborn r fresh.0 ∷ []) (cond b (option_map (with_newborn fresh) None) None) None
      none true = tt
      none false = tt

      some : (y : Vproc) (x : Row) (b : Bool) → IsRecordOf (rows ++ newborn r fresh.0 ∷ []) (cond b (with_newborn fresh y) y) x → VprocAgrees (rows ++ newborn r fresh.0 ∷ []) (cond b (option_map (with_newborn fresh) (Some y)) (Some y)) (Some x)
      some y x true of = of
      some y x false of = of

      go : (h : Option Vproc) (o : Option Row) → row_of rows q ≡ o → VprocAgrees rows h o → VprocAgrees (rows ++ newborn r fresh.0 ∷ []) (only p (option_map (with_newborn fresh)) q h) o
      go None None e a = none (q.0 == p.0)
      go None (Some x) e a = absurd a
      go (Some y) None e a = absurd a
      go (Some y) (Some x) e a = some y x (q.0 == p.0) (record_later p q own y x e a)

  -- ---- groups
  uid_other : (id q : Pid) → q.0 ≢ fresh.0 → uid_in (rows ++ newborn r fresh.0 ∷ []) id q ≡ uid_in rows id q
  uid_other id q ne = ap (λ o. option_map (λ (c : Row). c.uid) (option_filter (in_group id) o)) (row_other q ne)

  uid_new : (id q : Pid) (b : Bool) → q.0 ≡ fresh.0 → (r.group.0 == id.0) ≡ b → uid_in (rows ++ newborn r fresh.0 ∷ []) id q ≡ cond b (Some r.uid) None
  uid_new id q b e i = ap (λ o. option_map (λ (c : Row). c.uid) (option_filter (in_group id) o)) (row_new q e) ∙ ap (λ t. option_map (λ (c : Row). c.uid) (cond t (Some (newborn r fresh.0)) None)) i ∙ last b
    where
      last : (b : Bool) → option_map (λ (c : Row). c.uid) (cond b (Some (newborn r fresh.0)) None) ≡ cond b (Some r.uid) None
      last true = refl
      last false = refl

  uid_old : (id q : Pid) → q.0 ≡ fresh.0 → uid_in rows id q ≡ None
  uid_old id q e = ap (λ o. option_map (λ (c : Row). c.uid) (option_filter (in_group id) o)) (none_old q e)

  link_old : (id : Pid) (x : Row) → row_of rows x.pid ≡ Some x → is_link_of (rows ++ newborn r fresh.0 ∷ []) id x ≡ is_link_of rows id x
  link_old id x here = ap (λ o. in_group id x && (is_living x.life && is_outside_parent x o)) (row_other x.parent (eqb-false _ _ (not_child rows fresh sound absent unused x here)))

  link_new : (id : Pid) → is_link_of (rows ++ newborn r fresh.0 ∷ []) id (newborn r fresh.0) ≡ false
  link_new id = ap (λ o. in_group id (newborn r fresh.0) && is_outside_parent (newborn r fresh.0) o) (row_other r.pid other ∙ there) ∙ ap (λ b. in_group id (newborn r fresh.0) && (not b && (r.session.0 == r.session.0))) (same_number r.group.0) ∙ last (in_group id (newborn r fresh.0))
    where
      last : (b : Bool) → (b && false) ≡ false
      last true = refl
      last false = refl

  links_same : (id : Pid) → links_in (rows ++ newborn r fresh.0 ∷ []) id ≡ links_in rows id
  links_same id =
      let parts = ap length (filter-append (is_link_of (rows ++ newborn r fresh.0 ∷ []) id) rows (newborn r fresh.0 ∷ [])) ∙ length-append (filter (is_link_of (rows ++ newborn r fresh.0 ∷ []) id) rows) (filter (is_link_of (rows ++ newborn r fresh.0 ∷ []) id) (newborn r fresh.0 ∷ [])) in
      let old = ap length (filter-same number (is_link_of (rows ++ newborn r fresh.0 ∷ []) id) (is_link_of rows id) rows (distinct rows sound.distinct) (λ c here. link_old id c here)) in
      let new = one_if (is_link_of (rows ++ newborn r fresh.0 ∷ []) id (newborn r fresh.0)) (newborn r fresh.0) (link_new id) in
      omega arith

  stopped_same : (id : Pid) → stopped_in (rows ++ newborn r fresh.0 ∷ []) id ≡ stopped_in rows id
  stopped_same id =
      let parts = ap length (filter-append (is_stopped_in id) rows (newborn r fresh.0 ∷ [])) ∙ length-append (filter (is_stopped_in id) rows) (filter (is_stopped_in id) (newborn r fresh.0 ∷ [])) in
      let new = one_if (is_stopped_in id (newborn r fresh.0)) (newborn r fresh.0) (last (in_group id (newborn r fresh.0))) in
      omega arith
    where
      last : (b : Bool) → (b && false) ≡ false
      last true = refl
      last false = refl

  session_later : (id s : Pid) → ((q : Pid) (c : Row) → row_of rows q ≡ Some c → in_group id c ≡ true → c.session ≡ s) → (q : Pid) (c : Row) → row_of (rows ++ newborn r fresh.0 ∷ []) q ≡ Some c → in_group id c ≡ true → c.session ≡ s
  session_later id s all q c e i =
      elim (comes-append number q.0 rows c (newborn r fresh.0) e) [
        | inl h ↦ all q c h i
        | inr n ↦ ap (λ (x : Row). x.session) n.0 ∙ all r.pid r there (sym (ap (in_group id) n.0) ∙ i)
      ]

  -- a group that the child does not join
  far_group : (id : Pid) (h : Option Group) → (r.group.0 == id.0) ≡ false → GroupAgrees rows id h → GroupAgrees (rows ++ newborn r fresh.0 ∷ []) id h
  far_group id None far a = λ q. go q (q.0 == fresh.0) refl
    where
      go : (q : Pid) (b : Bool) → (q.0 == fresh.0) ≡ b → uid_in (rows ++ newborn r fresh.0 ∷ []) id q ≡ None
      go q true e = uid_new id q false (eqb-true _ _ e) far
      go q false e = uid_other id q (eqb-false _ _ e) ∙ a q
  far_group id (Some g) far a = (
    a.0,
    record {
      id_is = a.1.id_is;
      distinct = a.1.distinct;
      members = λ q. go q (q.0 == fresh.0) refl;
      session = session_later id g.session a.1.session;
      from = a.1.from;
      links = a.1.links ∙ sym (links_same id);
      stopped = a.1.stopped ∙ sym (stopped_same id);
    },
  )
    where
      go : (q : Pid) (b : Bool) → (q.0 == fresh.0) ≡ b → uid_of g.members q ≡ uid_in (rows ++ newborn r fresh.0 ∷ []) id q
      go q true e = a.1.members q ∙ uid_old id q (eqb-true _ _ e) ∙ sym (uid_new id q false (eqb-true _ _ e) far)
      go q false e = a.1.members q ∙ sym (uid_other id q (eqb-false _ _ e))

  no_member : (id : Pid) (g : Group) → IsGroupOf rows id g → member_of g.members fresh ≡ None
  no_member id g k = go (member_of g.members fresh) (k.members fresh ∙ uid_old id fresh refl)
    where
      go : (o : Option Member) → option_map (λ (m : Member). m.uid) o ≡ None → o ≡ None
      go None e = refl
      go (Some m) e = cc

  -- the group that it joins
  near_group : (id : Pid) (g : Group) → (r.group.0 == id.0) ≡ true → IsGroupOf rows id g → GroupAgrees (rows ++ newborn r fresh.0 ∷ []) id (Some (joined g fresh r.uid))
  near_group id g near k = (
    some g.members,
    record {
      id_is = k.id_is;
      distinct = distinct-append member_number g.members (record { pid = fresh; from = length g.log; uid = r.uid }) (no_member id g k) k.distinct;
      members = λ q. go q (q.0 == fresh.0) refl;
      session = session_later id g.session k.session;
      from = All-append (λ m. m.from ≤ length g.log) g.members ((record { pid = fresh; from = length g.log; uid = r.uid }) ∷ []) k.from
          (All-cons (λ (m : Member). m.from ≤ length g.log) (record { pid = fresh; from = length g.log; uid = r.uid }) [] (omega arith) (All-nil (λ (m : Member). m.from ≤ length g.log)));
      links = k.links ∙ sym (links_same id);
      stopped = k.stopped ∙ sym (stopped_same id);
    },
  )
    where
      some : (ms : List Member) → (ms ++ (record { pid = fresh; from = length g.log; uid = r.uid }) ∷ []) ≢ []
      some [] e = cc
      some (m ∷ ms) e = cc

      go : (q : Pid) (b : Bool) → (q.0 == fresh.0) ≡ b → uid_of (joined g fresh r.uid).members q ≡ uid_in (rows ++ newborn r fresh.0 ∷ []) id q
      go q true e =
          ap (λ (n : ℕ). uid_of (joined g fresh r.uid).members (record { 0 = n })) (eqb-true _ _ e) ∙ ap (option_map (λ (m : Member). m.uid)) (member_of-joined_own g fresh r.uid (ap is_some (no_member id g k))) ∙ sym (uid_new id q true (eqb-true _ _ e) near)
      go q false e = ap (option_map (λ (m : Member). m.uid)) (member_of-joined_other g fresh q r.uid (eqb-false _ _ e)) ∙ k.members q ∙ sym (uid_other id q (eqb-false _ _ e))

  seen_same : (m q : Pid) → m.0 ≢ r.pid.0 → seen_by m (rows ++ newborn r fresh.0 ∷ []) q ≡ seen_by m rows q
  seen_same m q ne = go (q.0 == fresh.0) refl
    where
      go : (b : Bool) → (q.0 == fresh.0) ≡ b → seen_by m (rows ++ newborn r fresh.0 ∷ []) q ≡ seen_by m rows q
      go true e =
          ap (λ o. option_map report_in (option_filter (is_parent m) o)) (row_new q (eqb-true _ _ e)) ∙ ap (λ b. option_map report_in (cond b (Some (newborn r fresh.0)) None)) (ne_eqb r.pid.0 m.0 (λ s. ne (sym s)))
          ∙ sym (ap (λ o. option_map report_in (option_filter (is_parent m) o)) (none_old q (eqb-true _ _ e)))
      go false e = ap (λ o. option_map report_in (option_filter (is_parent m) o)) (row_other q (eqb-false _ _ e))

nothing_sent : (rows : List Row) (p : Pid) (r : Row) (n : ℕ) (c : Row) → row_of rows p ≡ Some r → sent rows (Called p Fork (Number n)) c ≡ []
nothing_sent rows p r n c e = ap (λ o. sent_at rows o (Called p Fork (Number n)) c) e

-- a fork that the rules allow, of a process whose own record and group are held
pub fork_step : (rows : List Row) (p : Pid) (site : Site) (place : Option NodeId) (sig : Signals) (bag : Bag) (r : Row) (v : Vproc) (g : Group) → Settled rows p sig bag r v g → row_of rows site.fresh ≡ None → IsUnused rows site.fresh.0 → is_some (vproc_at bag site.fresh) ≡ false →
    is_stopped r.life ≡ false → verdict rows (Called p Fork (Number site.fresh.0)) ≡ Legal → destination (Ask Fork place) v.loc ≡ Some site.node →
    IsStep rows (rows ++ newborn r site.fresh.0 ∷ []) p (Ask Fork place) site bag (decided_by (fork_effect sig p site v)) (written (fork_effect sig p site v) bag)
fork_step rows p site place sig bag r v g a absent unused unheld alive legal there_is = record {
  legal = (legal, refl);
  table = ap (λ o. after_at rows o (Called p Fork (Number site.fresh.0))) a.row;
  asked = refl;
  holds = ap is_some a.vproc;
  names = names_changed (only p (option_map (with_newborn site.fresh))) (only v.group (option_map (joins site.fresh v.uid))) bag;
  agrees = agrees_changed rows (rows ++ newborn r site.fresh.0 ∷ []) (only p (option_map (with_newborn site.fresh))) (only v.group (option_map (joins site.fresh v.uid))) bag a.agrees
      (λ q h e. vproc_later rows r site.fresh a.sound absent unused there other p q own_pid (held_ne q h e) h (a.agrees.vprocs q h e))
      (λ id h e. group_later id h (a.agrees.groups id h e) (id.0 == v.group.0) refl);
  vprocs_elsewhere = λ q h away b k. subst (λ (z : Option Vproc). VprocAgrees (rows ++ newborn r site.fresh.0 ∷ []) z (row_of (rows ++ newborn r site.fresh.0 ∷ []) q)) (only_other p (option_map (with_newborn site.fresh)) q h (apart q away))
      (vproc_later rows r site.fresh a.sound absent unused there other p q own_pid (eqb-false _ _ b) h k);
  groups_elsewhere = λ id h away k. far_group rows r site.fresh a.sound absent unused there other id h (far id away) k;
  birth = fork_born rows p site sig bag r v g a absent unused;
  arrives = λ placed y ey. subst (λ (z : Vproc). destination (Ask Fork place) z.loc ≡ Some site.node) (some_same _ _ (some_same _ _ (sym a.vproc ∙ ey))) there_is;
  nudges = refl;
  phase = (r, row_other rows r site.fresh a.sound absent unused there other p p_other ∙ a.row, a.living, sym alive);
  awake = λ e. cc;
  rests = λ e r' here. absurd (cc e);
  own = λ r' here alive'.
      let t = grown v.group g a.group in
      let still : stream (with_newborn site.fresh v) t.0 ≡ [] = ap (λ (l : List Signal). v.backlog ++ l) (t.2 v.pid v.uid v_other) ∙ a.taken in (
        with_newborn site.fresh v,
        t.0,
        vproc_changed (only p (option_map (with_newborn site.fresh))) (only v.group (option_map (joins site.fresh v.uid))) bag p ∙ only_at_same p (option_map (with_newborn site.fresh)) p (vproc_at bag p) refl ∙ ap (option_map (option_map (with_newborn site.fresh))) a.vproc,
        t.1,
        record {
          taken = omega arith;
          sig = ap (λ (x : Row). x.sig) (some_same r' r (sym here ∙ row_other rows r site.fresh a.sound absent unused there other p p_other ∙ a.row)) ∙ a.sig_is ∙ ap (λ (l : List Signal). generated_all sig (drop 0 l)) (sym still);
        },
      );
  others = λ m x x' ne here here' alive'. grows m x x' ne here here';
  nudged = λ m x x' ne here here' alive' some. absurd (some (nothing_sent rows p r site.fresh.0 x a.row));
  wakes = λ m x x' ne here here' alive' none. (ap (λ (c : Row). c.group) (same_row m x x' here here'), λ q. seen_same rows r site.fresh a.sound absent unused there other m q (λ e. ne (e ∙ sym own_pid)));
  places = λ m u u' ne eu eu'. ap (λ (w : Vproc). w.loc) (some_same _ _ (some_same _ _ (sym eu' ∙ vproc_kept m ne ∙ eu)));
  place = λ u u' eu eu'.
      let then_at = vproc_changed (only p (option_map (with_newborn site.fresh))) (only v.group (option_map (joins site.fresh v.uid))) bag p ∙ only_at_same p (option_map (with_newborn site.fresh)) p (vproc_at bag p) refl ∙ ap (option_map (option_map (with_newborn site.fresh))) eu in
      ap (λ (w : Vproc). w.loc) (some_same u' (with_newborn site.fresh u) (some_same _ _ (sym eu' ∙ then_at)));
}
  where
    of : IsRecordOf rows v r
    of = own_record rows p bag r v a.agrees a.row a.vproc

    at_p : r.pid ≡ p
    at_p = row_pid rows p r a.row

    own_pid : p.0 ≡ r.pid.0
    own_pid = ap (λ (q : Pid). q.0) (sym at_p)

    there : row_of rows r.pid ≡ Some r
    there = ap (row_of rows) at_p ∙ a.row

    old_other : (q : Pid) (x : Row) → row_of rows q ≡ Some x → q.0 ≢ site.fresh.0
    old_other q x here e = let f : None ≡ Some x = sym absent ∙ ap (λ (n : ℕ). row_of rows (record { 0 = n })) (sym e) ∙ here in cc

    p_other : p.0 ≢ site.fresh.0
    p_other = old_other p r a.row

    other : r.pid.0 ≢ site.fresh.0
    other = old_other r.pid r there

    v_other : v.pid.0 ≢ site.fresh.0
    v_other e = other (ap (λ (q : Pid). q.0) (sym of.pid) ∙ e)

    held_ne : (q : Pid) (h : Option Vproc) → vproc_at bag q ≡ Some h → q.0 ≢ site.fresh.0
    held_ne q h e i = let f : true ≡ false = sym (ap is_some (ap (λ (n : ℕ). vproc_at bag (record { 0 = n })) (sym i) ∙ e)) ∙ unheld in cc

    apart : (q : Pid) → vproc_at bag q ≡ None → q.0 ≢ p.0
    apart q away i = let f : None ≡ Some (Some v) = sym away ∙ ap (vproc_at bag) (pid_same q p i) ∙ a.vproc in cc

    far : (id : Pid) → group_at bag id ≡ None → (r.group.0 == id.0) ≡ false
    far id away = ne_eqb r.group.0 id.0 (λ i. let f : None ≡ Some (Some g) = sym away ∙ ap (group_at bag) (sym (of.group ∙ pid_same r.group id i)) ∙ a.group in cc)

    same_row : (m : Pid) (x x' : Row) → row_of rows m ≡ Some x → row_of (rows ++ newborn r site.fresh.0 ∷ []) m ≡ Some x' → x' ≡ x
    same_row m x x' here here' = some_same x' x (sym here' ∙ row_other rows r site.fresh a.sound absent unused there other m (old_other m x here) ∙ here)

    vproc_kept : (m : Pid) → m.0 ≢ p.0 → vproc_at (written (fork_effect sig p site v) bag) m ≡ vproc_at bag m
    vproc_kept m ne = vproc_changed (only p (option_map (with_newborn site.fresh))) (only v.group (option_map (joins site.fresh v.uid))) bag m ∙ only_at_other p (option_map (with_newborn site.fresh)) m (vproc_at bag m) ne

    group_later : (id : Pid) (h : Option Group) → GroupAgrees rows id h → (b : Bool) → (id.0 == v.group.0) ≡ b → GroupAgrees (rows ++ newborn r site.fresh.0 ∷ []) id (only v.group (option_map (joins site.fresh v.uid)) id h)
    group_later id h k false e = subst (GroupAgrees (rows ++ newborn r site.fresh.0 ∷ []) id) (sym (only_other v.group (option_map (joins site.fresh v.uid)) id h (eqb-false _ _ e)))
        (far_group rows r site.fresh a.sound absent unused there other id h (ne_eqb r.group.0 id.0 (λ i. eqb-false _ _ e (sym i ∙ ap (λ (q : Pid). q.0) (sym of.group)))) k)
    group_later id h k true e = subst (GroupAgrees (rows ++ newborn r site.fresh.0 ∷ []) id) (sym (only_same v.group (option_map (joins site.fresh v.uid)) id h (eqb-true _ _ e))) (go h k)
      where
        near : (r.group.0 == id.0) ≡ true
        near = eq-eqb r.group.0 id.0 (ap (λ (q : Pid). q.0) (sym of.group) ∙ sym (eqb-true _ _ e))

        go : (h : Option Group) → GroupAgrees rows id h → GroupAgrees (rows ++ newborn r site.fresh.0 ∷ []) id (option_map (joins site.fresh v.uid) h)
        go None k =
            let is : uid_in rows id p ≡ Some r.uid = ap (λ o. option_map (λ (c : Row). c.uid) (option_filter (in_group id) o)) a.row ∙ ap (λ b. option_map (λ (c : Row). c.uid) (cond b (Some r) None)) near in
            let f : None ≡ Some r.uid = sym (k p) ∙ is in cc
        go (Some x) k = subst (λ (n : ℕ). GroupAgrees (rows ++ newborn r site.fresh.0 ∷ []) id (Some (joined x site.fresh n))) (sym of.uid) (near_group rows r site.fresh a.sound absent unused there other id x near k.1)

    -- a group that was held, and what is left of it
    grown : (i : Pid) (h : Group) → group_at bag i ≡ Some (Some h) → (g' : Group) × (group_at (written (fork_effect sig p site v) bag) i ≡ Some (Some g')) × ((q : Pid) (uid : ℕ) → q.0 ≢ site.fresh.0 → log_part q uid g' ≡ log_part q uid h)
    grown i h at_i = go (i.0 == v.group.0) refl
      where
        go : (b : Bool) → (i.0 == v.group.0) ≡ b → (g' : Group) × (group_at (written (fork_effect sig p site v) bag) i ≡ Some (Some g')) × ((q : Pid) (uid : ℕ) → q.0 ≢ site.fresh.0 → log_part q uid g' ≡ log_part q uid h)
        go true e = (
          joined h site.fresh v.uid,
          group_changed (only p (option_map (with_newborn site.fresh))) (only v.group (option_map (joins site.fresh v.uid))) bag i ∙ only_at_same v.group (option_map (joins site.fresh v.uid)) i (group_at bag i) (eqb-true _ _ e) ∙ ap (option_map (option_map (joins site.fresh v.uid))) at_i,
          λ q uid ne. log_part-joined_other h site.fresh q v.uid uid ne,
        )
        go false e = (
          h,
          group_changed (only p (option_map (with_newborn site.fresh))) (only v.group (option_map (joins site.fresh v.uid))) bag i ∙ only_at_other v.group (option_map (joins site.fresh v.uid)) i (group_at bag i) (eqb-false _ _ e) ∙ at_i,
          λ q uid ne. refl,
        )

    grows : (m : Pid) (x x' : Row) → m.0 ≢ p.0 → row_of rows m ≡ Some x → row_of (rows ++ newborn r site.fresh.0 ∷ []) m ≡ Some x' → Grows bag (written (fork_effect sig p site v) bag) m x x' (sent rows (Called p Fork (Number site.fresh.0)) x)
    grows m x x' ne here here' = record {
      both = λ u h eu eh.
          let ou = own_record rows m bag x u a.agrees here eu in
          let t = grown u.group h eh in
          let u_other : u.pid.0 ≢ site.fresh.0 = (λ e. old_other m x here (ap (λ (q : Pid). q.0) (sym (row_pid rows m x here)) ∙ ap (λ (q : Pid). q.0) (sym ou.pid) ∙ e)) in
          (u, t.0, vproc_kept m ne ∙ eu, t.1, ap (λ (l : List Signal). u.backlog ++ l) (t.2 u.pid u.uid u_other) ∙ sym (append-nil (stream u h)) ∙ ap (λ (l : List Signal). stream u h ++ l) (sym (nothing_sent rows p r site.fresh.0 x a.row)));
      alone = λ u eu none. (u, vproc_kept m ne ∙ eu, refl, refl, nothing_sent rows p r site.fresh.0 x a.row);
      log = λ h eu eh.
          let t = grown x.group h eh in
          (t.0, ap (λ (c : Row). c.group) (same_row m x x' here here'), t.1, t.2 m x.uid (old_other m x here) ∙ sym (append-nil (log_part m x.uid h)) ∙ ap (λ (l : List Signal). log_part m x.uid h ++ l) (sym (nothing_sent rows p r site.fresh.0 x a.row)));
      neither = λ eu eh. nothing_sent rows p r site.fresh.0 x a.row;
    }

-- the whole decision, with folding, settling and trimming round it
pub fork_law : (rows : List Row) (p : Pid) (site : Site) (place : Option NodeId) (own : Own) (bag : Bag) (r : Row) (v : Vproc) (g : Group) → Based rows p own bag r v g → row_of rows site.fresh ≡ None → IsUnused rows site.fresh.0 → is_some (vproc_at bag site.fresh) ≡ false →
    is_stopped r.life ≡ false → verdict rows (Called p Fork (Number site.fresh.0)) ≡ Legal → destination (Ask Fork place) v.loc ≡ Some site.node →
    IsStep rows (rows ++ newborn r site.fresh.0 ∷ []) p (Ask Fork place) site bag (decided_by (fork_effect (folded own v g).sig p site (emptied v))) (left_by (fork_effect (folded own v g).sig p site (emptied v)) p v.group bag)
fork_law rows p site place own bag r v g a absent unused unheld alive legal there_is =
    shell rows (rows ++ newborn r site.fresh.0 ∷ []) p (Ask Fork place) site own bag r v g (fork_effect (folded own v g).sig p site (emptied v)) a
    (fork_step rows p site place (folded own v g).sig (settled_in p v.group bag) r (emptied v) (settled g p) (settling rows p own bag r v g a) absent unused
    (held_same_names (names_changed (only p (option_map emptied)) (only v.group (option_map (settled_for p))) bag) (V site.fresh) ∙ unheld) alive legal there_is)
