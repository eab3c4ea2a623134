-- a move from group to group is a step of the one kernel
use Rattle.std.proofs.Common.{◌≡◌, ◌≢◌, ◌==◌, ◌&&◌, ◌||◌, ◌++◌, ℕ, Bool, true, false, cond, List, [], length, drop, refl, sym, ap, ◌∙◌, subst, arith, Option, None, Some, append-nil}
use Rattle.std.specs.Prelude.{map, filter, is_some}
use Rattle.std.specs.Option.{option_map}
use Rattle.std.proofs.lemmas.Bool.{eqb-true, eqb-false, ne_eqb}
use Rattle.list_laws.specs.Keyed.{option_filter}
use Rattle.list_laws.proofs.Filters.{some_same, length-filter-map}
use Rattle.list_laws.proofs.Elements.{filter-same}
use Rattle.list_laws.proofs.Finding.{found, same_number}
use Rattle.unix_names.specs.declared.Pid.{Pid}
use Rattle.unix_names.specs.declared.Signal.{Signal}
use Rattle.unix_calls.specs.declared.Entry.TheVariants.{Called}
use Rattle.unix_names.specs.States.{is_living}
use Rattle.signal_state.specs.Sig.{generated_all}
use Rattle.vproc_record.specs.declared.Vproc.{Vproc}
use Rattle.group_record.specs.declared.Group.{Group}
use Rattle.group_record.specs.Members.{from_in}
use Rattle.group_record.specs.Log.{concerns, log_part}
use Rattle.group_record.specs.Groups.{left}
use Rattle.group_record.proofs.LogLaws.{log_part-joined_own}
use Rattle.sig_stream.specs.Streams.{stream}
use Rattle.record_bag.specs.declared.bag.Bag.{Bag}
use Rattle.process_table.specs.declared.Row.{Row}
use Rattle.process_table.specs.Rows.{row_of, is_pid, is_parent, in_group, is_same, is_stopped}
use Rattle.process_table.specs.Orphans.{is_outside_parent, is_link_of, is_stopped_in}
use Rattle.kernel_model.specs.Sound.{IsSound}
use Rattle.kernel_model.specs.Step.{sent}
use Rattle.decide_law.specs.Agrees.{vproc_at, group_at, IsRecordOf, VprocAgrees, uid_in, IsGroupOf, GroupAgrees, Agrees}
use Rattle.decide_law.specs.Law.{IsOwn, Grows}
use Rattle.decide_law.specs.Effects.{only, changed, or_empty, regroups}
use Rattle.decide_law.proofs.Records.{number, distinct, pid_same, row_pid, row_own, only_other, member_has}
use Rattle.decide_law.proofs.Groups.{or_empty_is, unless_empty_agrees, unless_empty_some}
use Rattle.decide_law.proofs.Shell.{own_record}
use Rattle.decide_law.proofs.Changes.{vproc_changed, group_changed, names_changed, agrees_changed, only_at_same, only_at_other}
use Rattle.ops_groups.specs.Move.{GroupInSession, moved_at, moved_members, moved_vproc, moved_group}
use Rattle.ops_groups.specs.MoveLaw.{Moves, MoveLaw}
use Rattle.ops_groups.proofs.Wakes.{move_wakes}
use Rattle.ops_groups.proofs.Moved.{later, row_later, comes_from, still, taken_to, vproc_later, far_link, other_member, members_later, distinct_later, from_later, links_later, stopped_later}
use Rattle.group_record.proofs.MemberLaws.{member_of-left_own}

-- ---- one group
session_later : (rows : List Row) (u : Vproc) (new : GroupInSession) (id session : Pid) → (new.group.0 ≡ id.0 → session ≡ new.session) →
    ((q : Pid) (c : Row) → row_of rows q ≡ Some c → in_group id c ≡ true → c.session ≡ session) → (q : Pid) (c : Row) → row_of (later u.pid new rows) q ≡ Some c → in_group id c ≡ true → c.session ≡ session
session_later rows u new id session meets all q c e i = go (comes_from rows u.pid new q c e)
  where
    go : ((b : Row) × (row_of rows q ≡ Some b) × (c ≡ moved_at u.pid new b)) → c.session ≡ session
    go (b, here, is) = pick (b.pid.0 == u.pid.0) refl
      where
        pick : (t : Bool) → (b.pid.0 == u.pid.0) ≡ t → c.session ≡ session
        pick true s =
            let now : c ≡ record b { group = new.group; session = new.session } = is ∙ taken_to u.pid new b (eqb-true _ _ s) in
            let g : new.group.0 ≡ id.0 = eqb-true _ _ (sym (ap (in_group id) now) ∙ i) in
            ap (λ (y : Row). y.session) now ∙ sym (meets g)
        pick false s =
            let now : c ≡ b = is ∙ still u.pid new b (eqb-false _ _ s) in
            ap (λ (y : Row). y.session) now ∙ all q b here (sym (ap (in_group id) now) ∙ i)

pub moved_is : (rows : List Row) (bag : Bag) (u : Vproc) (x : Row) (old : Group) (new : GroupInSession) (id : Pid) (g : Group) → IsSound rows → Agrees bag rows → Moves rows bag u x old new → IsRecordOf rows u x → IsGroupOf rows id g → (new.group.0 ≡ id.0 → g.session ≡ new.session) →
    IsGroupOf (later u.pid new rows) id (moved_group bag u old new id g)
moved_is rows bag u x old new id g k a m of h meets = record {
  id_is = h.id_is;
  distinct = distinct_later g u (is_same new.group id) h.distinct;
  members = members_later rows id new g u x h m.row of;
  session = session_later rows u new id g.session meets h.session;
  from = from_later g u (is_same new.group id) h.from;
  links = links_later rows bag u x old new id g k a.vprocs m of h;
  stopped = stopped_later rows bag u x old new id g k a.vprocs m of h;
}

-- the new group has the session, also where it is new
meets : (bag : Bag) (u : Vproc) (new : GroupInSession) (id : Pid) (h : Option Group) → ((g : Group) → group_at bag new.group ≡ Some (Some g) → g.session ≡ new.session) → group_at bag id ≡ Some h → new.group.0 ≡ id.0 → (or_empty id new.session h).session ≡ new.session
meets bag u new id None s e n = refl
meets bag u new id (Some g) s e n = s g (subst (λ (q : Pid). group_at bag q ≡ Some (Some g)) (pid_same id new.group (sym n)) e)

pub held_later : (rows : List Row) (bag : Bag) (u : Vproc) (x : Row) (old : Group) (new : GroupInSession) (id : Pid) (h : Option Group) → IsSound rows → Agrees bag rows → Moves rows bag u x old new → IsRecordOf rows u x → group_at bag id ≡ Some h →
    IsGroupOf (later u.pid new rows) id (moved_group bag u old new id (or_empty id new.session h))
held_later rows bag u x old new id h k a m of e = moved_is rows bag u x old new id (or_empty id new.session h) k a m of (or_empty_is rows id new.session h k (a.groups id h e)) (meets bag u new id h m.session e)

-- ---- what is sent to the process, and what is left to the others
-- the log's part of another process
log_other : (bag : Bag) (u : Vproc) (old : Group) (new : GroupInSession) (id : Pid) (g : Group) (q : Pid) (uid : ℕ) → q.0 ≢ u.pid.0 → log_part q uid (moved_group bag u old new id g) ≡ log_part q uid g
log_other bag u old new id g q uid ne = ap (λ (o : Option _). map (λ e. e.signal) (filter (concerns q uid) (drop (from_in o) g.log))) (other_member g u (is_same new.group id) q ne)

-- the new group has nothing for the one that comes
log_own : (bag : Bag) (u : Vproc) (old : Group) (new : GroupInSession) (id : Pid) (g : Group) → is_same new.group id ≡ true → log_part u.pid u.uid (moved_group bag u old new id g) ≡ []
log_own bag u old new id g e = go (is_same new.group id) e
  where
    go : (b : Bool) → b ≡ true → log_part u.pid u.uid (record g { members = moved_members b u g }) ≡ []
    go true s = log_part-joined_own (left g u.pid) u.pid u.uid u.uid (ap is_some (member_of-left_own g u.pid))
    go false s = cc

-- ---- groups that are not held
out_of : (bag : Bag) (id g : Pid) → group_at bag id ≡ None → is_some (group_at bag g) ≡ true → (g.0 == id.0) ≡ false
out_of bag id g none held = ne_eqb _ _ (λ e. let h : is_some (group_at bag id) ≡ true = subst (λ (q : Pid). is_some (group_at bag q) ≡ true) (pid_same g id e) held in let n : is_some (group_at bag id) ≡ false = ap is_some none in cc)

-- who moves is in such a group neither before nor after
own_out : (rows : List Row) (bag : Bag) (u : Vproc) (x : Row) (old : Group) (new : GroupInSession) (id : Pid) → Moves rows bag u x old new → IsRecordOf rows u x → group_at bag id ≡ None → (c : Row) → row_of rows c.pid ≡ Some c → c.pid.0 ≡ u.pid.0 →
    (in_group id c ≡ false) × (in_group id (moved_at u.pid new c) ≡ false)
own_out rows bag u x old new id m of none c here n =
    let same : c ≡ x = some_same c x (sym here ∙ ap (row_of rows) (pid_same c.pid u.pid n) ∙ m.row) in (
      ap (in_group id) same ∙ ap (λ (g : Pid). g.0 == id.0) (sym of.group) ∙ out_of bag id u.group none (ap is_some m.old_held),
      ap (in_group id) (taken_to u.pid new c n) ∙ out_of bag id new.group none m.new_held,
    )

link_out : (rows : List Row) (bag : Bag) (u : Vproc) (x : Row) (old : Group) (new : GroupInSession) (id : Pid) → Moves rows bag u x old new → IsRecordOf rows u x → group_at bag id ≡ None → (c : Row) → row_of rows c.pid ≡ Some c →
    is_link_of (later u.pid new rows) id (moved_at u.pid new c) ≡ is_link_of rows id c
link_out rows bag u x old new id m of none c here = pick (is_pid u.pid c) (is_parent u.pid c) refl refl
  where
    child : (i l : Bool) → in_group id c ≡ i → is_living c.life ≡ l → c.parent.0 ≡ u.pid.0 → (i && (l && is_outside_parent c (row_of (later u.pid new rows) c.parent))) ≡ (i && (l && is_outside_parent c (row_of rows c.parent)))
    child false l e s n = refl
    child true false e s n = refl
    child true true e s n = let out : in_group id c ≡ false = out_of bag id c.group none (m.child_groups c.pid c here n s) in cc

    pick : (a b : Bool) → is_pid u.pid c ≡ a → is_parent u.pid c ≡ b → is_link_of (later u.pid new rows) id (moved_at u.pid new c) ≡ is_link_of rows id c
    pick true b ea eb =
        let o = own_out rows bag u x old new id m of none c here (eqb-true _ _ ea) in
        ap (λ (i : Bool). i && (is_living c.life && is_outside_parent (moved_at u.pid new c) (row_of (later u.pid new rows) c.parent))) o.1
        ∙ sym (ap (λ (i : Bool). i && (is_living c.life && is_outside_parent c (row_of rows c.parent))) o.0)
    pick false true ea eb =
        ap (λ (d : Row). in_group id d && (is_living c.life && is_outside_parent d (row_of (later u.pid new rows) c.parent))) (still u.pid new c (eqb-false _ _ ea))
        ∙ child (in_group id c) (is_living c.life) refl refl (eqb-true _ _ eb)
    pick false false ea eb = sym (far_link rows u.pid new id c (ap (λ (a : Bool). a || is_parent u.pid c) ea ∙ eb))

stopped_out : (rows : List Row) (bag : Bag) (u : Vproc) (x : Row) (old : Group) (new : GroupInSession) (id : Pid) → Moves rows bag u x old new → IsRecordOf rows u x → group_at bag id ≡ None → (c : Row) → row_of rows c.pid ≡ Some c →
    is_stopped_in id (moved_at u.pid new c) ≡ is_stopped_in id c
stopped_out rows bag u x old new id m of none c here = pick (is_pid u.pid c) refl
  where
    pick : (a : Bool) → is_pid u.pid c ≡ a → is_stopped_in id (moved_at u.pid new c) ≡ is_stopped_in id c
    pick true e =
        let o = own_out rows bag u x old new id m of none c here (eqb-true _ _ e) in
        ap (λ (i : Bool). i && is_stopped c.life) o.1 ∙ sym (ap (λ (i : Bool). i && is_stopped c.life) o.0)
    pick false e = ap (is_stopped_in id) (still u.pid new c (eqb-false _ _ e))

uid_out : (rows : List Row) (bag : Bag) (u : Vproc) (x : Row) (old : Group) (new : GroupInSession) (id : Pid) → Moves rows bag u x old new → IsRecordOf rows u x → group_at bag id ≡ None → (q : Pid) → uid_in (later u.pid new rows) id q ≡ uid_in rows id q
uid_out rows bag u x old new id m of none q = ap (λ (o : Option Row). option_map (λ (c : Row). c.uid) (option_filter (in_group id) o)) (row_later rows u.pid new q) ∙ go (row_of rows q) refl
  where
    both_out : (c : Row) (i j : Bool) → i ≡ false → j ≡ false → option_map (λ (d : Row). d.uid) (cond i (Some (moved_at u.pid new c)) None) ≡ option_map (λ (d : Row). d.uid) (cond j (Some c) None)
    both_out c true j ei ej = cc
    both_out c false true ei ej = cc
    both_out c false false ei ej = refl

    go : (o : Option Row) → row_of rows q ≡ o → option_map (λ (c : Row). c.uid) (option_filter (in_group id) (option_map (moved_at u.pid new) o)) ≡ option_map (λ (c : Row). c.uid) (option_filter (in_group id) o)
    go None e = refl
    go (Some c) e = pick (is_pid u.pid c) refl
      where
        pick : (a : Bool) → is_pid u.pid c ≡ a → option_map (λ (d : Row). d.uid) (option_filter (in_group id) (Some (moved_at u.pid new c))) ≡ option_map (λ (d : Row). d.uid) (option_filter (in_group id) (Some c))
        pick true s = let o = own_out rows bag u x old new id m of none c (row_own rows q c e) (eqb-true _ _ s) in both_out c (in_group id (moved_at u.pid new c)) (in_group id c) o.1 o.0
        pick false s = ap (λ (d : Row). option_map (λ (y : Row). y.uid) (option_filter (in_group id) (Some d))) (still u.pid new c (eqb-false _ _ s))

group_out : (rows : List Row) (bag : Bag) (u : Vproc) (x : Row) (old : Group) (new : GroupInSession) (id : Pid) (h : Option Group) → IsSound rows → Moves rows bag u x old new → IsRecordOf rows u x → group_at bag id ≡ None → GroupAgrees rows id h → GroupAgrees (later u.pid new rows) id h
group_out rows bag u x old new id None k m of none a = λ q. uid_out rows bag u x old new id m of none q ∙ a q
group_out rows bag u x old new id (Some g) k m of none a = (
  a.0,
  record {
    id_is = a.1.id_is;
    distinct = a.1.distinct;
    members = λ q. a.1.members q ∙ sym (uid_out rows bag u x old new id m of none q);
    session = session_later rows u new id g.session (λ n. absurd (eqb-false _ _ (out_of bag id new.group none m.new_held) n)) a.1.session;
    from = a.1.from;
    links = a.1.links ∙ sym (length-filter-map (is_link_of (later u.pid new rows) id) (moved_at u.pid new) rows
        ∙ ap length (filter-same number (λ c. is_link_of (later u.pid new rows) id (moved_at u.pid new c)) (is_link_of rows id) rows (distinct rows k.distinct) (λ c here. link_out rows bag u x old new id m of none c here)));
    stopped = a.1.stopped ∙ sym (length-filter-map (is_stopped_in id) (moved_at u.pid new) rows
        ∙ ap length (filter-same number (λ c. is_stopped_in id (moved_at u.pid new c)) (is_stopped_in id) rows (distinct rows k.distinct) (λ c here. stopped_out rows bag u x old new id m of none c here)));
  },
)

-- ---- the law
pub move_law : MoveLaw
move_law rows p site at sig bag r v g call reply u x old new a m alive y = record {
  legal = (y.legal, refl);
  table = y.table;
  asked = refl;
  holds = ap is_some a.vproc;
  names = names_changed fv fg bag;
  agrees = agrees_changed rows (later u.pid new rows) fv fg bag a.agrees
      (λ w h e. vproc_later rows u.pid new old w h (a.agrees.vprocs w h e))
      (λ id h e. unless_empty_agrees (later u.pid new rows) id (moved_group bag u old new id (or_empty id new.session h)) (held_later rows bag u x old new id h a.sound a.agrees m of e));
  vprocs_elsewhere = λ w h away b k. subst (λ (y : Option Vproc). VprocAgrees (later u.pid new rows) y (row_of (later u.pid new rows) w)) (only_other u.pid (option_map (moved_vproc old new)) w h (away_from w away)) (vproc_later rows u.pid new old w h k);
  groups_elsewhere = λ id h away k. group_out rows bag u x old new id h a.sound m of away k;
  own = λ r' here living. own_is r' (comes_from rows u.pid new p r' here) (p.0 == u.pid.0) refl;
  others = λ w z z' ne here here' living. grows w z z' here here';
  nudged = λ w z z' ne here here' living some. absurd (some (y.sends z));
  wakes = move_wakes rows p bag u x old new a.sound a.agrees m;
  places = λ w z z' ne ez ez'. place w z z' ez ez' (w.0 == u.pid.0) refl;
  place = λ z z' ez ez'. place p z z' ez ez' (p.0 == u.pid.0) refl ∙ sym (y.place z.loc site.node);
  arrives = λ placed z ez. let h : true ≡ false = sym placed ∙ y.unplaced in cc;
  nudges = y.nudges bag (changed fv fg bag);
  birth = y.born;
  phase = (moved_at u.pid new r, row_later rows u.pid new p ∙ ap (option_map (moved_at u.pid new)) a.row, a.living, sym alive);
  awake = λ e. cc;
  rests = λ e r' here. absurd (cc e);
}
  where
    fv : Pid → Option Vproc → Option Vproc
    fv = only u.pid (option_map (moved_vproc old new))

    fg : Pid → Option Group → Option Group
    fg = regroups new.session (moved_group bag u old new)

    of : IsRecordOf rows u x
    of = own_record rows u.pid bag x u a.agrees m.row m.held

    away_from : (w : Pid) → vproc_at bag w ≡ None → w.0 ≢ u.pid.0
    away_from w none e = let h : vproc_at bag w ≡ Some (Some u) = ap (vproc_at bag) (pid_same w u.pid e) ∙ m.held in cc

    -- what is held afterwards
    vproc_same : (w : Pid) → w.0 ≢ u.pid.0 → vproc_at (changed fv fg bag) w ≡ vproc_at bag w
    vproc_same w ne = vproc_changed fv fg bag w ∙ only_at_other u.pid (option_map (moved_vproc old new)) w (vproc_at bag w) ne

    vproc_moved : (w : Pid) → w.0 ≡ u.pid.0 → vproc_at (changed fv fg bag) w ≡ Some (Some (moved_vproc old new u))
    vproc_moved w e = vproc_changed fv fg bag w ∙ only_at_same u.pid (option_map (moved_vproc old new)) w (vproc_at bag w) e ∙ ap (option_map (option_map (moved_vproc old new))) (ap (vproc_at bag) (pid_same w u.pid e) ∙ m.held)

    group_there : (id : Pid) (h : Option Group) (w : Pid) (c : Row) → group_at bag id ≡ Some h → row_of (later u.pid new rows) w ≡ Some c → in_group id c ≡ true → group_at (changed fv fg bag) id ≡ Some (Some (moved_group bag u old new id (or_empty id new.session h)))
    group_there id h w c e here i = group_changed fv fg bag id ∙ ap (option_map (fg id)) e ∙ ap Some (unless_empty_some _ w (member_has (later u.pid new rows) id _ w c (held_later rows bag u x old new id h a.sound a.agrees m of e) here i))

    moved_row : row_of (later u.pid new rows) u.pid ≡ Some (record x { group = new.group; session = new.session })
    moved_row = row_later rows u.pid new u.pid ∙ ap (option_map (moved_at u.pid new)) m.row ∙ ap Some (taken_to u.pid new x (found number u.pid.0 rows x m.row))

    -- the records of the one that moves
    comes : (h : Option Group) → group_at bag new.group ≡ Some h →
        (g' : Group) × (group_at (changed fv fg bag) new.group ≡ Some (Some g')) × (stream (moved_vproc old new u) g' ≡ stream u old)
    comes h e = (
      moved_group bag u old new new.group (or_empty new.group new.session h),
      group_there new.group h u.pid (record x { group = new.group; session = new.session }) e moved_row (same_number new.group.0),
      ap (λ (l : List Signal). stream u old ++ l) (log_own bag u old new new.group (or_empty new.group new.session h) (same_number new.group.0)) ∙ append-nil (stream u old),
    )

    new_kept : (h : Option Group) × (group_at bag new.group ≡ Some h)
    new_kept = go (group_at bag new.group) refl m.new_held
      where
        go : (o : Option (Option Group)) → group_at bag new.group ≡ o → is_some o ≡ true → (h : Option Group) × (group_at bag new.group ≡ Some h)
        go None e s = cc
        go (Some h) e s = (h, e)

    -- the records of another
    stays : (w : Pid) (c : Row) (h : Group) (id : Pid) → row_of rows w ≡ Some c → w.0 ≢ u.pid.0 → id ≡ c.group → group_at bag id ≡ Some (Some h) →
        (g' : Group) × (group_at (changed fv fg bag) id ≡ Some (Some g')) × (log_part w c.uid g' ≡ log_part w c.uid h)
    stays w c h id here ne is e =
        let now : row_of (later u.pid new rows) w ≡ Some c = row_later rows u.pid new w ∙ ap (option_map (moved_at u.pid new)) here ∙ ap Some (still u.pid new c (λ k. ne (sym (found number w.0 rows c here) ∙ k))) in (
          moved_group bag u old new id h,
          group_there id (Some h) w c e now (ap (λ (i : Pid). c.group.0 == i.0) is ∙ same_number c.group.0),
          log_other bag u old new id h w c.uid ne,
        )

    grows : (w : Pid) (d d' : Row) → row_of rows w ≡ Some d → row_of (later u.pid new rows) w ≡ Some d' → Grows bag (changed fv fg bag) w d d' (sent rows (Called p call reply) d)
    grows w d d' here here' = record {
      both = λ z h ez eh. both z h ez eh (w.0 == u.pid.0) refl;
      alone = λ z ez none.
          let apart : w.0 ≢ u.pid.0 = λ e. let same : u ≡ z = some_same _ _ (some_same _ _ (sym m.held ∙ ap (vproc_at bag) (pid_same u.pid w (sym e)) ∙ ez)) in let h : group_at bag z.group ≡ Some (Some old) = subst (λ (s : Vproc). group_at bag s.group ≡ Some (Some old)) same m.old_held in cc in
          (z, vproc_same w apart ∙ ez, refl, refl, y.sends d);
      log = λ h ez eh.
          let apart : w.0 ≢ u.pid.0 = away_from w ez in
          let s = stays w d h d.group here apart refl eh in
          let same : d' ≡ d = some_same d' d (sym here' ∙ row_later rows u.pid new w ∙ ap (option_map (moved_at u.pid new)) here ∙ ap Some (still u.pid new d (λ k. apart (sym (found number w.0 rows d here) ∙ k)))) in
          (s.0, ap (λ (c : Row). c.group) same, s.1, s.2 ∙ sym (append-nil (log_part w d.uid h)) ∙ ap (λ (l : List Signal). log_part w d.uid h ++ l) (sym (y.sends d)));
      neither = λ ez eh. y.sends d;
    }
      where
        both : (z : Vproc) (h : Group) → vproc_at bag w ≡ Some (Some z) → group_at bag z.group ≡ Some (Some h) → (b : Bool) → (w.0 == u.pid.0) ≡ b →
            (v' : Vproc) × (g' : Group) × (vproc_at (changed fv fg bag) w ≡ Some (Some v')) × (group_at (changed fv fg bag) v'.group ≡ Some (Some g')) × (stream v' g' ≡ stream z h ++ sent rows (Called p call reply) d)
        both z h ez eh true e =
            let n : w.0 ≡ u.pid.0 = eqb-true _ _ e in
            let same : u ≡ z = some_same _ _ (some_same _ _ (sym m.held ∙ ap (vproc_at bag) (pid_same u.pid w (sym n)) ∙ ez)) in
            let group : old ≡ h = some_same _ _ (some_same _ _ (sym m.old_held ∙ ap (λ (s : Vproc). group_at bag s.group) same ∙ eh)) in
            let s = comes new_kept.0 new_kept.1 in
            (moved_vproc old new u, s.0, vproc_moved w n, s.1, s.2 ∙ ap (λ (s : Vproc). stream s old) same ∙ ap (stream z) group ∙ sym (append-nil (stream z h)) ∙ ap (λ (l : List Signal). stream z h ++ l) (sym (y.sends d)))
        both z h ez eh false e =
            let ne : w.0 ≢ u.pid.0 = eqb-false _ _ e in
            let is : IsRecordOf rows z d = own_record rows w bag d z a.agrees here ez in
            let s = stays w d h z.group here ne is.group eh in
            let at_w : z.pid ≡ w = is.pid ∙ row_pid rows w d here in (
              z,
              s.0,
              vproc_same w ne ∙ ez,
              s.1,
              ap (λ (l : List Signal). z.backlog ++ l) (ap (λ (i : Pid). log_part i z.uid s.0) at_w ∙ ap (λ (n : ℕ). log_part w n s.0) is.uid ∙ s.2 ∙ ap (λ (n : ℕ). log_part w n h) (sym is.uid) ∙ ap (λ (i : Pid). log_part i z.uid h) (sym at_w))
                  ∙ sym (append-nil (stream z h)) ∙ ap (λ (l : List Signal). stream z h ++ l) (sym (y.sends d)),
            )

    own_is : (r' : Row) → ((b : Row) × (row_of rows p ≡ Some b) × (r' ≡ moved_at u.pid new b)) → (b : Bool) → (p.0 == u.pid.0) ≡ b →
        (v' : Vproc) × (g' : Group) × (vproc_at (changed fv fg bag) p ≡ Some (Some v')) × (group_at (changed fv fg bag) v'.group ≡ Some (Some g')) × IsOwn (record { sig = sig; taken = 0 }) v' g' r'
    own_is r' (b, here, is) true e =
        let n : p.0 ≡ u.pid.0 = eqb-true _ _ e in
        let same : u ≡ v = some_same _ _ (some_same _ _ (sym m.held ∙ ap (vproc_at bag) (pid_same u.pid p (sym n)) ∙ a.vproc)) in
        let group : old ≡ g = some_same _ _ (some_same _ _ (sym m.old_held ∙ ap (λ (s : Vproc). group_at bag s.group) same ∙ a.group)) in
        let s = comes new_kept.0 new_kept.1 in (
          moved_vproc old new u,
          s.0,
          vproc_moved p n,
          s.1,
          record {
            taken = omega arith;
            sig = ap (λ (c : Row). c.sig) is ∙ ap (λ (c : Row). c.sig) (some_same b r (sym here ∙ a.row)) ∙ a.sig_is ∙ ap (λ (l : List Signal). generated_all sig (drop 0 l)) (sym (s.2 ∙ ap (λ (z : Vproc). stream z old) same ∙ ap (stream v) group ∙ a.taken));
          },
        )
    own_is r' (b, here, is) false e =
        let ne : p.0 ≢ u.pid.0 = eqb-false _ _ e in
        let of_v : IsRecordOf rows v r = own_record rows p bag r v a.agrees a.row a.vproc in
        let s = stays p r g v.group a.row ne of_v.group a.group in
        let at_p : v.pid ≡ p = of_v.pid ∙ row_pid rows p r a.row in
        let kept : stream v s.0 ≡ [] = ap (λ (l : List Signal). v.backlog ++ l) (ap (λ (i : Pid). log_part i v.uid s.0) at_p ∙ ap (λ (n : ℕ). log_part p n s.0) of_v.uid ∙ s.2 ∙ ap (λ (n : ℕ). log_part p n g) (sym of_v.uid) ∙ ap (λ (i : Pid). log_part i v.uid g) (sym at_p)) ∙ a.taken in (
          v,
          s.0,
          vproc_same p ne ∙ a.vproc,
          s.1,
          record {
            taken = omega arith;
            sig = ap (λ (c : Row). c.sig) is ∙ ap (λ (c : Row). c.sig) (some_same b r (sym here ∙ a.row)) ∙ a.sig_is ∙ ap (λ (l : List Signal). generated_all sig (drop 0 l)) (sym kept);
          },
        )

    place : (w : Pid) (z z' : Vproc) → vproc_at bag w ≡ Some (Some z) → vproc_at (changed fv fg bag) w ≡ Some (Some z') → (b : Bool) → (w.0 == u.pid.0) ≡ b → z'.loc ≡ z.loc
    place w z z' ez ez' true e =
        let n : w.0 ≡ u.pid.0 = eqb-true _ _ e in
        let was : u ≡ z = some_same _ _ (some_same _ _ (sym m.held ∙ ap (vproc_at bag) (pid_same u.pid w (sym n)) ∙ ez)) in
        let now : moved_vproc old new u ≡ z' = some_same _ _ (some_same _ _ (sym (vproc_moved w n) ∙ ez')) in
        sym (ap (λ (s : Vproc). s.loc) now) ∙ ap (λ (s : Vproc). s.loc) was
    place w z z' ez ez' false e = ap (λ (s : Vproc). s.loc) (some_same _ _ (some_same _ _ (sym ez' ∙ vproc_same w (eqb-false _ _ e) ∙ ez)))
