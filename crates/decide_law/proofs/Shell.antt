-- folding, settling and trimming round a decision
use Rattle.std.proofs.Common.{◌≡◌, ◌≢◌, ◌==◌, ◌≤◌, ◌++◌, ℕ, Bool, true, false, List, length, drop, refl, sym, ap, ◌∙◌, subst, Option, None, Some}
use Rattle.std.specs.Prelude.{is_some}
use Rattle.std.specs.Option.{option_map}
use Rattle.std.proofs.lemmas.Bool.{eqb-true, eqb-false}
use Rattle.list_laws.proofs.Filters.{some_same}
use Rattle.list_laws.proofs.Finding.{same_number}
use Rattle.unix_names.specs.declared.Pid.{Pid}
use Rattle.unix_names.specs.declared.Signal.{Signal}
use Rattle.unix_calls.specs.declared.Job.{Job}
use Rattle.signal_state.specs.declared.Own.{Own}
use Rattle.signal_state.specs.Sig.{generated_all}
use Rattle.vproc_record.specs.declared.Vproc.{Vproc}
use Rattle.group_record.specs.declared.Group.{Group}
use Rattle.group_record.specs.Groups.{settled, trimmed}
use Rattle.group_record.specs.Log.{log_part}
use Rattle.group_record.proofs.LogLaws.{log_part-trimmed, log_part-settled_own, log_part-settled_other}
use Rattle.sig_stream.specs.Streams.{stream}
use Rattle.ordered_table.proofs.MapLaws.{with_each-at, pids-with_each}
use Rattle.record_bag.specs.declared.bag.Bag.{Bag}
use Rattle.record_bag.specs.declared.vector.Site.{Site}
use Rattle.process_table.specs.declared.Row.{Row}
use Rattle.process_table.specs.Rows.{row_of, in_group}
use Rattle.decide_law.specs.Agrees.{vproc_at, group_at, IsRecordOf, VprocAgrees, IsGroupOf, GroupAgrees, Agrees}
use Rattle.decide_law.specs.Law.{IsOwn, Based, Settled, sent_to, SameNames, Grows, IsBorn, BirthIs, IsStep}
use Rattle.decide_law.specs.Effects.{only, emptied, settled_for, folded, settled_in, trimmed_in, Effect, decided_by, written, left_by}
use Rattle.decide_law.proofs.Records.{row_pid, only_same, only_other, member_has, trimmed_agrees, settled_agrees, emptied_agrees, only_keeps}
use Rattle.decide_law.proofs.Changes.{vproc_changed, group_changed, only_at_other, names_changed, mapped_none, agrees_changed}
use Rattle.decide_law.proofs.NudgesKept.{nudges_same, settling_others, trimming_orphans}

-- ---- settling
pub settled_agree : (rows : List Row) (p id : Pid) (bag : Bag) → Agrees bag rows → Agrees (settled_in p id bag) rows
settled_agree rows p id bag a =
    agrees_changed rows rows (only p (option_map emptied)) (only id (option_map (settled_for p))) bag a
    (λ q h e. let k = a.vprocs q h e in only_keeps (λ q h. VprocAgrees rows h (row_of rows q)) p (option_map emptied) q h k (emptied_agrees rows h (row_of rows q) k))
    (λ q h e. let k = a.groups q h e in only_keeps (GroupAgrees rows) id (option_map (settled_for p)) q h k (settled_agrees rows q p h k))

-- a group that was found, and what is left of it
settle_found : (p id : Pid) (bag : Bag) (q : Pid) (g : Group) → group_at bag q ≡ Some (Some g) →
    (g' : Group) × (group_at (settled_in p id bag) q ≡ Some (Some g')) × ((m : Pid) (uid : ℕ) → m.0 ≢ p.0 → log_part m uid g' ≡ log_part m uid g)
settle_found p id bag q g e = go (q.0 == id.0) refl
  where
    at_q : group_at (settled_in p id bag) q ≡ option_map (only id (option_map (settled_for p)) q) (Some (Some g))
    at_q = group_changed (only p (option_map emptied)) (only id (option_map (settled_for p))) bag q ∙ ap (option_map (only id (option_map (settled_for p)) q)) e

    go : (b : Bool) → (q.0 == id.0) ≡ b → (g' : Group) × (group_at (settled_in p id bag) q ≡ Some (Some g')) × ((m : Pid) (uid : ℕ) → m.0 ≢ p.0 → log_part m uid g' ≡ log_part m uid g)
    go true t = (settled g p, at_q ∙ ap Some (only_same id (option_map (settled_for p)) q (Some g) (eqb-true _ _ t)), λ m uid ne. log_part-settled_other g p m uid ne)
    go false t = (g, at_q ∙ ap Some (only_other id (option_map (settled_for p)) q (Some g) (eqb-false _ _ t)), λ m uid ne. refl)

settle_none : (p id : Pid) (bag : Bag) (q : Pid) → group_at bag q ≡ None → group_at (settled_in p id bag) q ≡ None
settle_none p id bag q e = group_changed (only p (option_map emptied)) (only id (option_map (settled_for p))) bag q ∙ mapped_none _ _ e

settle_other : (p id : Pid) (bag : Bag) (m : Pid) → m.0 ≢ p.0 → vproc_at (settled_in p id bag) m ≡ vproc_at bag m
settle_other p id bag m ne = vproc_changed (only p (option_map emptied)) (only id (option_map (settled_for p))) bag m ∙ only_at_other p (option_map emptied) m (vproc_at bag m) ne

-- the record of the caller of a question
pub own_record : (rows : List Row) (p : Pid) (bag : Bag) (r : Row) (v : Vproc) → Agrees bag rows → row_of rows p ≡ Some r → vproc_at bag p ≡ Some (Some v) → IsRecordOf rows v r
own_record rows p bag r v a here e = subst (VprocAgrees rows (Some v)) here (a.vprocs p (Some v) e)

-- the record of a group that has a row
pub group_is : (rows : List Row) (bag : Bag) (id : Pid) (g : Group) → Agrees bag rows → group_at bag id ≡ Some (Some g) → IsGroupOf rows id g
group_is rows bag id g a e = (a.groups id (Some g) e).1

pub in_own : (r : Row) → in_group r.group r ≡ true
in_own r = same_number r.group.0

pub settling : (rows : List Row) (p : Pid) (own : Own) (bag : Bag) (r : Row) (v : Vproc) (g : Group) → Based rows p own bag r v g →
    Settled rows p (folded own v g).sig (settled_in p v.group bag) r (emptied v) (settled g p)
settling rows p own bag r v g a =
    let of : IsRecordOf rows v r = own_record rows p bag r v a.agrees a.row a.vproc in
    let k : IsGroupOf rows v.group g = group_is rows bag v.group g a.agrees a.group in
    let at_p : v.pid ≡ p = of.pid ∙ row_pid rows p r a.row in
    record {
      sound = a.sound;
      agrees = settled_agree rows p v.group bag a.agrees;
      row = a.row;
      living = a.living;
      vproc = vproc_changed (only p (option_map emptied)) (only v.group (option_map (settled_for p))) bag p ∙ ap (option_map (only p (option_map emptied) p)) a.vproc ∙ ap Some (only_same p (option_map emptied) p (Some v) refl);
      group = group_changed (only p (option_map emptied)) (only v.group (option_map (settled_for p))) bag v.group ∙ ap (option_map (only v.group (option_map (settled_for p)) v.group)) a.group ∙ ap Some (only_same v.group (option_map (settled_for p)) v.group (Some g) refl);
      taken = ap (λ (q : Pid). log_part q v.uid (settled g p)) at_p ∙ log_part-settled_own g p v.uid (member_has rows v.group g p r k a.row (ap (λ (x : Pid). r.group.0 == x.0) of.group ∙ in_own r));
      sig_is = a.own_is.sig;
    }

-- ---- trimming
pub group_trimmed : (id : Pid) (bag : Bag) (q : Pid) → group_at (trimmed_in id bag) q ≡ option_map (only id (option_map trimmed) q) (group_at bag q)
group_trimmed id bag q = with_each-at (only id (option_map trimmed)) bag.groups q

pub trimmed_agree : (rows : List Row) (id : Pid) (bag : Bag) → Agrees bag rows → Agrees (trimmed_in id bag) rows
trimmed_agree rows id bag a = record { vprocs = a.vprocs; groups = λ q h e. gs q h (group_at bag q) refl (sym (group_trimmed id bag q) ∙ e) }
  where
    gs : (q : Pid) (h : Option Group) (o : Option (Option Group)) → group_at bag q ≡ o → option_map (only id (option_map trimmed) q) o ≡ Some h → GroupAgrees rows q h
    gs q h None e m = cc
    gs q h (Some x) e m = let k = a.groups q x e in subst (GroupAgrees rows q) (some_same _ _ m) (only_keeps (GroupAgrees rows) id (option_map trimmed) q x k (trimmed_agrees rows q x k))

-- the group of a row, trimmed or not, has for its member what it had
trim_found : (rows : List Row) (id : Pid) (bag : Bag) (q : Pid) (r : Row) (g : Group) → Agrees bag rows → row_of rows q ≡ Some r → group_at bag r.group ≡ Some (Some g) →
    (g' : Group) × (group_at (trimmed_in id bag) r.group ≡ Some (Some g')) × ((uid : ℕ) → log_part q uid g' ≡ log_part q uid g)
trim_found rows id bag q r g a here e = go (r.group.0 == id.0) refl
  where
    at_g : group_at (trimmed_in id bag) r.group ≡ option_map (only id (option_map trimmed) r.group) (Some (Some g))
    at_g = group_trimmed id bag r.group ∙ ap (option_map (only id (option_map trimmed) r.group)) e

    go : (b : Bool) → (r.group.0 == id.0) ≡ b → (g' : Group) × (group_at (trimmed_in id bag) r.group ≡ Some (Some g')) × ((uid : ℕ) → log_part q uid g' ≡ log_part q uid g)
    go true t = (trimmed g, at_g ∙ ap Some (only_same id (option_map trimmed) r.group (Some g) (eqb-true _ _ t)), λ uid. log_part-trimmed g q uid (member_has rows r.group g q r (group_is rows bag r.group g a e) here (in_own r)))
    go false t = (g, at_g ∙ ap Some (only_other id (option_map trimmed) r.group (Some g) (eqb-false _ _ t)), λ uid. refl)

-- a record with its group, after trimming: the stream stays
abbrev StillThere : Bag → Pid → Vproc → Group → Type 0
StillThere bag id v g = (g' : Group) × (group_at (trimmed_in id bag) v.group ≡ Some (Some g')) × (stream v g' ≡ stream v g)

trim_stream : (rows : List Row) (id : Pid) (bag : Bag) (q : Pid) (r : Row) (v : Vproc) (g : Group) → Agrees bag rows → row_of rows q ≡ Some r → vproc_at bag q ≡ Some (Some v) → group_at bag v.group ≡ Some (Some g) → StillThere bag id v g
trim_stream rows id bag q r v g a here ev eg =
    let of : IsRecordOf rows v r = own_record rows q bag r v a here ev in
    let t = trim_found rows id bag q r g a here (subst (λ (x : Pid). group_at bag x ≡ Some (Some g)) of.group eg) in
    let at_q : v.pid ≡ q = of.pid ∙ row_pid rows q r here in (
      t.0,
      subst (λ (x : Pid). group_at (trimmed_in id bag) x ≡ Some (Some t.0)) (sym of.group) t.1,
      ap (λ (l : List Signal). v.backlog ++ l) (ap (λ (x : Pid). log_part x v.uid t.0) at_q ∙ t.2 v.uid ∙ ap (λ (x : Pid). log_part x v.uid g) (sym at_q)),
    )

-- ---- the whole decision
pub shell : (rows now : List Row) (p : Pid) (job : Job) (site : Site) (own : Own) (bag : Bag) (r : Row) (v : Vproc) (g : Group) (x : Effect) → Based rows p own bag r v g →
    IsStep rows now p job site (settled_in p v.group bag) (decided_by x) (written x (settled_in p v.group bag)) → IsStep rows now p job site bag (decided_by x) (left_by x p v.group bag)
shell rows now p job site own bag r v g x a i = record {
  legal = i.legal;
  table = i.table;
  asked = i.asked;
  holds = ap is_some a.vproc;
  names = record {
    vprocs = i.names.vprocs ∙ settled_names.vprocs;
    groups = pids-with_each (only v.group (option_map trimmed)) (written x (settled_in p v.group bag)).groups ∙ i.names.groups ∙ settled_names.groups;
  };
  agrees = trimmed_agree now v.group (written x (settled_in p v.group bag)) i.agrees;
  vprocs_elsewhere = λ q h e b k. i.vprocs_elsewhere q h (vproc_changed (only p (option_map emptied)) (only v.group (option_map (settled_for p))) bag q ∙ mapped_none _ _ e) b k;
  groups_elsewhere = λ id h e k. i.groups_elsewhere id h (settle_none p v.group bag id e) k;
  own = λ r' here alive. own_is r' here (i.own r' here alive);
  others = λ m y y' ne here here' alive. grows m y y' ne here here' (i.others m y y' ne here here' alive);
  nudged = i.nudged;
  wakes = i.wakes;
  places = λ q u u' ne e e'. i.places q u u' ne (settle_other p v.group bag q ne ∙ e) e';
  place = λ u u' e e'. i.place (emptied u) u' (vproc_changed (only p (option_map emptied)) (only v.group (option_map (settled_for p))) bag p ∙ ap (option_map (only p (option_map emptied) p)) e ∙ ap Some (only_same p (option_map emptied) p (Some u) refl)) e';
  arrives = λ placed u e. i.arrives placed (emptied u) (vproc_changed (only p (option_map emptied)) (only v.group (option_map (settled_for p))) bag p ∙ ap (option_map (only p (option_map emptied) p)) e ∙ ap Some (only_same p (option_map emptied) p (Some u) refl));
  nudges = i.nudges ∙ nudges_same rows now p bag (settled_in p v.group bag) (left_by x p v.group bag) mid (settling_others p p v.group bag) (sym (trimming_orphans rows now p v.group mid)) x.entry;
  birth = birth_is x.born i.birth;
  phase = i.phase;
  awake = i.awake;
  rests = i.rests;
}
  where
    settled_names : SameNames bag (settled_in p v.group bag)
    settled_names = names_changed (only p (option_map emptied)) (only v.group (option_map (settled_for p))) bag

    mid : Bag
    mid = written x (settled_in p v.group bag)

    own_is : (r' : Row) → row_of now p ≡ Some r' →
        ((v' : Vproc) × (g' : Group) × (vproc_at (written x (settled_in p v.group bag)) p ≡ Some (Some v')) × (group_at (written x (settled_in p v.group bag)) v'.group ≡ Some (Some g')) × IsOwn (decided_by x).own v' g' r') →
        (v' : Vproc) × (g' : Group) × (vproc_at (left_by x p v.group bag) p ≡ Some (Some v')) × (group_at (left_by x p v.group bag) v'.group ≡ Some (Some g')) × IsOwn (decided_by x).own v' g' r'
    own_is r' here (v', g', ev, eg, o) =
        let t = trim_stream now v.group (written x (settled_in p v.group bag)) p r' v' g' i.agrees here ev eg in (
          v',
          t.0,
          ev,
          t.1,
          record {
            taken = subst (λ (l : List Signal). 0 ≤ length l) (sym t.2) o.taken;
            sig = o.sig ∙ ap (generated_all x.sig) (ap (drop 0) (sym t.2));
          },
        )

    grows : (m : Pid) (y y' : Row) → m.0 ≢ p.0 → row_of rows m ≡ Some y → row_of now m ≡ Some y' → Grows (settled_in p v.group bag) (written x (settled_in p v.group bag)) m y y' (sent_to rows x.entry y) →
        Grows bag (left_by x p v.group bag) m y y' (sent_to rows x.entry y)
    grows m y y' ne here here' k = record {
      both = λ u h eu eh.
          let of : IsRecordOf rows u y = own_record rows m bag y u a.agrees here eu in
          let s = settle_found p v.group bag u.group h eh in
          let j = k.both u s.0 (settle_other p v.group bag m ne ∙ eu) s.1 in
          let t = trim_stream now v.group (written x (settled_in p v.group bag)) m y' j.0 j.1 i.agrees here' j.2 j.3 in
          let other : u.pid.0 ≢ p.0 = subst (λ (z : Pid). z.0 ≢ p.0) (sym (of.pid ∙ row_pid rows m y here)) ne in
          (j.0, t.0, j.2, t.1, t.2 ∙ j.4 ∙ ap (λ (l : List Signal). (u.backlog ++ l) ++ sent_to rows x.entry y) (s.2 u.pid u.uid other));
      alone = λ u eu none. k.alone u (settle_other p v.group bag m ne ∙ eu) (settle_none p v.group bag u.group none);
      log = λ h eu eh.
          let s = settle_found p v.group bag y.group h eh in
          let j = k.log s.0 (settle_other p v.group bag m ne ∙ eu) s.1 in
          let t = trim_found now v.group (written x (settled_in p v.group bag)) m y' j.0 i.agrees here' (subst (λ (z : Pid). group_at (written x (settled_in p v.group bag)) z ≡ Some (Some j.0)) (sym j.1) j.2) in
          (t.0, j.1, subst (λ (z : Pid). group_at (left_by x p v.group bag) z ≡ Some (Some t.0)) j.1 t.1, t.2 y.uid ∙ j.3 ∙ ap (λ (l : List Signal). l ++ sent_to rows x.entry y) (s.2 m y.uid ne));
      neither = λ eu eh. k.neither (settle_other p v.group bag m ne ∙ eu) (settle_none p v.group bag y.group eh);
    }

    -- the newborn's group may be trimmed: nothing is on its way to it then either
    birth_is : (b : Option Vproc) → BirthIs now p site x.entry (written x (settled_in p v.group bag)) b → BirthIs now p site x.entry (left_by x p v.group bag) b
    birth_is None none = none
    birth_is (Some w) k = by (row_of now site.fresh) refl k.agrees
      where
        by : (o : Option Row) → row_of now site.fresh ≡ o → VprocAgrees now (Some w) o → IsBorn now p site x.entry (left_by x p v.group bag) w
        by None here of = absurd of
        by (Some c) here of =
            let t = trim_found now v.group (written x (settled_in p v.group bag)) site.fresh c k.group i.agrees here (subst (λ (z : Pid). group_at (written x (settled_in p v.group bag)) z ≡ Some (Some k.group)) of.group k.group_held) in
            record {
              entry_is = k.entry_is;
              pid = k.pid;
              place = k.place;
              agrees = k.agrees;
              group = t.0;
              group_held = subst (λ (z : Pid). group_at (left_by x p v.group bag) z ≡ Some (Some t.0)) (sym of.group) t.1;
              stream_is = ap (λ (l : List Signal). w.backlog ++ l) (ap (λ (z : Pid). log_part z w.uid t.0) k.pid ∙ t.2 w.uid ∙ ap (λ (z : Pid). log_part z w.uid k.group) (sym k.pid)) ∙ k.stream_is;
            }
