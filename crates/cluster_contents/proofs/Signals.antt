-- a decision keeps what the images' signals and the streams say of the table's
use Rattle.std.proofs.Common.{◌≡◌, ◌≢◌, ◌==◌, ◌⊎◌, inl, inr, ◌+◌, ℕ, Bool, true, false, cond, List, [], ◌++◌, length, drop, refl, sym, ap, ◌∙◌, subst, arith, Option, None, Some, append_assoc, append-nil, length-append}
use Rattle.std.specs.Prelude.{is_some, unwrap_or}
use Rattle.std.specs.Option.{option_map}
use Rattle.std.proofs.lemmas.Bool.{eqb-true, eq-eqb, ne_eqb}
use Rattle.std.proofs.lemmas.List.{drop-append-le}
use Rattle.unix_names.specs.declared.Pid.{Pid}
use Rattle.unix_names.specs.declared.Name.{Name}
use Rattle.unix_names.specs.declared.Name.TheVariants as name
use Rattle.unix_names.specs.declared.Signal.{Signal}
use Rattle.unix_names.specs.States.{is_living}
use Rattle.unix_calls.specs.declared.World.{World}
use Rattle.unix_calls.specs.declared.Job.{Job}
use Rattle.signal_state.specs.declared.Own.{Own}
use Rattle.signal_state.specs.Sig.{generated_all, child}
use Rattle.list_laws.proofs.Filters.{some_same}
use Rattle.ordered_table.specs.Entries.{value_at}
use Rattle.vproc_record.specs.declared.Vproc.{Vproc}
use Rattle.group_record.specs.declared.Group.{Group}
use Rattle.group_record.specs.Log.{log_part}
use Rattle.sig_stream.specs.Streams.{stream, tail}
use Rattle.signal_state.proofs.Folds.{generated_all-append}
use Rattle.proc_image.specs.Follows.{Running}
use Rattle.record_bag.specs.declared.Held.{Held}
use Rattle.record_bag.specs.declared.Held.TheVariants as held
use Rattle.record_bag.specs.declared.Bag.{Bag}
use Rattle.record_bag.specs.declared.vector.Site.{Site}
use Rattle.record_bag.specs.declared.vector.Decided.{Decided}
use Rattle.record_bag.specs.Bags.{is_held, held_at}
use Rattle.unix_calls.specs.declared.Entry.{Entry}
use Rattle.unix_calls.specs.declared.Entry.TheVariants.{Called, Happened}
use Rattle.process_table.specs.declared.Row.{Row}
use Rattle.kernel_model.specs.Step.{process_of, sent}
use Rattle.kernel_model.specs.Sound.{IsSound}
use Rattle.kernel_laws.proofs.Rows.{row_pid, row_here}
use Rattle.kernel_laws.proofs.Others.{others_signalled}
use Rattle.process_table.specs.Rows.{row_of, in_group}
use Rattle.list_laws.specs.Keyed.{option_filter}
use Rattle.cluster_contents.specs.Placement.{View, Contents}
use Rattle.decide_law.specs.Agrees.{IsRecordOf, VprocAgrees, GroupAgrees, RecordAgrees}
use Rattle.decide_law.specs.Law.{Grows, sent_to, is_born, BirthIs, IsOwn, next, IsStep}
use Rattle.decide_law.proofs.ByName.{vproc_found, group_found, vproc_lacks, group_lacks, agrees_named, elsewhere_named, IsEntryOf, IsEntry, held_same_names, entry_is}
use Rattle.cluster_contents.specs.Standing.{born_at, Standing, what_after}

-- ---- what a decision says of another process, by what of it is held
abbrev pub HasVproc : Bag → Pid → Vproc → Type 0
HasVproc bag q v = held_at bag (name.V q) ≡ Some (held.V (Some v))

abbrev pub HasGroup : Bag → Pid → Group → Type 0
HasGroup bag g group = held_at bag (name.G g) ≡ Some (held.G (Some group))

abbrev Receives : Row → Row → List Signal → Type 0
Receives r r' sent = r'.sig ≡ generated_all r.sig sent

record LeavesOther (bag bag' : Bag) (m : Pid) (r r' : Row) : Type 0 where
  -- both records are held: the stream grows
  both : (v v' : Vproc) (g : Group) → HasVproc bag m v → HasVproc bag' m v' → HasGroup bag v.group g →
      (g' : Group) × HasGroup bag' v'.group g' × ((sent : List Signal) × (stream v' g' ≡ stream v g ++ sent) × Receives r r' sent)
  -- the group alone is held: its part of the log grows
  log : (g g' : Group) → held_at bag (name.V m) ≡ None → HasGroup bag r.group g → HasGroup bag' r.group g' → (sent : List Signal) × (log_part m r.uid g' ≡ log_part m r.uid g ++ sent) × Receives r r' sent
  -- the group isn't held: group, backlog and signals stay
  backlog : (v v' : Vproc) → HasVproc bag m v → HasVproc bag' m v' → held_at bag (name.G v.group) ≡ None → (v'.group ≡ v.group) × (v'.backlog ≡ v.backlog) × Receives r r' []
  none : held_at bag (name.V m) ≡ None → held_at bag (name.G r.group) ≡ None → Receives r r' []

-- the streams grow by what is sent, and the row receives it
leaves_other : (bag bag' : Bag) (m : Pid) (r r' : Row) (sent : List Signal) → Grows bag bag' m r r' sent → Receives r r' sent → LeavesOther bag bag' m r r'
leaves_other bag bag' m r r' ss grows receives = record {
  both = λ v v' g hv hv' hg.
      let k = grows.both v g (vproc_found bag m (Some v) hv) (group_found bag v.group (Some g) hg) in
      let same : k.0 ≡ v' = some_same _ _ (some_same _ _ (sym k.2 ∙ vproc_found bag' m (Some v') hv')) in
      (k.1, ap (λ (w : Vproc). held_at bag' (name.G w.group)) (sym same) ∙ ap (option_map held.G) k.3, (ss, ap (λ w. stream w k.1) (sym same) ∙ k.4, receives));
  log = λ g g' none hg hg'.
      let k = grows.log g (vproc_lacks bag m none) (group_found bag r.group (Some g) hg) in
      let same : k.0 ≡ g' = some_same _ _ (some_same _ _ (sym k.2 ∙ group_found bag' r.group (Some g') hg')) in
      (ss, ap (log_part m r.uid) (sym same) ∙ k.3, receives);
  backlog = λ v v' hv hv' none.
      let k = grows.alone v (vproc_found bag m (Some v) hv) (group_lacks bag v.group none) in
      let same : k.0 ≡ v' = some_same _ _ (some_same _ _ (sym k.1 ∙ vproc_found bag' m (Some v') hv')) in
      (ap (λ (w : Vproc). w.group) (sym same) ∙ k.2, ap (λ (w : Vproc). w.backlog) (sym same) ∙ k.3, subst (Receives r r') k.4 receives);
  none = λ hv hg. subst (Receives r r') (grows.neither (vproc_lacks bag m hv) (group_lacks bag r.group hg)) receives;
}

-- ---- what is held
abbrev pub HeldCase : Bag → Name → Type 0
HeldCase bag n = ((h : Held) × (held_at bag n ≡ Some h) × (is_held bag n ≡ true)) ⊎ ((held_at bag n ≡ None) × (is_held bag n ≡ false))

mapped_case : {X : Type 0} (f : X → Held) (o : Option X) → ((h : Held) × (option_map f o ≡ Some h) × (is_some o ≡ true)) ⊎ ((option_map f o ≡ None) × (is_some o ≡ false))
mapped_case f None = inr (refl, refl)
mapped_case f (Some x) = inl (f x, refl, refl)

pub held_case : (bag : Bag) (n : Name) → HeldCase bag n
held_case bag (name.V p) = mapped_case held.V (value_at bag.vprocs p)
held_case bag (name.G g) = mapped_case held.G (value_at bag.groups g)

pub held_some : (bag : Bag) (n : Name) → is_held bag n ≡ true → (h : Held) × (held_at bag n ≡ Some h)
held_some bag n e = go (held_case bag n)
  where
    go : HeldCase bag n → (h : Held) × (held_at bag n ≡ Some h)
    go (inl c) = (c.0, c.1)
    go (inr c) = let f : true ≡ false = sym e ∙ c.1 in cc

pub held_none : (bag : Bag) (n : Name) → is_held bag n ≡ false → held_at bag n ≡ None
held_none bag n e = go (held_case bag n)
  where
    go : HeldCase bag n → held_at bag n ≡ None
    go (inl c) = let f : true ≡ false = sym c.2 ∙ e in cc
    go (inr c) = c.0

-- ---- what agrees with a row
pub vproc_present : (rows : List Row) (q : Pid) (r : Row) (h : Held) → row_of rows q ≡ Some r → RecordAgrees rows (name.V q) h → (v : Vproc) × (h ≡ held.V (Some v)) × IsRecordOf rows v r
vproc_present rows q r (held.V v) there a = go v (subst (VprocAgrees rows v) there a)
  where
    go : (v : Option Vproc) → VprocAgrees rows v (Some r) → (w : Vproc) × (held.V v ≡ held.V (Some w)) × IsRecordOf rows w r
    go None a = absurd a
    go (Some v) a = (v, refl, a)
vproc_present rows q r (held.G g) there a = absurd a

pub group_present : (rows : List Row) (q : Pid) (r : Row) (id : Pid) (h : Held) → row_of rows q ≡ Some r → id ≡ r.group → RecordAgrees rows (name.G id) h → (g : Group) × (h ≡ held.G (Some g))
group_present rows q r id (held.V v) there same a = absurd a
group_present rows q r id (held.G g) there same a = go g a
  where
    go : (g : Option Group) → GroupAgrees rows id g → (x : Group) × (held.G g ≡ held.G (Some x))
    go None a =
        let member : in_group id r ≡ true = eq-eqb _ _ (ap (λ (p : Pid). p.0) (sym same)) in
        let none : None ≡ Some r.uid = sym (a q) ∙ ap (λ o. option_map (λ x. x.uid) (option_filter (in_group id) o)) there ∙ ap (λ b. option_map (λ x. x.uid) (cond b (Some r) None)) member in
        cc
    go (Some x) a = (x, refl)

-- ---- streams that grow
pub stands_on : (own : Own) (v v' : Vproc) (g g' : Group) (r r' : Row) (sent : List Signal) → IsOwn own v g r → stream v' g' ≡ stream v g ++ sent → Receives r r' sent → IsOwn own v' g' r'
stands_on own v v' g g' r r' sent o grows sends = record {
  taken = let old = o.taken in let longer : length (stream v' g') ≡ length (stream v g) + length sent = ap length grows ∙ length-append (stream v g) sent in omega arith;
  sig = sends ∙ ap (λ x. generated_all x sent) o.sig ∙ sym (generated_all-append own.sig (tail own.taken v g) sent)
      ∙ ap (generated_all own.sig) (sym (drop-append-le own.taken (stream v g) sent o.taken) ∙ ap (drop own.taken) (sym grows));
}

pub vproc_is : (v w : Vproc) → held.V (Some v) ≡ held.V (Some w) → v ≡ w
vproc_is v w e = cc

group_is : (g x : Group) → held.G (Some g) ≡ held.G (Some x) → g ≡ x
group_is g x e = cc

no_group : (b : Option Vproc) (g : Pid) → born_at b (name.G g) ≡ None
no_group None g = refl
no_group (Some v) g = refl

not_born : (b : Option Vproc) (q : Pid) → born_at b (name.V q) ≡ None → is_born b q ≡ false
not_born None q e = refl
not_born (Some v) q e = go (q.0 == v.pid.0) e
  where
    go : (t : Bool) → cond t (Some (held.V (Some v))) None ≡ None → t ≡ false
    go true e = cc
    go false e = refl

-- whose entry it is
pub process_is : (p : Pid) (job : Job) (e : Entry) → IsEntryOf p job e → process_of e ≡ p
process_is p job (Called caller call reply) is = is.0
process_is p job (Happened q event) is = is

-- another process keeps its user, and receives what it is sent
record Kept (rows : List Row) (entry : Option Entry) (r r' : Row) : Type 0 where
  uid : r'.uid ≡ r.uid
  sig : Receives r r' (sent_to rows entry r)

row_kept : (rows : List Row) (p : Pid) (job : Job) (entry : Option Entry) (q : Pid) (r r' : Row) → ((e : Entry) → entry ≡ Some e → IsEntry rows p job e) → IsSound rows → q.0 ≢ p.0 → row_of rows q ≡ Some r → row_of (next rows entry) q ≡ Some r' → is_living r'.life ≡ true → Kept rows entry r r'
row_kept rows p job None q r r' legal sound other there now living = let same : r' ≡ r = some_same r' r (sym now ∙ there) in record { uid = ap (λ c. c.uid) same; sig = ap (λ c. c.sig) same }
row_kept rows p job (Some e) q r r' legal sound other there now living =
    let l = legal e refl in
    let is : r.pid ≡ q = row_pid rows q r there in
    let apart : (r.pid.0 == (process_of e).0) ≡ false = ne_eqb r.pid.0 (process_of e).0 (λ s. other (ap (λ (u : Pid). u.0) (sym is) ∙ s ∙ ap (λ (u : Pid). u.0) (process_is p job e l.of))) in
    let k = others_signalled rows e sound l.legal r r' (row_here rows q r there) apart (ap (row_of (next rows (Some e))) is ∙ now) in
    record { uid = k.uid; sig = k.sig ∙ ap (λ b. generated_all r.sig (cond b (sent rows e r) [])) (ap is_living (sym k.life) ∙ living) }

module _ (world : World) (rows : List Row) (running : Running) (W : Contents) (st : Standing world rows running W) (p : Pid) (job : Job) (own : Own) (bag : Bag) (site : Site) (d : Decided) (bag' : Bag)
    (holds : (n : Name) (h : Held) → held_at bag n ≡ Some h → W.what n ≡ h) (step : IsStep rows (next rows d.entry) p job site bag d bag') where
  now : List Row
  now = next rows d.entry

  abbrev pub what : Name → Held
  what n = what_after W.what d.born bag' n

  -- what is held then is what there is
  pub what_held : (n : Name) (h : Held) → held_at bag' n ≡ Some h → what n ≡ h
  what_held n h e = ap (λ o. unwrap_or o (unwrap_or (born_at d.born n) (W.what n))) e

  -- what is not held and not born is what there was
  pub what_kept : (n : Name) → is_held bag n ≡ false → born_at d.born n ≡ None → what n ≡ W.what n
  what_kept n lacks unborn = ap (λ o. unwrap_or o (unwrap_or (born_at d.born n) (W.what n))) (held_none bag' n (held_same_names step.names n ∙ lacks)) ∙ ap (λ o. unwrap_or o (W.what n)) unborn

  -- what is held was there, and is there
  record Held_there (n : Name) : Type 0 where
    old : Held
    old_held : held_at bag n ≡ Some old
    old_is : W.what n ≡ old
    new_held : held_at bag' n ≡ Some (what n)

  held_there : (n : Name) → is_held bag n ≡ true → Held_there n
  held_there n e =
      let o = held_some bag n e in
      let c = held_some bag' n (held_same_names step.names n ∙ e) in
      record { old = o.0; old_held = o.1; old_is = holds n o.0 o.1; new_held = c.1 ∙ ap Some (sym (what_held n c.0 c.1)) }

  pub agrees_after : (n : Name) → RecordAgrees (next rows d.entry) n (what n)
  agrees_after n = go (held_case bag' n) (born_at d.born n) refl
    where
      go : HeldCase bag' n → (o : Option Held) → born_at d.born n ≡ o → RecordAgrees (next rows d.entry) n (what n)
      go (inl c) o e = subst (RecordAgrees (next rows d.entry) n) (sym (what_held n c.0 c.1)) (agrees_named bag' (next rows d.entry) step.agrees n c.0 c.1)
      go (inr c) None e =
          let lacks = sym (held_same_names step.names n) ∙ c.1 in
          subst (RecordAgrees (next rows d.entry) n) (sym (what_kept n lacks e)) (elsewhere_named step n (W.what n) lacks (λ q same. not_born d.born q (ap (born_at d.born) (sym same) ∙ e)) (st.agrees n))
      go (inr c) (Some h) e = subst (RecordAgrees (next rows d.entry) n) (sym (ap (λ o. unwrap_or o (unwrap_or (born_at d.born n) (W.what n))) c.0 ∙ ap (λ o. unwrap_or o (W.what n)) e)) (born_agrees d.born step.birth n h e)
        where
          born_agrees : (b : Option Vproc) → BirthIs (next rows d.entry) p site d.entry bag' b → (n : Name) (h : Held) → born_at b n ≡ Some h → RecordAgrees (next rows d.entry) n h
          born_agrees None is n h e = cc
          born_agrees (Some v) is (name.G g) h e = cc
          born_agrees (Some v) is (name.V q) h e = at_pid (q.0 == v.pid.0) refl e
            where
              at_pid : (t : Bool) → (q.0 == v.pid.0) ≡ t → cond t (Some (held.V (Some v))) None ≡ Some h → RecordAgrees (next rows d.entry) (name.V q) h
              at_pid true t f =
                  let same : site.fresh ≡ q = sym is.pid ∙ ap (λ (k : ℕ). record { 0 = k }) (sym (eqb-true _ _ t)) in
                  let val : held.V (Some v) ≡ h = cc in
                  subst (RecordAgrees (next rows d.entry) (name.V q)) val (subst (λ u. RecordAgrees (next rows d.entry) (name.V u) (held.V (Some v))) same is.agrees)
              at_pid false t f = cc

  -- ---- another process
  module _ (q : Pid) (x : View) (r r' : Row) (other : q.0 ≢ p.0) (unborn : born_at d.born (name.V q) ≡ None) (is : W.proc q ≡ Some x) (there : row_of rows q ≡ Some r) (then_there : row_of (next rows d.entry) q ≡ Some r') (living : is_living r'.life ≡ true) where
    leaves : LeavesOther bag bag' q r r'
    leaves = leaves_other bag bag' q r r' (sent_to rows d.entry r) (step.others q r r' other there then_there living) (row_kept rows p job d.entry q r r' (entry_is step) st.sound other there then_there living).sig

    -- its record is held
    with_record : (v' : Vproc) (g' : Group) → is_held bag (name.V q) ≡ true → what (name.V q) ≡ held.V (Some v') → what (name.G v'.group) ≡ held.G (Some g') → IsOwn x.own v' g' r'
    with_record v' g' has hv' hg' = by_group (held_case bag (name.G v.group))
      where
        t : Held_there (name.V q)
        t = held_there (name.V q) has

        was : (v : Vproc) × ((held_there (name.V q) has).old ≡ held.V (Some v)) × IsRecordOf rows v r
        was = vproc_present rows q r (held_there (name.V q) has).old there (subst (RecordAgrees rows (name.V q)) (held_there (name.V q) has).old_is (st.agrees (name.V q)))

        v : Vproc
        v = was.0

        of_row : IsRecordOf rows was.0 r
        of_row = was.2

        held_v : HasVproc bag q was.0
        held_v = (held_there (name.V q) has).old_held ∙ ap Some was.1

        held_v' : HasVproc bag' q v'
        held_v' = (held_there (name.V q) has).new_held ∙ ap Some hv'

        what_v : W.what (name.V q) ≡ held.V (Some was.0)
        what_v = (held_there (name.V q) has).old_is ∙ was.1

        new_of : (w : Vproc) × (what (name.V q) ≡ held.V (Some w)) × IsRecordOf (next rows d.entry) w r'
        new_of = vproc_present (next rows d.entry) q r' (what (name.V q)) then_there (agrees_after (name.V q))

        same_v' : (new_of).0 ≡ v'
        same_v' = vproc_is new_of.0 v' (sym new_of.1 ∙ hv')

        by_group : HeldCase bag (name.G was.0.group) → IsOwn x.own v' g' r'
        by_group (inl c) =
            let gt = held_there (name.G was.0.group) c.2 in
            let g = group_present rows q r was.0.group gt.old there of_row.group (subst (RecordAgrees rows (name.G was.0.group)) gt.old_is (st.agrees (name.G was.0.group))) in
            let grown = leaves.both was.0 v' g.0 held_v held_v' (gt.old_held ∙ ap Some g.1) in
            let same : grown.0 ≡ g' = group_is grown.0 g' (sym (what_held (name.G v'.group) (held.G (Some grown.0)) grown.1) ∙ hg') in
            subst (λ y. IsOwn x.own v' y r') same (stands_on x.own was.0 v' g.0 grown.0 r r' grown.2.0 (st.owns q x r was.0 g.0 is there what_v (gt.old_is ∙ g.1)) grown.2.1 grown.2.2)
        by_group (inr c) =
            let kept = leaves.backlog was.0 v' held_v held_v' c.0 in
            let lacks : is_held bag (name.G v'.group) ≡ false = ap (λ id. is_held bag (name.G id)) kept.0 ∙ c.1 in
            let there_g : W.what (name.G was.0.group) ≡ held.G (Some g') = ap (λ id. W.what (name.G id)) (sym kept.0) ∙ sym (what_kept (name.G v'.group) lacks (no_group d.born v'.group)) ∙ hg' in
            let new_rec = subst (λ w. IsRecordOf (next rows d.entry) w r') same_v' new_of.2 in
            let pids : v'.pid ≡ was.0.pid = new_rec.pid ∙ row_pid (next rows d.entry) q r' then_there ∙ sym (row_pid rows q r there) ∙ sym of_row.pid in
            let uids : v'.uid ≡ was.0.uid = new_rec.uid ∙ (row_kept rows p job d.entry q r r' (entry_is step) st.sound other there then_there living).uid ∙ sym of_row.uid in
            let streams : stream v' g' ≡ stream was.0 g' ++ [] =
            ap (λ l. l ++ log_part v'.pid v'.uid g') kept.1 ∙ ap (λ y. was.0.backlog ++ log_part y v'.uid g') pids ∙ ap (λ y. was.0.backlog ++ log_part was.0.pid y g') uids ∙ sym (append-nil (stream was.0 g')) in
            stands_on x.own was.0 v' g' g' r r' [] (st.owns q x r was.0 g' is there what_v there_g) streams kept.2

    -- its record isn't held
    without_record : (v : Vproc) (g' : Group) → is_held bag (name.V q) ≡ false → what (name.V q) ≡ held.V (Some v) → what (name.G v.group) ≡ held.G (Some g') → IsOwn x.own v g' r'
    without_record v g' lacks hv hg' = by_group (held_case bag (name.G v.group))
      where
        what_v : W.what (name.V q) ≡ held.V (Some v)
        what_v = sym (what_kept (name.V q) lacks unborn) ∙ hv

        was : (w : Vproc) × (W.what (name.V q) ≡ held.V (Some w)) × IsRecordOf rows w r
        was = vproc_present rows q r (W.what (name.V q)) there (st.agrees (name.V q))

        of_row : IsRecordOf rows v r
        of_row = subst (λ w. IsRecordOf rows w r) (vproc_is was.0 v (sym was.1 ∙ what_v)) was.2

        pid : v.pid ≡ q
        pid = of_row.pid ∙ row_pid rows q r there

        none_held : held_at bag (name.V q) ≡ None
        none_held = held_none bag (name.V q) lacks

        by_group : HeldCase bag (name.G v.group) → IsOwn x.own v g' r'
        by_group (inl c) =
            let gt = held_there (name.G v.group) c.2 in
            let g = group_present rows q r v.group gt.old there of_row.group (subst (RecordAgrees rows (name.G v.group)) gt.old_is (st.agrees (name.G v.group))) in
            let grown = leaves.log g.0 g' none_held (ap (λ id. held_at bag (name.G id)) (sym of_row.group) ∙ gt.old_held ∙ ap Some g.1) (ap (λ id. held_at bag' (name.G id)) (sym of_row.group) ∙ gt.new_held ∙ ap Some hg') in
            let streams : stream v g' ≡ stream v g.0 ++ grown.0 =
            ap (λ y. v.backlog ++ log_part y v.uid g') pid ∙ ap (λ y. v.backlog ++ log_part q y g') of_row.uid ∙ ap (λ l. v.backlog ++ l) grown.1 ∙ sym (append_assoc v.backlog (log_part q r.uid g.0) grown.0)
            ∙ ap (λ y. (v.backlog ++ log_part y r.uid g.0) ++ grown.0) (sym pid) ∙ ap (λ y. (v.backlog ++ log_part v.pid y g.0) ++ grown.0) (sym of_row.uid) in
            stands_on x.own v v g.0 g' r r' grown.0 (st.owns q x r v g.0 is there what_v (gt.old_is ∙ g.1)) streams grown.2
        by_group (inr c) =
            let there_g : W.what (name.G v.group) ≡ held.G (Some g') = sym (what_kept (name.G v.group) c.1 (no_group d.born v.group)) ∙ hg' in
            stands_on x.own v v g' g' r r' [] (st.owns q x r v g' is there what_v there_g) (sym (append-nil (stream v g'))) (leaves.none none_held (ap (λ id. held_at bag (name.G id)) (sym of_row.group) ∙ c.0))

    pub other_owns : (v' : Vproc) (g' : Group) → what (name.V q) ≡ held.V (Some v') → what (name.G v'.group) ≡ held.G (Some g') → IsOwn x.own v' g' r'
    other_owns v' g' hv hg = go (held_case bag (name.V q))
      where
        go : HeldCase bag (name.V q) → IsOwn x.own v' g' r'
        go (inl c) = with_record v' g' c.2 hv hg
        go (inr c) = without_record v' g' c.1 hv hg

  -- ---- the process itself
  pub own_owns : (r' : Row) (v' : Vproc) (g' : Group) → row_of (next rows d.entry) p ≡ Some r' → is_living r'.life ≡ true → what (name.V p) ≡ held.V (Some v') → what (name.G v'.group) ≡ held.G (Some g') → IsOwn d.own v' g' r'
  own_owns r' v' g' there living hv hg =
      let t = held_there (name.V p) step.holds in
      let got = step.own r' there living in
      let same_v : got.0 ≡ v' = some_same _ _ (some_same _ _ (sym got.2 ∙ vproc_found bag' p (Some v') (t.new_held ∙ ap Some hv))) in
      let same : got.1 ≡ g' = group_is got.1 g' (sym (what_held (name.G got.0.group) (held.G (Some got.1)) (ap (option_map held.G) got.3)) ∙ ap (λ (w : Vproc). what (name.G w.group)) same_v ∙ hg) in
      subst (λ y. IsOwn d.own v' y r') same (subst (λ w. IsOwn d.own w got.1 r') same_v got.4)

  -- ---- the child
  pub child_owns : (v : Vproc) → d.born ≡ Some v → held_at bag' (name.V v.pid) ≡ None → (r' : Row) (v' : Vproc) (g' : Group) → row_of (next rows d.entry) v.pid ≡ Some r' → r'.sig ≡ child own.sig → what (name.V v.pid) ≡ held.V (Some v') → what (name.G v'.group) ≡ held.G (Some g') →
      IsOwn (record { sig = child own.sig; taken = 0 }) v' g' r'
  child_owns v born none r' v' g' there signals hv hg =
      let is = subst (λ b. BirthIs (next rows d.entry) p site d.entry bag' b) born step.birth in
      let val : what (name.V v.pid) ≡ held.V (Some v) = ap (λ o. unwrap_or o (unwrap_or (born_at d.born (name.V v.pid)) (W.what (name.V v.pid)))) none ∙ ap (λ b. unwrap_or (born_at b (name.V v.pid)) (W.what (name.V v.pid))) born
      ∙ ap (λ t. unwrap_or (cond t (Some (held.V (Some v))) None) (W.what (name.V v.pid))) (eq-eqb v.pid.0 v.pid.0 refl) in
      let same_v : v ≡ v' = vproc_is v v' (sym val ∙ hv) in
      let same_g : is.group ≡ g' = group_is is.group g' (sym (what_held (name.G v.group) (held.G (Some is.group)) (ap (option_map held.G) is.group_held)) ∙ ap (λ w. what (name.G w.group)) same_v ∙ hg) in
      let empty : stream v' g' ≡ [] = ap (λ w. stream w g') (sym same_v) ∙ ap (stream v) (sym same_g) ∙ is.stream_is in
      record {
        taken = omega arith;
        sig = signals ∙ ap (generated_all (child own.sig)) (sym (ap (drop 0) empty));
      }
