-- an ending is a step of the one kernel
use Rattle.std.proofs.Common.{◌≡◌, ◌==◌, ◌||◌, ◌++◌, append_assoc, ℕ, Bool, true, false, cond, not, List, refl, sym, ap, ◌∙◌, subst, Option, None, Some, inl, inr, ◌⊎◌}
use Rattle.std.specs.Prelude.{is_some}
use Rattle.std.specs.Option.{option_map}
use Rattle.list_laws.specs.Keyed.{option_filter}
use Rattle.list_laws.proofs.Filters.{some_same}
use Rattle.list_laws.proofs.Finding.{same_number}
use Rattle.unix_names.specs.declared.Pid.{Pid}
use Rattle.unix_names.specs.declared.Signal.{Signal}
use Rattle.unix_names.specs.declared.Life.TheVariants.{Ended}
use Rattle.unix_names.specs.declared.WaitStatus.{WaitStatus}
use Rattle.unix_names.specs.States.{is_living}
use Rattle.unix_calls.specs.declared.Entry.{Entry}
use Rattle.unix_calls.specs.declared.Job.{Job}
use Rattle.signal_state.specs.Signals.{Signals}
use Rattle.vproc_record.specs.declared.Vproc.{Vproc}
use Rattle.group_record.specs.declared.Group.{Group}
use Rattle.group_record.specs.Log.{log_part}
use Rattle.sig_stream.specs.Streams.{stream}
use Rattle.record_bag.specs.declared.bag.Bag.{Bag}
use Rattle.record_bag.specs.declared.vector.Site.{Site}
use Rattle.record_bag.specs.Bags.{present, vproc_in}
use Rattle.process_table.specs.declared.Row.{Row}
use Rattle.process_table.specs.Rows.{row_of}
use Rattle.kernel_rules.specs.Ending.{ignores_children, sent_by_end, after_end}
use Rattle.kernel_rules.specs.Ending as kernel
use Rattle.kernel_model.specs.Step.{sent}
use Rattle.kernel_laws.proofs.Ends.{is_left, after_end_of}
use Rattle.decide_law.specs.Agrees.{vproc_at, group_at, children_of, IsRecordOf, VprocAgrees}
use Rattle.decide_law.specs.Law.{Settled, Grows, IsStep}
use Rattle.decide_law.specs.Counts.{passes}
use Rattle.decide_law.specs.Effects.{changed, regroups, Effect, decided_by, written}
use Rattle.decide_law.proofs.Records.{row_pid, row_own}
use Rattle.decide_law.proofs.Shell.{own_record}
use Rattle.decide_law.proofs.Changes.{vproc_changed, names_changed, agrees_changed}
use Rattle.ops_ending.specs.Ending.{goes, vanishes, left_vproc, ended_vproc, left_group, end_by, end_effect}
use Rattle.ops_ending.proofs.Kin.{HoldsBoth, HoldsKin, IsEnding}
use Rattle.ops_ending.proofs.Vprocs.{left_rows, end_is, row_left, keep_same, vproc_left}
use Rattle.ops_ending.proofs.Groups.{IsEnd, groups_left}
use Rattle.ops_ending.proofs.Elsewhere.{groups_out, vprocs_out}
use Rattle.ops_ending.proofs.Streams.{group_grown, nothing_sent}
use Rattle.ops_ending.proofs.Nudges.{end_nudged, end_wakes, nudges_law}

-- a row that lives on
lives_on : (rows : List Row) (bag : Bag) (r : Row) (w : WaitStatus) (m : Pid) (x x' : Row) → IsEnd rows bag r → row_of rows m ≡ Some x → row_of (left_rows rows r w) m ≡ Some x' → (is_left rows r w x ≡ true) × (x' ≡ after_end_of rows r w x)
lives_on rows bag r w m x x' a e e' = go (is_left rows r w x) refl (sym (row_left rows r w a.sound m ∙ ap (λ (o : Option Row). option_map (after_end_of rows r w) (option_filter (is_left rows r w) o)) e) ∙ e')
  where
    go : (b : Bool) → is_left rows r w x ≡ b → option_map (after_end_of rows r w) (cond b (Some x) None) ≡ Some x' → (is_left rows r w x ≡ true) × (x' ≡ after_end_of rows r w x)
    go true s f = (s, sym (some_same _ _ f))
    go false s f = cc

-- the record of a row that stays
record_kept : (rows : List Row) (bag : Bag) (r : Row) (w : WaitStatus) (fg : Pid → Option Group → Option Group) (m : Pid) (x : Row) (u : Vproc) → IsEnd rows bag r → row_of rows m ≡ Some x → is_left rows r w x ≡ true → vproc_at bag m ≡ Some (Some u) →
    vproc_at (changed (ended_vproc r.pid (kernel.vanishes rows r) w) fg bag) m ≡ Some (Some (left_vproc r.pid (kernel.vanishes rows r) w u))
record_kept rows bag r w fg m x u a e s held =
    let of : IsRecordOf rows u x = own_record rows m bag x u a.agrees e held in
    vproc_changed (ended_vproc r.pid (kernel.vanishes rows r) w) fg bag m ∙ ap (option_map (ended_vproc r.pid (kernel.vanishes rows r) w m)) held
    ∙ ap (λ (b : Bool). Some (option_map (left_vproc r.pid (kernel.vanishes rows r) w) (cond b (Some u) None))) (keep_same rows r w u x a.sound (row_own rows m x e) of ∙ s)

-- a record that is there afterwards comes from one that was
record_was : (rows : List Row) (bag : Bag) (r : Row) (w : WaitStatus) (fg : Pid → Option Group → Option Group) (m : Pid) (u u' : Vproc) → vproc_at bag m ≡ Some (Some u) →
    vproc_at (changed (ended_vproc r.pid (kernel.vanishes rows r) w) fg bag) m ≡ Some (Some u') → u' ≡ left_vproc r.pid (kernel.vanishes rows r) w u
record_was rows bag r w fg m u u' e e' = go (not (goes r.pid (kernel.vanishes rows r) u)) (some_same _ _ (sym (vproc_changed (ended_vproc r.pid (kernel.vanishes rows r) w) fg bag m ∙ ap (option_map (ended_vproc r.pid (kernel.vanishes rows r) w m)) e) ∙ e'))
  where
    go : (b : Bool) → option_map (left_vproc r.pid (kernel.vanishes rows r) w) (cond b (Some u) None) ≡ Some u' → u' ≡ left_vproc r.pid (kernel.vanishes rows r) w u
    go true f = sym (some_same _ _ f)
    go false f = cc

-- the row of the one that ended
own_ended : (rows : List Row) (bag : Bag) (r : Row) (w : WaitStatus) (r' : Row) → IsEnd rows bag r → row_of (left_rows rows r w) r.pid ≡ Some r' → r'.life ≡ Ended w
own_ended rows bag r w r' a here =
    let s = lives_on rows bag r w r.pid r r' a a.row here in
    ap (λ (c : Row). c.life) s.1 ∙ ap (λ (b : Bool). cond b (Ended w) r.life) (same_number r.pid.0)

ended_step : (rows : List Row) (job : Job) (site : Site) (sig : Signals) (bag : Bag) (r : Row) (session : Pid) (e : Entry) (w : WaitStatus) → IsEnd rows bag r → IsEnding rows r.pid job r e w →
    IsStep rows (left_rows rows r w) r.pid job site bag (decided_by (end_by bag sig e w r.pid r.parent (children_of rows r.pid) (kernel.vanishes rows r) session)) (written (end_by bag sig e w r.pid r.parent (children_of rows r.pid) (kernel.vanishes rows r) session) bag)
ended_step rows job site sig bag r session e w a q = record {
  legal = (q.legal, q.of);
  table = q.table ∙ end_is rows r w;
  asked = q.asked;
  holds = ap is_some a.own.held;
  names = names_changed fv fg bag;
  agrees = agrees_changed rows (left_rows rows r w) fv fg bag a.agrees
      (λ m h at_m. vproc_left rows r w m h a.sound (a.agrees.vprocs m h at_m))
      (λ id h at_id. groups_left rows bag r w a session id h (a.agrees.groups id h at_id));
  vprocs_elsewhere = λ m h away b k. vprocs_out rows bag r w m h a away k;
  groups_elsewhere = λ id h away k. groups_out rows bag r w id h a away k;
  own = λ r' here living. let no : is_living r'.life ≡ false = ap is_living (own_ended rows bag r w r' a here) in absurd cc;
  others = λ m x x' ne here here' living. grows m x x' here here';
  nudged = λ m x x' ne here here' living some. end_nudged rows bag r w m x x' a ne here here' (λ h. some (q.sends x ∙ h));
  wakes = end_wakes rows bag r w a;
  places = λ m u u' ne eu eu'. ap (λ (z : Vproc). z.loc) (record_was rows bag r w fg m u u' eu eu');
  place = λ u u' eu eu'. ap (λ (z : Vproc). z.loc) (record_was rows bag r w fg r.pid u u' eu eu') ∙ sym (q.place u.loc site.node);
  arrives = λ placed u eu. let f : true ≡ false = sym placed ∙ q.unplaced in cc;
  nudges = nudges_law rows bag r w session a ∙ sym (q.nudges (left_rows rows r w) bag (changed fv fg bag));
  birth = q.born;
  phase = λ r' here. ap is_living (own_ended rows bag r w r' a here);
  awake = λ h. cc;
  rests = λ h. absurd (cc h);
}
  where
    fv : Pid → Option Vproc → Option Vproc
    fv = ended_vproc r.pid (kernel.vanishes rows r) w

    fg : Pid → Option Group → Option Group
    fg = regroups session (left_group bag w r.pid r.parent (children_of rows r.pid) (kernel.vanishes rows r))

    part_at : (u : Vproc) (h : Group) (m : Pid) (x : Row) → u.pid ≡ m → u.uid ≡ x.uid → log_part u.pid u.uid h ≡ log_part m x.uid h
    part_at u h m x i n = ap (λ (y : Pid). log_part y u.uid h) i ∙ ap (λ (k : ℕ). log_part m k h) n

    grows : (m : Pid) (x x' : Row) → row_of rows m ≡ Some x → row_of (left_rows rows r w) m ≡ Some x' → Grows bag (changed fv fg bag) m x x' (sent rows e x)
    grows m x x' here here' =
        let s = lives_on rows bag r w m x x' a here here' in
        record {
          both = λ u h eu eh.
              let of : IsRecordOf rows u x = own_record rows m bag x u a.agrees here eu in
              let t = group_grown rows bag r w session fv m x u.group h a here s.0 of.group eh in
              let at_m : u.pid ≡ m = of.pid ∙ row_pid rows m x here in (
                left_vproc r.pid (kernel.vanishes rows r) w u,
                t.0,
                record_kept rows bag r w fg m x u a here s.0 eu,
                t.1,
                ap (λ (l : List Signal). u.backlog ++ l) (part_at u t.0 m x at_m of.uid ∙ t.2 ∙ ap (λ (l : List Signal). l ++ sent_by_end rows r w x) (sym (part_at u h m x at_m of.uid)))
                    ∙ sym (append_assoc u.backlog (log_part u.pid u.uid h) (sent_by_end rows r w x)) ∙ ap (λ (l : List Signal). stream u h ++ l) (sym (q.sends x)),
              );
          alone = λ u eu none.
              let of : IsRecordOf rows u x = own_record rows m bag x u a.agrees here eu in
              (left_vproc r.pid (kernel.vanishes rows r) w u, record_kept rows bag r w fg m x u a here s.0 eu, refl, refl, q.sends x ∙ nothing_sent rows bag r w x a (row_own rows m x here) (ap (group_at bag) (sym of.group) ∙ none));
          log = λ h eu eh.
              let t = group_grown rows bag r w session fv m x x.group h a here s.0 refl eh in
              (t.0, ap (λ (c : Row). c.group) s.1, t.1, t.2 ∙ ap (λ (l : List Signal). log_part m x.uid h ++ l) (sym (q.sends x)));
          neither = λ eu eh. q.sends x ∙ nothing_sent rows bag r w x a (row_own rows m x here) eh;
        }

-- whether nobody waits, told by records
vanishes_same : (rows : List Row) (bag : Bag) (r : Row) (v : Vproc) → IsEnd rows bag r → v.parent ≡ r.parent → vanishes bag v ≡ kernel.vanishes rows r
vanishes_same rows bag r v a up = ap (λ (q : Pid). (q.0 == 1) || passes (λ d. d.ignchld) (vproc_in bag q)) up ∙ go (r.parent.0 == 1) refl
  where
    told : (o : Option Row) → row_of rows r.parent ≡ o → (row_of rows r.parent ≡ None) ⊎ HoldsBoth bag r.parent → passes (λ d. d.ignchld) (vproc_in bag r.parent) ≡ ignores_children o
    told None e k = none (vproc_at bag r.parent) refl
      where
        none : (h : Option (Option Vproc)) → vproc_at bag r.parent ≡ h → passes (λ d. d.ignchld) (present h) ≡ false
        none None f = refl
        none (Some None) f = refl
        none (Some (Some u)) f = absurd (subst (VprocAgrees rows (Some u)) e (a.agrees.vprocs r.parent (Some u) f))
    told (Some x) e (inl n) = cc
    told (Some x) e (inr h) = ap (λ o. passes (λ d. d.ignchld) (present o)) h.held ∙ (own_record rows r.parent bag x h.vproc a.agrees e h.held).ignchld

    go : (b : Bool) → (r.parent.0 == 1) ≡ b → (b || passes (λ d. d.ignchld) (vproc_in bag r.parent)) ≡ (b || ignores_children (row_of rows r.parent))
    go true e = refl
    go false e = told (row_of rows r.parent) refl a.kin.parent

-- the effect told by the record is that told by the row
effect_same : (rows : List Row) (bag : Bag) (sig : Signals) (r : Row) (v : Vproc) (e : Entry) (w : WaitStatus) → IsEnd rows bag r → IsRecordOf rows v r → end_effect bag sig v e w ≡ end_by bag sig e w r.pid r.parent (children_of rows r.pid) (kernel.vanishes rows r) v.session
effect_same rows bag sig r v e w a of =
    ap (λ (q : Pid). end_by bag sig e w q v.parent v.children (vanishes bag v) v.session) of.pid
    ∙ ap (λ (q : Pid). end_by bag sig e w r.pid q v.children (vanishes bag v) v.session) of.parent
    ∙ ap (λ (l : List Pid). end_by bag sig e w r.pid r.parent l (vanishes bag v) v.session) of.children
    ∙ ap (λ (b : Bool). end_by bag sig e w r.pid r.parent (children_of rows r.pid) b v.session) (vanishes_same rows bag r v a of.parent)

pub end_law : (rows : List Row) (p : Pid) (job : Job) (site : Site) (sig : Signals) (bag : Bag) (r : Row) (v : Vproc) (g : Group) (e : Entry) (w : WaitStatus) →
    Settled rows p sig bag r v g → HoldsKin rows bag r → IsEnding rows p job r e w →
    IsStep rows (after_end rows r w) p job site bag (decided_by (end_effect bag sig v e w)) (written (end_effect bag sig v e w) bag)
end_law rows p job site sig bag r v g e w s kin q =
    let at_p : r.pid ≡ p = row_pid rows p r s.row in
    let of : IsRecordOf rows v r = own_record rows p bag r v s.agrees s.row s.vproc in
    let a : IsEnd rows bag r = record {
      sound = s.sound;
      agrees = s.agrees;
      row = row_own rows p r s.row;
      living = s.living;
      own = record { vproc = v; held = ap (vproc_at bag) at_p ∙ s.vproc; group = ap is_some s.group };
      kin = kin;
    } in
    subst (λ (now : List Row). IsStep rows now p job site bag (decided_by (end_effect bag sig v e w)) (written (end_effect bag sig v e w) bag)) (sym (end_is rows r w))
    (subst (λ (x : Effect). IsStep rows (left_rows rows r w) p job site bag (decided_by x) (written x bag)) (sym (effect_same rows bag sig r v e w a of))
    (subst (λ (i : Pid). IsEnding rows i job r e w → IsStep rows (left_rows rows r w) i job site bag (decided_by (end_by bag sig e w r.pid r.parent (children_of rows r.pid) (kernel.vanishes rows r) v.session)) (written (end_by bag sig e w r.pid r.parent (children_of rows r.pid) (kernel.vanishes rows r) v.session) bag)) at_p
    (ended_step rows job site sig bag r v.session e w a) q))
