-- setsid is a step of the one kernel
use Rattle.std.proofs.Common.{◌++◌, ◌≡◌, ◌==◌, ◌||◌, Bool, true, false, cond, List, [], ◌∷◌, refl, sym, ap, ◌∙◌, subst, Option, None, Some, ◌⊎◌, inl, inr}
use Rattle.std.specs.Prelude.{is_some, map}
use Rattle.std.specs.List.{list_any}
use Rattle.std.proofs.lemmas.Bool.{eqb-true, ne_eqb, eq-eqb}
use Rattle.list_laws.proofs.Elements.{any_some, any_none_found}
use Rattle.unix_names.specs.declared.Pid.{Pid}
use Rattle.unix_names.specs.declared.NodeId.{NodeId}
use Rattle.unix_names.specs.declared.Name.TheVariants.{V}
use Rattle.unix_names.specs.declared.Errno.TheVariants.{EPERM}
use Rattle.unix_calls.specs.declared.Call.TheVariants.{Setsid}
use Rattle.unix_calls.specs.declared.Reply.TheVariants.{Number, Refused}
use Rattle.unix_calls.specs.declared.Entry.TheVariants.{Called}
use Rattle.unix_calls.specs.declared.Job.TheVariants.{Ask}
use Rattle.signal_state.specs.Signals.{Signals}
use Rattle.signal_state.specs.Sig.{deliverable}
use Rattle.vproc_record.specs.declared.Vproc.{Vproc}
use Rattle.group_record.specs.declared.Group.{Group}
use Rattle.record_bag.specs.declared.bag.Bag.{Bag}
use Rattle.record_bag.specs.declared.vector.Site.{Site}
use Rattle.record_bag.specs.Bags.{present, group_in}
use Rattle.process_table.specs.declared.Row.{Row}
use Rattle.process_table.specs.Rows.{row_of, in_group, is_stopped}
use Rattle.kernel_rules.specs.Setsid as kernel
use Rattle.kernel_model.specs.Step.{after_at, sent_at}
use Rattle.decide_law.specs.Agrees.{vproc_at, group_at, IsRecordOf, GroupAgrees}
use Rattle.decide_law.specs.Law.{Settled, next, IsStep}
use Rattle.decide_law.specs.Effects.{Effect, decided_by, written, unless_refused}
use Rattle.decide_law.specs.Footprints.{with_living_group, living_children_footprint, parent_name, setsid_rest}
use Rattle.decide_law.specs.Nudges.{but_system, parent_of_row}
use Rattle.decide_law.specs.Parts.{EachHeld, IsCallStep}
use Rattle.decide_law.proofs.Records.{number, distinct, pid_same, row_pid}
use Rattle.decide_law.proofs.Counts.{no_system}
use Rattle.decide_law.proofs.Groups.{nobody}
use Rattle.decide_law.proofs.Held.{held_first, held_later, held_flat}
use Rattle.decide_law.proofs.Shell.{own_record}
use Rattle.decide_law.proofs.Told.{child_listed, has_row}
use Rattle.decide_law.proofs.ReplyStep.{reply_step, refused_legal}
use Rattle.ops_groups.specs.Move.{moved_at, move}
use Rattle.ops_groups.specs.MoveLaw.{Moves}
use Rattle.ops_groups.specs.Setsid.{setsid_entry, led_by, led_from, setsid_effect}
use Rattle.ops_groups.proofs.Move.{move_law}
use Rattle.ops_groups.proofs.Whole.{living_group}

abbrev StepBy : List Row → Pid → Option NodeId → Site → Bag → Effect → Type 0
StepBy rows p at site bag x = IsStep rows (next rows x.entry) p (Ask Setsid at) site bag (decided_by x) (written x bag)

-- ---- whether a row has the caller's pid as group
none_in : (rows : List Row) (p : Pid) (sig : Signals) (bag : Bag) (r : Row) (v : Vproc) (g : Group) → Settled rows p sig bag r v g → v.pid ≡ r.pid → group_at bag v.pid ≡ Some None → list_any (in_group r.pid) rows ≡ false
none_in rows p sig bag r v g a same e =
    let free : GroupAgrees rows r.pid None = subst (λ (i : Pid). GroupAgrees rows i None) same (a.agrees.groups v.pid None e) in
    any_none_found number (in_group r.pid) rows (distinct rows a.sound.distinct) (λ c here. nobody rows r.pid c.pid c free here)

some_in : (rows : List Row) (p : Pid) (sig : Signals) (bag : Bag) (r : Row) (v : Vproc) (g h : Group) → Settled rows p sig bag r v g → v.pid ≡ r.pid → group_at bag v.pid ≡ Some (Some h) → list_any (in_group r.pid) rows ≡ true
some_in rows p sig bag r v g h a same e =
    let m = has_row rows r.pid h (subst (λ (i : Pid). GroupAgrees rows i (Some h)) same (a.agrees.groups v.pid (Some h) e)) in
    any_some number (in_group r.pid) m.0.0 rows m.1 m.2 m.3

refusal_by : (rows : List Row) (r : Row) (b : Bool) → list_any (in_group r.pid) rows ≡ b → kernel.setsid_refusal rows r ≡ cond b (Some EPERM) None
refusal_by rows r b e = ap (λ (x : Bool). cond x (Some EPERM) None) e

-- ---- the refusal
refused_step : (rows : List Row) (p : Pid) (site : Site) (at : Option NodeId) (sig : Signals) (bag : Bag) (r : Row) (v : Vproc) (g h : Group) → Settled rows p sig bag r v g → is_stopped r.life ≡ false → deliverable sig ≡ 0 → v.pid ≡ r.pid → group_at bag v.pid ≡ Some (Some h) →
    StepBy rows p at site bag (unless_refused (Some EPERM) p Setsid sig (led_from bag sig p v (group_in bag v.group)))
refused_step rows p site at sig bag r v g h a alive clear same e = reply_step rows p site at sig bag r v g Setsid (Refused EPERM) a alive record {
  legal = refused_legal rows p sig bag r v g Setsid (Some EPERM) (Number r.pid.0) a alive clear (λ f. cc) (refusal_by rows r true (some_in rows p sig bag r v g h a same e)) refl;
  table = ap (λ o. after_at rows o (Called p Setsid (Refused EPERM))) a.row;
  sends = λ q c here living. ap (λ o. sent_at rows o (Called p Setsid (Refused EPERM)) c) a.row;
  place = λ was here. refl;
  unplaced = refl;
  nobody = λ before left. refl;
  born = tt;
}

-- ---- the move
-- the parent is nudged, unless it is the system process
nudges_are : (rows : List Row) (p : Pid) (sig : Signals) (bag : Bag) (r : Row) (v : Vproc) (g : Group) → Settled rows p sig bag r v g → IsRecordOf rows v r → but_system p v.pid ++ but_system p v.parent ≡ parent_of_row (row_of rows p)
nudges_are rows p sig bag r v g a of =
    let at_p : r.pid ≡ p = row_pid rows p r a.row in
    let own : (v.pid.0 == p.0) ≡ true = eq-eqb _ _ (ap (λ (i : Pid). i.0) (of.pid ∙ at_p)) in
    let other : (r.parent.0 == p.0) ≡ false = ne_eqb _ _ (λ e. (a.sound.each p r a.row).not_own_parent (e ∙ ap (λ (i : Pid). i.0) (sym at_p))) in
    ap (λ (b : Bool). cond (b || (v.pid.0 == 1)) [] (v.pid ∷ []) ++ but_system p v.parent) own
    ∙ ap (but_system p) of.parent
    ∙ ap (λ (b : Bool). cond (b || (r.parent.0 == 1)) [] (r.parent ∷ [])) other
    ∙ sym (ap parent_of_row a.row)

moves : (rows : List Row) (p : Pid) (sig : Signals) (bag : Bag) (r : Row) (v : Vproc) (g : Group) → Settled rows p sig bag r v g → IsRecordOf rows v r → group_at bag v.pid ≡ Some None → EachHeld bag (parent_name v ++ living_children_footprint bag v) → Moves rows bag v r g (led_by v)
moves rows p sig bag r v g a of free held = record {
  row = ap (row_of rows) at_p ∙ a.row;
  living = a.living;
  held = ap (vproc_at bag) at_p ∙ a.vproc;
  old_held = a.group;
  new_held = ap is_some free;
  differs = λ e. let there : group_at bag v.pid ≡ Some (Some g) = ap (group_at bag) (sym (pid_same v.group v.pid e)) ∙ a.group in cc;
  session = λ h e. cc;
  parent = up (v.parent.0 == 1) refl (held_first bag (parent_name v) (living_children_footprint bag v) held);
  children = λ q d here e. (child q d here e).0;
  child_groups = λ q d here e living. living_group rows bag q d a.agrees here living (child q d here e);
}
  where
    at_p : v.pid ≡ p
    at_p = of.pid ∙ row_pid rows p r a.row

    child : (q : Pid) (d : Row) → row_of rows q ≡ Some d → d.parent.0 ≡ v.pid.0 → EachHeld bag (with_living_group bag q)
    child q d here e = held_flat bag (with_living_group bag) v.children q (held_later bag (parent_name v) (living_children_footprint bag v) held) (child_listed rows v r q d of here (e ∙ ap (λ (x : Pid). x.0) of.pid))

    up : (b : Bool) → (v.parent.0 == 1) ≡ b → EachHeld bag (cond b [] (V v.parent ∷ [])) → (row_of rows r.parent ≡ None) ⊎ (is_some (vproc_at bag r.parent) ≡ true)
    up true s k = inl (no_system rows r.parent a.sound (ap (λ (x : Pid). x.0) (sym of.parent) ∙ eqb-true _ _ s))
    up false s k = inr (subst (λ (x : Pid). is_some (vproc_at bag x) ≡ true) of.parent k.0)

led_step : (rows : List Row) (p : Pid) (site : Site) (at : Option NodeId) (sig : Signals) (bag : Bag) (r : Row) (v : Vproc) (g : Group) → Settled rows p sig bag r v g → is_stopped r.life ≡ false → deliverable sig ≡ 0 → IsRecordOf rows v r → group_at bag v.pid ≡ Some None →
    EachHeld bag (parent_name v ++ living_children_footprint bag v) → StepBy rows p at site bag (move (setsid_entry p) bag sig p v g (led_by v))
led_step rows p site at sig bag r v g a alive clear of free held =
    subst (λ (now : List Row). IsStep rows now p (Ask Setsid at) site bag (decided_by (move (setsid_entry p) bag sig p v g (led_by v))) (written (move (setsid_entry p) bag sig p v g (led_by v)) bag)) (sym table)
    (move_law rows p site at sig bag r v g Setsid (Number p.0) v r g (led_by v) a (moves rows p sig bag r v g a of free held) alive record {
      legal = refused_legal rows p sig bag r v g Setsid None (Number p.0) a alive clear (λ f. cc) (refusal_by rows r false (none_in rows p sig bag r v g a of.pid free)) (ap (λ (i : Pid). Number i.0) (sym (row_pid rows p r a.row)));
      table = table;
      sends = λ c. ap (λ o. sent_at rows o (Called p Setsid (Number p.0)) c) a.row;
      nudges = λ before left. nudges_are rows p sig bag r v g a of;
      place = λ was here. refl;
      unplaced = refl;
      born = tt;
    })
  where
    table : next rows (Some (setsid_entry p)) ≡ map (moved_at v.pid (led_by v)) rows
    table = ap (λ o. after_at rows o (setsid_entry p)) a.row ∙ ap (λ (i : Pid). map (moved_at i (record { group = i; session = i })) rows) (sym of.pid)

-- ---- the whole
setsid_step : (rows : List Row) (p : Pid) (site : Site) (at : Option NodeId) (sig : Signals) (bag : Bag) (r : Row) (v : Vproc) (g : Group) → Settled rows p sig bag r v g → is_stopped r.life ≡ false → deliverable sig ≡ 0 → IsRecordOf rows v r →
    (o : Option (Option Group)) → group_at bag v.pid ≡ o → is_some o ≡ true → EachHeld bag (setsid_rest bag v o) → StepBy rows p at site bag (unless_refused (cond (is_some (present o)) (Some EPERM) None) p Setsid sig (led_from bag sig p v (group_in bag v.group)))
setsid_step rows p site at sig bag r v g a alive clear of None e s held = cc
setsid_step rows p site at sig bag r v g a alive clear of (Some (Some h)) e s held = refused_step rows p site at sig bag r v g h a alive clear of.pid e
setsid_step rows p site at sig bag r v g a alive clear of (Some None) e s held =
    subst (λ (o : Option Group). StepBy rows p at site bag (led_from bag sig p v o)) (sym (ap present a.group)) (led_step rows p site at sig bag r v g a alive clear of e held)

pub setsid_is_step : IsCallStep Setsid setsid_effect
setsid_is_step rows p site at sig bag r v g a alive clear held = setsid_step rows p site at sig bag r v g a alive clear (own_record rows p bag r v a.agrees a.row a.vproc) (group_at bag v.pid) refl held.0 held.1
