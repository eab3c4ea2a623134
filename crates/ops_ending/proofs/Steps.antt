-- an exit with its footprint is a step
use Rattle.std.proofs.Common.{◌≡◌, ◌==◌, ℕ, ◌%◌, Bool, true, false, List, [], refl, sym, ap, subst, Option, None, Some, inl, inr, ◌⊎◌, if◌then◌else◌}
use Rattle.std.specs.Prelude.{is_some}
use Rattle.std.proofs.lemmas.Bool.{eqb-true}
use Rattle.unix_names.specs.declared.Pid.{Pid}
use Rattle.unix_names.specs.declared.NodeId.{NodeId}
use Rattle.unix_names.specs.declared.WaitStatus.{WaitStatus}
use Rattle.unix_names.specs.declared.WaitStatus.TheVariants as status
use Rattle.unix_calls.specs.declared.Call.TheVariants.{Exit}
use Rattle.unix_calls.specs.declared.Reply.TheVariants.{NoReply}
use Rattle.unix_calls.specs.declared.Entry.{Entry}
use Rattle.unix_calls.specs.declared.Entry.TheVariants.{Called}
use Rattle.unix_calls.specs.declared.Job.{Job}
use Rattle.unix_calls.specs.declared.Job.TheVariants.{Ask}
use Rattle.signal_state.specs.Signals.{Signals}
use Rattle.signal_state.specs.Sig.{deliverable}
use Rattle.vproc_record.specs.declared.Vproc.{Vproc}
use Rattle.group_record.specs.declared.Group.{Group}
use Rattle.record_bag.specs.declared.bag.Bag.{Bag}
use Rattle.record_bag.specs.declared.vector.Site.{Site}
use Rattle.record_bag.specs.Bags.{present, vproc_in}
use Rattle.process_table.specs.declared.Row.{Row}
use Rattle.process_table.specs.Rows.{row_of, is_stopped}
use Rattle.kernel_model.specs.Step.{after_at, sent_at}
use Rattle.decide_law.specs.Agrees.{vproc_at, IsRecordOf, VprocAgrees, Agrees}
use Rattle.decide_law.specs.Law.{Settled, next, IsStep}
use Rattle.decide_law.specs.Effects.{decided_by, written}
use Rattle.decide_law.specs.Footprints.{group_shown, with_group, parent_footprint, children_footprint, end_footprint}
use Rattle.decide_law.specs.Parts.{EachHeld}
use Rattle.decide_law.proofs.Counts.{no_system}
use Rattle.decide_law.proofs.Held.{held_first, held_later, held_flat}
use Rattle.decide_law.proofs.ReplyStep.{chosen_legal}
use Rattle.decide_law.proofs.Shell.{own_record}
use Rattle.decide_law.proofs.Told.{child_listed}
use Rattle.ops_ending.specs.Ending.{end_effect}
use Rattle.ops_ending.specs.Laws.{ExitIsStep}
use Rattle.ops_ending.proofs.Kin.{HoldsBoth, HoldsKin, IsEnding}
use Rattle.ops_ending.proofs.Whole.{end_law}

-- ---- what is held
pub both_held : (rows : List Row) (bag : Bag) (q : Pid) → Agrees bag rows → EachHeld bag (with_group bag q) → (row_of rows q ≡ None) ⊎ HoldsBoth bag q
both_held rows bag q a h = go (vproc_at bag q) refl h.0 h.1
  where
    none : (o : Option Row) → VprocAgrees rows None o → o ≡ None
    none None k = refl
    none (Some c) k = absurd k

    go : (o : Option (Option Vproc)) → vproc_at bag q ≡ o → is_some (vproc_at bag q) ≡ true → EachHeld bag (group_shown (vproc_in bag q)) → (row_of rows q ≡ None) ⊎ HoldsBoth bag q
    go None e s k = let n : is_some (vproc_at bag q) ≡ false = ap is_some e in absurd cc
    go (Some None) e s k = inl (none (row_of rows q) (a.vprocs q None e))
    go (Some (Some u)) e s k = inr (record { vproc = u; held = e; group = (subst (λ (h : Option Vproc). EachHeld bag (group_shown h)) (ap present e) k).0 })

kin_held : (rows : List Row) (p : Pid) (sig : Signals) (bag : Bag) (r : Row) (v : Vproc) (g : Group) → Settled rows p sig bag r v g → EachHeld bag (end_footprint bag v) → HoldsKin rows bag r
kin_held rows p sig bag r v g a h = record {
  parent = subst (λ (q : Pid). (row_of rows q ≡ None) ⊎ HoldsBoth bag q) of.parent (up (v.parent.0 == 1) refl (held_first bag (parent_footprint bag v) (children_footprint bag v) h));
  children = λ q c here e. there q c here (both_held rows bag q a.agrees (held_flat bag (with_group bag) v.children q (held_later bag (parent_footprint bag v) (children_footprint bag v) h) (child_listed rows v r q c of here e)));
}
  where
    of : IsRecordOf rows v r
    of = own_record rows p bag r v a.agrees a.row a.vproc

    up : (b : Bool) → (v.parent.0 == 1) ≡ b → EachHeld bag (if b then [] else with_group bag v.parent) → (row_of rows v.parent ≡ None) ⊎ HoldsBoth bag v.parent
    up true e k = inl (no_system rows v.parent a.sound (eqb-true _ _ e))
    up false e k = both_held rows bag v.parent a.agrees k

    there : (q : Pid) (c : Row) → row_of rows q ≡ Some c → (row_of rows q ≡ None) ⊎ HoldsBoth bag q → HoldsBoth bag q
    there q c here (inl n) = absurd cc
    there q c here (inr k) = k

-- ---- the steps
pub ending_step : (rows : List Row) (p : Pid) (job : Job) (site : Site) (sig : Signals) (bag : Bag) (r : Row) (v : Vproc) (g : Group) (e : Entry) (w : WaitStatus) → Settled rows p sig bag r v g →
    IsEnding rows p job r e w → EachHeld bag (end_footprint bag v) → IsStep rows (next rows (Some e)) p job site bag (decided_by (end_effect bag sig v e w)) (written (end_effect bag sig v e w) bag)
ending_step rows p job site sig bag r v g e w a q held =
    subst (λ (now : List Row). IsStep rows now p job site bag (decided_by (end_effect bag sig v e w)) (written (end_effect bag sig v e w) bag)) (sym q.table)
    (end_law rows p job site sig bag r v g e w a (kin_held rows p sig bag r v g a held) q)

exit_is : (rows : List Row) (p : Pid) (at : Option NodeId) (sig : Signals) (bag : Bag) (r : Row) (v : Vproc) (g : Group) (n : ℕ) → Settled rows p sig bag r v g → is_stopped r.life ≡ false → deliverable sig ≡ 0 →
    IsEnding rows p (Ask (Exit n) at) r (Called p (Exit n) NoReply) (status.Exited (n % 256))
exit_is rows p at sig bag r v g n a alive clear = record {
  legal = chosen_legal rows p sig bag r v g (Exit n) NoReply a alive clear (λ h. cc) refl;
  of = refl;
  asked = refl;
  table = ap (λ o. after_at rows o (Called p (Exit n) NoReply)) a.row;
  sends = λ c. ap (λ o. sent_at rows o (Called p (Exit n) NoReply) c) a.row;
  place = λ was here. refl;
  unplaced = refl;
  nudges = λ now before left. refl;
  born = tt;
}

pub exit_is_step : ExitIsStep
exit_is_step n rows p site at sig bag r v g a alive clear held =
    ending_step rows p (Ask (Exit n) at) site sig bag r v g (Called p (Exit n) NoReply) (status.Exited (n % 256)) a (exit_is rows p at sig bag r v g n a alive clear) held
