-- the end by a signal is a step, or asks for what its footprint lacks
use Rattle.std.proofs.Common.{◌≡◌, List, refl, sym, ap, ◌∙◌, subst, Some}
use Rattle.unix_names.specs.declared.Pid.{Pid}
use Rattle.unix_names.specs.declared.Signal.{Signal}
use Rattle.unix_names.specs.declared.WaitStatus.TheVariants as status
use Rattle.unix_calls.specs.declared.Event.TheVariants.{EndedBy}
use Rattle.unix_calls.specs.declared.Entry.TheVariants.{Happened}
use Rattle.unix_calls.specs.declared.Job.{Job}
use Rattle.signal_state.specs.Signals.{Signals}
use Rattle.vproc_record.specs.declared.Vproc.{Vproc}
use Rattle.group_record.specs.declared.Group.{Group}
use Rattle.group_record.specs.Groups.{settled}
use Rattle.record_bag.specs.declared.bag.Bag.{Bag}
use Rattle.process_table.specs.declared.Row.{Row}
use Rattle.kernel_choice.specs.Choice.{first_event}
use Rattle.kernel_choice.proofs.EventLaws.{chosen_may_happen}
use Rattle.kernel_model.specs.Step.{verdict_at, after_at, sent_at}
use Rattle.decide_law.specs.Law.{Settled}
use Rattle.decide_law.specs.Effects.{folded, emptied, settled_in}
use Rattle.decide_law.specs.Footprints.{end_footprint}
use Rattle.decide_law.specs.Parts.{EachHeld}
use Rattle.decide_law.proofs.PartRight.{right_step}
use Rattle.decide_law.proofs.SettledFootprints.{end_footprint_same}
use Rattle.decide_law.proofs.ComingFirst.{coming_first}
use Rattle.decide_law.proofs.Shell.{settling}
use Rattle.ops_ending.specs.Ending.{killed_effect}
use Rattle.ops_ending.specs.Laws.{KilledIsRight}
use Rattle.ops_ending.proofs.Kin.{IsEnding}
use Rattle.ops_ending.proofs.Steps.{ending_step}

killed_is : (rows : List Row) (p : Pid) (job : Job) (sig : Signals) (bag : Bag) (r : Row) (v : Vproc) (g : Group) (s : Signal) → Settled rows p sig bag r v g → first_event rows r ≡ Some (EndedBy s) →
    IsEnding rows p job r (Happened p (EndedBy s)) (status.Killed s)
killed_is rows p job sig bag r v g s a e = record {
  legal = ap (λ o. verdict_at rows o (Happened p (EndedBy s))) a.row ∙ rw (a.living, chosen_may_happen rows r (EndedBy s) (a.sound.each p r a.row).signals_kept e);
  of = refl;
  asked = tt;
  table = ap (λ o. after_at rows o (Happened p (EndedBy s))) a.row;
  sends = λ c. ap (λ o. sent_at rows o (Happened p (EndedBy s)) c) a.row;
  place = λ was here. refl;
  unplaced = refl;
  nudges = λ now before left. refl;
  born = tt;
}

pub killed_is_right : KilledIsRight
killed_is_right rows p job site own bag r v g s a e =
    let b : Bag = settled_in p v.group bag in
    let t : Settled rows p (folded own v g).sig b r (emptied v) (settled g p) = settling rows p own bag r v g a in
    right_step rows p job site own bag r v g (end_footprint bag v) (killed_effect b (folded own v g).sig p (emptied v) s) a
    (λ held. ending_step rows p job site (folded own v g).sig b r (emptied v) (settled g p) (Happened p (EndedBy s)) (status.Killed s) t
    (killed_is rows p job (folded own v g).sig b r (emptied v) (settled g p) s t (sym (coming_first rows p own bag r v g a) ∙ e))
    (subst (EachHeld b) (sym (end_footprint_same p v.group bag v)) held))
