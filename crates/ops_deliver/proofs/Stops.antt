-- a stop and a continuing are steps of the one kernel
use Rattle.std.proofs.Common.{◌≡◌, Bool, true, false, cond, List, refl, ap, ◌∙◌, Option, Some}
use Rattle.std.specs.Option.{option_map}
use Rattle.unix_names.specs.declared.Pid.{Pid}
use Rattle.unix_names.specs.declared.Signal.{Signal}
use Rattle.unix_names.specs.declared.Signal.TheVariants.{Kill}
use Rattle.unix_names.specs.declared.Life.TheVariants as life
use Rattle.unix_names.specs.declared.WaitStatus.TheVariants as status
use Rattle.unix_names.specs.Sets.{has, removed}
use Rattle.unix_calls.specs.declared.Event.{Event}
use Rattle.unix_calls.specs.declared.Event.TheVariants.{StoppedBy, EndedBy, Continued}
use Rattle.unix_calls.specs.declared.Entry.TheVariants.{Happened}
use Rattle.unix_calls.specs.declared.Job.{Job}
use Rattle.unix_calls.specs.declared.Phase.TheVariants as phase
use Rattle.signal_state.specs.Signals.{Signals}
use Rattle.signal_state.specs.Sig.{stopped_by, resumed}
use Rattle.signal_state.proofs.Kept.{within_removed, not_within}
use Rattle.vproc_record.specs.declared.Vproc.{Vproc}
use Rattle.group_record.specs.declared.Group.{Group}
use Rattle.record_bag.specs.declared.bag.Bag.{Bag}
use Rattle.process_table.specs.declared.Row.{Row}
use Rattle.kernel_rules.specs.Events.{is_deliverable}
use Rattle.kernel_model.specs.Step.{verdict_at, after_at, sent_at}
use Rattle.kernel_choice.specs.Choice.{event_of, least_deliverable, first_event}
use Rattle.kernel_rules.specs.Events.{StaysStopped}
use Rattle.decide_law.specs.Law.{Settled}
use Rattle.decide_law.proofs.Stopped.{unkilled}
use Rattle.ops_deliver.specs.Events.{IsEventStep}
use Rattle.ops_deliver.specs.Turn.{stop_effect, continue_effect}
use Rattle.ops_deliver.proofs.Taken.{may}
use Rattle.ops_deliver.proofs.Turned.{IsTurning, turning_step}

-- ---- whom a signal stops stays stopped
-- where a stop comes first, the process can be neither killed nor continued
stop_first : (killed due : Bool) (later : Option Event) (s : Signal) → cond killed (Some (EndedBy Kill)) (cond due (Some Continued) later) ≡ Some (StoppedBy s) → (killed ≡ false) × (due ≡ false)
stop_first true due later s e = absurd (cc e)
stop_first false true later s e = absurd (cc e)
stop_first false false later s e = (refl, refl)

stop_rests : (rows : List Row) (p : Pid) (sig : Signals) (bag : Bag) (r : Row) (v : Vproc) (g : Group) (s : Signal) → Settled rows p sig bag r v g → first_event rows r ≡ Some (StoppedBy s) → (c : Row) → c.sig ≡ stopped_by r.sig s → StaysStopped c
stop_rests rows p sig bag r v g s a first c is =
    let f = stop_first (is_deliverable r Kill) r.sig.due (option_map (event_of rows r) (least_deliverable r)) s first in
    record {
      stopped = ap (λ (x : Signals). x.stopped) is;
      not_due = ap (λ (x : Signals). x.due) is ∙ f.1;
      not_killed = ap (λ (x : Signals). has x.pending Kill) is ∙ not_within (removed r.sig.pending s) r.sig.pending Kill (within_removed r.sig.pending s) (unkilled r.sig (a.sound.each p r a.row).signals_kept f.0);
    }

-- ---- the two events
stop_is : (rows : List Row) (p : Pid) (job : Job) (sig : Signals) (bag : Bag) (r : Row) (v : Vproc) (g : Group) (s : Signal) → Settled rows p sig bag r v g → first_event rows r ≡ Some (StoppedBy s) →
    IsTurning rows p job r (Happened p (StoppedBy s)) phase.Stopped life.Stopped (status.Stopped s) (λ x. stopped_by x s)
stop_is rows p job sig bag r v g s a first = record {
  legal = ap (λ o. verdict_at rows o (Happened p (StoppedBy s))) a.row ∙ rw (a.living, may rows p sig bag r v g (StoppedBy s) a first);
  of = refl;
  asked = tt;
  table = ap (λ o. after_at rows o (Happened p (StoppedBy s))) a.row;
  sends = λ c. ap (λ o. sent_at rows o (Happened p (StoppedBy s)) c) a.row;
  place = λ was here. refl;
  unplaced = refl;
  tells = λ now before left. refl;
  born = tt;
  lives = refl;
  stops = (λ h. refl, λ h. refl);
  stays = λ h. cc;
  awake = λ h. cc;
  rests = λ h. stop_rests rows p sig bag r v g s a first;
  ignores = λ x. refl;
}

continue_is : (rows : List Row) (p : Pid) (job : Job) (sig : Signals) (bag : Bag) (r : Row) (v : Vproc) (g : Group) → Settled rows p sig bag r v g → first_event rows r ≡ Some Continued →
    IsTurning rows p job r (Happened p Continued) phase.Ready life.Runs status.Continued resumed
continue_is rows p job sig bag r v g a first = record {
  legal = ap (λ o. verdict_at rows o (Happened p Continued)) a.row ∙ rw (a.living, may rows p sig bag r v g Continued a first);
  of = refl;
  asked = tt;
  table = ap (λ o. after_at rows o (Happened p Continued)) a.row;
  sends = λ c. ap (λ o. sent_at rows o (Happened p Continued) c) a.row;
  place = λ was here. refl;
  unplaced = refl;
  tells = λ now before left. refl;
  born = tt;
  lives = refl;
  stops = (λ h. cc, λ h. cc);
  stays = λ h. cc;
  awake = λ h. cc;
  rests = λ h. absurd (cc h);
  ignores = λ x. refl;
}

pub stop_is_step : (s : Signal) → IsEventStep (StoppedBy s) (stop_effect s)
stop_is_step s rows p job site sig bag r v g a first held =
    turning_step rows p job site sig bag r v g (Happened p (StoppedBy s)) phase.Stopped life.Stopped (status.Stopped s) (λ x. stopped_by x s) a held (stop_is rows p job sig bag r v g s a first)

pub continue_is_step : IsEventStep Continued continue_effect
continue_is_step rows p job site sig bag r v g a first held =
    turning_step rows p job site sig bag r v g (Happened p Continued) phase.Ready life.Runs status.Continued resumed a held (continue_is rows p job sig bag r v g a first)
