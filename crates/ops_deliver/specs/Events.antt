-- what a part owes that decides an event: one step of the one kernel, where the event is the one that comes first
use Rattle.std.specs.Prelude.{ℕ, ◌≡◌, List, Some}
use Rattle.unix_names.specs.declared.Pid.{Pid}
use Rattle.unix_calls.specs.declared.Event.{Event}
use Rattle.unix_calls.specs.declared.Job.{Job}
use Rattle.signal_state.specs.Signals.{Signals}
use Rattle.signal_state.specs.declared.Own.{Own}
use Rattle.vproc_record.specs.declared.Vproc.{Vproc}
use Rattle.group_record.specs.declared.Group.{Group}
use Rattle.record_bag.specs.declared.bag.Bag.{Bag}
use Rattle.record_bag.specs.declared.vector.Site.{Site}
use Rattle.record_bag.specs.Decisions.{Answered}
use Rattle.process_table.specs.declared.Row.{Row}
use Rattle.kernel_choice.specs.Choice.{first_event}
use Rattle.decide_law.specs.Agrees.{vproc_at, group_at}
use Rattle.decide_law.specs.Law.{Asks, Settled, next, IsStep}
use Rattle.decide_law.specs.Vector.{IsAnswer}
use Rattle.decide_law.specs.Effects.{Effect, folded, emptied, settled_in, decided_by, written}
use Rattle.decide_law.specs.Footprints.{event_footprint, coming}
use Rattle.decide_law.specs.Answer.{on_footprint}
use Rattle.decide_law.specs.Parts.{EachHeld}

-- what an event does: an effect, from a bag and the signals of its process, with the process's pid and its record
abbrev pub EventEffect : Type 0
EventEffect = Bag → Signals → Pid → Vproc → Effect

-- the effect is a step of the one kernel, whatever the table and the job, where the process has taken its stream, the event comes first, and its footprint is held
abbrev pub IsEventStep : Event → EventEffect → Type 0
IsEventStep event effect = (rows : List Row) (p : Pid) (job : Job) (site : Site) (sig : Signals) (bag : Bag) (r : Row) (v : Vproc) (g : Group) →
    Settled rows p sig bag r v g → first_event rows r ≡ Some event → EachHeld bag (event_footprint bag v event) →
    IsStep rows (next rows (effect bag sig p v).entry) p job site bag (decided_by (effect bag sig p v)) (written (effect bag sig p v) bag)

-- the whole answer where the event comes, on the records of the process and of its group
abbrev pub event_answer : Event → EventEffect → Own → Bag → Pid → Vproc → Group → Answered
event_answer event effect own bag p v g = on_footprint (event_footprint bag v event) p v bag (effect (settled_in p v.group bag) (folded own v g).sig p (emptied v))

-- a part answers so, whatever was asked: where both records are held and tell that the event comes first, the answer is lawful
abbrev pub IsEventAnswered : Event → EventEffect → Type 0
IsEventAnswered event effect = (nodes : ℕ) (rows : List Row) (p : Pid) (job : Job) (own : Own) (bag : Bag) (site : Site) → Asks nodes rows p job own bag site →
    (v : Vproc) (g : Group) → vproc_at bag p ≡ Some (Some v) → group_at bag v.group ≡ Some (Some g) → coming own v g ≡ Some event →
    IsAnswer nodes rows p job site bag (event_answer event effect own bag p v g).bag (event_answer event effect own bag p v g).outcome
