-- what a part owes that decides a call: one step of the one kernel, from a bag in which the caller has taken its stream and all that the call needs is held
use Rattle.std.specs.Prelude.{ℕ, true, false, ◌≡◌, List, [], ◌∷◌, Option}
use Rattle.unix_names.specs.declared.Pid.{Pid}
use Rattle.unix_names.specs.declared.NodeId.{NodeId}
use Rattle.unix_names.specs.declared.Name.{Name}
use Rattle.unix_calls.specs.declared.Call.{Call}
use Rattle.unix_calls.specs.declared.Job.{Job}
use Rattle.unix_calls.specs.declared.Job.TheVariants.{Ask}
use Rattle.signal_state.specs.Signals.{Signals}
use Rattle.signal_state.specs.Sig.{deliverable}
use Rattle.signal_state.specs.declared.Own.{Own}
use Rattle.vproc_record.specs.declared.Vproc.{Vproc}
use Rattle.group_record.specs.declared.Group.{Group}
use Rattle.record_bag.specs.declared.bag.Bag.{Bag}
use Rattle.record_bag.specs.declared.vector.Site.{Site}
use Rattle.record_bag.specs.declared.vector.Outcome.{Outcome}
use Rattle.record_bag.specs.Bags.{is_held}
use Rattle.record_bag.specs.Decisions.{Answered}
use Rattle.process_table.specs.declared.Row.{Row}
use Rattle.process_table.specs.Rows.{is_stopped}
use Rattle.decide_law.specs.Law.{Asks, Settled, next, IsStep}
use Rattle.decide_law.specs.Vector.{IsAnswer}
use Rattle.decide_law.specs.Effects.{Effect, folded, emptied, settled_in, decided_by, written, on_base}
use Rattle.decide_law.specs.Footprints.{call_footprint}
use Rattle.decide_law.specs.Answer.{on_footprint, NothingComes}

-- each of the names is held
abbrev pub EachHeld : Bag → List Name → Type 0
EachHeld bag [] = Unit {0}
EachHeld bag (n ∷ ns) = (is_held bag n ≡ true) × EachHeld bag ns

-- what a call does: an effect, from a bag and the signals of its caller, with the caller's pid and its record
abbrev pub CallEffect : Type 0
CallEffect = Bag → Signals → Pid → Vproc → Effect

-- the effect is a step of the one kernel, whatever the table, where the caller has taken its stream and can call, and the call's footprint is held
abbrev pub IsCallStep : Call → CallEffect → Type 0
IsCallStep call effect = (rows : List Row) (p : Pid) (site : Site) (at : Option NodeId) (sig : Signals) (bag : Bag) (r : Row) (v : Vproc) (g : Group) →
    Settled rows p sig bag r v g → is_stopped r.life ≡ false → deliverable sig ≡ 0 → EachHeld bag (call_footprint bag v call) →
    IsStep rows (next rows (effect bag sig p v).entry) p (Ask call at) site bag (decided_by (effect bag sig p v)) (written (effect bag sig p v) bag)

-- the whole answer to a call with this effect, on the records of its caller and of the caller's group
abbrev pub answer_by : Call → CallEffect → Own → Bag → Pid → Vproc → Group → Answered
answer_by call effect own bag p v g = on_footprint (call_footprint bag v call) p v bag (effect (settled_in p v.group bag) (folded own v g).sig p (emptied v))

-- and where one of these records may lack
abbrev pub decide_by : Call → CallEffect → Pid → Own → Bag → Answered
decide_by call effect p own bag = on_base (answer_by call effect own bag p) p bag

-- an outcome, with the bag that it leaves, answers a job as the law has it, whatever table was asked of, where nothing is to happen first
abbrev pub IsLawfulFor : Pid → Job → Own → Bag → Site → Bag → Outcome → Type 0
IsLawfulFor p job own bag site left outcome = (nodes : ℕ) (rows : List Row) → Asks nodes rows p job own bag site → NothingComes p own bag → IsAnswer nodes rows p job site bag left outcome

-- a part answers a call so, at every place
abbrev pub IsCallAnswered : Call → CallEffect → Type 0
IsCallAnswered call effect = (p : Pid) (at : Option NodeId) (own : Own) (bag : Bag) (site : Site) → IsLawfulFor p (Ask call at) own bag site (decide_by call effect p own bag).bag (decide_by call effect p own bag).outcome
