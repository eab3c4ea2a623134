-- an ending is a step of the one kernel
use Rattle.std.specs.Prelude.{ℕ, ◌≡◌, List, Some}
use Rattle.unix_names.specs.declared.Pid.{Pid}
use Rattle.unix_names.specs.declared.Signal.{Signal}
use Rattle.unix_calls.specs.declared.Job.{Job}
use Rattle.unix_calls.specs.declared.Call.TheVariants.{Exit}
use Rattle.unix_calls.specs.declared.Event.TheVariants.{EndedBy}
use Rattle.signal_state.specs.declared.Own.{Own}
use Rattle.vproc_record.specs.declared.Vproc.{Vproc}
use Rattle.group_record.specs.declared.Group.{Group}
use Rattle.record_bag.specs.declared.bag.Bag.{Bag}
use Rattle.record_bag.specs.declared.vector.Site.{Site}
use Rattle.record_bag.specs.Decisions.{Answered}
use Rattle.process_table.specs.declared.Row.{Row}
use Rattle.decide_law.specs.Law.{Based}
use Rattle.decide_law.specs.Effects.{folded, emptied, settled_in}
use Rattle.decide_law.specs.Footprints.{coming, event_footprint}
use Rattle.decide_law.specs.Answer.{IsRight, on_footprint}
use Rattle.decide_law.specs.Parts.{IsCallStep}
use Rattle.ops_ending.specs.Ending.{exit_effect, killed_effect}

-- an exit with its footprint, whatever its status
abbrev pub ExitIsStep : Type 0
ExitIsStep = (n : ℕ) → IsCallStep (Exit n) (λ bag sig p v. exit_effect bag sig p v n)

-- the answer where a signal that ends the process comes first, whatever the job
abbrev pub killed_answer : Signal → Own → Bag → Pid → Vproc → Group → Answered
killed_answer s own bag p v g = on_footprint (event_footprint bag v (EndedBy s)) p v bag (killed_effect (settled_in p v.group bag) (folded own v g).sig p (emptied v) s)

-- it is a step of the one kernel, or asks for what its footprint lacks
abbrev pub KilledIsRight : Type 0
KilledIsRight = (rows : List Row) (p : Pid) (job : Job) (site : Site) (own : Own) (bag : Bag) (r : Row) (v : Vproc) (g : Group) (s : Signal) →
    Based rows p own bag r v g → coming own v g ≡ Some (EndedBy s) →
    IsRight rows p job site bag (event_footprint bag v (EndedBy s)) (killed_answer s own bag p v g).bag (killed_answer s own bag p v g).outcome
