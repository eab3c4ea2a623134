-- an event whose effect is a step of the settled bag is answered as the law has it
use Rattle.std.proofs.Common.{◌≡◌, Bool, true, false, cond, List, [], refl, sym, ap, ◌∙◌, subst, if◌then◌else◌}
use Rattle.std.proofs.lemmas.List.Elements.{All-nil}
use Rattle.unix_names.specs.declared.Pid.{Pid}
use Rattle.unix_names.specs.declared.Name.{Name}
use Rattle.unix_names.specs.Names.{pid_of}
use Rattle.unix_calls.specs.declared.Event.{Event}
use Rattle.unix_calls.specs.declared.Event.TheVariants.{Caught, Discarded, StoppedBy, EndedBy, Continued, Moved}
use Rattle.unix_calls.specs.declared.Job.{Job}
use Rattle.vproc_record.specs.declared.Vproc.{Vproc}
use Rattle.group_record.specs.Groups.{settled}
use Rattle.record_bag.specs.declared.bag.Bag.{Bag}
use Rattle.process_table.specs.declared.Row.{Row}
use Rattle.kernel_rules.specs.Events.{is_stop_signal}
use Rattle.decide_law.specs.Agrees.{Agrees}
use Rattle.decide_law.specs.Law.{Based}
use Rattle.decide_law.specs.Needs.{IsNamed, AreTold}
use Rattle.decide_law.specs.Effects.{folded, emptied, settled_in}
use Rattle.decide_law.specs.Footprints.{parent_footprint, event_footprint}
use Rattle.decide_law.specs.Parts.{EachHeld}
use Rattle.decide_law.proofs.Answers.{based, right_answers}
use Rattle.decide_law.proofs.ComingFirst.{coming_first}
use Rattle.decide_law.proofs.PartRight.{right_step}
use Rattle.decide_law.proofs.SettledFootprints.{parent_footprint_same, end_footprint_same}
use Rattle.decide_law.proofs.Shell.{settling}
use Rattle.decide_law.proofs.ToldFootprints.{Known, known, parent_told, end_told}
use Rattle.ops_deliver.specs.Events.{EventEffect, IsEventStep, event_answer, IsEventAnswered}

-- ---- the footprint
-- it is the same before and after settling
pub event_footprint_same : (p id : Pid) (bag : Bag) (v : Vproc) (event : Event) → event_footprint (settled_in p id bag) (emptied v) event ≡ event_footprint bag v event
event_footprint_same p id bag v (Caught s) = refl
event_footprint_same p id bag v (Discarded s) = ap (λ (l : List Name). if is_stop_signal s then l else []) (parent_footprint_same p id bag v)
event_footprint_same p id bag v (StoppedBy s) = parent_footprint_same p id bag v
event_footprint_same p id bag v (EndedBy s) = end_footprint_same p id bag v
event_footprint_same p id bag v Continued = parent_footprint_same p id bag v
event_footprint_same p id bag v Moved = refl

-- each name of it is told
names_told : (rows : List Row) (p : Pid) (job : Job) (event : Event) (bag : Bag) → (a : Agrees bag rows) → (v : Vproc) → Known rows p job bag a v → AreTold rows p job (event_footprint bag v event)
names_told rows p job (Caught s) bag a v k = All-nil (λ n. IsNamed rows p job (pid_of n))
names_told rows p job (Discarded s) bag a v k = go (is_stop_signal s)
  where
    go : (b : Bool) → AreTold rows p job (cond b (parent_footprint bag v) [])
    go true = parent_told rows p job bag a v k
    go false = All-nil (λ n. IsNamed rows p job (pid_of n))
names_told rows p job (StoppedBy s) bag a v k = parent_told rows p job bag a v k
names_told rows p job (EndedBy s) bag a v k = end_told rows p job bag a v k
names_told rows p job Continued bag a v k = parent_told rows p job bag a v k
names_told rows p job Moved bag a v k = All-nil (λ n. IsNamed rows p job (pid_of n))

-- ---- the whole answer
pub event_answered : (event : Event) (effect : EventEffect) → IsEventStep event effect → IsEventAnswered event effect
event_answered event effect step nodes rows p job own bag site a v g ev eg comes =
    let b : Based rows p own bag a.row v g = based nodes rows p job own bag site a v g ev eg in
    right_answers nodes rows p job own site bag (event_answer event effect own bag p v g).bag (event_footprint bag v event) (event_answer event effect own bag p v g).outcome a
    (names_told rows p job event bag a.agrees v (known rows p job bag a.agrees p v ev))
    (right_step rows p job site own bag a.row v g (event_footprint bag v event) (effect (settled_in p v.group bag) (folded own v g).sig p (emptied v)) b
    (λ held. step rows p job site (folded own v g).sig (settled_in p v.group bag) a.row (emptied v) (settled g p) (settling rows p own bag a.row v g b) (sym (coming_first rows p own bag a.row v g b) ∙ comes)
    (subst (EachHeld (settled_in p v.group bag)) (sym (event_footprint_same p v.group bag v event)) held)))
