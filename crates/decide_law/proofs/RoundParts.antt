-- the parts of a decision, as the code makes them one after another, are the whole
use Rattle.std.proofs.Common.{◌≡◌, List, [], sym, ap, ◌∙◌, Option, None, Some}
use Rattle.unix_names.specs.declared.Pid.{Pid}
use Rattle.unix_names.specs.declared.Name.{Name}
use Rattle.unix_calls.specs.declared.Call.{Call}
use Rattle.signal_state.specs.declared.Own.{Own}
use Rattle.vproc_record.specs.declared.Vproc.{Vproc}
use Rattle.group_record.specs.declared.Group.{Group}
use Rattle.record_bag.specs.declared.bag.Bag.{Bag}
use Rattle.record_bag.specs.declared.vector.Outcome.{Outcome}
use Rattle.record_bag.specs.declared.vector.Outcome.TheVariants as outcome
use Rattle.record_bag.specs.Bags.{present}
use Rattle.record_bag.specs.Decisions.{Answered, answered}
use Rattle.decide_law.specs.Agrees.{vproc_at, group_at}
use Rattle.decide_law.specs.Effects.{Effect, folded, emptied, settled_in, trimmed_in, written, decided_by, done_by, on_vproc, on_group, on_base, quiet}
use Rattle.decide_law.specs.Footprints.{call_footprint}
use Rattle.decide_law.specs.Answer.{on_footprint}
use Rattle.decide_law.specs.Parts.{CallEffect, answer_by, decide_by}
use Rattle.decide_law.specs.Base.{HasBase}
use Rattle.decide_law.proofs.PutBack.{same_bag}
use Rattle.unix_calls.specs.declared.Reply.{Reply}
use Rattle.unix_calls.specs.declared.Phase.TheVariants as phase
use Rattle.unix_calls.specs.declared.Entry.TheVariants.{Called}
use Rattle.signal_state.specs.Signals.{Signals}

-- on a base that is there
pub base_answer : (answer : Vproc → Group → Answered) (p : Pid) (bag : Bag) (v : Vproc) (g : Group) → vproc_at bag p ≡ Some (Some v) → group_at bag v.group ≡ Some (Some g) → on_base answer p bag ≡ answer v g
base_answer answer p bag v g ev eg = ap (λ (o : Option (Option Vproc)). on_vproc answer p bag (present o)) ev ∙ ap (λ (o : Option (Option Group)). on_group answer bag v (present o)) eg

-- a call that needs no further names is done
pub call_done : (call : Call) (effect : CallEffect) (p : Pid) (own : Own) (bag : Bag) (v : Vproc) (g : Group) → vproc_at bag p ≡ Some (Some v) → group_at bag v.group ≡ Some (Some g) → call_footprint bag v call ≡ [] →
    decide_by call effect p own bag ≡ done_by p v bag (effect (settled_in p v.group bag) (folded own v g).sig p (emptied v))
call_done call effect p own bag v g ev eg none =
    base_answer (answer_by call effect own bag p) p bag v g ev eg ∙ ap (λ (names : List Name). on_footprint names p v bag (effect (settled_in p v.group bag) (folded own v g).sig p (emptied v))) none

-- what was decided, and what the bag became by settling, writing and trimming
pub parts_whole : (x : Effect) (p id : Pid) (v : Vproc) (o : Outcome) (bag settled wrote left : Bag) → id ≡ v.group → settled ≡ settled_in p v.group bag → wrote ≡ written x settled → left ≡ trimmed_in id wrote → o ≡ outcome.Done (decided_by x) → answered o left ≡ done_by p v bag x
parts_whole x p id v o bag settled wrote left at is then_wrote trimmed out =
    ap (λ (y : Outcome). answered y left) out
    ∙ ap (answered (outcome.Done (decided_by x))) (trimmed ∙ ap (λ (i : Pid). trimmed_in i wrote) at ∙ ap (trimmed_in v.group) (then_wrote ∙ ap (written x) is))

-- a call that changes no record, and of the caller's signals what it says: as the code makes it
pub signals_done : (call : Call) (effect : CallEffect) (reply : Reply) (sig : Signals) (p id : Pid) (own : Own) (bag settled left : Bag) (base : HasBase own p bag) (o : Outcome) (answer : Reply) (carried : Own) → call_footprint bag base.vproc call ≡ [] →
    effect (settled_in p base.vproc.group bag) (folded own base.vproc base.group).sig p (emptied base.vproc) ≡ quiet (Some (Called p call reply)) sig phase.Ready → id ≡ base.vproc.group → settled ≡ settled_in p base.vproc.group bag → left ≡ trimmed_in id settled →
    o ≡ outcome.Done (record { entry = Some (Called p call answer); own = carried; phase = phase.Ready; born = None; nudges = [] }) → answer ≡ reply → carried ≡ record { sig = sig; taken = 0 } → answered o left ≡ decide_by call effect p own bag
signals_done call effect reply sig p id own bag settled left base o answer carried none is at was trimmed out told kept =
    parts_whole (quiet (Some (Called p call reply)) sig phase.Ready) p id base.vproc o bag settled settled left at was (sym (same_bag settled)) trimmed
    (out ∙ ap (λ (r : Reply). outcome.Done (record { entry = Some (Called p call r); own = carried; phase = phase.Ready; born = None; nudges = [] })) told ∙ ap (λ (x : Own). outcome.Done (record { entry = Some (Called p call reply); own = x; phase = phase.Ready; born = None; nudges = [] })) kept)
    ∙ sym (call_done call effect p own bag base.vproc base.group base.vproc_is base.group_is none ∙ ap (done_by p base.vproc bag) is)
