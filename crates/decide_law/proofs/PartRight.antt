-- an effect that is a step of the settled bag makes a lawful answer
use Rattle.std.proofs.Common.{◌≡◌, List, refl, sym, ◌∙◌, subst, Option, Result, Ok, Err}
use Rattle.std.specs.Prelude.{false, IfOk}
use Rattle.unix_names.specs.declared.Pid.{Pid}
use Rattle.unix_names.specs.declared.NodeId.{NodeId}
use Rattle.unix_names.specs.declared.Name.{Name}
use Rattle.unix_calls.specs.declared.Call.{Call}
use Rattle.unix_calls.specs.declared.Job.{Job}
use Rattle.unix_calls.specs.declared.Job.TheVariants.{Ask}
use Rattle.signal_state.specs.Sig.{deliverable}
use Rattle.signal_state.specs.declared.Own.{Own}
use Rattle.vproc_record.specs.declared.Vproc.{Vproc}
use Rattle.group_record.specs.declared.Group.{Group}
use Rattle.group_record.specs.Groups.{settled}
use Rattle.record_bag.specs.declared.bag.Bag.{Bag}
use Rattle.record_bag.specs.declared.vector.Site.{Site}
use Rattle.record_bag.specs.declared.vector.Outcome.{Outcome}
use Rattle.record_bag.specs.Decisions.{Answered, answered}
use Rattle.process_table.specs.declared.Row.{Row}
use Rattle.process_table.specs.Rows.{is_stopped}
use Rattle.decide_law.specs.Law.{Based, next, IsStep}
use Rattle.decide_law.specs.Vector.{IsAnswer}
use Rattle.decide_law.specs.Effects.{Effect, folded, emptied, settled_in, decided_by, written}
use Rattle.decide_law.specs.Footprints.{lacking, is_none, call_footprint}
use Rattle.decide_law.specs.Answer.{IsRight, on_footprint}
use Rattle.decide_law.specs.Parts.{EachHeld, CallEffect, IsCallStep, answer_by, decide_by, IsLawfulFor, IsCallAnswered}
use Rattle.decide_law.proofs.Held.{none_lacks}
use Rattle.decide_law.proofs.Needed.{on_footprint_right}
use Rattle.decide_law.proofs.Shell.{settling, shell}
use Rattle.decide_law.proofs.SettledFootprints.{lacking_same, call_footprint_same}
use Rattle.decide_law.proofs.ToldFootprints.{known, call_told}
use Rattle.decide_law.proofs.Answers.{on_base_right, runs_on, right_answers}

-- the whole answer, on the records of a process and of its group, for a job or an event with this footprint
pub right_step : (rows : List Row) (p : Pid) (job : Job) (site : Site) (own : Own) (bag : Bag) (r : Row) (v : Vproc) (g : Group) (names : List Name) (x : Effect) → Based rows p own bag r v g →
    (EachHeld (settled_in p v.group bag) names → IsStep rows (next rows x.entry) p job site (settled_in p v.group bag) (decided_by x) (written x (settled_in p v.group bag))) →
    IsRight rows p job site bag names (on_footprint names p v bag x).bag (on_footprint names p v bag x).outcome
right_step rows p job site own bag r v g names x a step =
    on_footprint_right rows p job site bag names v x (λ none. shell rows (next rows x.entry) p job site own bag r v g x a (step (none_lacks (settled_in p v.group bag) names (lacking_same p v.group bag names ∙ none)))) (is_none (lacking bag names)) refl (on_footprint names p v bag x) refl

-- a call
pub call_right : (rows : List Row) (p : Pid) (site : Site) (at : Option NodeId) (own : Own) (bag : Bag) (r : Row) (v : Vproc) (g : Group) (call : Call) (effect : CallEffect) → IsCallStep call effect → Based rows p own bag r v g → is_stopped r.life ≡ false → deliverable (folded own v g).sig ≡ 0 →
    IsRight rows p (Ask call at) site bag (call_footprint bag v call) (answer_by call effect own bag p v g).bag (answer_by call effect own bag p v g).outcome
call_right rows p site at own bag r v g call effect step a alive clear =
    right_step rows p (Ask call at) site own bag r v g (call_footprint bag v call) (effect (settled_in p v.group bag) (folded own v g).sig p (emptied v)) a
    (λ held. step rows p site at (folded own v g).sig (settled_in p v.group bag) r (emptied v) (settled g p) (settling rows p own bag r v g a) alive clear (subst (EachHeld (settled_in p v.group bag)) (sym (call_footprint_same p v.group bag v call)) held))

pub call_answered : (call : Call) (effect : CallEffect) → IsCallStep call effect → IsCallAnswered call effect
call_answered call effect step p at own bag site nodes rows a clear =
    on_base_right nodes rows p (Ask call at) own bag site a (answer_by call effect own bag p)
    (λ v g b. right_answers nodes rows p (Ask call at) own site bag (answer_by call effect own bag p v g).bag (call_footprint bag v call) (answer_by call effect own bag p v g).outcome a
    (call_told rows p call at bag a.agrees v (known rows p (Ask call at) bag a.agrees p v b.vproc))
    (call_right rows p site at own bag a.row v g call effect step b (runs_on nodes rows p call at own bag site a) (clear v g b.vproc b.group)))

-- an outcome that is the answer is lawful
pub outcome_lawful : {E : Type 0} (call : Call) (effect : CallEffect) (p : Pid) (at : Option NodeId) (own : Own) (bag left : Bag) (site : Site) (r : Result Outcome E) → IsCallAnswered call effect → IfOk r (λ outcome. answered outcome left ≡ decide_by call effect p own bag) →
    IfOk r (λ outcome. IsLawfulFor p (Ask call at) own bag site left outcome)
outcome_lawful call effect p at own bag left site (Ok o) lawful e = λ nodes rows a clear. subst (λ (x : Answered). IsAnswer nodes rows p (Ask call at) site bag x.bag x.outcome) (sym e) (lawful p at own bag site nodes rows a clear)
outcome_lawful call effect p at own bag left site (Err x) lawful e = tt
