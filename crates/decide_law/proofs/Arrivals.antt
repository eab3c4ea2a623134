-- a job that is done at one node alone is answered as the law has it
use Rattle.std.proofs.Common.{◌≡◌, ◌==◌, ℕ, Bool, true, false, List, refl, ap, ◌∙◌, None, Some}
use Rattle.std.specs.Prelude.{is_some, if◌then◌else◌}
use Rattle.std.proofs.lemmas.Bool.{eqb-true, eqb-false}
use Rattle.unix_names.specs.declared.Pid.{Pid}
use Rattle.unix_names.specs.declared.NodeId.{NodeId}
use Rattle.unix_calls.specs.declared.Job.{Job}
use Rattle.signal_state.specs.Sig.{deliverable}
use Rattle.signal_state.specs.declared.Own.{Own}
use Rattle.vproc_record.specs.declared.Vproc.{Vproc}
use Rattle.group_record.specs.declared.Group.{Group}
use Rattle.group_record.specs.Groups.{settled}
use Rattle.record_bag.specs.declared.bag.Bag.{Bag}
use Rattle.record_bag.specs.declared.vector.Site.{Site}
use Rattle.record_bag.specs.declared.vector.Outcome.TheVariants as outcome
use Rattle.record_bag.specs.Decisions.{Answered, answered}
use Rattle.process_table.specs.declared.Row.{Row}
use Rattle.process_table.specs.Rows.{is_stopped}
use Rattle.kernel_rules.specs.Events.{can_call}
use Rattle.decide_law.specs.Law.{Asks, Based, next, IsStep}
use Rattle.decide_law.specs.Places.{destination}
use Rattle.decide_law.specs.Vector.{job_refusal, IsAnswer}
use Rattle.decide_law.specs.Effects.{Effect, folded, emptied, settled_in, decided_by, left_by, done_by}
use Rattle.decide_law.specs.Arrivals.{done_at}
use Rattle.decide_law.proofs.Shell.{settling}
use Rattle.decide_law.proofs.ReplyStep.{able}
use Rattle.decide_law.proofs.Answers.{inside}

-- a process that is not stopped can call, where nothing is to happen first
pub can_work : (rows : List Row) (p : Pid) (own : Own) (bag : Bag) (r : Row) (v : Vproc) (g : Group) → Based rows p own bag r v g → is_stopped r.life ≡ false → deliverable (folded own v g).sig ≡ 0 → can_call r ≡ true
can_work rows p own bag r v g b alive clear = able rows p (folded own v g).sig (settled_in p v.group bag) r (emptied v) (settled g p) (settling rows p own bag r v g b) alive clear

same_node : (n m : NodeId) → n.0 ≡ m.0 → n ≡ m
same_node n m e = ap (λ (i : ℕ). record { 0 = i }) e

-- a job that is not refused, of a process that can call: a step at its node, and the way there from elsewhere
pub done_at_answers : (nodes : ℕ) (rows : List Row) (p : Pid) (job : Job) (own : Own) (bag : Bag) (site : Site) (a : Asks nodes rows p job own bag site) (v : Vproc) (g : Group) (node : NodeId) (x : Effect) → Based rows p own bag a.row v g → can_call a.row ≡ true → job_refusal rows a.row job ≡ None → destination job v.loc ≡ Some node →
    (destination job v.loc ≡ Some site.node → IsStep rows (next rows x.entry) p job site bag (decided_by x) (left_by x p v.group bag)) →
    IsAnswer nodes rows p job site bag (done_at node site p v bag x).bag (done_at node site p v bag x).outcome
done_at_answers nodes rows p job own bag site a v g node x b can allowed goes step = go (node.0 == site.node.0) refl
  where
    chosen : Bool → Answered
    chosen here = if here then done_by p v bag x else answered (outcome.Away node) bag

    go : (here : Bool) → (node.0 == site.node.0) ≡ here → IsAnswer nodes rows p job site bag (chosen here).bag (chosen here).outcome
    go true e = step (goes ∙ ap Some (same_node node site.node (eqb-true _ _ e)))
    go false e = (
      inside nodes job v.loc node a.goes (a.placed v b.vproc) goes,
      refl,
      record {
        row = a.row;
        there = a.there;
        able = can;
        allowed = allowed;
        vproc = v;
        held = b.vproc;
        group_held = ap is_some b.group;
        goes = goes;
        elsewhere = eqb-false _ _ e;
      },
    )
