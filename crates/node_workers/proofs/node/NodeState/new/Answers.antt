use Rattle.std.proofs.Common.{◌≡◌, ◌<◌, ◌≤◌, ◌^◌, List, [], length, sym, ap, ◌∙◌, subst, arith, Option}
use Rattle.unix_calls.specs.declared.Turn.{Turn}
use Rattle.unix_calls.specs.declared.World.{World}
use Rattle.node_state.specs.declared.State.{State}
use Rattle.node_core.specs.First.{first_state}
use Rattle.ops_vector.specs.Answer.{unix_answer}
use Rattle.commit_log.specs.Passes.{Known}
use Rattle.locked_laws.specs.declared.PlacedTurn.{PlacedTurn}
use Rattle.locked_laws.specs.Locked.{IsNode}
use Rattle.locked_laws.proofs.Locked.{node_first}
use Rattle.node_workers.proofs.node.NodeState.new.Goals as goal

pub invariant_of-result : goal.invariant_of-result
invariant_of-result g c =
    let world = g.W.WorldName.world in
    let id = c.args.id in
    let state = c.in_ok-new.field-0.state in
    let first : first_state world id ≡ state = ap (λ (x : World). first_state x id) (sym c.requires.world) ∙ sym c.in_ok-new.ensures.state in
    record {
      log_is = ap (λ (p : Known Turn). p.log) c.requires.pass;
      node_is = ap (λ (p : Known Turn). p.node) c.requires.pass;
      inside = subst (λ (x : World). id < x.nodes) c.requires.world c.requires.inside;
      few = subst (λ (l : List PlacedTurn). length l ≤ 2 ^ 40) (sym c.new-2.ensures.items) (omega arith);
      runs = λ e. c.in_ok-new.ensures.running;
      is = λ e. subst (λ (seen : List (Option Turn)). IsNode world unix_answer seen id state c.new-2.result.items) (sym (ap (λ (p : Known Turn). p.seen) c.requires.pass))
          (subst (λ (l : List PlacedTurn). IsNode world unix_answer [] id state l) (sym c.new-2.ensures.items)
          (subst (λ (s : State). IsNode world unix_answer [] id s []) first (node_first world unix_answer id)));
    }
