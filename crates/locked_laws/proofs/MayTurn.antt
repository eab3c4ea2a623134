-- a locked node may make its next turn, and what it sends goes to nodes of the world
use Rattle.std.proofs.Common.{ap, ◌∙◌, subst}
use Rattle.pasts.specs.Pasts.{steps_of}
use Rattle.node_state.specs.declared.State.{State}
use Rattle.node_state.specs.Wires.{one_taken}
use Rattle.node_core.specs.Turns.{led, going, pushed, arriving, came}
use Rattle.node_core.specs.Conditions.{CanSetOut}
use Rattle.cluster_laws.specs.Runs.{IsRun}
use Rattle.cluster_laws.specs.Turns.{question_fits, CanTurn, SendsToNodes}
use Rattle.cluster_laws.proofs.Simulation.{turns_can_be_made, turns_send_to_nodes}
use Rattle.locked_laws.specs.MayTurn.{NodesMayTurn}
use Rattle.locked_laws.proofs.Locked.{letter_first}

pub node_may_turn : NodesMayTurn
node_may_turn world ask seen k s list valid lawful inside is = record {
  goes = subst (λ (t : State). CanSetOut question_fits world ask (going world t)) is.state (can.goes k inside);
  pushes = λ to there. subst (λ (t : State). CanSetOut question_fits world ask (pushed t to)) is.state (can.pushes k to inside there);
  takes = λ from m there letter. let w = letter_first world ask seen k from s list m there is letter in subst (λ (t : State). CanSetOut question_fits world ask (arriving (one_taken t from) m.message)) is.state (can.takes k from m w.0 inside there w.1);
  going_sends = λ n a e. sends.going_sends n k a inside (ap (λ (t : State). led world ask n (going world t)) is.state ∙ e);
  taken_sends = λ n from m a there letter e. let w = letter_first world ask seen k from s list m there is letter in sends.taken_sends n k from m w.0 a inside there w.1 (ap (λ (t : State). came world ask n (one_taken t from) m.message) is.state ∙ e);
}
  where
    run : IsRun world ask (steps_of seen) is.cluster is.lines
    run = record { valid = valid; lawful = lawful; ran = is.ran }

    can : CanTurn world ask is.cluster
    can = turns_can_be_made world ask (steps_of seen) is.cluster is.lines run

    sends : SendsToNodes world ask is.cluster
    sends = turns_send_to_nodes world ask (steps_of seen) is.cluster is.lines run
