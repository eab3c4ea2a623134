use Rattle.std.proofs.Common.{List, sym, subst}
use Rattle.unix_calls.specs.declared.Turn.{Turn}
use Rattle.unix_calls.specs.declared.World.{World}
use Rattle.cluster_state.specs.Possible.{Possible}
use Rattle.ops_vector.specs.Answer.{unix_answer}
use Rattle.ops_vector.proofs.Lawful.{is_vector}
use Rattle.node_workers.proofs.Served.{served}
use Rattle.node_workers.proofs.serving.serve_logged.Goals as goal

pub run_on-requires-clause-decides : goal.run_on-requires-clause-decides
run_on-requires-clause-decides g c = record { lawful = is_vector c.args.world.now.nodes; asked = λ pid job own bag site h. h }

pub run_on-requires-clause-possible : goal.run_on-requires-clause-possible
run_on-requires-clause-possible g c =
    subst (λ (l : List Turn). Possible c.args.world.now unix_answer l) (sym c.as_slice-2.ensures.value)
    (subst (λ (w : World). Possible w unix_answer c.in_ok-steps.steps.items) (sym c.requires.world) c.in_ok-steps.ensures.possible)

pub returns : goal.returns
returns g c =
    served c.args.world.now c.as_slice-2.result.now
    (subst (λ (l : List Turn). Possible c.args.world.now unix_answer l) (sym c.as_slice-2.ensures.value)
    (subst (λ (w : World). Possible w unix_answer c.in_ok-steps.steps.items) (sym c.requires.world) c.in_ok-steps.ensures.possible))
    c.run_on.result c.run_on.ensures
