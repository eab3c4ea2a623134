use Rattle.std.proofs.Common.{◌≡◌, length}
use Rattle.std.specs.Prelude.{map}
use Rattle.record_bag.specs.Bags.{named_vproc}
use Rattle.node_state.specs.Returns.{all_given_back}
use Rattle.node_state.proofs.state.State.give_back_vprocs.Given as goal

abbrev pub invariant-loop-pid : goal.invariant-loop-pid
invariant-loop-pid l = all_given_back l.self (map named_vproc l.vprocs) ≡ all_given_back l.initial.self (map named_vproc l.initial.vprocs)

abbrev pub decreases-loop-pid : goal.decreases-loop-pid
decreases-loop-pid l = length l.vprocs
