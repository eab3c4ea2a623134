use Rattle.std.proofs.Common.{◌≡◌, length}
use Rattle.std.specs.Prelude.{map}
use Rattle.record_bag.specs.Bags.{named_group}
use Rattle.node_state.specs.Returns.{all_given_back}
use Rattle.node_state.proofs.state.State.give_back_groups.Given as goal

abbrev pub invariant-loop-pid : goal.invariant-loop-pid
invariant-loop-pid l = all_given_back l.self (map named_group l.groups) ≡ all_given_back l.initial.self (map named_group l.initial.groups)

abbrev pub decreases-loop-pid : goal.decreases-loop-pid
decreases-loop-pid l = length l.groups
