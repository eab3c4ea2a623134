use Rattle.std.proofs.Common.{◌≡◌, ◌++◌, None, length}
use Rattle.node_state.specs.Ready.{first_movable}
use Rattle.node_state.specs.Counts.{IsCounted}
use Rattle.node_state.proofs.ready.take_movable.Given as goal

abbrev pub invariant-loop-waiting : goal.invariant-loop-waiting
invariant-loop-waiting l = record {
  passed : first_movable l.passed ≡ None;
  counted : IsCounted l.counts (l.passed ++ l.others);
  queue : l.passed ++ l.others ≡ l.initial.passed ++ l.initial.others;
}

abbrev pub decreases-loop-waiting : goal.decreases-loop-waiting
decreases-loop-waiting l = length l.others
