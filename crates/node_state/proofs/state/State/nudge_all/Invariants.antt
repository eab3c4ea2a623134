use Rattle.std.proofs.Common.{◌≡◌, drop}
use Rattle.node_state.specs.Returns.{all_nudged}
use Rattle.node_state.proofs.state.State.nudge_all.Given as goal

abbrev pub invariant-loop-pid : goal.invariant-loop-pid
invariant-loop-pid l = all_nudged l.self (drop l.pid-index l.pids) ≡ all_nudged l.initial.self l.initial.pids
