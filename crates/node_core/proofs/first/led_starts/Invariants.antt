use Rattle.std.proofs.Common.{◌≡◌, [], drop}
use Rattle.node_core.specs.First.{all_led}
use Rattle.node_core.proofs.first.led_starts.Given as goal

abbrev pub invariant-loop-start : goal.invariant-loop-start
invariant-loop-start l = all_led l.all (drop l.start-index l.starts) ≡ all_led [] l.starts
