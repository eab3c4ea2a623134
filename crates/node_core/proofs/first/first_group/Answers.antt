use Rattle.node_core.proofs.FirstLaws.{first-absent-at}
use Rattle.node_core.proofs.first.first_group.Goals as goal

pub add-requires : goal.add-requires
add-requires c = first-absent-at c.args.leader c.args.all.now c.loop-led.members c.loop-led.led-index _ c.requires c.loop-led-test.true c.loop-led.invariant c.if-led-leader.true
