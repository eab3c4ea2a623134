use Rattle.std.proofs.Common.{◌≡◌, [], drop}
use Rattle.node_core.specs.First.{first_slots}
use Rattle.node_core.proofs.first.first_slots.Given as goal

abbrev pub invariant-loop-led : goal.invariant-loop-led
invariant-loop-led l = first_slots l.id l.all l.slots (drop l.led-index l.all) ≡ first_slots l.id l.all (record { vprocs = []; groups = [] }) l.all
