use Rattle.std.proofs.Common.{◌≡◌, drop}
use Rattle.cluster_core.specs.MethodArrivals.{first_heard}
use Rattle.cluster_core.proofs.arrivals.first_with.Given as goal

abbrev pub invariant-loop-wire : goal.invariant-loop-wire
invariant-loop-wire l = record {
  counted : l.from ≡ l.wire-index;
  found : first_heard l.wire-index (drop l.wire-index l.fn.wires) ≡ first_heard 0 l.fn.wires;
}
