use Rattle.std.proofs.Common.{◌≡◌, take}
use Rattle.std.specs.Prelude.{flat_map}
use Rattle.decide_law.specs.Footprints.{with_living_group}
use Rattle.decide_law.specs.MethodNeeds.{wanted}
use Rattle.decide_law.proofs.needs.want_living_children.Given as goal

abbrev pub invariant-loop-child : goal.invariant-loop-child
invariant-loop-child l = l.names ≡ wanted l.bag (flat_map (with_living_group l.bag) (take l.child-index l.children)) l.initial.names
