use Rattle.std.proofs.Common.{◌≡◌, drop}
use Rattle.std.specs.Prelude.{flat_map}
use Rattle.decide_law.specs.Footprints.{with_group}
use Rattle.decide_law.specs.MethodNeeds.{wanted}
use Rattle.ops_ending.proofs.end_names.want_children.Given as goal

abbrev pub invariant-loop-child : goal.invariant-loop-child
invariant-loop-child l = wanted l.bag (flat_map (with_group l.bag) (drop l.child-index l.children)) l.names ≡ wanted l.bag (flat_map (with_group l.bag) l.children) l.initial.names
