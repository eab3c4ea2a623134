use Rattle.std.proofs.Common.{◌-◌, ℕ}
use Rattle.std.specs.Prelude.{sum_by}
use Rattle.cluster_core.specs.RunOn.{most_turns}
use Rattle.cluster_core.specs.MethodReached.{IsReached}
use Rattle.cluster_core.specs.MethodGoingOn.{IsTally, IsGoing}
use Rattle.cluster_core.proofs.running_on.go_on.Given as goal

abbrev pub invariant-loop-this : goal.invariant-loop-this
invariant-loop-this g l = record {
  tally : IsTally l.world.nodes l.log.steps.items l.made.items;
  going : (at : IsReached g.O.OpVector.fits g.O.OpVector.answer l.world l.initial.places.items) → IsGoing g.O.OpVector.answer l.world at.shown l.initial.log l.log l.places.items;
}

abbrev pub decreases-loop-this : goal.decreases-loop-this
decreases-loop-this g l = sum_by (λ (m : ℕ). most_turns - m) l.made.items
