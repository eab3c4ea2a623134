use Rattle.std.proofs.Common.{◌≤◌, replicate}
use Rattle.cluster_state.specs.Run.{ByRule}
use Rattle.cluster_core.specs.MethodReached.{IsReached, PlaysOn}
use Rattle.cluster_core.proofs.playing.play_by_rule.Given as goal

abbrev pub invariant-loop-done : goal.invariant-loop-done
invariant-loop-done g l = record {
  within : l.done ≤ l.count;
  played : (at : IsReached g.O.OpVector.fits g.O.OpVector.answer l.world l.initial.places.items) → PlaysOn g.O.OpVector.answer l.world at.shown (replicate l.done ByRule) l.initial.log l.log l.places.items;
}
