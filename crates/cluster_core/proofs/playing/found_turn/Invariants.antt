use Rattle.std.proofs.Common.{◌≡◌, ◌≤◌, ◌-◌}
use Rattle.cluster_state.specs.Run.{ByRule, numbers_from, turns_from, first_offered, chosen}
use Rattle.cluster_core.specs.MethodReached.{IsReached}
use Rattle.cluster_core.proofs.playing.found_turn.Given as goal

abbrev pub invariant-loop-k : goal.invariant-loop-k
invariant-loop-k g l = record {
  within : l.k ≤ l.world.nodes;
  kept : l.places.items ≡ l.initial.places.items;
  rest : (at : IsReached g.O.OpVector.fits g.O.OpVector.answer l.world l.initial.places.items) →
      chosen l.world.nodes at.shown.cluster ByRule ≡ first_offered l.world.nodes at.shown.cluster (turns_from l.world.nodes (numbers_from l.k (l.world.nodes - l.k)));
}
