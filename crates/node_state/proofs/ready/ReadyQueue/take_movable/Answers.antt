use Rattle.std.proofs.Common.{◌∙◌, ◌++◌, sym}
use Rattle.node_state.proofs.QueueLaws.{movable-less}
use Rattle.node_state.proofs.ready.ReadyQueue.take_movable.Goals as goal

pub invariant_of-self-then-is_some : goal.invariant_of-self-then-is_some
invariant_of-self-then-is_some c = (
  c.in_ok-image.ensures.passed,
  c.in_ok-image.ensures.counted,
  c.saturating_sub-self-inside.ensures
      ∙ movable-less (c.self.inside.passed ++ c.self.inside.others) (c.take_movable.new.passed ++ c.take_movable.new.others) c.in_ok-image.image c.self.inside.movable c.in_ok-image.ensures.first c.in_ok-image.ensures.rest
      (sym c.is_some.ensures ∙ c.if-is_some.true) c.self.invariant.2,
)
