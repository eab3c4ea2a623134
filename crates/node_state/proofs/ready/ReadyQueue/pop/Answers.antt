use Rattle.std.proofs.Common.{◌∙◌, ◌++◌, ap}
use Rattle.node_state.specs.Ready.{movable_count}
use Rattle.node_state.proofs.CountLaws.{left-counted}
use Rattle.node_state.proofs.QueueLaws.{movable-cons}
use Rattle.node_state.proofs.ready.ReadyQueue.pop.Goals as goal

pub invariant_of-self-2 : goal.invariant_of-self-2
invariant_of-self-2 c = (
  c.pop_first.ensures.passed,
  left-counted (c.self.inside.passed ++ c.self.inside.others) (c.pop_first.new.passed ++ c.pop_first.new.others) c.self.inside.counts c.leave.new.counts c.in_ok-waiting.waiting
      c.in_ok-waiting.ensures.some c.leave.ensures c.self.invariant.1,
  c.with_one_less-self-inside.ensures (movable_count (c.pop_first.new.passed ++ c.pop_first.new.others))
      (c.self.invariant.2 ∙ (ap movable_count c.in_ok-waiting.ensures.some ∙ movable-cons c.in_ok-waiting.waiting (c.pop_first.new.passed ++ c.pop_first.new.others))),
)
