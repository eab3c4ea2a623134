use Rattle.std.proofs.Common.{◌∙◌, ◌++◌, ap, sym}
use Rattle.node_state.specs.Ready.{movable_count}
use Rattle.node_state.proofs.CountLaws.{joined-counted}
use Rattle.node_state.proofs.QueueLaws.{movable-more}
use Rattle.node_state.proofs.ready.ReadyQueue.push.Goals as goal

pub invariant_of-self-in_err-join : goal.invariant_of-self-in_err-join
invariant_of-self-in_err-join c = (
  c.self.invariant.0,
  joined-counted c.join.result c.self.inside.passed c.self.inside.others c.join.new.queue c.self.inside.counts c.count.new.counts c.join.new.counts c.args.waiting
      c.in_ok-count.ensures.ok c.join.ensures.ok c.join.ensures.err c.join.ensures.counted c.join.ensures.uncounted c.self.invariant.1,
  c.self.invariant.2 ∙ ap (λ q. movable_count (c.self.inside.passed ++ q)) (sym c.in_err-join.ensures.err),
)

pub invariant_of-self-2 : goal.invariant_of-self-2
invariant_of-self-2 c = (
  c.self.invariant.0,
  joined-counted c.join.result c.self.inside.passed c.self.inside.others c.join.new.queue c.self.inside.counts c.count.new.counts c.join.new.counts c.args.waiting
      c.in_ok-count.ensures.ok c.join.ensures.ok c.join.ensures.err c.join.ensures.counted c.join.ensures.uncounted c.self.invariant.1,
  c.in_ok-movable.ensures
      ∙ (movable-more c.self.inside.passed c.self.inside.others c.args.waiting c.self.inside.movable c.self.invariant.2
      ∙ ap (λ q. movable_count (c.self.inside.passed ++ q)) (sym c.in_ok-join.ensures.ok)),
)
