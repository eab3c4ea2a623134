use Rattle.std.proofs.Common.{◌≡◌, IsTrue, subst, ◌∙◌, true, false}
use Rattle.node_state.proofs.QueueLaws.{front-empty}
use Rattle.node_state.proofs.ready.ReadyQueue.is_empty.Goals as goal

pub returns-else-is_empty : goal.returns-else-is_empty
returns-else-is_empty c = (
  λ t. let f : false ≡ true = subst IsTrue c.if-is_empty.false t in cc,
  λ e. c.is_empty.ensures.1 (front-empty c.self.inside.passed c.self.inside.others (c.self.view_is ∙ e)),
)
