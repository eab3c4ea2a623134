use Rattle.std.proofs.Common.{ap, sym, ◌∙◌, ◌++◌, nat_lt}
use Rattle.node_state.specs.Ready.{has_image}
use Rattle.node_state.proofs.CountLaws.{any-counted}
use Rattle.node_state.proofs.ready.ReadyQueue.has_image.Goals as goal

pub returns : goal.returns
returns c =
    ap (λ k. nat_lt 0 k) (c.count_at.ensures ∙ c.self.invariant.1 c.args.pid)
    ∙ (sym (any-counted c.args.pid (c.self.inside.passed ++ c.self.inside.others)) ∙ ap (has_image c.args.pid) c.self.view_is)
