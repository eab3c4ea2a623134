use Rattle.std.proofs.Common.{ap, ◌∙◌}
use Rattle.group_record.specs.Groups.{settled, trimmed}
use Rattle.ops_fork.proofs.ForkCode.{settled-joined_other}
use Rattle.ops_fork.proofs.child.join_settled.Goals as goal

pub returns-clause-ok : goal.returns-clause-ok
returns-clause-ok c =
    c.trim.ensures.trimmed
    ∙ ap trimmed (c.settle.ensures.settled ∙ ap (λ h. settled h c.args.parent) c.in_ok-join.ensures.ok ∙ settled-joined_other c.args.g.now c.args.parent c.args.child c.args.uid)
