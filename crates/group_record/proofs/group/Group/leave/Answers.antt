use Rattle.std.proofs.Common.{ap, ◌∙◌}
use Rattle.group_record.specs.Log.{log_part}
use Rattle.group_record.proofs.LogLaws.{log_part-left_other}
use Rattle.group_record.proofs.group.Group.leave.Goals as goal

pub returns-clause-others : goal.returns-clause-others
returns-clause-others c = λ q u ne.
    ap (λ ms. log_part q u (record c.args.self.now { members = ms })) c.remove.ensures.left ∙ log_part-left_other c.args.self.now c.args.p q u ne
