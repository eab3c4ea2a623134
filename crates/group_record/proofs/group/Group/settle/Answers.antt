use Rattle.std.proofs.Common.{map, ap, ◌∙◌}
use Rattle.group_record.specs.Members.{begun_at}
use Rattle.group_record.proofs.LogLaws.{log_part-settled_own, log_part-settled_other, within-settled}
use Rattle.group_record.proofs.group.Group.settle.Goals as goal

pub returns-clause-empty_part : goal.returns-clause-empty_part
returns-clause-empty_part c = λ has uid. rw (c.begin_at.ensures ∙ ap (λ n. record c.args.self.now { members = map (begun_at n c.args.p) c.args.self.now.members }) c.len-end.ensures) (log_part-settled_own c.args.self.now c.args.p uid has)

pub returns-clause-others : goal.returns-clause-others
returns-clause-others c = λ q u ne. rw (c.begin_at.ensures ∙ ap (λ n. record c.args.self.now { members = map (begun_at n c.args.p) c.args.self.now.members }) c.len-end.ensures) (log_part-settled_other c.args.self.now c.args.p q u ne)

pub returns-clause-within : goal.returns-clause-within
returns-clause-within c = λ a. rw (c.begin_at.ensures ∙ ap (λ n. record c.args.self.now { members = map (begun_at n c.args.p) c.args.self.now.members }) c.len-end.ensures) (within-settled c.args.self.now c.args.p a)
