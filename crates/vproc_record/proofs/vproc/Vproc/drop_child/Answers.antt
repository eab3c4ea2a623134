use Rattle.std.proofs.Common.{ap, ◌∙◌}
use Rattle.vproc_record.proofs.Without.{without-absent}
use Rattle.vproc_record.proofs.vproc.Vproc.drop_child.Goals as goal

pub returns-clause-absent : goal.returns-clause-absent
returns-clause-absent c = λ none. ap (λ pids. record c.args.self.now { children = pids }) (c.remove.ensures ∙ without-absent c.args.child c.args.self.now.children none)
