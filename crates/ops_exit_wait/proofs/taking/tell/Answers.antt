use Rattle.std.proofs.Common.{◌∙◌, sym, ap}
use Rattle.decide_law.specs.Effects.{changed}
use Rattle.decide_law.proofs.PutBack.{same_bag}
use Rattle.ops_exit_wait.specs.declared.findings.Found.{Found}
use Rattle.ops_exit_wait.specs.MethodWaitpid.{vprocs_by, groups_by}
use Rattle.ops_exit_wait.proofs.TellCode.{change_whole}
use Rattle.ops_exit_wait.proofs.taking.tell.Goals as goal

pub returns-in-NoChild : goal.returns-in-NoChild
returns-in-NoChild c = sym (ap (λ (f : Found). changed (vprocs_by c.args.pid f) (groups_by f) c.args.bag.now) c.in-NoChild.is ∙ same_bag c.args.bag.now)

pub returns-in-Nothing : goal.returns-in-Nothing
returns-in-Nothing c = sym (ap (λ (f : Found). changed (vprocs_by c.args.pid f) (groups_by f) c.args.bag.now) c.in-Nothing.is ∙ same_bag c.args.bag.now)

pub returns-in-Change : goal.returns-in-Change
returns-in-Change c = change_whole c.in-Change.child c.args.bag.now _ c.forget_change.ensures ∙ sym (ap (λ (f : Found). changed (vprocs_by c.args.pid f) (groups_by f) c.args.bag.now) c.in-Change.is)
