use Rattle.std.proofs.Common.{ap, None}
use Rattle.decide_law.proofs.Tables.{replaced}
use Rattle.ops_exit_wait.proofs.taking.forget.Goals as goal

pub returns : goal.returns
returns c = ap (λ vs. record c.args.bag.now { vprocs = vs }) (replaced c.args.pid (λ x. None) c.args.bag.now.vprocs _ _ c.both_rise.ensures.vprocs c.replace.ensures.before c.replace.ensures.after)
