use Rattle.std.proofs.Common.{ap}
use Rattle.vproc_record.specs.Vprocs.{without_child}
use Rattle.decide_law.proofs.Tables.{lent, not_lent}
use Rattle.ops_exit_wait.proofs.taking.drop_child.Goals as goal

pub returns-in-Some : goal.returns-in-Some
returns-in-Some c =
    ap (λ vs. record c.args.bag.now { vprocs = vs }) (lent c.args.pid (λ v. without_child v c.args.child) c.args.bag.now.vprocs c.in-Some.v.now _ c.record_mut.ensures.rising c.in-Some.ensures.value c.drop_child.ensures.dropped)

pub returns-in_default : goal.returns-in_default
returns-in_default c = ap (λ vs. record c.args.bag.now { vprocs = vs }) (not_lent c.args.pid (λ v. without_child v c.args.child) c.args.bag.now.vprocs c.record_mut.ensures.rising c.requires c.in_default.ensures.value)
