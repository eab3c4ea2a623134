use Rattle.std.proofs.Common.{◌∙◌, sym, ap}
use Rattle.list_laws.proofs.Filters.{some_same}
use Rattle.ops_fork.proofs.ForkCode.{on_err, forked_left, same_records}
use Rattle.ops_fork.proofs.fork.fork_in.Goals as goal

pub returns-in_err-added-clause-err : goal.returns-in_err-added-clause-err
returns-in_err-added-clause-err c =
    on_err c.from_residual.result _
    (same_records c.args.bag.now c.args.pid c.in-Some.v _ c.in-Some-replace.g _ _ _ _ _ c.both_rise.ensures.vprocs c.both_rise.ensures.groups c.in-Some.ensures.before c.in-Some-replace.ensures.before
    c.in-Some.ensures.after c.in-Some-replace.ensures.after c.replace-4.ensures.after c.replace-3.ensures.after c.in_err-added.ensures.vproc_err c.in_err-added.ensures.group_err)

pub returns-clause-bag : goal.returns-clause-bag
returns-clause-bag c = λ u h here at.
    let base = c.requires.base in
    forked_left c.args.bag.now c.args.pid c.in-Some.v _ c.in-Some-replace.g _ _ _ _ _ c.both_rise.ensures.vprocs c.both_rise.ensures.groups c.in-Some.ensures.before c.in-Some-replace.ensures.before
    c.in-Some.ensures.after c.in-Some-replace.ensures.after c.replace-4.ensures.after c.replace-3.ensures.after c.args.own.now.sig c.args.site u here
    (ap (λ v. v.pid) (some_same _ _ (some_same _ _ (sym c.in-Some.ensures.before ∙ base.vproc_is))) ∙ base.pid) c.in_ok-added.ensures.vproc c.in_ok-added.ensures.group
