use Rattle.std.proofs.Common.{◌∙◌, IsSome, refl, ap, sym, subst}
use Rattle.decide_law.specs.Effects.{emptied, settled_in}
use Rattle.decide_law.proofs.Unsettled.{fitting_distinct}
use Rattle.ops_ending.proofs.EndCode.{settled_counted, left_held, left_group_within, settled_record, end_done}
use Rattle.ops_ending.proofs.ending.end_on.Goals as goal

pub leave_at-requires-clause-there : goal.leave_at-requires-clause-there
leave_at-requires-clause-there c =
    let b = c.requires.base in
    subst IsSome (sym (settled_record c.args.pid c.args.bag.now c.settle_keeping-kept.new.bag b.vproc b.vproc_is (c.settle_keeping-kept.ensures.bag b.vproc b.vproc_is))) refl

pub leave_at-requires-clause-counted : goal.leave_at-requires-clause-counted
leave_at-requires-clause-counted c =
    let b = c.requires.base in
    settled_counted c.args.pid b.vproc.group c.args.own.now c.args.bag.now c.settle_keeping-kept.new.bag c.requires.fits (c.settle_keeping-kept.ensures.bag b.vproc b.vproc_is)

pub finish_with-requires-clause-held : goal.finish_with-requires-clause-held
finish_with-requires-clause-held c =
    let b = c.requires.base in
    left_held c.settle_keeping-kept.new.bag c.leave_at.new.bag (emptied b.vproc) c.args.status c.in-Ok.nudges c.settle_keeping-kept.result.group
    (c.in-Ok.ensures.ok (emptied b.vproc) (settled_record c.args.pid c.args.bag.now c.settle_keeping-kept.new.bag b.vproc b.vproc_is (c.settle_keeping-kept.ensures.bag b.vproc b.vproc_is))) c.settle_keeping-kept.ensures.held

pub finish_with-requires-clause-within : goal.finish_with-requires-clause-within
finish_with-requires-clause-within c =
    let b = c.requires.base in
    left_group_within c.settle_keeping-kept.new.bag c.leave_at.new.bag (emptied b.vproc) c.args.status c.in-Ok.nudges c.settle_keeping-kept.result.group
    (c.in-Ok.ensures.ok (emptied b.vproc) (settled_record c.args.pid c.args.bag.now c.settle_keeping-kept.new.bag b.vproc b.vproc_is (c.settle_keeping-kept.ensures.bag b.vproc b.vproc_is))) c.settle_keeping-kept.ensures.within

pub returns-in-Ok-clause-ok : goal.returns-in-Ok-clause-ok
returns-in-Ok-clause-ok c = λ v g ev eg.
    end_done c.args.entry c.args.status c.args.pid c.settle_keeping-kept.result.group c.args.own.now c.settle_keeping-kept.new.own c.args.bag.now c.settle_keeping-kept.new.bag c.leave_at.new.bag _ v g c.in-Ok.nudges _
    (c.settle_keeping-kept.ensures.group v ev) (c.settle_keeping-kept.ensures.bag v ev) (c.settle_keeping-kept.ensures.own v g ev eg)
    (c.in-Ok.ensures.ok (emptied v) (settled_record c.args.pid c.args.bag.now c.settle_keeping-kept.new.bag v ev (c.settle_keeping-kept.ensures.bag v ev))) c.finish_with.ensures.bag c.finish_with.ensures.outcome

pub returns-in-Err-clause-err : goal.returns-in-Err-clause-err
returns-in-Err-clause-err c =
    let b = c.requires.base in
    c.unsettle.ensures c.args.bag.now
    (c.settle_keeping-kept.ensures.kept b.vproc b.group b.vproc_is b.group_is (fitting_distinct c.args.pid c.args.own.now c.args.bag.now b.vproc.group b.group c.requires.fits b.group_is))
    (c.in-Err.ensures.err ∙ c.settle_keeping-kept.ensures.bag b.vproc b.vproc_is ∙ ap (λ id. settled_in c.args.pid id c.args.bag.now) (sym (c.settle_keeping-kept.ensures.group b.vproc b.vproc_is)))
