use Rattle.std.proofs.Common.{sym}
use Rattle.unix_ops.proofs.Dispatch.{whole, base_there, event_whole}
use Rattle.unix_ops.proofs.vector.decide.Goals as goal

pub first_event-requires-clause-base : goal.first_event-requires-clause-base
first_event-requires-clause-base c = base_there c.args.pid c.args.job.now c.args.own.now c.args.bag.now c.args.site c.requires c.in-Some.carried (sym c.in-Some.ensures)

pub happen-requires-clause-base : goal.happen-requires-clause-base
happen-requires-clause-base c = base_there c.args.pid c.args.job.now c.args.own.now c.args.bag.now c.args.site c.requires c.in-Some.carried (sym c.in-Some.ensures)

pub do_job-requires-clause-base : goal.do_job-requires-clause-base
do_job-requires-clause-base c = base_there c.args.pid c.args.job.now c.args.own.now c.args.bag.now c.args.site c.requires c.in-Some.carried (sym c.in-Some.ensures)

pub returns-in-Some-first_event-clause-answer : goal.returns-in-Some-first_event-clause-answer
returns-in-Some-first_event-clause-answer c =
    let b = base_there c.args.pid c.args.job.now c.args.own.now c.args.bag.now c.args.site c.requires c.in-Some.carried (sym c.in-Some.ensures) in
    whole c.happen.result c.happen.new.bag _ _ (event_whole c.args.pid c.args.job.now c.args.own.now c.args.bag.now c.args.site c.in-Some-first_event.event b (sym (c.in-Some-first_event.ensures b.vproc b.group b.vproc_is b.group_is)))
    (c.happen.ensures.answer b.vproc b.group b.vproc_is b.group_is)
