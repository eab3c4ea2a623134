use Rattle.unix_calls.specs.declared.Job.TheVariants.{Ask}
use Rattle.unix_ops.proofs.Dispatch.{whole, put_names, put_fresh, exit_wait_part}
use Rattle.unix_ops.proofs.work.answer_call.Goals as goal

pub decide_part-requires-clause-names : goal.decide_part-requires-clause-names
decide_part-requires-clause-names c = put_names c.args.pid c.args.call.now c.args.at c.args.own.now c.args.bag.now c.args.site c.requires.put

pub decide_part-requires-in-ExitWait-clause-names : goal.decide_part-requires-in-ExitWait-clause-names
decide_part-requires-in-ExitWait-clause-names c = put_names c.args.pid c.args.call.now c.args.at c.args.own.now c.args.bag.now c.args.site c.requires.put

pub decide_fork-requires-clause-fresh : goal.decide_fork-requires-clause-fresh
decide_fork-requires-clause-fresh c = λ v g ev eg. put_fresh c.args.pid (Ask c.args.call.now c.args.at) c.args.own.now c.args.bag.now c.args.site c.requires.put v.group g eg

pub returns-in-ExitWait-clause-answer : goal.returns-in-ExitWait-clause-answer
returns-in-ExitWait-clause-answer c = whole c.decide_part-in-ExitWait.result c.decide_part-in-ExitWait.new.bag _ _ (exit_wait_part c.args.at c.args.own.now c.args.bag.now c.args.site c.args.pid c.args.call.now c.in-ExitWait.ensures) c.decide_part-in-ExitWait.ensures.answer

pub decide_part-requires-in-Signals-clause-names : goal.decide_part-requires-in-Signals-clause-names
decide_part-requires-in-Signals-clause-names c = put_names c.args.pid c.args.call.now c.args.at c.args.own.now c.args.bag.now c.args.site c.requires.put
