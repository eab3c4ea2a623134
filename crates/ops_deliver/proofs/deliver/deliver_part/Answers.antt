use Rattle.std.proofs.Common.{◌≡◌, sym, subst, IfOk}
use Rattle.unix_calls.specs.declared.Event.{Event}
use Rattle.record_bag.specs.Decisions.{answered}
use Rattle.ops_deliver.specs.Decide.{effect_of}
use Rattle.ops_deliver.specs.Events.{event_answer}
use Rattle.ops_deliver.proofs.deliver.deliver_part.Goals as goal

pub returns-in-Discarded-clause-answer : goal.returns-in-Discarded-clause-answer
returns-in-Discarded-clause-answer c = λ v g ev eg.
    subst (λ (e : Event). IfOk c.discard.result (λ outcome. answered outcome c.discard.new.bag ≡ event_answer e (effect_of e) c.args.own.now c.args.bag.now c.args.pid v g)) (sym c.in-Discarded.is) (c.discard.ensures.answer v g ev eg)

pub returns-in-StoppedBy-clause-answer : goal.returns-in-StoppedBy-clause-answer
returns-in-StoppedBy-clause-answer c = λ v g ev eg.
    subst (λ (e : Event). IfOk c.stop.result (λ outcome. answered outcome c.stop.new.bag ≡ event_answer e (effect_of e) c.args.own.now c.args.bag.now c.args.pid v g)) (sym c.in-StoppedBy.is) (c.stop.ensures.answer v g ev eg)

pub returns-in-Continued-clause-answer : goal.returns-in-Continued-clause-answer
returns-in-Continued-clause-answer c = λ v g ev eg.
    subst (λ (e : Event). IfOk c.go_on.result (λ outcome. answered outcome c.go_on.new.bag ≡ event_answer e (effect_of e) c.args.own.now c.args.bag.now c.args.pid v g)) (sym c.in-Continued.is) (c.go_on.ensures.answer v g ev eg)
