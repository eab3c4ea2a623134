use Rattle.std.proofs.Common.{◌≡◌, sym, ap, subst, IfOk}
use Rattle.unix_calls.specs.declared.Event.{Event}
use Rattle.record_bag.specs.Decisions.{answered}
use Rattle.decide_law.proofs.RoundParts.{base_answer}
use Rattle.ops_ending.specs.Laws.{killed_answer}
use Rattle.ops_deliver.specs.Events.{EventEffect, event_answer}
use Rattle.ops_vector.specs.Answer.{event_effect}
use Rattle.unix_ops.proofs.Dispatch.{whole, few_stopped, is_delivered, delivered_effect}
use Rattle.unix_ops.proofs.happening.happen.Goals as goal

pub deliver_part-requires : goal.deliver_part-requires
deliver_part-requires c = record { base = c.requires.base; part = is_delivered c.args.event c.in_default.not-EndedBy c.in_default.not-Moved; few = λ v g ev eg. few_stopped c.args.pid c.args.own.now c.args.bag.now c.requires.fits v.group g eg }

pub returns-in-EndedBy-clause-answer : goal.returns-in-EndedBy-clause-answer
returns-in-EndedBy-clause-answer c = λ v g ev eg.
    subst (λ (e : Event). IfOk c.decide_killed.result (λ outcome. answered outcome c.decide_killed.new.bag ≡ event_answer e (event_effect e) c.args.own.now c.args.bag.now c.args.pid v g)) (sym c.in-EndedBy.is)
    (whole c.decide_killed.result c.decide_killed.new.bag _ _ (base_answer (killed_answer c.in-EndedBy.signal c.args.own.now c.args.bag.now c.args.pid) c.args.pid c.args.bag.now v g ev eg) c.decide_killed.ensures.answer)

pub returns-in_default : goal.returns-in_default
returns-in_default c = record {
  answer = λ v g ev eg. whole c.deliver_part.result c.deliver_part.new.bag _ _ (ap (λ (x : EventEffect). event_answer c.args.event x c.args.own.now c.args.bag.now c.args.pid v g) (delivered_effect c.args.event (is_delivered c.args.event c.in_default.not-EndedBy c.in_default.not-Moved))) (c.deliver_part.ensures.answer v g ev eg);
  err = c.deliver_part.ensures.err;
}
