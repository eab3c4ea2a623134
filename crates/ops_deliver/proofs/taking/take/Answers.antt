use Rattle.std.proofs.Common.{◌∙◌, sym, ap, Some, None, []}
use Rattle.unix_calls.specs.declared.Entry.TheVariants.{Happened}
use Rattle.unix_calls.specs.declared.Phase.TheVariants as phase
use Rattle.signal_state.specs.Signals.{Signals}
use Rattle.signal_state.specs.Sig.{delivered}
use Rattle.signal_state.specs.declared.Own.{Own}
use Rattle.record_bag.specs.declared.vector.Outcome.TheVariants as outcome
use Rattle.decide_law.specs.Effects.{folded, settled_in, emptied}
use Rattle.decide_law.proofs.PutBack.{same_bag}
use Rattle.decide_law.proofs.RoundParts.{parts_whole}
use Rattle.ops_deliver.specs.Taken.{take_effect}
use Rattle.ops_deliver.proofs.taking.take.Goals as goal

pub returns : goal.returns
returns c = λ v g ev eg.
    parts_whole (take_effect c.args.event c.args.signal (settled_in c.args.pid v.group c.args.bag.now) (folded c.args.own.now v g).sig c.args.pid (emptied v)) c.args.pid c.settle_in-group.result v c.finish.result c.args.bag.now c.settle_in-group.new.bag c.settle_in-group.new.bag _
    (c.settle_in-group.ensures.group v ev) (c.settle_in-group.ensures.bag v ev) (sym (same_bag c.settle_in-group.new.bag)) c.finish.ensures.bag
    (c.finish.ensures.outcome ∙ ap (λ (x : Own). outcome.Done (record { entry = Some (Happened c.args.pid c.args.event); own = x; phase = phase.Ready; born = None; nudges = [] }))
    (ap (λ (s : Signals). record { sig = s; taken = c.settle_in-group.new.own.taken }) c.deliver.ensures ∙ ap (λ (x : Own). record { sig = delivered x.sig c.args.signal; taken = x.taken }) (c.settle_in-group.ensures.own v g ev eg)))
