use Rattle.std.proofs.Common.{◌∙◌, ap, Some, None, []}
use Rattle.unix_calls.specs.declared.Phase.TheVariants as phase
use Rattle.signal_state.specs.declared.Own.{Own}
use Rattle.record_bag.specs.declared.vector.Outcome.TheVariants as outcome
use Rattle.decide_law.specs.Effects.{folded}
use Rattle.decide_law.proofs.RoundParts.{parts_whole}
use Rattle.migrate_core.specs.Moves.{arrival}
use Rattle.migrate_core.proofs.moves.arrive.Goals as goal

pub returns : goal.returns
returns c = λ v g ev eg.
    parts_whole (arrival c.args.entry (folded c.args.own.now v g).sig c.args.pid c.args.site) c.args.pid c.settle_in-group.result v c.finish.result c.args.bag.now _ _ _ (c.settle_in-group.ensures.group v ev) (c.settle_in-group.ensures.bag v ev) c.place.ensures.bag c.finish.ensures.bag
    (c.finish.ensures.outcome ∙ ap (λ (x : Own). outcome.Done (record { entry = Some c.args.entry; own = x; phase = phase.Ready; born = None; nudges = [] })) (c.settle_in-group.ensures.own v g ev eg))
