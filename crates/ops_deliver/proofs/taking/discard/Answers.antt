use Rattle.std.proofs.Common.{◌∙◌, sym}
use Rattle.unix_calls.specs.declared.Event.TheVariants.{Discarded}
use Rattle.decide_law.specs.Footprints.{event_footprint}
use Rattle.decide_law.proofs.NeedParts.{all_held}
use Rattle.ops_deliver.proofs.taking.discard.Goals as goal

pub returns-clause-answer : goal.returns-clause-answer
returns-clause-answer c = λ v g ev eg.
    c.take.ensures v g ev eg ∙ all_held (event_footprint c.args.bag.now v (Discarded c.args.signal)) _ c.args.pid v c.args.bag.now _ (c.in_ok-names.ensures v ev) (sym c.is_none.ensures ∙ c.if-not-is_none.false)
