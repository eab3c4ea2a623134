use Rattle.std.proofs.Common.{◌∙◌, refl, ap}
use Rattle.unix_calls.specs.declared.Call.TheVariants.{Pending}
use Rattle.unix_calls.specs.declared.Reply.TheVariants.{Set}
use Rattle.signal_state.specs.declared.Own.{Own}
use Rattle.decide_law.specs.Effects.{folded}
use Rattle.decide_law.proofs.RoundParts.{signals_done}
use Rattle.ops_signal.specs.Decide.{effect_of}
use Rattle.ops_signal.proofs.settings.decide_pending.Goals as goal

pub returns : goal.returns
returns c =
    let b = c.requires in
    let taken = c.settle_in-group.ensures.own b.vproc b.group b.vproc_is b.group_is in
    signals_done Pending (effect_of Pending) (Set (folded c.args.own.now b.vproc b.group).sig.pending) (folded c.args.own.now b.vproc b.group).sig c.args.pid c.settle_in-group.result c.args.own.now c.args.bag.now _ _ b _ _ _ refl refl
    (c.settle_in-group.ensures.group b.vproc b.vproc_is) (c.settle_in-group.ensures.bag b.vproc b.vproc_is) c.finish.ensures.bag c.finish.ensures.outcome (ap Set (c.pending_of.ensures ∙ ap (λ (x : Own). x.sig.pending) taken)) taken
