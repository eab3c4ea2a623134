use Rattle.std.proofs.Common.{◌∙◌, refl, ap}
use Rattle.unix_calls.specs.declared.Call.TheVariants.{Mask}
use Rattle.unix_calls.specs.declared.Reply.TheVariants.{Set}
use Rattle.signal_state.specs.Signals.{Signals}
use Rattle.signal_state.specs.Sig.{with_mask}
use Rattle.signal_state.specs.declared.Own.{Own}
use Rattle.decide_law.specs.Effects.{folded}
use Rattle.decide_law.proofs.RoundParts.{signals_done}
use Rattle.ops_signal.specs.Decide.{effect_of}
use Rattle.ops_signal.proofs.settings.decide_mask.Goals as goal

pub returns : goal.returns
returns c =
    let b = c.requires in
    let taken = c.settle_in-group.ensures.own b.vproc b.group b.vproc_is b.group_is in
    signals_done (Mask c.args.mask) (effect_of (Mask c.args.mask)) (Set (folded c.args.own.now b.vproc b.group).sig.mask) (with_mask (folded c.args.own.now b.vproc b.group).sig c.args.mask) c.args.pid c.settle_in-group.result c.args.own.now c.args.bag.now _ _ b _ _ _ refl refl
    (c.settle_in-group.ensures.group b.vproc b.vproc_is) (c.settle_in-group.ensures.bag b.vproc b.vproc_is) c.finish.ensures.bag c.finish.ensures.outcome
    (ap Set (c.set_mask-before.ensures.old ∙ ap (λ (x : Own). x.sig.mask) taken))
    (ap (λ (s : Signals). record { sig = s; taken = c.settle_in-group.new.own.taken }) c.set_mask-before.ensures.new ∙ ap (λ (x : Own). record { sig = with_mask x.sig c.args.mask; taken = x.taken }) taken)
