use Rattle.std.proofs.Common.{◌∙◌, refl, sym, ap, Some, None, []}
use Rattle.std.specs.Option.{option_map}
use Rattle.unix_names.specs.declared.Signal.TheVariants.{Chld}
use Rattle.unix_names.specs.Sets.{has}
use Rattle.unix_calls.specs.declared.Call.TheVariants.{Action}
use Rattle.unix_calls.specs.declared.Reply.TheVariants.{Refused}
use Rattle.unix_calls.specs.declared.Entry.{Entry}
use Rattle.unix_calls.specs.declared.Phase.TheVariants as phase
use Rattle.signal_state.specs.declared.Own.{Own}
use Rattle.record_bag.specs.declared.vector.Outcome.TheVariants as outcome
use Rattle.decide_law.specs.Effects.{folded, only, same, changed}
use Rattle.decide_law.proofs.RoundParts.{signals_done}
use Rattle.ops_signal.specs.Decide.{effect_of}
use Rattle.ops_signal.specs.MethodActions.{telling, acted}
use Rattle.ops_signal.proofs.ActionCode.{refused_effect, action_whole}
use Rattle.ops_signal.proofs.settings.decide_action.Goals as goal

pub returns-in-Some : goal.returns-in-Some
returns-in-Some c =
    let b = c.requires in
    let taken = c.settle_in-group.ensures.own b.vproc b.group b.vproc_is b.group_is in
    signals_done (Action c.args.sig c.args.act) (effect_of (Action c.args.sig c.args.act)) (Refused c.in-Some.refusal) (folded c.args.own.now b.vproc b.group).sig c.args.pid c.settle_in-group.result c.args.own.now c.args.bag.now _ _ b _ (Refused c.in-Some.refusal) c.set_action.new.own refl
    (refused_effect (folded c.args.own.now b.vproc b.group).sig c.args.pid c.args.sig c.args.act c.in-Some.refusal (sym c.in-Some.ensures.refusal)) (c.settle_in-group.ensures.group b.vproc b.vproc_is) (c.settle_in-group.ensures.bag b.vproc b.vproc_is) c.finish.ensures.bag
    (c.finish.ensures.outcome ∙ ap (λ (e : Entry). outcome.Done (record { entry = Some e; own = c.set_action.new.own; phase = phase.Ready; born = None; nudges = [] })) c.called-entry.ensures) refl (c.in-Some.ensures.same refl ∙ taken)

pub returns : goal.returns
returns c =
    let b = c.requires in
    action_whole c.args.pid c.settle_in-group.result c.args.sig c.args.act c.args.own.now c.settle_in-group.new.own c.set_action.new.own c.args.bag.now _ _ _ b _ (sym c.in_default.ensures.refusal) (c.settle_in-group.ensures.group b.vproc b.vproc_is) (c.settle_in-group.ensures.bag b.vproc b.vproc_is)
    (c.settle_in-group.ensures.own b.vproc b.group b.vproc_is b.group_is) c.in_default.ensures.set (c.tell_ignored.ensures.bag ∙ ap (λ ignores. changed (only c.args.pid (option_map (telling ignores))) same c.settle_in-group.new.bag) c.ignores_children.ensures) c.finish-2.ensures.bag
    (c.finish-2.ensures.outcome ∙ ap (λ (e : Entry). outcome.Done (record { entry = Some e; own = c.set_action.new.own; phase = phase.Ready; born = None; nudges = [] })) c.called-entry-2.ensures)
