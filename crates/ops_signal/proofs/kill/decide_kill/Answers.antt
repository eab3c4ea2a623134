use Rattle.std.proofs.Common.{◌≡◌, ◌∙◌, ℤ, rules, [], Some, None, refl, sym, ap, subst}
use Rattle.std.proofs.lemmas.Int.{to_z-of_z}
use mir.Val.{SFits}
use mir.Syntax.{w64}
use Rattle.unix_calls.specs.declared.Target.{Target}
use Rattle.unix_calls.specs.declared.Call.TheVariants.{Kill}
use Rattle.unix_calls.specs.declared.Entry.TheVariants.{Called}
use Rattle.unix_calls.specs.declared.Reply.TheVariants.{Fine}
use Rattle.unix_calls.specs.Calls.{target_of}
use Rattle.unix_calls.specs.declared.Entry.{Entry}
use Rattle.unix_calls.specs.declared.Phase.TheVariants as phase
use Rattle.signal_state.specs.Signals.{Signals}
use Rattle.signal_state.specs.declared.Own.{Own}
use Rattle.record_bag.specs.Bags.{present}
use Rattle.record_bag.specs.declared.vector.Outcome.TheVariants as outcome
use Rattle.decide_law.specs.Effects.{folded, settled_in, append, quiet, done_by}
use Rattle.decide_law.specs.Footprints.{kill_footprint}
use Rattle.decide_law.specs.MethodNeeds.{wanted}
use Rattle.decide_law.proofs.RoundParts.{parts_whole}
use Rattle.ops_signal.specs.declared.kill.Sending.TheVariants.{Nothing, Told}
use Rattle.ops_signal.specs.Kill.{kill_entry, kill_effect}
use Rattle.ops_signal.specs.MethodKill.{effect_by}
use Rattle.ops_signal.proofs.KillCode.{kill_whole}
use Rattle.ops_signal.proofs.kill.decide_kill.Goals as goal

pub returns-in-Nothing-clause-answer : goal.returns-in-Nothing-clause-answer
returns-in-Nothing-clause-answer c =
    let b = c.requires.base in
    let fits : SFits w64 c.args.target = search rules in
    let back = to_z-of_z w64 c.args.target fits in
    c.done_quiet.ensures b.vproc b.group b.vproc_is b.group_is
    ∙ ap (λ (entry : Entry). done_by c.args.pid b.vproc c.args.bag.now (quiet (Some entry) (folded c.args.own.now b.vproc b.group).sig phase.Ready)) (c.called-entry.ensures ∙ ap (λ (z : ℤ). Called c.args.pid (Kill z c.args.sig) c.in-Nothing.reply) back)
    ∙ kill_whole c.args.pid c.args.target c.args.sig c.args.own.now c.args.bag.now b c.in-Some.v.now _ (λ (x : Signals). effect_by c.args.pid c.args.target c.args.sig x (Nothing c.in-Nothing.reply)) c.in-Some.ensures (ap present b.vproc_is)
    (c.in_ok-names.ensures ∙ ap (λ (target : Target). wanted c.args.bag.now (kill_footprint c.args.bag.now target c.args.sig) []) (c.target_of.ensures ∙ ap target_of back)) (sym c.is_none.ensures ∙ c.if-not-is_none.false)
    (λ x. ap (effect_by c.args.pid c.args.target c.args.sig x) (sym c.in-Nothing.is) ∙ subst (λ (z : ℤ). effect_by c.args.pid z c.args.sig x c.in_ok-reply.field-0 ≡ kill_effect c.args.bag.now x c.args.pid c.in-Some.v.now z c.args.sig) back (c.in_ok-reply.ensures.effect x))

pub returns-clause-answer : goal.returns-clause-answer
returns-clause-answer c =
    let b = c.requires.base in
    let fits : SFits w64 c.args.target = search rules in
    let back = to_z-of_z w64 c.args.target fits in
    parts_whole (append (Some (kill_entry c.args.pid c.args.target c.args.sig)) (folded c.args.own.now b.vproc b.group).sig phase.Ready c.in-Told.nudges c.in-Told.group c.in-Told.entry) c.args.pid c.in_ok-own_group-in-Told.own_group b.vproc c.finish_with.result c.args.bag.now
    (settled_in c.args.pid b.vproc.group c.args.bag.now) c.settle_and_append.new.bag c.finish_with.new.bag (c.in_ok-own_group-in-Told.ensures.group b.vproc b.vproc_is) refl (c.in_ok-own_group-in-Told.ensures.bag b.vproc b.vproc_is) c.finish_with.ensures.bag
    (c.finish_with.ensures.outcome
    ∙ ap (λ (entry : Entry). outcome.Done (record { entry = Some entry; own = c.settle_and_append.new.own; phase = phase.Ready; born = None; nudges = c.in-Told.nudges })) (c.called-fine.ensures ∙ ap (λ (z : ℤ). Called c.args.pid (Kill z c.args.sig) Fine) back)
    ∙ ap (λ (own : Own). outcome.Done (record { entry = Some (kill_entry c.args.pid c.args.target c.args.sig); own = own; phase = phase.Ready; born = None; nudges = c.in-Told.nudges })) (c.in_ok-own_group-in-Told.ensures.own b.vproc b.group b.vproc_is b.group_is))
    ∙ kill_whole c.args.pid c.args.target c.args.sig c.args.own.now c.args.bag.now b c.in-Some.v.now _ (λ (x : Signals). effect_by c.args.pid c.args.target c.args.sig x (Told c.in-Told.group c.in-Told.entry c.in-Told.nudges)) c.in-Some.ensures (ap present b.vproc_is)
    (c.in_ok-names.ensures ∙ ap (λ (target : Target). wanted c.args.bag.now (kill_footprint c.args.bag.now target c.args.sig) []) (c.target_of.ensures ∙ ap target_of back)) (sym c.is_none.ensures ∙ c.if-not-is_none.false)
    (λ x. ap (effect_by c.args.pid c.args.target c.args.sig x) (sym c.in-Told.is) ∙ subst (λ (z : ℤ). effect_by c.args.pid z c.args.sig x c.in_ok-reply.field-0 ≡ kill_effect c.args.bag.now x c.args.pid c.in-Some.v.now z c.args.sig) back (c.in_ok-reply.ensures.effect x))
