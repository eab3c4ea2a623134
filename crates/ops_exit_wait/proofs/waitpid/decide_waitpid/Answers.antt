use Rattle.std.proofs.Common.{◌∙◌, ℤ, [], IsSome, Some, None, refl, sym, ap, subst, w64}
use Rattle.std.proofs.lemmas.Int.{to_z-of_z}
use Rattle.unix_calls.specs.declared.Call.TheVariants.{Waitpid}
use Rattle.unix_calls.specs.declared.Entry.{Entry}
use Rattle.unix_calls.specs.declared.Entry.TheVariants.{Called}
use Rattle.unix_calls.specs.declared.Reply.{Reply}
use Rattle.unix_calls.specs.declared.Phase.TheVariants as phase
use Rattle.unix_calls.specs.declared.Selector.{Selector}
use Rattle.unix_calls.specs.Calls.{selector_of}
use Rattle.record_bag.specs.Bags.{present}
use Rattle.record_bag.specs.declared.vector.Outcome.TheVariants as outcome
use Rattle.decide_law.specs.Effects.{emptied}
use Rattle.decide_law.specs.Footprints.{wait_footprint}
use Rattle.decide_law.specs.MethodNeeds.{wanted}
use Rattle.decide_law.proofs.NeedParts.{call_asks}
use Rattle.decide_law.proofs.PutBack.{base_emptied}
use Rattle.ops_exit_wait.specs.Decide.{effect_of}
use Rattle.ops_exit_wait.specs.MethodWaitpid.{finding, CanTell}
use Rattle.ops_exit_wait.proofs.WaitCode.{settled_tells, told_held, told_within, wait_whole}
use Rattle.ops_exit_wait.proofs.waitpid.decide_waitpid.Goals as goal

pub returns-then-not-is_none-clause-answer : goal.returns-then-not-is_none-clause-answer
returns-then-not-is_none-clause-answer c =
    let b = c.requires.base in
    call_asks (Waitpid c.args.sel c.args.stopped c.args.continued) (effect_of (Waitpid c.args.sel c.args.stopped c.args.continued)) c.args.pid c.args.own.now c.args.bag.now b.vproc b.group _ b.vproc_is b.group_is
    (c.in_ok-names.ensures b.vproc (ap present b.vproc_is) ∙ ap (λ (s : Selector). wanted c.args.bag.now (wait_footprint c.args.bag.now b.vproc s c.args.stopped c.args.continued) []) (c.selector_of.ensures ∙ ap selector_of (to_z-of_z w64 c.args.sel c.ranges.sel)))
    (sym c.is_none.ensures ∙ c.if-not-is_none.true)

pub find_child-finding-requires : goal.find_child-finding-requires
find_child-finding-requires c =
    let b = c.requires.base in
    subst IsSome (sym (ap present (base_emptied c.args.own.now c.args.pid c.args.bag.now _ b (c.settle_in-group.ensures.bag b.vproc b.vproc_is)))) refl

pub tell-requires : goal.tell-requires
tell-requires c =
    let b = c.requires.base in
    let was = c.settle_in-group.ensures.bag b.vproc b.vproc_is in
    subst (CanTell c.settle_in-group.new.bag c.args.pid) (sym (c.find_child-finding.ensures (emptied b.vproc) (ap present (base_emptied c.args.own.now c.args.pid c.args.bag.now _ b was))))
    (settled_tells c.args.pid c.args.own.now c.args.bag.now c.settle_in-group.new.bag c.selector_of.result c.args.stopped c.args.continued _ b c.requires.fits was (c.in_ok-names.ensures b.vproc (ap present b.vproc_is)) (sym c.is_none.ensures ∙ c.if-not-is_none.false))

pub finish-requires-clause-held : goal.finish-requires-clause-held
finish-requires-clause-held c = told_held c.settle_in-group.new.bag c.tell.new.bag c.args.pid c.settle_in-group.result c.find_child-finding.result c.tell.ensures c.settle_in-group.ensures.held

pub finish-requires-clause-within : goal.finish-requires-clause-within
finish-requires-clause-within c = told_within c.settle_in-group.new.bag c.tell.new.bag c.args.pid c.settle_in-group.result c.find_child-finding.result c.tell.ensures c.settle_in-group.ensures.within

pub returns-clause-answer : goal.returns-clause-answer
returns-clause-answer c =
    let b = c.requires.base in
    let was = c.settle_in-group.ensures.bag b.vproc b.vproc_is in
    let selected = c.selector_of.ensures ∙ ap selector_of (to_z-of_z w64 c.args.sel c.ranges.sel) in
    wait_whole c.args.pid c.settle_in-group.result c.args.sel c.args.stopped c.args.continued c.args.own.now c.settle_in-group.new.own c.args.bag.now c.settle_in-group.new.bag c.tell.new.bag _ b c.find_child-finding.result _ _ (c.settle_in-group.ensures.group b.vproc b.vproc_is) was (c.settle_in-group.ensures.own b.vproc b.group b.vproc_is b.group_is)
    (c.find_child-finding.ensures (emptied b.vproc) (ap present (base_emptied c.args.own.now c.args.pid c.args.bag.now _ b was)) ∙ ap (λ (s : Selector). finding c.settle_in-group.new.bag (emptied b.vproc) s c.args.stopped c.args.continued) selected)
    c.tell.ensures c.finish.ensures.bag
    (c.in_ok-names.ensures b.vproc (ap present b.vproc_is) ∙ ap (λ (s : Selector). wanted c.args.bag.now (wait_footprint c.args.bag.now b.vproc s c.args.stopped c.args.continued) []) selected)
    (sym c.is_none.ensures ∙ c.if-not-is_none.false)
    (c.finish.ensures.outcome
    ∙ ap (λ (e : Entry). outcome.Done (record { entry = Some e; own = c.settle_in-group.new.own; phase = phase.Ready; born = None; nudges = [] }))
    (c.called-entry.ensures ∙ ap (λ (z : ℤ). Called c.args.pid (Waitpid z c.args.stopped c.args.continued) c.reply_of.result) (to_z-of_z w64 c.args.sel c.ranges.sel) ∙ ap (λ (r : Reply). Called c.args.pid (Waitpid c.args.sel c.args.stopped c.args.continued) r) c.reply_of.ensures))
