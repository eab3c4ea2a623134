use Rattle.std.proofs.Common.{◌≡◌, ◌==◌, ◌∙◌, sym, ap, [], ◌∷◌, if◌then◌else◌}
use Rattle.unix_names.specs.declared.Pid.{Pid}
use Rattle.unix_names.specs.declared.Life.TheVariants as life
use Rattle.unix_names.specs.declared.WaitStatus.TheVariants as status
use Rattle.unix_calls.specs.declared.Event.TheVariants.{Continued}
use Rattle.unix_calls.specs.declared.Entry.TheVariants.{Happened}
use Rattle.unix_calls.specs.declared.Phase.TheVariants as phase
use Rattle.signal_state.specs.Signals.{Signals}
use Rattle.signal_state.specs.Sig.{resumed}
use Rattle.signal_state.specs.declared.Own.{Own}
use Rattle.record_bag.specs.Decisions.{answered}
use Rattle.decide_law.specs.Effects.{folded}
use Rattle.decide_law.specs.Footprints.{parent_footprint}
use Rattle.decide_law.proofs.NeedParts.{all_held}
use Rattle.ops_deliver.specs.Events.{event_answer}
use Rattle.ops_deliver.specs.Turn.{continue_effect}
use Rattle.ops_deliver.proofs.TurnCode.{at_base, turn_whole}
use Rattle.ops_deliver.proofs.turn.go_on.Goals as goal

pub returns-clause-answer : goal.returns-clause-answer
returns-clause-answer c =
    let b = c.requires.base in
    at_base c.args.own.now c.args.pid c.args.bag.now b (λ v g. answered c.finish_with.result c.finish_with.new.bag ≡ event_answer Continued continue_effect c.args.own.now c.args.bag.now c.args.pid v g)
    (turn_whole c.args.own.now c.args.pid _ life.Runs status.Continued (Happened c.args.pid Continued) phase.Ready (resumed (folded c.args.own.now b.vproc b.group).sig) _ _ c.args.bag.now _ _ b _ (c.in_ok-group.ensures.group b.vproc b.vproc_is) (c.in_ok-group.ensures.bag b.vproc b.vproc_is) c.finish_with.ensures.bag c.finish_with.ensures.outcome
    (c.in_ok-nudges.ensures ∙ ap (λ (up : Pid). if up.0 == 1 then [] else up ∷ []) (c.parent_of.ensures b.vproc b.vproc_is))
    (ap (λ (s : Signals). record { sig = s; taken = c.turn_in.new.own.taken }) c.resume.ensures ∙ ap (λ (x : Own). record { sig = resumed x.sig; taken = x.taken }) (c.in_ok-group.ensures.own b.vproc b.group b.vproc_is b.group_is))
    ∙ all_held (parent_footprint c.args.bag.now b.vproc) _ c.args.pid b.vproc c.args.bag.now _ (c.in_ok-names.ensures b.vproc b.vproc_is) (sym c.is_none.ensures ∙ c.if-not-is_none.false))
