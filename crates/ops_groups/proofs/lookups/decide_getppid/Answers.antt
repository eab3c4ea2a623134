use Rattle.std.proofs.Common.{◌∙◌, IsSome, Some, refl, sym, ap, subst}
use Rattle.unix_names.specs.declared.Pid.{Pid}
use Rattle.unix_calls.specs.declared.Call.TheVariants.{Getppid}
use Rattle.unix_calls.specs.declared.Reply.TheVariants.{Number}
use Rattle.unix_calls.specs.declared.Entry.TheVariants.{Called}
use Rattle.unix_calls.specs.declared.Phase.TheVariants as phase
use Rattle.record_bag.specs.Bags.{present}
use Rattle.decide_law.specs.Effects.{quiet, folded, done_by}
use Rattle.decide_law.proofs.RoundParts.{call_done}
use Rattle.ops_groups.specs.Decide.{effect_of}
use Rattle.ops_groups.proofs.lookups.decide_getppid.Goals as goal

pub parent_of-parent-requires : goal.parent_of-parent-requires
parent_of-parent-requires c = subst IsSome (sym (ap present c.requires.vproc_is)) refl

pub returns : goal.returns
returns c =
    let b = c.requires in
    c.done_quiet.ensures b.vproc b.group b.vproc_is b.group_is
    ∙ ap (λ (q : Pid). done_by c.args.pid b.vproc c.args.bag.now (quiet (Some (Called c.args.pid Getppid (Number q.0))) (folded c.args.own.now b.vproc b.group).sig phase.Ready)) (c.parent_of-parent.ensures b.vproc (ap present b.vproc_is))
    ∙ sym (call_done Getppid (effect_of Getppid) c.args.pid c.args.own.now c.args.bag.now b.vproc b.group b.vproc_is b.group_is refl)
