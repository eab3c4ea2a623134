use Rattle.std.proofs.Common.{◌∙◌, refl, sym}
use Rattle.unix_calls.specs.declared.Call.TheVariants.{Getpid}
use Rattle.decide_law.proofs.RoundParts.{call_done}
use Rattle.ops_groups.specs.Decide.{effect_of}
use Rattle.ops_groups.proofs.lookups.decide_getpid.Goals as goal

pub returns : goal.returns
returns c = let b = c.requires in c.done_quiet.ensures b.vproc b.group b.vproc_is b.group_is ∙ sym (call_done Getpid (effect_of Getpid) c.args.pid c.args.own.now c.args.bag.now b.vproc b.group b.vproc_is b.group_is refl)
