use Rattle.std.proofs.Common.{◌∙◌, sym}
use Rattle.decide_law.proofs.RoundParts.{base_answer}
use Rattle.migrate_core.specs.Moves.{push_answer}
use Rattle.migrate_core.proofs.moves.decide_push.Goals as goal

pub returns : goal.returns
returns c =
    let b = c.requires in
    c.arrive_at.ensures b.vproc b.group b.vproc_is b.group_is ∙ sym (base_answer (push_answer c.args.node c.args.site c.args.own.now c.args.bag.now c.args.pid) c.args.pid c.args.bag.now b.vproc b.group b.vproc_is b.group_is)
