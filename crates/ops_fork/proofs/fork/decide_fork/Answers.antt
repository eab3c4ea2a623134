use Rattle.std.proofs.Common.{◌∙◌, sym, ap}
use Rattle.std.proofs.lemmas.Bool.{eq-eqb}
use Rattle.unix_names.specs.declared.NodeId.{NodeId}
use Rattle.record_bag.specs.Bags.{present}
use Rattle.decide_law.specs.Places.{named_or}
use Rattle.ops_fork.proofs.ForkCode.{fork_done, fork_whole}
use Rattle.ops_fork.proofs.fork.decide_fork.Goals as goal

pub returns-clause-answer : goal.returns-clause-answer
returns-clause-answer c =
    let b = c.requires.base in
    let found = ap present b.vproc_is in
    fork_whole c.fork_here.result c.fork_here.new.bag _ _ (c.fork_here.ensures.answer b.vproc b.group b.vproc_is b.group_is)
    (fork_done c.args.pid c.args.at c.args.own.now c.args.bag.now c.args.site b (sym (c.is_full.ensures b.vproc found) ∙ c.if-is_full.false)
    (eq-eqb _ _ (ap (λ (n : NodeId). n.0) (sym (c.named_or-node.ensures ∙ ap (named_or c.args.at) (c.place_of.ensures b.vproc found))) ∙ c.if-node-site.false)))
