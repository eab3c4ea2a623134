use Rattle.std.proofs.Common.{◌∙◌, sym, ap}
use Rattle.record_bag.specs.Bags.{present}
use Rattle.ops_ending.proofs.EndCode.{end_asks, end_whole}
use Rattle.ops_ending.proofs.ending.decide_end.Goals as goal

pub returns-then-not-is_none-clause-answer : goal.returns-then-not-is_none-clause-answer
returns-then-not-is_none-clause-answer c =
    let b = c.requires.base in
    end_asks c.args.entry c.args.status c.args.pid c.args.own.now c.args.bag.now b _ (c.in_ok-names.ensures b.vproc (ap present b.vproc_is)) (sym c.is_none.ensures ∙ c.if-not-is_none.true)

pub returns-clause-answer : goal.returns-clause-answer
returns-clause-answer c =
    let b = c.requires.base in
    end_whole c.args.entry c.args.status c.args.pid c.args.own.now c.args.bag.now _ b _ c.end_on.result (c.in_ok-names.ensures b.vproc (ap present b.vproc_is)) (sym c.is_none.ensures ∙ c.if-not-is_none.false) (c.end_on.ensures.ok b.vproc b.group b.vproc_is b.group_is)
