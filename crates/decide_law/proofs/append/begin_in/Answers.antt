use Rattle.std.specs.Option.{option_map}
use Rattle.decide_law.specs.MethodAppend.{begun}
use Rattle.decide_law.proofs.Appended.{changed_group}
use Rattle.decide_law.proofs.Tables.{lent, not_lent}
use Rattle.decide_law.proofs.append.begin_in.Goals as goal

pub returns-in-Some-clause-bag : goal.returns-in-Some-clause-bag
returns-in-Some-clause-bag c =
    changed_group c.args.bag.now c.args.id (option_map (begun c.args.end c.args.pid)) _ (lent c.args.id (begun c.args.end c.args.pid) c.args.bag.now.groups c.in-Some.g.now _ c.record_mut.ensures.rising c.in-Some.ensures.value c.begin_at.ensures)

pub returns-in_default-clause-bag : goal.returns-in_default-clause-bag
returns-in_default-clause-bag c =
    changed_group c.args.bag.now c.args.id (option_map (begun c.args.end c.args.pid)) _ (not_lent c.args.id (begun c.args.end c.args.pid) c.args.bag.now.groups c.record_mut.ensures.rising c.requires c.in_default.ensures.value)
