use Rattle.std.specs.Option.{option_map}
use Rattle.decide_law.specs.Effects.{emptied}
use Rattle.decide_law.proofs.Appended.{changed_vproc}
use Rattle.decide_law.proofs.Tables.{lent, not_lent}
use Rattle.decide_law.proofs.append.empty_backlog.Goals as goal

pub returns-in-Some-clause-bag : goal.returns-in-Some-clause-bag
returns-in-Some-clause-bag c =
    changed_vproc c.args.bag.now c.args.pid (option_map emptied) _ (lent c.args.pid emptied c.args.bag.now.vprocs c.in-Some.v.now _ c.record_mut.ensures.rising c.in-Some.ensures.value c.empty.ensures)

pub returns-in_default-clause-bag : goal.returns-in_default-clause-bag
returns-in_default-clause-bag c =
    changed_vproc c.args.bag.now c.args.pid (option_map emptied) _ (not_lent c.args.pid emptied c.args.bag.now.vprocs c.record_mut.ensures.rising c.requires c.in_default.ensures.value)
