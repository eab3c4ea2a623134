use Rattle.std.specs.Option.{option_map}
use Rattle.decide_law.specs.MethodKept.{backlogged}
use Rattle.decide_law.proofs.Appended.{changed_vproc}
use Rattle.decide_law.proofs.Tables.{lent, not_lent}
use Rattle.decide_law.proofs.keeping.fill_backlog.Goals as goal

pub returns-in-Some-clause-bag : goal.returns-in-Some-clause-bag
returns-in-Some-clause-bag c =
    changed_vproc c.args.bag.now c.args.pid (option_map (backlogged c.args.backlog)) _ (lent c.args.pid (backlogged c.args.backlog) c.args.bag.now.vprocs c.in-Some.v.now _ c.record_mut.ensures.rising c.in-Some.ensures.value c.fill.ensures)

pub returns-in_default-clause-bag : goal.returns-in_default-clause-bag
returns-in_default-clause-bag c =
    changed_vproc c.args.bag.now c.args.pid (option_map (backlogged c.args.backlog)) _ (not_lent c.args.pid (backlogged c.args.backlog) c.args.bag.now.vprocs c.record_mut.ensures.rising c.requires c.in_default.ensures.value)
