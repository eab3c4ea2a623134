use Rattle.decide_law.proofs.Unsettled.{unsettled}
use Rattle.decide_law.proofs.keeping.unsettle.Goals as goal

pub returns : goal.returns
returns c = λ before is was. unsettled c.args.pid c.args.kept c.args.bag.now c.fill_backlog.new.bag c.begin_in.new.bag before c.both_rise.ensures.vprocs c.both_rise.ensures.groups c.fill_backlog.ensures.bag c.begin_in.ensures.bag is was
