use Rattle.record_bag.proofs.NameLaws.{AllAfter-vproc, AllAfter-group}
use Rattle.record_bag.proofs.bag.Bag.take_least.Goals as goal

pub returns-in-Some-clause-least : goal.returns-in-Some-clause-least
returns-in-Some-clause-least c = AllAfter-vproc _ c.pop_first.new.self c.args.self.now.groups c.in-Some.ensures.least

pub returns-in-Some-pop_first-clause-least : goal.returns-in-Some-pop_first-clause-least
returns-in-Some-pop_first-clause-least c = AllAfter-group _ c.pop_first.new.self _ c.in-None.ensures.none_new c.in-Some-pop_first.ensures.least
