use Rattle.std.proofs.Common.{sym, ◌∙◌}
use Rattle.record_bag.specs.Bags.{held_names}
use Rattle.courier_core.proofs.Order.{any-greatest, any-nothing}
use Rattle.courier_core.proofs.courier.Courier.must_restart.Goals as goal

pub returns-in-Some : goal.returns-in-Some
returns-in-Some c = c.is_before.ensures ∙ sym (any-greatest c.args.name c.in-Some.greatest (held_names c.args.self.now.bag) (sym c.in-Some.ensures.last) c.in-Some.ensures.greatest)

pub returns-in-None : goal.returns-in-None
returns-in-None c = sym (any-nothing c.args.name (held_names c.args.self.now.bag) (sym c.in-None.ensures.last))
