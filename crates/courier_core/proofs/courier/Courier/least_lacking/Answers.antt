use Rattle.courier_core.proofs.Order.{next-in_steps}
use Rattle.std.proofs.Common.{sym}
use Rattle.courier_core.proofs.courier.Courier.least_lacking.Goals as goal

pub returns : goal.returns
returns c = sym (next-in_steps c.args.self.now.bag c.args.self.now.wants _ c.args.need.now c.least_lacking-wanted.result _ c.as_slice.ensures c.least_lacking-wanted.ensures c.least_lacking.ensures)
