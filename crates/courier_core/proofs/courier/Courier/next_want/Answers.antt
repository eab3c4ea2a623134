use Rattle.std.proofs.Common.{sym, ◌∙◌}
use Rattle.courier_core.proofs.Order.{IsLeast-least_of}
use Rattle.courier_core.proofs.courier.Courier.next_want.Goals as goal

pub returns-clause-least : goal.returns-clause-least
returns-clause-least c = IsLeast-least_of c.in-Some.name _ (sym c.least_lacking.ensures ∙ c.in-Some.is)
