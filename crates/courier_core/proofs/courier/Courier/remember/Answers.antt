use Rattle.std.proofs.Common.{sym, subst, ◌<◌, length}
use Rattle.courier_core.proofs.Lists.{grows-restart}
use Rattle.courier_core.proofs.courier.Courier.remember.Goals as goal

pub returns-in-Ok-clause-grows : goal.returns-in-Ok-clause-grows
returns-in-Ok-clause-grows c = λ kept n next below.
    let now = c.args.self.now in
    subst (λ ws. length now.wants < length ws) (sym c.in-Ok.ensures.ok) (grows-restart now c.args.need.now kept n next below)
