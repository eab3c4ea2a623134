use Rattle.std.proofs.Common.{sym}
use Rattle.unix_names.specs.declared.Signal.TheVariants.{Chld}
use Rattle.decide_law.specs.Effects.{settled_in, to_one}
use Rattle.ops_deliver.specs.MethodTurn.{group_told}
use Rattle.ops_deliver.proofs.TurnCode.{untold}
use Rattle.ops_deliver.proofs.turn.settle_telling.Goals as goal

pub returns-in-None-clause-bag : goal.returns-in-None-clause-bag
returns-in-None-clause-bag c = λ v ev. untold (settled_in c.args.pid v.group c.args.bag.now) _ (group_told c.args.bag.now c.args.up) (to_one Chld c.args.up) (sym c.in-None.ensures.group) (c.settle_in.ensures.bag v ev)
