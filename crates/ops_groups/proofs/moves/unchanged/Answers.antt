use Rattle.ops_groups.specs.MethodMove.{group_settled}
use Rattle.ops_groups.proofs.ChangeCode.{stays}
use Rattle.ops_groups.proofs.moves.unchanged.Goals as goal

pub returns : goal.returns
returns c = λ call. stays (group_settled c.args.by.pid c.args.by.group c.args.bag.now) c.settle_group.new.bag c.args.by.pid call c.args.reply _ c.settle_group.ensures c.new.ensures
