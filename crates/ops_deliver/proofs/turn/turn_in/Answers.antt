use Rattle.ops_deliver.specs.MethodTurn.{group_told}
use Rattle.ops_deliver.proofs.TurnCode.{vproc_told, turned_bag, turned_found}
use Rattle.ops_deliver.proofs.turn.turn_in.Goals as goal

pub turn_vproc-requires : goal.turn_vproc-requires
turn_vproc-requires c =
    let b = c.requires.base in
    vproc_told c.args.pid c.parent_of-up.result c.args.life c.args.status c.args.own.now c.args.bag.now b _ (group_told c.args.bag.now c.parent_of-up.result) (c.in_ok-group.ensures.bag b.vproc b.vproc_is)

pub returns-clause-bag : goal.returns-clause-bag
returns-clause-bag c = λ v ev.
    let b = c.requires.base in
    turned_found c.args.own.now c.args.pid c.parent_of-up.result c.args.life c.args.status c.args.bag.now _ b v ev (c.parent_of-up.ensures v ev)
    (turned_bag c.args.pid c.parent_of-up.result c.args.life c.args.status c.args.own.now c.args.bag.now b _ _ _ _ _ c.both_rise.ensures.groups (c.in_ok-group.ensures.group b.vproc b.vproc_is) (c.stopped_then-stopped.ensures b.vproc b.group b.vproc_is b.group_is) (c.in_ok-group.ensures.bag b.vproc b.vproc_is) c.turn_vproc.ensures.bag c.count_in.ensures.bag)
