use Rattle.std.proofs.Common.{◌<◌, arith}
use Rattle.ops_ending.proofs.EndParts.{small_links, small_stopped}
use Rattle.ops_ending.proofs.left_groups.thin.Goals as goal

pub overflow_cast-g : goal.overflow_cast-g
overflow_cast-g c =
    let small : c.links_after-links.result < 2000000 = small_links c.args.bag.now c.args.near.now c.args.end c.args.id c.args.g.now c.links_after-links.result c.requires.counted c.requires.near c.links_after-links.ensures in
    omega arith

pub overflow_cast-g-2 : goal.overflow_cast-g-2
overflow_cast-g-2 c =
    let small : c.stopped_after-stopped.result < 2000000 = small_stopped c.args.bag.now c.args.near.now c.args.end c.args.id c.args.g.now c.stopped_after-stopped.result c.requires.counted c.requires.near c.stopped_after-stopped.ensures in
    omega arith
