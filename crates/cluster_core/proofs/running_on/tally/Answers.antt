use Rattle.std.proofs.Common.{◌+◌, arith}
use Rattle.cluster_core.proofs.Counting.{count_found, count_fits}
use Rattle.cluster_core.proofs.running_on.tally.Goals as goal

pub index_mut-requires : goal.index_mut-requires
index_mut-requires c =
    let found = count_found c.args.nodes c.args.steps.now c.loop-this.this-index _ c.loop-this.made.items c.node_of.result c.loop-this-test.true c.node_of.ensures c.loop-this.invariant c.requires.inside in
    omega (arith, found, c.loop-this.made.ok)

pub overflow_add-index_mut : goal.overflow_add-index_mut
overflow_add-index_mut c =
    let few = count_fits c.args.nodes c.args.steps.now c.loop-this.this-index _ c.loop-this.made.items c.node_of.result c.loop-this-test.true c.node_of.ensures c.loop-this.invariant c.index_mut.result.now c.requires.inside c.requires.few in
    omega (arith, few, c.index_mut.ensures.value)
