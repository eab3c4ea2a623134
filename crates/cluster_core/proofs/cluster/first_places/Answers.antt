use Rattle.std.proofs.Common.{◌+◌, sym, subst, arith}
use Rattle.cluster_core.proofs.Beginning.{Begun, none_begun, more_begun, all_begun}
use Rattle.cluster_core.proofs.cluster.first_places.Goals as goal

pub loop-k-init : goal.loop-k-init
loop-k-init g c = record {
  within = omega arith;
  begun = subst (Begun c.args.world.now c.args.ops 0) (sym c.new-places.ensures.items) (none_begun c.args.world.now c.args.ops);
}

pub loop-k-preserved : goal.loop-k-preserved
loop-k-preserved g c = record {
  within = omega (arith, c.loop-k-test.true);
  begun = subst (Begun c.args.world.now c.args.ops (c.loop-k.k + 1)) (sym c.in_ok-push.ensures.items)
      (more_begun c.args.world.now c.args.ops c.loop-k.k c.loop-k.places.items _ c.loop-k.invariant.begun
      (record { ops_is = c.in_ok-new.ensures.ops; state_is = c.in_ok-new.ensures.state; runs = c.in_ok-new.ensures.running })
      c.in_ok-new-2.ensures);
}

pub returns : goal.returns
returns g c = all_begun c.args.world.now c.args.ops c.loop-k.k c.loop-k.places.items c.loop-k.invariant.begun (omega (arith, c.loop-k-test.false, c.loop-k.invariant.within))
