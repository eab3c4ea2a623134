use Rattle.std.proofs.Common.{suc, None}
use Rattle.record_bag.specs.declared.Outcome.TheVariants as outcome
use Rattle.courier_core.specs.declared.Message.TheVariants as message
use Rattle.node_state.specs.Wires.{posted}
use Rattle.node_state.specs.Endings.{finished}
use Rattle.node_core.specs.declared.step.Next.TheVariants as next
use Rattle.node_core.specs.MethodAsking.{waiting_for}
use Rattle.node_core.proofs.Universe.{universe, universe-all, universe-wants, universe-holds}
use Rattle.node_core.proofs.AdvanceLaws.{again-fits, again-back, again-nearer, over-back, question-fits, step-by, left-by, ends-so}
use Rattle.node_core.proofs.step.advance.Goals as goal

pub asking-init : goal.asking-init
asking-init g c = record {
  kept = c.requires.kept;
  within = record { wants = universe-wants c.args.courier; holds = universe-holds c.args.courier };
  asks = c.requires.asks;
  back = λ n r h. (n, h);
}

pub decide-outcome-requires : goal.decide-outcome-requires
decide-outcome-requires g c = question-fits (g.O.OpVector.fits c.args.ops.now) c.asking.state c.asking.courier c.in-Some.site c.in-Some.ensures (c.asking.invariant.asks 1).0

pub returns-in-Ok-Done : goal.returns-in-Ok-Done
returns-in-Ok-Done g c =
    ends-so c.args.world.now (g.O.OpVector.answer c.args.ops.now) c.asking.state c.args.state.now c.finish.new.self (finished c.args.world.now c.asking.state c.asking.courier.image c.decide-outcome.new.bag c.in-Ok-Done.done) c.asking.courier c.args.courier c.finish.result (c.in-Ok-Done.done.entry)
    (step-by c.args.world.now (g.O.OpVector.answer c.args.ops.now) c.asking.state c.asking.courier c.in-Some.site c.in-Ok-Done.field-0 (outcome.Done c.in-Ok-Done.done) c.decide-outcome.new.bag c.in-Some.ensures c.in-Ok-Done.field-0-is c.in-Ok-Done.ensures.answer) c.finish.ensures.after c.finish.ensures.entry c.asking.invariant.back

pub returns-in-Ok-Away : goal.returns-in-Ok-Away
returns-in-Ok-Away g c =
    ends-so c.args.world.now (g.O.OpVector.answer c.args.ops.now) c.asking.state c.args.state.now c.ride.new.state (posted c.asking.state c.in-Ok-Away.node.0 (message.Ride (record c.asking.courier { bag = c.decide-outcome.new.bag }))) c.asking.courier c.args.courier c.ride.result (None)
    (step-by c.args.world.now (g.O.OpVector.answer c.args.ops.now) c.asking.state c.asking.courier c.in-Some.site c.in-Ok-Away.field-0 (outcome.Away c.in-Ok-Away.node) c.decide-outcome.new.bag c.in-Some.ensures c.in-Ok-Away.field-0-is c.in-Ok-Away.ensures.answer) c.ride.ensures.after c.ride.ensures.entry c.asking.invariant.back

pub returns-in-Ride : goal.returns-in-Ride
returns-in-Ride g c =
    ends-so c.args.world.now (g.O.OpVector.answer c.args.ops.now) c.asking.state c.args.state.now c.ride-in-Ride.new.state (posted c.gather.new.state c.in-Ride.to (message.Ride c.gather.new.courier)) c.asking.courier c.args.courier c.ride-in-Ride.result (None)
    (left-by c.args.world.now (g.O.OpVector.answer c.args.ops.now) c.asking.state c.gather.new.state c.asking.courier c.gather.new.courier c.decide-outcome.new.bag c.in_ok-gather-in-Ok-Need.field-0 (next.Ride c.in-Ride.to) c.as_slice.result.now c.in-Ok-Need.names
    (step-by c.args.world.now (g.O.OpVector.answer c.args.ops.now) c.asking.state c.asking.courier c.in-Some.site c.in-Ok-Need.field-0 (outcome.Need c.in-Ok-Need.names) c.decide-outcome.new.bag c.in-Some.ensures c.in-Ok-Need.field-0-is c.in-Ok-Need.ensures.answer) c.in_ok-gather-in-Ok-Need.ensures.next c.in-Ride.is c.as_slice.ensures) c.ride-in-Ride.ensures.after c.ride-in-Ride.ensures.entry c.asking.invariant.back

pub returns-in-Wait : goal.returns-in-Wait
returns-in-Wait g c =
    ends-so c.args.world.now (g.O.OpVector.answer c.args.ops.now) c.asking.state c.args.state.now c.wait.new.state (waiting_for c.gather.new.state c.gather.new.courier c.in-Wait.name) c.asking.courier c.args.courier c.wait.result (None)
    (left-by c.args.world.now (g.O.OpVector.answer c.args.ops.now) c.asking.state c.gather.new.state c.asking.courier c.gather.new.courier c.decide-outcome.new.bag c.in_ok-gather-in-Ok-Need.field-0 (next.Wait c.in-Wait.name) c.as_slice.result.now c.in-Ok-Need.names
    (step-by c.args.world.now (g.O.OpVector.answer c.args.ops.now) c.asking.state c.asking.courier c.in-Some.site c.in-Ok-Need.field-0 (outcome.Need c.in-Ok-Need.names) c.decide-outcome.new.bag c.in-Some.ensures c.in-Ok-Need.field-0-is c.in-Ok-Need.ensures.answer) c.in_ok-gather-in-Ok-Need.ensures.next c.in-Wait.is c.as_slice.ensures) c.wait.ensures.after c.wait.ensures.entry c.asking.invariant.back

pub returns-in-Over : goal.returns-in-Over
returns-in-Over g c =
    c.asking.invariant.back 1 _ (over-back c.args.world.now (g.O.OpVector.answer c.args.ops.now) c.asking.state c.gather.new.state c.asking.courier None
    (left-by c.args.world.now (g.O.OpVector.answer c.args.ops.now) c.asking.state c.gather.new.state c.asking.courier c.gather.new.courier c.decide-outcome.new.bag c.in_ok-gather-in-Ok-Need.field-0 (next.Over) c.as_slice.result.now c.in-Ok-Need.names
    (step-by c.args.world.now (g.O.OpVector.answer c.args.ops.now) c.asking.state c.asking.courier c.in-Some.site c.in-Ok-Need.field-0 (outcome.Need c.in-Ok-Need.names) c.decide-outcome.new.bag c.in-Some.ensures c.in-Ok-Need.field-0-is c.in-Ok-Need.ensures.answer) c.in_ok-gather-in-Ok-Need.ensures.next c.in-Over.is c.as_slice.ensures))

pub asking-smaller : goal.asking-smaller
asking-smaller g c =
    (again-nearer c.args.world.now (g.O.OpVector.answer c.args.ops.now) (universe c.args.courier) (universe-all c.args.courier) c.asking.state c.gather.new.state c.asking.courier c.gather.new.courier
    (left-by c.args.world.now (g.O.OpVector.answer c.args.ops.now) c.asking.state c.gather.new.state c.asking.courier c.gather.new.courier c.decide-outcome.new.bag c.in_ok-gather-in-Ok-Need.field-0 (next.Again) c.as_slice.result.now c.in-Ok-Need.names
    (step-by c.args.world.now (g.O.OpVector.answer c.args.ops.now) c.asking.state c.asking.courier c.in-Some.site c.in-Ok-Need.field-0 (outcome.Need c.in-Ok-Need.names) c.decide-outcome.new.bag c.in-Some.ensures c.in-Ok-Need.field-0-is c.in-Ok-Need.ensures.answer) c.in_ok-gather-in-Ok-Need.ensures.next c.in-Again.is c.as_slice.ensures) (g.met.O.OpVector.lawful c.args.ops.now _ _ _ _ _ (c.asking.invariant.asks 1).0) c.asking.invariant.kept c.asking.invariant.within).near

pub asking-preserved : goal.asking-preserved
asking-preserved g c =
    let e = left-by c.args.world.now (g.O.OpVector.answer c.args.ops.now) c.asking.state c.gather.new.state c.asking.courier c.gather.new.courier c.decide-outcome.new.bag c.in_ok-gather-in-Ok-Need.field-0 (next.Again) c.as_slice.result.now c.in-Ok-Need.names
    (step-by c.args.world.now (g.O.OpVector.answer c.args.ops.now) c.asking.state c.asking.courier c.in-Some.site c.in-Ok-Need.field-0 (outcome.Need c.in-Ok-Need.names) c.decide-outcome.new.bag c.in-Some.ensures c.in-Ok-Need.field-0-is c.in-Ok-Need.ensures.answer) c.in_ok-gather-in-Ok-Need.ensures.next c.in-Again.is c.as_slice.ensures in
    let next = again-nearer c.args.world.now (g.O.OpVector.answer c.args.ops.now) (universe c.args.courier) (universe-all c.args.courier) c.asking.state c.gather.new.state c.asking.courier c.gather.new.courier
    e (g.met.O.OpVector.lawful c.args.ops.now _ _ _ _ _ (c.asking.invariant.asks 1).0) c.asking.invariant.kept c.asking.invariant.within in
    record {
      kept = next.kept;
      within = next.within;
      asks = again-fits (g.O.OpVector.fits c.args.ops.now) c.args.world.now (g.O.OpVector.answer c.args.ops.now) c.asking.state c.gather.new.state c.asking.courier c.gather.new.courier e c.asking.invariant.asks;
      back = λ n r h. c.asking.invariant.back (suc n) r (again-back c.args.world.now (g.O.OpVector.answer c.args.ops.now) c.asking.state c.gather.new.state c.asking.courier c.gather.new.courier e n r h);
    }
