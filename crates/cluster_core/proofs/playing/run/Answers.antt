use Rattle.std.proofs.Common.{◌≡◌, ◌+◌, ℕ, suc, List, [], ◌∷◌, ◌++◌, take, length, sym, ap, ◌∙◌, subst, arith}
use Rattle.std.proofs.lemmas.List.{take_all}
use Rattle.unix_calls.specs.declared.Turn.{Turn}
use Rattle.cluster_state.specs.Cluster.{first_cluster}
use Rattle.cluster_state.specs.Run.{Order, orders}
use Rattle.cluster_core.specs.MethodReached.{PlaysOn}
use Rattle.cluster_core.proofs.Reached.{reached_first, reached_on}
use Rattle.cluster_core.proofs.Orders.{nothing_played, schedule_on, run_of}
use Rattle.cluster_core.proofs.playing.run.Goals as goal

pub play-requires : goal.play-requires
play-requires g c =
    let first = reached_first g.O.OpVector.fits g.O.OpVector.answer c.args.world.now c.args.ops c.in_ok-places.places.items c.requires.valid c.requires.decides c.in_ok-places.ensures in
    reached_on first (orders (take c.loop-this.this-index c.args.schedule.now)) _ c.loop-this.log c.loop-this.places.items c.loop-this.invariant

pub loop-this-init : goal.loop-this-init
loop-this-init g c = nothing_played g.O.OpVector.answer c.args.world.now _ _ c.in_ok-places.places.items c.in_ok-places.ensures

pub loop-this-preserved : goal.loop-this-preserved
loop-this-preserved g c =
    let first = reached_first g.O.OpVector.fits g.O.OpVector.answer c.args.world.now c.args.ops c.in_ok-places.places.items c.requires.valid c.requires.decides c.in_ok-places.ensures in
    let here = reached_on first (orders (take c.loop-this.this-index c.args.schedule.now)) _ c.loop-this.log c.loop-this.places.items c.loop-this.invariant in
    schedule_on g.O.OpVector.answer c.args.world.now first.shown c.args.schedule.now c.loop-this.this-index _ _ c.loop-this.log c.play.new.log c.loop-this.places.items c.play.new.places.items c.loop-this-test.true c.loop-this.invariant (c.in_ok-play.ensures here)

pub found_turn-requires : goal.found_turn-requires
found_turn-requires g c =
    let first = reached_first g.O.OpVector.fits g.O.OpVector.answer c.args.world.now c.args.ops c.in_ok-places.places.items c.requires.valid c.requires.decides c.in_ok-places.ensures in
    reached_on first (orders (take c.loop-this.this-index c.args.schedule.now)) _ c.loop-this.log c.loop-this.places.items c.loop-this.invariant

pub returns : goal.returns
returns g c =
    let first = reached_first g.O.OpVector.fits g.O.OpVector.answer c.args.world.now c.args.ops c.in_ok-places.places.items c.requires.valid c.requires.decides c.in_ok-places.ensures in
    let here = reached_on first (orders (take c.loop-this.this-index c.args.schedule.now)) _ c.loop-this.log c.loop-this.places.items c.loop-this.invariant in
    run_of g.O.OpVector.answer c.args.world.now c.args.ops (take c.loop-this.this-index c.args.schedule.now) c.args.schedule.now _ c.loop-this.log c.loop-this.places.items c.loop-this.invariant
    (take_all c.loop-this.this-index c.args.schedule.now c.loop-this-test.false) c.new.ensures.items c.new-2.ensures.items c.new-3.ensures.items
    c.is_none-is_quiet.result c.found_turn.result c.is_none-is_quiet.ensures (c.found_turn.ensures.found here)
