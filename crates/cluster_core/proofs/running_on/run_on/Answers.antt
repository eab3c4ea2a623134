use Rattle.std.proofs.Common.{◌≡◌, ◌+◌, ℕ, suc, List, [], ◌∷◌, ◌++◌, take, length, sym, ap, ◌∙◌, subst, arith}
use Rattle.std.proofs.lemmas.List.{take_all}
use Rattle.unix_calls.specs.declared.Turn.{Turn}
use Rattle.cluster_state.specs.Cluster.{first_cluster}
use Rattle.cluster_state.specs.Run.{Order, orders}
use Rattle.cluster_core.specs.RunOn.{AreFew}
use Rattle.cluster_core.specs.MethodReached.{PlaysOn}
use Rattle.cluster_core.specs.MethodGoingOn.{IsTally}
use Rattle.cluster_core.proofs.Reached.{reached_first, reached_on}
use Rattle.cluster_core.proofs.Orders.{nothing_played, played_as, schedule_on}
use Rattle.cluster_core.proofs.RunningOn.{ran_inside, given_made, run_on_of}
use Rattle.cluster_core.proofs.running_on.run_on.Goals as goal

pub tally-requires-clause-inside : goal.tally-requires-clause-inside
tally-requires-clause-inside g c =
    let possible = c.requires.possible in
    ran_inside c.args.world.now (g.O.OpVector.answer c.args.ops) (first_cluster c.args.world.now) possible.cluster c.args.steps.now possible.entries possible.ran

pub play-requires : goal.play-requires
play-requires g c =
    let first = reached_first g.O.OpVector.fits g.O.OpVector.answer c.args.world.now c.args.ops c.in_ok-places.places.items c.requires.valid c.requires.decides c.in_ok-places.ensures in
    reached_on first (orders (take c.loop-this.this-index c.args.steps.now)) _ c.loop-this.log c.loop-this.places.items c.loop-this.invariant

pub loop-this-init : goal.loop-this-init
loop-this-init g c = nothing_played g.O.OpVector.answer c.args.world.now _ _ c.in_ok-places.places.items c.in_ok-places.ensures

pub loop-this-preserved : goal.loop-this-preserved
loop-this-preserved g c =
    let first = reached_first g.O.OpVector.fits g.O.OpVector.answer c.args.world.now c.args.ops c.in_ok-places.places.items c.requires.valid c.requires.decides c.in_ok-places.ensures in
    let here = reached_on first (orders (take c.loop-this.this-index c.args.steps.now)) _ c.loop-this.log c.loop-this.places.items c.loop-this.invariant in
    schedule_on g.O.OpVector.answer c.args.world.now first.shown c.args.steps.now c.loop-this.this-index _ _ c.loop-this.log c.play.new.log c.loop-this.places.items c.play.new.places.items c.loop-this-test.true c.loop-this.invariant (c.in_ok-play.ensures here)

pub go_on-requires-clause-reached : goal.go_on-requires-clause-reached
go_on-requires-clause-reached g c =
    let first = reached_first g.O.OpVector.fits g.O.OpVector.answer c.args.world.now c.args.ops c.in_ok-places.places.items c.requires.valid c.requires.decides c.in_ok-places.ensures in
    reached_on first (orders (take c.loop-this.this-index c.args.steps.now)) _ c.loop-this.log c.loop-this.places.items c.loop-this.invariant

pub go_on-requires-clause-tally : goal.go_on-requires-clause-tally
go_on-requires-clause-tally g c =
    let all = ap orders (take_all c.loop-this.this-index c.args.steps.now c.loop-this-test.false) in
    let p = played_as g.O.OpVector.answer c.args.world.now _ (orders (take c.loop-this.this-index c.args.steps.now)) (orders c.args.steps.now) _ c.loop-this.log c.loop-this.places.items all c.loop-this.invariant in
    subst (λ (turns : List Turn). IsTally c.args.world.now.nodes turns c.in_ok-made.made.items)
    (sym (given_made g.O.OpVector.answer c.args.world.now c.args.ops c.args.steps.now _ c.loop-this.log c.loop-this.places.items c.requires.possible c.new-3.ensures.items p)) c.in_ok-made.ensures

pub go_on-requires-clause-few : goal.go_on-requires-clause-few
go_on-requires-clause-few g c =
    let all = ap orders (take_all c.loop-this.this-index c.args.steps.now c.loop-this-test.false) in
    let p = played_as g.O.OpVector.answer c.args.world.now _ (orders (take c.loop-this.this-index c.args.steps.now)) (orders c.args.steps.now) _ c.loop-this.log c.loop-this.places.items all c.loop-this.invariant in
    subst AreFew (sym (given_made g.O.OpVector.answer c.args.world.now c.args.ops c.args.steps.now _ c.loop-this.log c.loop-this.places.items c.requires.possible c.new-3.ensures.items p)) c.requires.few

pub returns : goal.returns
returns g c =
    let first = reached_first g.O.OpVector.fits g.O.OpVector.answer c.args.world.now c.args.ops c.in_ok-places.places.items c.requires.valid c.requires.decides c.in_ok-places.ensures in
    let here = reached_on first (orders (take c.loop-this.this-index c.args.steps.now)) _ c.loop-this.log c.loop-this.places.items c.loop-this.invariant in
    let all = ap orders (take_all c.loop-this.this-index c.args.steps.now c.loop-this-test.false) in
    let p = played_as g.O.OpVector.answer c.args.world.now _ (orders (take c.loop-this.this-index c.args.steps.now)) (orders c.args.steps.now) _ c.loop-this.log c.loop-this.places.items all c.loop-this.invariant in
    run_on_of g.O.OpVector.answer c.args.world.now c.args.ops c.args.steps.now _ c.loop-this.log c.go_on.new.log c.loop-this.places.items c.go_on.new.places.items c.in_ok-is_quiet.is_quiet c.requires.possible
    c.new.ensures.items c.new-2.ensures.items c.new-3.ensures.items p (c.in_ok-is_quiet.ensures here)
