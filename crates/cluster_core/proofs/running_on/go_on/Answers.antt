use Rattle.std.proofs.Common.{◌≡◌, ◌+◌, ◌<◌, ◌≤◌, ℕ, List, refl, sym, ap, ◌∙◌, subst, arith}
use Rattle.std.specs.Prelude.{slice_index, slice_set, sum_by, ◌-◌}
use Rattle.cluster_state.specs.Possible.{node_of}
use Rattle.cluster_core.specs.MethodGoingOn.{IsTally}
use Rattle.cluster_core.specs.RunOn.{most_turns}
use Rattle.cluster_core.proofs.Counting.{left_smaller}
use Rattle.cluster_core.proofs.Reached.{reached_kept}
use Rattle.cluster_core.proofs.GoingOn.{found_inside, going_first, going_kept, going_full, going_on, steps_on, tally_on, going_reached}
use Rattle.cluster_core.proofs.running_on.go_on.Goals as goal

pub loop-this-init : goal.loop-this-init
loop-this-init g c = record { tally = c.requires.tally; going = λ at. going_first g.O.OpVector.answer c.args.world.now at.shown c.args.log.now c.args.places.now.items at.shows c.requires.few }

pub found_turn-requires : goal.found_turn-requires
found_turn-requires g c = going_reached c.requires.reached c.args.log.now c.loop-this.log c.loop-this.places.items (c.loop-this.invariant.going c.requires.reached)

pub count_turn-requires : goal.count_turn-requires
count_turn-requires g c =
    let at = c.requires.reached in
    let going = c.loop-this.invariant.going at in
    let here = going_reached at c.args.log.now c.loop-this.log c.loop-this.places.items going in
    let less = found_inside g.O.OpVector.answer c.args.world.now going.plays.cluster c.in-Some.this (c.in-Some.ensures.found here) in
    let is = c.node_of.ensures in
    let many = c.loop-this.invariant.tally.many in
    omega (arith, less, is, many)

pub returns-then-not-count_turn : goal.returns-then-not-count_turn
returns-then-not-count_turn g c at =
    let going = c.loop-this.invariant.going at in
    let here = going_reached at c.args.log.now c.loop-this.log c.loop-this.places.items going in
    record {
      going = going_kept g.O.OpVector.answer c.args.world.now at.shown c.args.log.now c.loop-this.log c.loop-this.places.items c.found_turn.new.places.items c.found_turn.ensures.kept going;
      over = going_full g.O.OpVector.answer c.args.world.now at.shown c.args.log.now c.loop-this.log c.loop-this.places.items c.loop-this.made.items going c.loop-this.invariant.tally c.in-Some.this (c.in-Some.ensures.found here)
          (subst (λ (k : ℕ). most_turns ≤ slice_index c.loop-this.made.items k) c.node_of.ensures (c.if-not-count_turn.ensures.most refl));
    }

pub play_one-requires : goal.play_one-requires
play_one-requires g c =
    reached_kept (going_reached c.requires.reached c.args.log.now c.loop-this.log c.loop-this.places.items (c.loop-this.invariant.going c.requires.reached)) c.found_turn.new.places.items c.found_turn.ensures.kept

pub loop-this-smaller : goal.loop-this-smaller
loop-this-smaller g c =
    let at = c.requires.reached in
    let going = c.loop-this.invariant.going at in
    let here = going_reached at c.args.log.now c.loop-this.log c.loop-this.places.items going in
    let less = found_inside g.O.OpVector.answer c.args.world.now going.plays.cluster c.in-Some.this (c.in-Some.ensures.found here) in
    let is = c.node_of.ensures in
    let many = c.loop-this.invariant.tally.many in
    subst (λ (made : List ℕ). sum_by (λ (m : ℕ). most_turns - m) made < sum_by (λ (m : ℕ). most_turns - m) c.loop-this.made.items) (sym (c.if-not-count_turn.ensures.counted refl))
    (left_smaller most_turns c.loop-this.made.items c.node_of.result (omega (arith, less, is, many)) (c.if-not-count_turn.ensures.more refl))

pub loop-this-preserved : goal.loop-this-preserved
loop-this-preserved g c =
    let answer = g.O.OpVector.answer in
    let world = c.args.world.now in
    let counted = c.if-not-count_turn.ensures.counted refl ∙ ap (λ (k : ℕ). slice_set c.loop-this.made.items k (slice_index c.loop-this.made.items k + 1)) c.node_of.ensures in
    let less = subst (λ (k : ℕ). slice_index c.loop-this.made.items k < most_turns) c.node_of.ensures (c.if-not-count_turn.ensures.more refl) in
    record {
      tally =
          let at = c.requires.reached in
          let going = c.loop-this.invariant.going at in
          let here = going_reached at c.args.log.now c.loop-this.log c.loop-this.places.items going in
          subst (λ (made : List ℕ). IsTally world.nodes c.play_one.new.log.steps.items made) (sym counted)
          (tally_on answer world at.shown c.args.log.now c.loop-this.log c.loop-this.places.items c.loop-this.made.items going c.loop-this.invariant.tally c.in-Some.this (c.in-Some.ensures.found here) c.play_one.new.log c.play_one.new.places.items
          (c.in_ok-play_one.ensures (reached_kept here c.found_turn.new.places.items c.found_turn.ensures.kept)));
      going = λ at.
          let going = c.loop-this.invariant.going at in
          let here = going_reached at c.args.log.now c.loop-this.log c.loop-this.places.items going in
          going_on answer world at.shown c.args.log.now c.loop-this.log c.loop-this.places.items c.loop-this.made.items going c.loop-this.invariant.tally c.in-Some.this (c.in-Some.ensures.found here) c.play_one.new.log c.play_one.new.places.items
          (c.in_ok-play_one.ensures (reached_kept here c.found_turn.new.places.items c.found_turn.ensures.kept)) less;
    }

pub returns : goal.returns
returns g c at =
    let going = c.loop-this.invariant.going at in
    let here = going_reached at c.args.log.now c.loop-this.log c.loop-this.places.items going in
    record {
      going = going_kept g.O.OpVector.answer c.args.world.now at.shown c.args.log.now c.loop-this.log c.loop-this.places.items c.found_turn.new.places.items c.found_turn.ensures.kept going;
      over = sym (c.in_default.ensures.found here);
    }
