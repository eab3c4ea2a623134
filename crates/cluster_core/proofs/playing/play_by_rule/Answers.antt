use Rattle.std.proofs.Common.{◌≡◌, ◌+◌, ◌-◌, ℕ, List, [], ◌∷◌, ◌++◌, replicate, sym, ap, ◌∙◌, subst, arith}
use Rattle.cluster_state.specs.Run.{Order, This, ByRule}
use Rattle.cluster_core.specs.MethodReached.{PlaysOn}
use Rattle.cluster_core.proofs.Reached.{reached_on, reached_kept}
use Rattle.cluster_core.proofs.Orders.{nothing_played, played_on, found_played, rule_ended, replicate_on}
use Rattle.cluster_core.proofs.playing.play_by_rule.Goals as goal

pub found_turn-requires : goal.found_turn-requires
found_turn-requires g c = reached_on c.requires (replicate c.loop-done.done ByRule) c.args.log.now c.loop-done.log c.loop-done.places.items (c.loop-done.invariant.played c.requires)

pub returns-in_default : goal.returns-in_default
returns-in_default g c at =
    let done = c.loop-done.done in
    let p = c.loop-done.invariant.played at in
    let here = reached_on at (replicate done ByRule) c.args.log.now c.loop-done.log c.loop-done.places.items p in
    let rest = rule_ended g.O.OpVector.answer c.args.world.now here.shown (c.args.count - done) c.loop-done.log c.found_turn.new.places.items (c.in_default.ensures.found here) (reached_kept here c.found_turn.new.places.items c.found_turn.ensures.kept).shows in
    let whole : done + (c.args.count - done) ≡ c.args.count = omega (arith, c.loop-done-test.true) in
    subst (λ (os : List Order). PlaysOn g.O.OpVector.answer c.args.world.now at.shown os c.args.log.now c.loop-done.log c.found_turn.new.places.items) (sym (replicate_on done (c.args.count - done)) ∙ ap (λ (n : ℕ). replicate n ByRule) whole)
    (played_on g.O.OpVector.answer c.args.world.now at.shown (replicate done ByRule) (replicate (c.args.count - done) ByRule) c.args.log.now c.loop-done.log c.loop-done.log c.loop-done.places.items c.found_turn.new.places.items p rest)

pub play_one-requires : goal.play_one-requires
play_one-requires g c =
    reached_kept (reached_on c.requires (replicate c.loop-done.done ByRule) c.args.log.now c.loop-done.log c.loop-done.places.items (c.loop-done.invariant.played c.requires)) c.found_turn.new.places.items c.found_turn.ensures.kept

pub loop-done-preserved : goal.loop-done-preserved
loop-done-preserved g c = record {
  within = omega (arith, c.loop-done-test.true);
  played = λ at.
      let done = c.loop-done.done in
      let p = c.loop-done.invariant.played at in
      let here = reached_on at (replicate done ByRule) c.args.log.now c.loop-done.log c.loop-done.places.items p in
      let one = c.in_ok-play_one.ensures (reached_kept here c.found_turn.new.places.items c.found_turn.ensures.kept) in
      subst (λ (os : List Order). PlaysOn g.O.OpVector.answer c.args.world.now at.shown os c.args.log.now c.play_one.new.log c.play_one.new.places.items) (sym (replicate_on done 1))
      (played_on g.O.OpVector.answer c.args.world.now at.shown (replicate done ByRule) (ByRule ∷ []) c.args.log.now c.loop-done.log c.play_one.new.log c.loop-done.places.items c.play_one.new.places.items p
      (found_played g.O.OpVector.answer c.args.world.now here.shown c.in-Some.this c.loop-done.log c.play_one.new.log c.play_one.new.places.items (c.in-Some.ensures.found here) one));
}

pub returns : goal.returns
returns g c at =
    let whole : c.loop-done.done ≡ c.args.count = omega (arith, c.loop-done-test.false, c.loop-done.invariant.within) in
    subst (λ (n : ℕ). PlaysOn g.O.OpVector.answer c.args.world.now at.shown (replicate n ByRule) c.args.log.now c.loop-done.log c.loop-done.places.items) whole (c.loop-done.invariant.played at)
