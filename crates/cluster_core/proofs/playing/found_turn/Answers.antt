use Rattle.std.proofs.Common.{◌+◌, sym, ap, ◌∙◌, arith, None, Some}
use Rattle.std.specs.Prelude.{slice_get}
use Rattle.cluster_core.proofs.Rule.{found_next}
use Rattle.cluster_core.proofs.playing.found_turn.Goals as goal

pub returns-in-Some-clause-found : goal.returns-in-Some-clause-found
returns-in-Some-clause-found g c at =
    sym (c.loop-k.invariant.rest at
    ∙ found_next at c.loop-k.k (Some c.in-Some.turn) c.loop-k-test.true (λ place here runs. c.in-Some.ensures.found place (ap (λ ps. slice_get ps c.loop-k.k) c.loop-k.invariant.kept ∙ here) runs))

pub loop-k-preserved : goal.loop-k-preserved
loop-k-preserved g c = record {
  within = omega (arith, c.loop-k-test.true);
  kept = c.turn_at.ensures.kept ∙ c.loop-k.invariant.kept;
  rest = λ at. c.loop-k.invariant.rest at
      ∙ found_next at c.loop-k.k None c.loop-k-test.true (λ place here runs. c.in_default.ensures.found place (ap (λ ps. slice_get ps c.loop-k.k) c.loop-k.invariant.kept ∙ here) runs);
}
