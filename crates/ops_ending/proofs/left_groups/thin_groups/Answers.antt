use Rattle.std.proofs.Common.{◌∙◌, ap, sym}
use Rattle.std.specs.Prelude.{slice_get}
use Rattle.ops_ending.specs.MethodEnding.{held_thinned_by}
use Rattle.ops_ending.proofs.EndCode.{counted_entry}
use Rattle.ops_ending.proofs.Partly.{changed_more, got_next}
use Rattle.ops_ending.proofs.left_groups.thin_groups.Goals as goal

pub loop-at-preserved : goal.loop-at-preserved
loop-at-preserved c = changed_more (held_thinned_by c.args.bag.now c.args.near.now c.args.end) c.args.groups.now c.loop-at.groups c.thin_at.new.groups c.loop-at.at c.loop-at.invariant c.thin_at.ensures

pub thin_at-requires-clause-counted : goal.thin_at-requires-clause-counted
thin_at-requires-clause-counted c = λ held there.
    counted_entry c.args.groups.now c.loop-at.at held c.as_slice-at-end.ensures.rising
    (got_next (held_thinned_by c.args.bag.now c.args.near.now c.args.end) c.args.groups.now c.loop-at.at held (ap (λ l. slice_get l c.loop-at.at) (sym c.loop-at.invariant) ∙ there)) c.requires.counted
