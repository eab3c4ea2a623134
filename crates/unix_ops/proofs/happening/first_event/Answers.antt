use Rattle.std.proofs.Common.{◌∙◌, ap}
use Rattle.signal_state.specs.declared.Own.{Own}
use Rattle.kernel_choice.specs.Choice.{first_event_of}
use Rattle.decide_law.specs.Footprints.{is_orphaned}
use Rattle.unix_ops.proofs.Dispatch.{told_coming}
use Rattle.unix_ops.proofs.happening.first_event.Goals as goal

pub returns : goal.returns
returns c = λ v g ev eg.
    c.first_event_of.ensures.event ∙ ap (first_event_of c.args.folded.now.sig) (c.is_orphaned.ensures v g ev eg) ∙ ap (λ (x : Own). first_event_of x.sig (is_orphaned g)) (c.requires.folded v g ev eg)
    ∙ told_coming c.args.pid c.args.own.now c.args.bag.now c.requires.fits v g ev eg
