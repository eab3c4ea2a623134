use Rattle.std.proofs.Common.{◌∙◌, ap}
use Rattle.run_shell.specs.Load.{counts_text}
use Rattle.run_shell.proofs.Runs.{may_decide, counts_run}
use Rattle.run_shell.proofs.loads.counted.Goals as goal

pub run-requires-clause-decides : goal.run-requires-clause-decides
run-requires-clause-decides c = may_decide c.args.world.now

pub returns : goal.returns
returns c =
    counts_run c.args.world.now c.args.turns.now c.in_ok-played.played c.in_ok-counts_text.field-0.items c.requires c.in_ok-played.ensures
    (c.in_ok-counts_text.ensures ∙ ap counts_text c.counts_of.ensures)
