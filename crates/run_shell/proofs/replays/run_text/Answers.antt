use Rattle.std.proofs.lemmas.Result.{IfOk-weaker}
use Rattle.run_shell.specs.Replay.{WritesRun}
use Rattle.run_shell.proofs.Runs.{may_decide, can_write, writes_run}
use Rattle.run_shell.proofs.replays.run_text.Goals as goal

pub run-requires-clause-decides : goal.run-requires-clause-decides
run-requires-clause-decides c = may_decide c.args.world.now

pub history_text-requires : goal.history_text-requires
history_text-requires c = can_write c.args.world.now c.args.schedule.now c.in_ok-played.played c.requires c.in_ok-played.ensures

pub returns : goal.returns
returns c =
    let played = c.in_ok-played.played in
    IfOk-weaker c.history_text.result _ (λ text. WritesRun c.args.format c.args.world.now c.args.schedule.now text.items)
    (λ text e. writes_run c.args.format c.args.world.now c.args.schedule.now played text.items c.requires c.in_ok-played.ensures e) c.history_text.ensures
