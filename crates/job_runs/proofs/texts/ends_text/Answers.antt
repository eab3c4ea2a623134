use Rattle.std.specs.String.{string_bytes}
use Rattle.script_words.specs.Writing.{spaced}
use Rattle.job_runs.specs.Jobs.{ends_from}
use Rattle.job_runs.proofs.Ended.{ends_more}
use Rattle.job_runs.proofs.texts.ends_text.Goals as goal

pub loop-k-preserved : goal.loop-k-preserved
loop-k-preserved c =
    ends_more c.args.history.now (string_bytes c.loop-k.text) (string_bytes c.put_end.new.text) (spaced (ends_from c.args.history.now c.args.first c.args.stages.now)) c.in_ok-status.status c.args.first c.loop-k.k c.args.stages.now (record { status = 0; node = record { 0 = 0 } })
    c.loop-k-test.true c.in_ok-put_end.ensures c.in_ok-status.ensures c.loop-k.invariant
