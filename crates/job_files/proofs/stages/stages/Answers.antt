use Rattle.std.proofs.Common.{◌∙◌, map, [], sym}
use Rattle.job_files.specs.MethodReading.{stages}
use Rattle.job_files.proofs.Readings.{behind_none, stages_more, stages_bad, stages_all}
use Rattle.job_files.proofs.stages.stages.Goals as goal

pub loop-word-init : goal.loop-word-init
loop-word-init c = rw c.new-stages.ensures (behind_none (stages c.args.nodes (map (λ w. w.now) c.args.words.now)))

pub loop-word-preserved : goal.loop-word-preserved
loop-word-preserved c =
    let ws = c.args.words.now in
    rw c.in_ok-push-in-Ok.ensures.ok
    (stages_more c.args.nodes c.loop-word.stages ws c.loop-word.word-index (record { ref_ptr = (0, 0); now = [] }) c.in-Ok.stage (stages c.args.nodes (map (λ w. w.now) ws)) c.loop-word-test.true (sym c.stage.ensures ∙ c.in-Ok.is) c.loop-word.invariant)

pub returns-in-Err : goal.returns-in-Err
returns-in-Err c =
    let ws = c.args.words.now in
    stages_bad c.args.nodes c.loop-word.stages ws c.loop-word.word-index (record { ref_ptr = (0, 0); now = [] }) c.in-Err.kind (stages c.args.nodes (map (λ w. w.now) ws)) c.loop-word-test.true (sym c.stage.ensures ∙ c.in-Err.is) c.loop-word.invariant

pub returns : goal.returns
returns c =
    let ws = c.args.words.now in
    stages_all c.args.nodes c.loop-word.stages ws c.loop-word.word-index (stages c.args.nodes (map (λ w. w.now) ws)) c.loop-word-test.false c.loop-word.invariant
