use Rattle.std.proofs.lemmas.Result.{err_from_is_err_and}
use Rattle.script_reader.proofs.SignalLemmas.{goes_on, stops, ends}
use Rattle.script_reader.specs.Statements.{signals}
use Rattle.std.proofs.Common.{map, []}
use Rattle.script_reader.proofs.statements.signals.Goals as goal

pub returns-in_err-signal : goal.returns-in_err-signal
returns-in_err-signal c =
    let p = err_from_is_err_and c.from_residual.result c.from_residual.ensures.1 in
    let ws = c.args.words.now in
    rw (p.1, p.2) (stops ws c.loop-word.word-index c.loop-word.set (record { ref_ptr = (0, 0); now = [] }) c.in_err-signal.field-0.0 (signals 0 (map (λ w. w.now) ws)) c.loop-word-test.true c.in_err-signal.ensures c.loop-word.invariant)

pub loop-word-preserved : goal.loop-word-preserved
loop-word-preserved c =
    let ws = c.args.words.now in
    rw c.with-set.ensures (goes_on ws c.loop-word.word-index c.loop-word.set (record { ref_ptr = (0, 0); now = [] }) c.in_ok-signal.field-0 (signals 0 (map (λ w. w.now) ws)) c.loop-word-test.true c.in_ok-signal.ensures c.loop-word.invariant)

pub returns : goal.returns
returns c =
    let ws = c.args.words.now in
    ends ws c.loop-word.word-index c.loop-word.set (signals 0 (map (λ w. w.now) ws)) c.loop-word-test.false c.loop-word.invariant
