use Rattle.std.proofs.Common.{[], map}
use Rattle.script_reader.specs.Files.{numbered}
use Rattle.script_reader.proofs.Gathered.{number-more, number-all}
use Rattle.script_reader.proofs.gather.numbered.Goals as goal

pub loop-n-preserved : goal.loop-n-preserved
loop-n-preserved c =
    let ws = c.args.words.now in
    rw c.in_ok-note.ensures (number-more ws c.loop-n.n c.loop-n.n c.loop-n.numbers (record { ref_ptr = (0, 0); now = [] }) (numbered [] 0 (map (λ w. w.now) ws)) c.loop-n-test.true c.loop-n.invariant)

pub returns : goal.returns
returns c =
    let ws = c.args.words.now in
    number-all ws c.loop-n.n c.loop-n.n c.loop-n.numbers (numbered [] 0 (map (λ w. w.now) ws)) c.loop-n-test.false c.loop-n.invariant
