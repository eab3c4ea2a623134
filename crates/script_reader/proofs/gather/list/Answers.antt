use Rattle.std.proofs.Common.{[], map}
use Rattle.script_reader.specs.Files.{listed}
use Rattle.script_reader.proofs.Gathered.{list-more, list-all}
use Rattle.script_reader.proofs.gather.list.Goals as goal

pub loop-word-preserved : goal.loop-word-preserved
loop-word-preserved c =
    let ws = c.args.words.now in
    rw (c.in_ok-note.ensures, c.len-next.ensures) (list-more ws c.loop-word.word-index c.loop-word.numbers (record { ref_ptr = (0, 0); now = [] }) (listed c.args.numbers.now (map (λ w. w.now) ws)) c.loop-word-test.true c.loop-word.invariant)

pub returns : goal.returns
returns c =
    let ws = c.args.words.now in
    list-all ws c.loop-word.word-index c.loop-word.numbers (listed c.args.numbers.now (map (λ w. w.now) ws)) c.loop-word-test.false c.loop-word.invariant
