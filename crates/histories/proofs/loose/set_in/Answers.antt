use Rattle.std.proofs.Common.{[], map, fold}
use Rattle.unix_names.specs.Signals.{signal_named}
use Rattle.histories.specs.MethodLoose.{with_named, set_in}
use Rattle.histories.proofs.LooseLaws.{goes_on, ends}
use Rattle.histories.proofs.loose.set_in.Goals as goal

pub loop-word-preserved : goal.loop-word-preserved
loop-word-preserved c =
    let ws = c.args.words.now in
    rw (c.with_named-set.ensures, c.signal_named.ensures) (goes_on ws c.loop-word.word-index c.loop-word.set (record { ref_ptr = (0, 0); now = [] }) (fold (λ set word. with_named set (signal_named word)) 0 (map (λ w. w.now) ws)) c.loop-word-test.true c.loop-word.invariant)

pub returns : goal.returns
unfolding set_in
returns c =
    let ws = c.args.words.now in
    ends ws c.loop-word.word-index c.loop-word.set (fold (λ set word. with_named set (signal_named word)) 0 (map (λ w. w.now) ws)) c.loop-word-test.false c.loop-word.invariant
