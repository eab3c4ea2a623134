use Rattle.std.proofs.Common.{rules, Err}
use Rattle.given_files.proofs.Meanings.{means, reading_bad}
use Rattle.given_files.proofs.input.read_given.Goals as goal

pub returns-clause-means : goal.returns-clause-means
returns-clause-means c = means c.args.input.now c.in_ok-given.given c.in_ok-given.ensures

pub returns-in_err-given-clause-fault : goal.returns-in_err-given-clause-fault
returns-in_err-given-clause-fault c =
    let bad = reading_bad c.args.input.now (Err c.in_err-given.field-0.0) c.in_err-given.ensures in search rules
