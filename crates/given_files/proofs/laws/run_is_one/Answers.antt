use Rattle.given_files.proofs.Meanings.{one_run}
use Rattle.given_files.proofs.laws.run_is_one.Goals as goal

pub returns : goal.returns
returns c = one_run
