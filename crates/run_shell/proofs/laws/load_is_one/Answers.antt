use Rattle.run_shell.proofs.LoadLaws.{load_one}
use Rattle.run_shell.proofs.laws.load_is_one.Goals as goal

pub returns : goal.returns
returns c = load_one
