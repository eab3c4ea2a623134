use Rattle.run_shell.specs.declared.replays.Format.TheVariants.{One, Two}
use Rattle.run_shell.proofs.Single.{one_replay}
use Rattle.run_shell.proofs.laws.replay_is_one.Goals as goal

pub returns-clause-one : goal.returns-clause-one
returns-clause-one c = one_replay One

pub returns-clause-two : goal.returns-clause-two
returns-clause-two c = one_replay Two
