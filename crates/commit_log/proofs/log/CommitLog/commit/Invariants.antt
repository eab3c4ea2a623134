use Rattle.std.proofs.Common.{Some}
use Rattle.commit_log.proofs.log.CommitLog.commit.Given as goal

abbrev pub ghosts-commit_as : goal.ghosts-commit_as
ghosts-commit_as g a = record { said = Some a.step }
