use Rattle.commit_log.proofs.Keeps.{opens}
use Rattle.commit_log.proofs.log.CommitLog.new.Goals as goal

pub of_words-requires : goal.of_words-requires
of_words-requires g c = opens g.M.Machine.node_of g.M.Machine.lawful c.from-key.result g.M.Machine.empty_law
