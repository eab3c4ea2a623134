use Rattle.thread_shell.proofs.Replaying.{written_are_read, written_replay}
use Rattle.thread_shell.proofs.laws.written_schedules_replay.Goals as goal

pub returns-clause-read : goal.returns-clause-read
returns-clause-read c = written_are_read

pub returns-clause-replay : goal.returns-clause-replay
returns-clause-replay c = written_replay
