use Rattle.std.proofs.Common.{rules}
use Rattle.commit_log.proofs.Keeps.{tells}
use Rattle.commit_log.proofs.log.CommitLog.note.Goals as goal

pub split_seat-requires : goal.split_seat-requires
split_seat-requires g c = (search rules, search rules, tells g.M.Machine.node_of g.M.Machine.lawful c.self.inside.table.shared.key c.pass.inside.seat.id c.pass.inside.seat.me.0)
