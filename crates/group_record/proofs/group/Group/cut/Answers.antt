use Rattle.group_record.proofs.MemberLaws.{cut-none}
use Rattle.group_record.proofs.group.Group.cut.Goals as goal

pub returns-then-count-eq0 : goal.returns-then-count-eq0
returns-then-count-eq0 c = rw c.if-count-eq0.true (cut-none c.args.self.now)
