use Rattle.std.proofs.Common.{sym}
use Rattle.group_record.proofs.MemberLaws.{none_behind}
use Rattle.group_record.proofs.member.has_behind.Goals as goal

pub returns-then-all-eq0 : goal.returns-then-all-eq0
returns-then-all-eq0 c = rw c.if-all-eq0.true (sym (none_behind c.args.members.now))
