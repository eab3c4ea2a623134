use Rattle.group_record.proofs.LogLaws.{spare_within, log_part-trimmed, within-trimmed}
use Rattle.group_record.proofs.group.Group.trim.Goals as goal

pub cut-requires : goal.cut-requires
cut-requires c = rw c.spare-count.ensures (spare_within c.args.self.now c.requires)

pub returns-clause-streams : goal.returns-clause-streams
returns-clause-streams c = λ p uid has. rw (c.cut.ensures, c.spare-count.ensures) (log_part-trimmed c.args.self.now p uid has)

pub returns-clause-within : goal.returns-clause-within
returns-clause-within c = rw (c.cut.ensures, c.spare-count.ensures) (within-trimmed c.args.self.now c.requires)
