use Rattle.group_record.proofs.DistinctLaws.{distinct-removed}
use Rattle.group_record.proofs.members.Members.remove_at.Goals as goal

pub invariant_of-self : goal.invariant_of-self
invariant_of-self c = rw c.remove-m.ensures.rest (distinct-removed c.self.inside.list c.args.at c.self.invariant)
