use Rattle.std.proofs.Common.{◌∙◌, ap}
use Rattle.std.specs.Prelude.{map}
use Rattle.group_record.specs.Members.{lowered}
use Rattle.group_record.proofs.DistinctLaws.{distinct-lowered}
use Rattle.group_record.proofs.members.Members.lower_each.Goals as goal

pub invariant_of-self : goal.invariant_of-self
invariant_of-self c = distinct-lowered c.args.by c.self.inside.list c.lower_each.new.members c.self.invariant (c.lower_each.ensures ∙ ap (map (lowered c.args.by)) c.as_mut_slice.ensures.items)
