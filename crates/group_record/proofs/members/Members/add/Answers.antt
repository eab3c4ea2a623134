use Rattle.std.proofs.Common.{◌≡◌, List, false, sym, subst}
use Rattle.group_record.specs.declared.member.Member.{Member}
use Rattle.group_record.specs.Members.{has_member}
use Rattle.group_record.proofs.DistinctLaws.{distinct-joined}
use Rattle.group_record.proofs.members.Members.add.Goals as goal

pub invariant_of-self-2 : goal.invariant_of-self-2
invariant_of-self-2 c =
    rw c.in_ok-push.ensures.ok (distinct-joined c.self.inside.list c.args.m (subst (λ (l : List Member). has_member l c.args.m.pid ≡ false) (sym c.self.view_is) c.requires) c.self.invariant)
