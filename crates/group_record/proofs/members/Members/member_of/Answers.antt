use Rattle.std.proofs.Common.{◌∙◌, ap, slice_get}
use Rattle.group_record.specs.MethodPlaces.{others_first}
use Rattle.group_record.proofs.PlaceLaws.{place-member}
use Rattle.group_record.proofs.members.Members.member_of.Goals as goal

pub returns : goal.returns
returns c =
    c.member_at.ensures ∙ ap (slice_get c.as_slice.result.now) c.place.ensures.place
    ∙ ap (λ ms. slice_get ms (others_first c.args.p c.args.self.now)) (c.as_slice.ensures ∙ c.self.view_is) ∙ place-member c.args.p c.args.self.now
