use Rattle.std.proofs.Common.{◌∙◌, ap, slice_get}
use Rattle.group_record.specs.Members.{from_in}
use Rattle.group_record.specs.MethodPlaces.{others_first}
use Rattle.group_record.proofs.PlaceLaws.{place-member}
use Rattle.group_record.proofs.members.Members.from_of.Goals as goal

pub returns : goal.returns
returns c =
    c.from_at.ensures ∙ ap (λ k. from_in (slice_get c.as_slice.result.now k)) c.place.ensures.place
    ∙ ap (λ ms. from_in (slice_get ms (others_first c.args.p c.args.self.now))) (c.as_slice.ensures ∙ c.self.view_is) ∙ ap from_in (place-member c.args.p c.args.self.now)
