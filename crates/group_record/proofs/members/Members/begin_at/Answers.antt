use Rattle.std.proofs.Common.{◌∙◌, ap, slice_get}
use Rattle.std.specs.Prelude.{map}
use Rattle.group_record.specs.Members.{from_in, begun_at}
use Rattle.group_record.specs.MethodPlaces.{others_first}
use Rattle.group_record.proofs.PlaceLaws.{place-member}
use Rattle.group_record.proofs.DistinctLaws.{distinct-begun}
use Rattle.group_record.proofs.members.Members.begin_at.Goals as goal

pub invariant_of-self : goal.invariant_of-self
invariant_of-self c = distinct-begun c.args.from c.args.p c.self.inside.list c.begin_at.new.members c.self.invariant (c.begin_at.ensures ∙ ap (map (begun_at c.args.from c.args.p)) c.as_mut_slice.ensures.items)

pub returns-clause-began : goal.returns-clause-began
returns-clause-began c =
    c.from_at-began.ensures ∙ ap (λ k. from_in (slice_get c.as_slice.result.now k)) c.place-at.ensures.place
    ∙ ap (λ ms. from_in (slice_get ms (others_first c.args.p c.args.self.now))) (c.as_slice.ensures ∙ c.self.view_is) ∙ ap from_in (place-member c.args.p c.args.self.now)
