use Rattle.std.proofs.Common.{◌==◌, ◌<◌, ◌∙◌, ◌∷◌, ◌++◌, [], List, not, length, ap, sym, subst}
use Rattle.std.specs.Prelude.{filter, remove}
use Rattle.group_record.specs.declared.member.Member.{Member}
use Rattle.group_record.specs.MethodPlaces.{others_first}
use Rattle.group_record.proofs.DistinctLaws.{moved-last, distinct-moved-last}
use Rattle.group_record.proofs.members.Members.move_to_end.Goals as goal

pub invariant_of-self : goal.invariant_of-self
invariant_of-self c =
    distinct-moved-last c.args.m c.args.at c.self.inside.list c.replace_by_last.new.members c.self.invariant
    (subst (λ (l : List Member). c.args.at < length l) (sym c.self.view_is) c.requires.within) (c.requires.place ∙ ap (others_first c.args.m.pid) (sym c.self.view_is))
    (c.replace_by_last.ensures ∙ ap (λ l. remove l c.args.at ++ c.args.m ∷ []) c.as_mut_slice.ensures.items)

pub returns : goal.returns
returns c =
    moved-last c.args.m c.args.at c.self.inside.list c.replace_by_last.new.members c.self.invariant
    (subst (λ (l : List Member). c.args.at < length l) (sym c.self.view_is) c.requires.within) (c.requires.place ∙ ap (others_first c.args.m.pid) (sym c.self.view_is))
    (c.replace_by_last.ensures ∙ ap (λ l. remove l c.args.at ++ c.args.m ∷ []) c.as_mut_slice.ensures.items)
    ∙ ap (λ l. filter (λ k. not (k.pid.0 == c.args.m.pid.0)) l ++ c.args.m ∷ []) c.self.view_is
