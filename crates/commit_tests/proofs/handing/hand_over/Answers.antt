use Rattle.std.proofs.Common.{rules, ◌≡◌, ◌∷◌, [], ℕ, List, Option, Some, ap, sym, subst, ◌∙◌}
use Rattle.pasts.specs.Pasts.{union, Knows}
use Rattle.past_lists.specs.Own.{added}
use Rattle.past_lists.proofs.Seen.{added_here}
use Rattle.token_laws.specs.declared.Move.{Move}
use Rattle.token_laws.specs.declared.Move.TheVariants.{Give, Take}
use Rattle.commit_tests.proofs.Hearing.{may_take, has_room, later, heard, still}
use Rattle.commit_tests.proofs.handing.hand_over.Goals as goal

pub commit-taken-requires-clause-lawful : goal.commit-taken-requires-clause-lawful
commit-taken-requires-clause-lawful c =
    let k = c.commit-given.result in
    let is : c.learn.new.pass.seen ≡ added [] k Give = c.learn.ensures.both ∙ (ap (λ v. union v.seen c.note-note.result.seen) c.requires.taker ∙ (ap (λ n. n.seen) c.note-note.ensures.note ∙ (c.commit-given.ensures.seen ∙ ap (λ v. added v.seen k Give) c.requires.giver))) in
    may_take k c.learn.new.pass.seen is

pub commit-taken-requires-clause-room : goal.commit-taken-requires-clause-room
commit-taken-requires-clause-room c =
    let k = c.commit-given.result in
    let is : c.learn.new.pass.seen ≡ added [] k Give = c.learn.ensures.both ∙ (ap (λ v. union v.seen c.note-note.result.seen) c.requires.taker ∙ (ap (λ n. n.seen) c.note-note.ensures.note ∙ (c.commit-given.ensures.seen ∙ ap (λ v. added v.seen k Give) c.requires.giver))) in
    has_room k c.learn.new.pass.seen is c.learn.new.pass.node (c.learn.ensures.same.1 ∙ ap (λ v. v.node) c.requires.taker)

pub returns-clause-order : goal.returns-clause-order
returns-clause-order c =
    let k = c.commit-given.result in
    let is : c.learn.new.pass.seen ≡ added [] k Give = c.learn.ensures.both ∙ (ap (λ v. union v.seen c.note-note.result.seen) c.requires.taker ∙ (ap (λ n. n.seen) c.note-note.ensures.note ∙ (c.commit-given.ensures.seen ∙ ap (λ v. added v.seen k Give) c.requires.giver))) in
    later k c.learn.new.pass.seen is c.commit-taken.result c.commit-taken.ensures.above

pub returns-clause-given : goal.returns-clause-given
returns-clause-given c =
    let k = c.commit-given.result in
    let is : c.learn.new.pass.seen ≡ added [] k Give = c.learn.ensures.both ∙ (ap (λ v. union v.seen c.note-note.result.seen) c.requires.taker ∙ (ap (λ n. n.seen) c.note-note.ensures.note ∙ (c.commit-given.ensures.seen ∙ ap (λ v. added v.seen k Give) c.requires.giver))) in
    let own : c.note-note.new.pass.seen ≡ added [] k Give = ap (λ v. v.seen) c.note-note.ensures.same ∙ (c.commit-given.ensures.seen ∙ ap (λ v. added v.seen k Give) c.requires.giver) in
    (heard k c.note-note.new.pass.seen own, subst (λ (s : List (Option Move)). Knows s k Give) (sym c.commit-taken.ensures.seen) (still k c.learn.new.pass.seen is c.commit-taken.result))

pub returns-clause-taken : goal.returns-clause-taken
returns-clause-taken c = subst (λ (s : List (Option Move)). Knows s c.commit-taken.result Take) (sym c.commit-taken.ensures.seen) (added_here c.learn.new.pass.seen c.commit-taken.result Take c.commit-taken.ensures.above)
