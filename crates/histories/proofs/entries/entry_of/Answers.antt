use Rattle.std.proofs.Common.{◌≡◌, ◌∷◌, ◌++◌, [], true, map, sym, ◌∙◌, subst}
use Rattle.unix_calls.specs.declared.Entry.{Entry}
use Rattle.script_words.specs.Writing.{spaced}
use Rattle.histories.specs.History.{line_of}
use Rattle.unix_calls.specs.Calls.{HasReply}
use Rattle.histories.specs.Reading.{SpellsEntry}
use Rattle.histories.proofs.Meanings.{meant, seems, written_as}
use Rattle.histories.proofs.entries.entry_of.Goals as goal

pub returns-then-not-has_reply-clause-none : goal.returns-then-not-has_reply-clause-none
returns-then-not-has_reply-clause-none c = λ empty e m.
    let ws = map (λ w. w.now) c.args.words.now in
    let same : c.entry_in-entry.result ≡ e = c.entry_in-entry.ensures ∙ seems ws e m in
    let P : Entry → Type 0 = λ d. HasReply d in
    let told : c.has_reply.result ≡ true = c.has_reply.ensures.1 (subst P (sym same) m.is_entry.0) in
    let test = c.if-not-has_reply.true in
    absurd (cc)

pub returns-then-branch-clause-found : goal.returns-then-branch-clause-found
returns-then-branch-clause-found c =
    let ws = map (λ w. w.now) c.args.words.now in
    let same = c.entry_in-entry.ensures in
    let test = c.if-not-has_reply.false in
    let told : c.has_reply.result ≡ true = cc in
    let P : Entry → Type 0 = λ d. HasReply d in
    let Q : Entry → Type 0 = λ d. spaced ws ++ 10 ∷ [] ≡ 32 ∷ line_of d in
    let R : Entry → Type 0 = λ d. SpellsEntry ws d in
    subst R (sym same) (meant ws c.requires (subst P same (c.has_reply.ensures.0 told)) (subst Q same (c.in_ok-is_written.ensures.0 c.if-branch.true)))

pub returns-else-branch-clause-none : goal.returns-else-branch-clause-none
returns-else-branch-clause-none c = λ empty e m.
    let ws = map (λ w. w.now) c.args.words.now in
    let same = c.entry_in-entry.ensures in
    let Q : Entry → Type 0 = λ d. spaced ws ++ 10 ∷ [] ≡ 32 ∷ line_of d in
    let told : c.in_ok-is_written.field-0 ≡ true = c.in_ok-is_written.ensures.1 (subst Q (sym same) (written_as ws e m)) in
    let test = c.if-branch.false in
    absurd (cc)
