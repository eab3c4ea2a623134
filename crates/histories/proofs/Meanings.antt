-- words spell the entry that they seem to say, or none
use Rattle.std.proofs.Common.{inl, inr, ◌≡◌, ◌⊎◌, ℕ, true, List, [], ◌∷◌, ◌++◌, refl, ap, sym, subst, ◌∙◌}
use Rattle.std.specs.Str.{bytes_eq}
use Rattle.std.proofs.lemmas.Bool.{and_parts, cases_Bool}
use Rattle.std.proofs.lemmas.Slice.Eq.{bytes_eq-Decides}
use Rattle.unix_calls.specs.declared.Call.TheVariants as calls
use Rattle.unix_calls.specs.declared.Reply.{Reply}
use Rattle.unix_calls.specs.declared.Reply.TheVariants as replies
use Rattle.std.specs.Fmt.{decimal}
use Rattle.std.proofs.lemmas.List.{append_cancel_right}
use Rattle.std.proofs.lemmas.List.Concat.{flat_map-cons}
use Rattle.byte_ends.specs.Text.{words}
use Rattle.unix_calls.specs.declared.Entry.{Entry}
use Rattle.unix_calls.specs.declared.Entry.TheVariants.{Called, Happened}
use Rattle.text_laws.specs.Plain.{is_plain, are_plain}
use Rattle.text_laws.proofs.Words.{words-spaced}
use Rattle.script_words.specs.Writing.{spaced}
use Rattle.histories.specs.History.{line_of, call_words, reply_words, event_words}
use Rattle.unix_calls.specs.Calls.{HasReply}
use Rattle.histories.specs.MethodLoose.{entry_in}
use Rattle.histories.specs.Reading.{entry_words, SpellsEntry, AreWords}
use Rattle.histories.proofs.EntryLaws.{entry-read}
use Rattle.histories.proofs.FitLaws.{entry-fits}
use Rattle.histories.proofs.PlainLaws.{plain-entry}
use Rattle.histories.proofs.Solid.{Words, solid-words, solid-read}

line-words : (e : Entry) → 32 ∷ line_of e ≡ spaced (entry_words e) ++ 10 ∷ []
line-words (Called caller c r) = ap (λ (t : List ℕ). t ++ 10 ∷ []) (sym (flat_map-cons (λ (w : List ℕ). 32 ∷ w) (decimal caller.0) (call_words c ++ reply_words r)))
line-words (Happened pid e) = ap (λ (t : List ℕ). t ++ 10 ∷ []) (sym (flat_map-cons (λ (w : List ℕ). 32 ∷ w) (decimal pid.0) (event_words e)))

read-back : (w : List ℕ) (ws : Words) → are_plain (w ∷ ws) ≡ true → words (spaced (w ∷ ws)) ≡ w ∷ ws
read-back w ws h =
    let parts = and_parts (is_plain w) (are_plain ws) h in
    ap words (flat_map-cons (λ (w : List ℕ). 32 ∷ w) w ws) ∙ words-spaced w ws parts.0 parts.1

plain-read : (e : Entry) → are_plain (entry_words e) ≡ true → words (spaced (entry_words e)) ≡ entry_words e
plain-read (Called caller c r) h = read-back (decimal caller.0) (call_words c ++ reply_words r) h
plain-read (Happened pid e) h = read-back (decimal pid.0) (event_words e) h

-- words of a line that are written as an entry is spell it
pub meant : (ws : Words) → AreWords ws → HasReply (entry_in ws) → spaced ws ++ 10 ∷ [] ≡ 32 ∷ line_of (entry_in ws) → SpellsEntry ws (entry_in ws)
meant ws (line, e) reply written =
    let fit = entry-fits ws in
    let entry = entry_in ws in
    let same : spaced ws ≡ spaced (entry_words entry) = append_cancel_right (spaced ws) (spaced (entry_words entry)) (10 ∷ []) (written ∙ line-words entry) in
    let read : words (spaced ws) ≡ ws = ap (λ (vs : Words). words (spaced vs)) e ∙ solid-read (words line) (solid-words line) ∙ sym e in
    record {
      is_entry = (reply, fit.1);
      fits = fit.0;
      spelled = sym read ∙ ap words same ∙ plain-read entry (plain-entry entry);
    }

-- what words spell they seem to say
pub seems : (ws : Words) (e : Entry) → SpellsEntry ws e → entry_in ws ≡ e
seems ws e m = ap entry_in m.spelled ∙ entry-read e m.fits m.is_entry.1

-- and it is written as they are
pub written_as : (ws : Words) (e : Entry) → SpellsEntry ws e → spaced ws ++ 10 ∷ [] ≡ 32 ∷ line_of (entry_in ws)
written_as ws e m =
    ap (λ (vs : Words). spaced vs ++ 10 ∷ []) m.spelled ∙ sym (line-words e) ∙ ap (λ (d : Entry). 32 ∷ line_of d) (sym (seems ws e m))

-- words spell one entry at most
pub spelling-unique : (ws : Words) (d e : Entry) → SpellsEntry ws d → SpellsEntry ws e → d ≡ e
spelling-unique ws d e md me = sym (seems ws d md) ∙ seems ws e me

-- ---- whether words spell an entry
silent : (r : Reply) → (r ≡ replies.NoReply) ⊎ ¬ (r ≡ replies.NoReply)
silent replies.Fine = inr (λ e. absurd (cc))
silent (replies.Number n) = inr (λ e. absurd (cc))
silent (replies.Set set) = inr (λ e. absurd (cc))
silent (replies.Child pid s) = inr (λ e. absurd (cc))
silent replies.Again = inr (λ e. absurd (cc))
silent (replies.Refused e) = inr (λ d. absurd (cc))
silent replies.NoReply = inl refl

turned : {P : Type 0} → P ⊎ ¬ P → ¬ P ⊎ ¬ ¬ P
turned (inl p) = inr (λ n. n p)
turned (inr n) = inl n

answered : (e : Entry) → HasReply e ⊎ ¬ HasReply e
answered (Called caller (calls.Exit n) reply) = silent reply
answered (Called caller calls.Getpid reply) = turned (silent reply)
answered (Called caller calls.Getppid reply) = turned (silent reply)
answered (Called caller (calls.Getpgid t) reply) = turned (silent reply)
answered (Called caller (calls.Getsid t) reply) = turned (silent reply)
answered (Called caller calls.Fork reply) = turned (silent reply)
answered (Called caller calls.Exec reply) = turned (silent reply)
answered (Called caller (calls.Waitpid sel a b) reply) = turned (silent reply)
answered (Called caller (calls.Kill target sig) reply) = turned (silent reply)
answered (Called caller (calls.Setpgid pid pgid) reply) = turned (silent reply)
answered (Called caller calls.Setsid reply) = turned (silent reply)
answered (Called caller (calls.Action sig a) reply) = turned (silent reply)
answered (Called caller (calls.Mask set) reply) = turned (silent reply)
answered (Called caller calls.Pending reply) = turned (silent reply)
answered (Called caller calls.Migrate reply) = turned (silent reply)
answered (Happened pid event) = inl tt

same : (xs ys : List ℕ) → (xs ≡ ys) ⊎ ¬ (xs ≡ ys)
same xs ys =
    let d = bytes_eq-Decides xs ys in
    elim (cases_Bool (bytes_eq xs ys)) [
      | inl t ↦ inl (d.0 t)
      | inr f ↦ inr (λ e. let t = d.1 e in absurd (cc))
    ]

pub entry-known : (ws : Words) → AreWords ws → ((e : Entry) × SpellsEntry ws e) ⊎ ((e : Entry) → SpellsEntry ws e → ⊥)
entry-known ws are =
    let P : Entry → Type 0 = λ d. HasReply d in
    elim (answered (entry_in ws)) [
      | inr none ↦ inr (λ d m. none (subst P (sym (seems ws d m)) m.is_entry.0))
      | inl reply ↦ elim (same (spaced ws ++ 10 ∷ []) (32 ∷ line_of (entry_in ws))) [
        | inl written ↦ inl (entry_in ws, meant ws are reply written)
        | inr other ↦ inr (λ d m. other (written_as ws d m))
      ]
    ]
