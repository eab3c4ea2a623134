-- an input has one answer
use Rattle.std.proofs.Common.{◌≡◌, ◌⊎◌, inl, inr, ℕ, ◌+◌, List, ◌∷◌, [], ◌++◌, refl, sym, ap, subst, ◌∙◌, Option, Some, None, Result, Ok, Err, codes}
use Rattle.std.specs.Prelude.{IfOk}
use Rattle.byte_ends.specs.Text.{lines, words}
use Rattle.unix_names.specs.declared.NoMemory.{NoMemory}
use Rattle.unix_calls.specs.declared.Entry.{Entry}
use Rattle.unix_calls.specs.declared.World.{World}
use Rattle.file_parts.specs.Parts.{Lines, history_lines}
use Rattle.script_words.specs.declared.faults.Fault.{Fault}
use Rattle.audit_core.specs.declared.judge.Judged.{Judged}
use Rattle.audit_core.specs.declared.judge.Judged.TheVariants.{Legal}
use Rattle.audit_core.specs.declared.stamps.JudgedTwo.{JudgedTwo}
use Rattle.audit_core.specs.declared.stamps.JudgedTwo.TheVariants as two
use Rattle.audit_core.specs.Told.{judged_text, judged_two_text}
use Rattle.audit_core.proofs.Judgements.{one_judgement}
use Rattle.audit_core.proofs.StampedHistories.{one_judgement_two}
use Rattle.histories.specs.declared.Stamped.{Stamped}
use Rattle.histories.specs.Told.{bad_line_text}
use Rattle.histories.specs.Reading.{Means as MeansEntry, IsHistory, IsFirstBad}
use Rattle.histories.specs.Stamped.{MeansStamped, HasFormatTwo, IsHistoryTwo, IsFirstBadTwo}
use Rattle.histories.specs.Laws.{MeansOrFails}
use Rattle.histories.proofs.Meanings.{spelling-unique, entry-known}
use Rattle.histories.proofs.PartLaws.{means-or-fails}
use Rattle.histories.proofs.TwoMeanings.{stamped-unique, stamped-known}
use Rattle.command_ends.specs.declared.status.Status.{Status}
use Rattle.command_ends.specs.declared.status.Status.TheVariants.{Done, BadFile, Illegal}
use Rattle.given_files.specs.declared.input.Given.{Given}
use Rattle.history_shell.specs.declared.hearing.Heard.{Heard}
use Rattle.history_shell.specs.declared.hearing.Heard.TheVariants as heard
use Rattle.command_ends.specs.Ends.{HasText}
use Rattle.given_files.specs.MethodFound.{meaning}
use Rattle.given_files.specs.Input.{Means, fault_line, history_first}
use Rattle.history_shell.specs.Hearing.{History, plain, stamped, entries_in, HasHistory, HasBadLine, IsGood, IsBad, HasLegal, IsRefusal, Hears}
use Rattle.history_shell.specs.MethodHearing.{IsHeardOf, IsHeard}
use Rattle.command_ends.specs.Laws.{HasOneAnswer}
use Rattle.given_files.proofs.Meanings.{means_read, fault_told}

-- ---- the history part
known : MeansOrFails MeansEntry
known = means-or-fails MeansEntry (λ line d e. spelling-unique (words line) d e) (λ line. entry-known (words line) (line, refl))

known_two : MeansOrFails MeansStamped
known_two = means-or-fails MeansStamped (λ line s t. stamped-unique (words line) s t) (λ line. stamped-known (words line) (line, refl))

begins_two : (ls : Lines) (es : List Stamped) → IsHistoryTwo ls es → HasFormatTwo ls
begins_two [] es h = absurd h
begins_two (l ∷ ls) es h = h.0

bad_begins_two : (ls : Lines) (first line : ℕ) → IsFirstBadTwo ls first line → HasFormatTwo ls
bad_begins_two [] first line h = absurd h
bad_begins_two (l ∷ ls) first line h = h.0

one_plain : (ls : Lines) (d e : List Entry) → IsHistory ls d → IsHistory ls e → d ≡ e
one_plain ls d e h k = elim (known ls 0) [
  | inl m ↦ m.1.one d h ∙ sym (m.1.one e k)
  | inr m ↦ absurd (m.2 d h)
]

one_stamped : (ls : Lines) (d e : List Stamped) → IsHistoryTwo ls d → IsHistoryTwo ls e → d ≡ e
one_stamped [] d e h k = absurd h
one_stamped (l ∷ ls) d e h k = elim (known_two ls 0) [
  | inl m ↦ m.1.one d h.1 ∙ sym (m.1.one e k.1)
  | inr m ↦ absurd (m.2 d h.1)
]

one_history : (ls : Option Lines) (h k : History) → HasHistory ls h → HasHistory ls k → h ≡ k
one_history None h k a b = a ∙ sym b
one_history (Some ls) (plain d) (plain e) a b = ap plain (one_plain ls d e a.1 b.1)
one_history (Some ls) (plain d) (stamped e) a b = absurd (a.0 (begins_two ls e b))
one_history (Some ls) (stamped d) (plain e) a b = absurd (b.0 (begins_two ls d a))
one_history (Some ls) (stamped d) (stamped e) a b = ap stamped (one_stamped ls d e a b)

not_plain : (ls : Lines) (first line : ℕ) (es : List Entry) → IsHistory ls es → IsFirstBad ls first line → ⊥
not_plain ls first line es h b = elim (known ls first) [
  | inl m ↦ m.2 line b
  | inr m ↦ m.2 es h
]

not_stamped : (ls : Lines) (first line : ℕ) (es : List Stamped) → IsHistoryTwo ls es → IsFirstBadTwo ls first line → ⊥
not_stamped [] first line es h b = absurd h
not_stamped (l ∷ ls) first line es h b = elim (known_two ls (first + 1)) [
  | inl m ↦ m.2 line b.1
  | inr m ↦ m.2 es h.1
]

not_both : (ls : Option Lines) (first line : ℕ) (h : History) → HasHistory ls h → HasBadLine ls first line → ⊥
not_both None first line h a b = b
not_both (Some ls) first line (plain es) a (inl b) = not_plain ls first line es a.1 b.1
not_both (Some ls) first line (plain es) a (inr b) = a.0 (bad_begins_two ls first line b)
not_both (Some ls) first line (stamped es) a (inl b) = b.0 (begins_two ls es a)
not_both (Some ls) first line (stamped es) a (inr b) = not_stamped ls first line es a b

one_plain_line : (ls : Lines) (first line line' : ℕ) → IsFirstBad ls first line → IsFirstBad ls first line' → line ≡ line'
one_plain_line ls first line line' a b = elim (known ls first) [
  | inl m ↦ absurd (m.2 line a)
  | inr m ↦ m.1.one line a ∙ sym (m.1.one line' b)
]

one_stamped_line : (ls : Lines) (first line line' : ℕ) → IsFirstBadTwo ls first line → IsFirstBadTwo ls first line' → line ≡ line'
one_stamped_line [] first line line' a b = absurd a
one_stamped_line (l ∷ ls) first line line' a b = elim (known_two ls (first + 1)) [
  | inl m ↦ absurd (m.2 line a.1)
  | inr m ↦ m.1.one line a.1 ∙ sym (m.1.one line' b.1)
]

one_line : (ls : Option Lines) (first line line' : ℕ) → HasBadLine ls first line → HasBadLine ls first line' → line ≡ line'
one_line None first line line' a b = absurd a
one_line (Some ls) first line line' (inl a) (inl b) = one_plain_line ls first line line' a.1 b.1
one_line (Some ls) first line line' (inl a) (inr b) = absurd (a.0 (bad_begins_two ls first line' b))
one_line (Some ls) first line line' (inr a) (inl b) = absurd (b.0 (bad_begins_two ls first line a))
one_line (Some ls) first line line' (inr a) (inr b) = one_stamped_line ls first line line' a b

-- ---- verdicts
good_or_bad : (world : World) (h : History) (text : List ℕ) → IsGood world h → IsBad world h text → ⊥
good_or_bad world (plain es) text g b = b.1 (one_judgement world es b.0 Legal b.2 g)
good_or_bad world (stamped es) text g b = b.1 (one_judgement_two world es b.0 two.Legal b.2 g)

one_bad : (world : World) (h : History) (text text' : List ℕ) → IsBad world h text → IsBad world h text' → text ≡ text'
one_bad world (plain es) text text' a b = a.3 ∙ ap (λ (j : Judged). judged_text j ++ codes "\n") (one_judgement world es a.0 b.0 a.2 b.2) ∙ sym b.3
one_bad world (stamped es) text text' a b = a.3 ∙ ap (λ (j : JudgedTwo). judged_two_text j ++ codes "\n") (one_judgement_two world es a.0 b.0 a.2 b.2) ∙ sym b.3

-- ---- what is said of a history part behind this world
record SaysGood (said : World → List Entry → List ℕ) (ls : Option Lines) (world : World) (s : Status) (text : List ℕ) : Type 0 where
  history : History
  has : HasHistory ls history
  good : IsGood world history
  status : s ≡ Done
  writes : text ≡ said world (entries_in history)

record SaysBad (ls : Option Lines) (world : World) (s : Status) (text : List ℕ) : Type 0 where
  history : History
  has : HasHistory ls history
  bad : IsBad world history text
  status : s ≡ Illegal

record SaysLine (ls : Option Lines) (first : ℕ) (s : Status) (text : List ℕ) : Type 0 where
  line : ℕ
  bad : HasBadLine ls first line
  status : s ≡ Illegal
  writes : text ≡ bad_line_text line ++ codes "\n"

module _ (said : World → List Entry → List ℕ) where
  abbrev HasSpoken : Option Lines → ℕ → World → Status → List ℕ → Type 0
  HasSpoken ls first world s text = SaysGood said ls world s text ⊎ (SaysBad ls world s text ⊎ SaysLine ls first s text)

  one_spoken : (ls : Option Lines) (first : ℕ) (world : World) (text text' : List ℕ) (s s' : Status) → HasSpoken ls first world s text → HasSpoken ls first world s' text' → (s ≡ s') × (text ≡ text')
  one_spoken ls first world text text' s s' (inl a) (inl b) =
      let same = one_history ls a.history b.history a.has b.has in
      (a.status ∙ sym b.status, a.writes ∙ ap (λ (h : History). said world (entries_in h)) same ∙ sym b.writes)
  one_spoken ls first world text text' s s' (inl a) (inr (inl b)) =
      let same = one_history ls a.history b.history a.has b.has in
      absurd (good_or_bad world b.history text' (subst (IsGood world) same a.good) b.bad)
  one_spoken ls first world text text' s s' (inl a) (inr (inr b)) = absurd (not_both ls first b.line a.history a.has b.bad)
  one_spoken ls first world text text' s s' (inr (inl a)) (inl b) =
      let same = one_history ls b.history a.history b.has a.has in
      absurd (good_or_bad world a.history text (subst (IsGood world) same b.good) a.bad)
  one_spoken ls first world text text' s s' (inr (inl a)) (inr (inl b)) =
      let same = one_history ls a.history b.history a.has b.has in
      (a.status ∙ sym b.status, one_bad world b.history text text' (subst (λ (h : History). IsBad world h text) same a.bad) b.bad)
  one_spoken ls first world text text' s s' (inr (inl a)) (inr (inr b)) = absurd (not_both ls first b.line a.history a.has b.bad)
  one_spoken ls first world text text' s s' (inr (inr a)) (inl b) = absurd (not_both ls first a.line b.history b.has a.bad)
  one_spoken ls first world text text' s s' (inr (inr a)) (inr (inl b)) = absurd (not_both ls first a.line b.history b.has a.bad)
  one_spoken ls first world text text' s s' (inr (inr a)) (inr (inr b)) =
      (a.status ∙ sym b.status, a.writes ∙ ap (λ n. bad_line_text n ++ codes "\n") (one_line ls first a.line b.line a.bad b.bad) ∙ sym b.writes)

  -- ---- a command that hears a history
  abbrev Outcome : List ℕ → Status → List ℕ → Result Given Fault → Type 0
  Outcome input s text (Ok g) = HasSpoken (history_lines (lines input)) (history_first input) g.world s text
  Outcome input s text (Err fault) = (s ≡ BadFile) × (text ≡ fault_line fault)

  one_outcome : (input : List ℕ) (r : Result Given Fault) (text text' : List ℕ) (s s' : Status) → Outcome input s text r → Outcome input s' text' r → (s ≡ s') × (text ≡ text')
  one_outcome input (Ok g) text text' s s' a b = one_spoken (history_lines (lines input)) (history_first input) g.world text text' s s' a b
  one_outcome input (Err fault) text text' s s' a b = (a.0 ∙ sym b.0, a.1 ∙ sym b.1)

  outcome : (s : Status) (input text : List ℕ) → Hears said s input text → Outcome input s text (meaning input)
  outcome Done input text h =
      let l = h.legal in
      subst (Outcome input Done text) (sym (means_read input h.given l.reads))
      (inl (record { history = l.history; has = l.has; good = l.good; status = refl; writes = h.writes ∙ ap (said h.given.world) l.are }))
  outcome Illegal input text (inl h) =
      subst (Outcome input Illegal text) (sym (means_read input h.given h.reads)) (inr (inl (record { history = h.history; has = h.has; bad = h.bad; status = refl })))
  outcome Illegal input text (inr h) =
      subst (Outcome input Illegal text) (sym (means_read input h.given h.reads)) (inr (inr (record { line = h.line; bad = h.bad; status = refl; writes = h.writes })))
  outcome BadFile input text h = subst (Outcome input BadFile text) (sym (fault_told input h.fault h.refused)) (refl, h.writes)
  outcome s input text h = absurd h

  pub one_hearing : HasOneAnswer (Hears said)
  one_hearing input text text' s s' a b = one_outcome input (meaning input) text text' s s' (outcome s input text a) (outcome s' input text' b)

-- ---- what is heard of a history is heard of its input
pub heard_is : (r : Result Heard NoMemory) (input : List ℕ) (given : Given) (history : History) → Means input given → HasHistory (history_lines (lines input)) history
    → IfOk r (IsHeardOf given history) → IfOk r (IsHeard input)
heard_is (Ok (heard.Legal g entries)) input given history means has h =
    subst (λ (x : Given). HasLegal input x entries.items) (sym h.0) (record { history = history; reads = means; has = has; good = h.2; are = h.1 })
heard_is (Ok (heard.Refused a)) input given history means has h =
    subst (λ (x : Status). IsRefusal x input a.text.items) (sym h.0) (inl (record { given = given; history = history; reads = means; has = has; bad = h.1 }))
heard_is (Err e) input given history means has h = tt

-- what is said of an input without a legal history is what a command that hears one says
pub refusal_has_text : (s : Status) (input text : List ℕ) → IsRefusal s input text → HasText s
refusal_has_text Illegal input text h = tt
refusal_has_text BadFile input text h = tt
refusal_has_text s input text h = absurd h

pub refusal_heard : (said : World → List Entry → List ℕ) (s : Status) (input text : List ℕ) → IsRefusal s input text → Hears said s input text
refusal_heard said Illegal input text h = h
refusal_heard said BadFile input text h = h
refusal_heard said s input text h = absurd h
