-- a history that was written is one of its entries
use Rattle.std.proofs.Common.{◌≡◌, ℕ, ◌^◌, ◌<◌, Bool, true, false, ◌||◌, List, [], ◌∷◌, ◌++◌, refl, ap, sym, subst, ◌∙◌, arith, append_assoc, map, codes}
use Rattle.std.specs.Prelude.{All, MatchBool}
use Rattle.std.specs.List.{flat_map}
use Rattle.std.specs.Fmt.{decimal}
use Rattle.std.specs.Str.Parse.{AllDigits}
use Rattle.std.proofs.lemmas.Bool.{ne_eqb}
use Rattle.std.proofs.lemmas.Fmt.{decimal_is_IsNumeral}
use Rattle.std.proofs.lemmas.Str.Parse.{digit_from_value}
use Rattle.std.proofs.lemmas.List.Concat.{flat_map-cons}
use Rattle.std.proofs.lemmas.List.Elements.{All-head, All-tail}
use Rattle.byte_ends.specs.Text.{lines, words}
use Rattle.unix_calls.specs.declared.Event.{Event}
use Rattle.unix_calls.specs.declared.Event.TheVariants as events
use Rattle.unix_calls.specs.declared.Entry.{Entry}
use Rattle.unix_calls.specs.declared.Entry.TheVariants.{Called, Happened}
use Rattle.script_words.specs.Words.{is_skipped, begins_with_hash}
use Rattle.file_parts.specs.Parts.{Lines, stands_alone, is_only}
use Rattle.text_laws.specs.Plain.{is_plain, are_plain}
use Rattle.text_laws.proofs.Lines.{lines-newline}
use Rattle.text_laws.proofs.Numbers.{plain-decimal}
use Rattle.text_laws.proofs.Words.{words-spaced, line-spaced}
use Rattle.script_words.specs.Writing.{spaced}
use Rattle.histories.specs.History.{line_of, call_words, reply_words, event_words, last_line, text}
use Rattle.unix_calls.specs.Calls.{IsEntry}
use Rattle.histories.specs.Reading.{entry_words, Means, Fits, is_nothing, is_last, is_schedule, Ends, OnLine, IsHistory}
use Rattle.histories.proofs.PlainLaws.{plain-called, plain-event}
use Rattle.histories.proofs.HistoryLaws.{no}

-- the line of an entry, without its newline
abbrev pub entry_line : Entry → List ℕ
entry_line (Called caller c r) = decimal caller.0 ++ spaced (call_words c ++ reply_words r)
entry_line (Happened pid e) = decimal pid.0 ++ spaced (event_words e)

pub cut : (w : List ℕ) (ws : List (List ℕ)) (tail : List ℕ) → is_plain w ≡ true → are_plain ws ≡ true
    → lines ((w ++ spaced ws ++ 10 ∷ []) ++ tail) ≡ (w ++ spaced ws) ∷ lines tail
cut w ws tail first rest =
    let line = line-spaced w ws first rest in
    ap lines (append_assoc (w ++ spaced ws) (10 ∷ []) tail)
    ∙ lines-newline (w ++ spaced ws) tail line.one
    ∙ ap (λ (l : List ℕ). l ∷ lines tail) line.kept

first-line : (e : Entry) (tail : List ℕ) → lines (line_of e ++ tail) ≡ entry_line e ∷ lines tail
first-line (Called caller c r) tail = cut (decimal caller.0) (call_words c ++ reply_words r) tail (plain-decimal caller.0) (plain-called c r)
first-line (Happened pid e) tail = cut (decimal pid.0) (event_words e) tail (plain-decimal pid.0) (plain-event e)

more-lines : (e : Entry) (es : List Entry) (rest : List ℕ) → lines (flat_map line_of (e ∷ es) ++ rest) ≡ entry_line e ∷ lines (flat_map line_of es ++ rest)
more-lines e es rest =
    ap (λ (t : List ℕ). lines (t ++ rest)) (flat_map-cons line_of e es)
    ∙ ap lines (append_assoc (line_of e) (flat_map line_of es) rest)
    ∙ first-line e (flat_map line_of es ++ rest)

-- the lines of what is written of entries, and of what stands behind it
pub entry_lines : (es : List Entry) (rest : List ℕ) → lines (flat_map line_of es ++ rest) ≡ map entry_line es ++ lines rest
entry_lines [] rest = refl
entry_lines (e ∷ es) rest = more-lines e es rest ∙ ap (λ (ls : Lines). entry_line e ∷ ls) (entry_lines es rest)

said-words : (e : Entry) → words (entry_line e) ≡ entry_words e
said-words (Called caller c r) = words-spaced (decimal caller.0) (call_words c ++ reply_words r) (plain-decimal caller.0) (plain-called c r)
said-words (Happened pid e) = words-spaced (decimal pid.0) (event_words e) (plain-decimal pid.0) (plain-event e)

pub no-hash : (ds : List ℕ) → AllDigits 10 ds → begins_with_hash ds ≡ false
no-hash [] h = refl
no-hash (c ∷ cs) h = let digit = digit_from_value c h.0 in ne_eqb c 35 (λ e. absurd (omega arith))

number-says : (n : ℕ) (ws : List (List ℕ)) → n < 2 ^ 32 → is_skipped (decimal n ∷ ws) ≡ false
unfolding is_skipped
number-says n ws h = no-hash (decimal n) ((decimal_is_IsNumeral n (omega arith)).0.1)

entry-says : (e : Entry) → Fits e → is_skipped (entry_words e) ≡ false
entry-says (Called caller c r) fit = number-says caller.0 (call_words c ++ reply_words r) fit.0
entry-says (Happened pid e) fit = number-says pid.0 (event_words e) fit

event-long : (word p : List ℕ) (e : Event) → stands_alone word (p ∷ event_words e) ≡ false
event-long word p (events.Caught s) = refl
event-long word p (events.Discarded s) = refl
event-long word p (events.StoppedBy s) = refl
event-long word p (events.EndedBy s) = refl
event-long word p events.Continued = refl
event-long word p events.Moved = refl

-- an entry has two words at least
entry-long : (word : List ℕ) (e : Entry) → stands_alone word (entry_words e) ≡ false
entry-long word (Called caller c r) = refl
entry-long word (Happened pid e) = event-long word (decimal pid.0) e

-- no word stands alone on its line
pub entry_not_only : (word : List ℕ) (e : Entry) → is_only word (entry_line e) ≡ false
entry_not_only word e = ap (stands_alone word) (said-words e) ∙ entry-long word e

-- the line of an entry is one of a history
on-line : (e : Entry) (es : List Entry) (ls : Lines) → IsEntry e → Fits e → IsHistory ls es → IsHistory (entry_line e ∷ ls) (e ∷ es)
on-line e es ls entry fit rest =
    let l = entry_line e in
    let row = said-words e in
    let nothing : is_nothing l ≡ false = ap is_skipped row ∙ entry-says e fit in
    let unscheduled : is_schedule l ≡ false = entry_not_only (codes "schedule") e in
    let quiet : is_only (codes "quiet") l ≡ false = entry_not_only (codes "quiet") e in
    let unclosed : is_only (codes "open") l ≡ false = entry_not_only (codes "open") e in
    let told : is_last l ≡ false = ap (λ b. b || is_only (codes "open") l) quiet ∙ unclosed in
    let all : List Entry = e ∷ es in
    let D : Type 0 = OnLine Means l (IsHistory ls) all in
    let C : Type 0 = MatchBool (is_last l) ((all ≡ []) × Ends ls) D in
    no (is_nothing l) (IsHistory ls all) (MatchBool (is_schedule l) (all ≡ []) C) nothing
    (no (is_schedule l) (all ≡ []) C unscheduled (no (is_last l) ((all ≡ []) × Ends ls) D told (record { is_entry = entry; fits = fit; spelled = row }, rest)))

entries-written : (es : List Entry) (rest : List ℕ) → All IsEntry es → All Fits es → IsHistory (lines rest) [] → IsHistory (lines (flat_map line_of es ++ rest)) es
entries-written [] rest all fit h = h
entries-written (e ∷ es) rest all fit h =
    let entry : IsEntry e = All-head IsEntry e es all in
    let first : Fits e = All-head Fits e es fit in
    let tail : List ℕ = flat_map line_of es ++ rest in
    let P : Lines → Type 0 = λ ls. IsHistory ls (e ∷ es) in
    subst P (sym (more-lines e es rest)) (on-line e es (lines tail) entry first (entries-written es rest (All-tail IsEntry e es all) (All-tail Fits e es fit) h))

last-written : (quiet : Bool) → IsHistory (lines (last_line quiet)) []
unfolding is_skipped
last-written true = (refl, tt)
last-written false = (refl, tt)

-- a history that was written is one of its entries
pub history-written : (es : List Entry) (quiet : Bool) → All IsEntry es → All Fits es → IsHistory (lines (text es quiet)) es
history-written es quiet all fit = entries-written es (last_line quiet) all fit (last-written quiet)
