-- a history of format 2 that was written is one of its stamped entries
use Rattle.std.proofs.Common.{◌≡◌, ℕ, ◌^◌, ◌<◌, Bool, true, false, ◌||◌, List, [], ◌∷◌, ◌++◌, refl, ap, sym, subst, ◌∙◌, arith, append_assoc, codes}
use Rattle.std.specs.Prelude.{All, MatchBool}
use Rattle.std.specs.List.{flat_map}
use Rattle.std.specs.Fmt.{decimal}
use Rattle.std.proofs.lemmas.Fmt.{decimal_is_IsNumeral}
use Rattle.std.proofs.lemmas.List.Concat.{flat_map-cons}
use Rattle.std.proofs.lemmas.List.Elements.{All-head, All-tail}
use Rattle.byte_ends.specs.Text.{lines, words}
use Rattle.unix_calls.specs.declared.Entry.{Entry}
use Rattle.unix_calls.specs.declared.Entry.TheVariants.{Called, Happened}
use Rattle.file_parts.specs.Parts.{Lines, stands_alone, is_only}
use Rattle.script_words.specs.Words.{Row, is_skipped, is_same}
use Rattle.script_words.specs.Writing.{spaced}
use Rattle.text_laws.specs.Plain.{are_plain}
use Rattle.text_laws.proofs.Numbers.{plain-decimal}
use Rattle.text_laws.proofs.Words.{words-spaced}
use Rattle.histories.specs.declared.stamped.Stamped.{Stamped}
use Rattle.histories.specs.History.{line_of, call_words, reply_words, event_words, last_line}
use Rattle.histories.specs.Reading.{entry_words, is_nothing, is_last, is_schedule, Ends, OnLine, IsHistoryOf}
use Rattle.histories.specs.Stamped.{stamped_line, text_two, FitsStamped, IsStamped, MeansStamped, IsFormatTwo, IsHistoryTwo}
use Rattle.histories.proofs.PlainLaws.{plain-entry}
use Rattle.histories.proofs.HistoryLaws.{no}
use Rattle.histories.proofs.WrittenLaws.{cut, no-hash}

-- the words of a stamped line behind its first one
abbrev behind : Stamped → Row
behind s = decimal s.uid ∷ entry_words s.entry

-- the line of a stamped entry, without its newline
said : Stamped → List ℕ
said s = decimal s.place ++ spaced (behind s)

shape : (p u c x z : List ℕ) → p ++ (32 ∷ (u ++ (32 ∷ ((c ++ x) ++ z)))) ≡ (p ++ (32 ∷ (u ++ (32 ∷ (c ++ x))))) ++ z
shape p u c x z = sym (append_assoc p (32 ∷ (u ++ (32 ∷ (c ++ x)))) z ∙ ap (λ (t : List ℕ). p ++ (32 ∷ t)) (append_assoc u (32 ∷ (c ++ x)) z))

spaced-two : (a b : List ℕ) (ws : Row) → spaced (a ∷ b ∷ ws) ≡ 32 ∷ (a ++ (32 ∷ (b ++ spaced ws)))
spaced-two a b ws = flat_map-cons (λ (w : List ℕ). 32 ∷ w) a (b ∷ ws) ∙ ap (λ (t : List ℕ). (32 ∷ a) ++ t) (flat_map-cons (λ (w : List ℕ). 32 ∷ w) b ws)

written : (p u c : List ℕ) (ws : Row) → p ++ (32 ∷ (u ++ (32 ∷ ((c ++ spaced ws) ++ 10 ∷ [])))) ≡ (p ++ spaced (u ∷ c ∷ ws)) ++ 10 ∷ []
written p u c ws = shape p u c (spaced ws) (10 ∷ []) ∙ ap (λ (t : List ℕ). (p ++ t) ++ 10 ∷ []) (sym (spaced-two u c ws))

line-written : (place uid : ℕ) (e : Entry) → decimal place ++ (32 ∷ (decimal uid ++ (32 ∷ line_of e))) ≡ (decimal place ++ spaced (decimal uid ∷ entry_words e)) ++ 10 ∷ []
line-written place uid (Called caller c r) = written (decimal place) (decimal uid) (decimal caller.0) (call_words c ++ reply_words r)
line-written place uid (Happened pid e) = written (decimal place) (decimal uid) (decimal pid.0) (event_words e)

behind-plain : (s : Stamped) → are_plain (behind s) ≡ true
behind-plain s = rw (plain-decimal s.uid) (plain-entry s.entry)

first-line : (s : Stamped) (tail : List ℕ) → lines (stamped_line s ++ tail) ≡ said s ∷ lines tail
unfolding said
first-line s tail =
    ap (λ (t : List ℕ). lines (t ++ tail)) (line-written s.place s.uid s.entry) ∙ cut (decimal s.place) (behind s) tail (plain-decimal s.place) (behind-plain s)

said-words : (s : Stamped) → words (said s) ≡ decimal s.place ∷ behind s
unfolding said
said-words s = words-spaced (decimal s.place) (behind s) (plain-decimal s.place) (behind-plain s)

place-says : (n : ℕ) (ws : Row) → n < 2 ^ 64 → is_skipped (decimal n ∷ ws) ≡ false
unfolding is_skipped
place-says n ws h = no-hash (decimal n) ((decimal_is_IsNumeral n (omega arith)).0.1)

long : (word p : List ℕ) (s : Stamped) → stands_alone word (p ∷ behind s) ≡ false
long word p s = refl

-- the line of a stamped entry is one of a history
on-line : (s : Stamped) (ss : List Stamped) (ls : Lines) → IsStamped s → FitsStamped s → IsHistoryOf MeansStamped ls ss → IsHistoryOf MeansStamped (said s ∷ ls) (s ∷ ss)
on-line s ss ls entry fit rest =
    let l = said s in
    let row = said-words s in
    let nothing : is_nothing l ≡ false = ap is_skipped row ∙ place-says s.place (behind s) fit.0 in
    let unscheduled : is_schedule l ≡ false = ap (stands_alone (codes "schedule")) row ∙ long (codes "schedule") (decimal s.place) s in
    let quiet : is_only (codes "quiet") l ≡ false = ap (stands_alone (codes "quiet")) row ∙ long (codes "quiet") (decimal s.place) s in
    let unclosed : is_only (codes "open") l ≡ false = ap (stands_alone (codes "open")) row ∙ long (codes "open") (decimal s.place) s in
    let told : is_last l ≡ false = ap (λ b. b || is_only (codes "open") l) quiet ∙ unclosed in
    let all : List Stamped = s ∷ ss in
    let D : Type 0 = OnLine MeansStamped l (IsHistoryOf MeansStamped ls) all in
    let C : Type 0 = MatchBool (is_last l) ((all ≡ []) × Ends ls) D in
    no (is_nothing l) (IsHistoryOf MeansStamped ls all) (MatchBool (is_schedule l) (all ≡ []) C) nothing
    (no (is_schedule l) (all ≡ []) C unscheduled (no (is_last l) ((all ≡ []) × Ends ls) D told
    (record { rest = entry_words s.entry; spelled = row; place = fit.0; user = fit.1; entry = record { is_entry = entry; fits = fit.2; spelled = refl } }, rest)))

entries-written : (ss : List Stamped) (rest : List ℕ) → All IsStamped ss → All FitsStamped ss → IsHistoryOf MeansStamped (lines rest) [] → IsHistoryOf MeansStamped (lines (flat_map stamped_line ss ++ rest)) ss
entries-written [] rest all fit h = h
entries-written (s ∷ ss) rest all fit h =
    let entry : IsStamped s = All-head IsStamped s ss all in
    let first : FitsStamped s = All-head FitsStamped s ss fit in
    let tail : List ℕ = flat_map stamped_line ss ++ rest in
    let P : Lines → Type 0 = λ ls. IsHistoryOf MeansStamped ls (s ∷ ss) in
    let cut : lines (flat_map stamped_line (s ∷ ss) ++ rest) ≡ said s ∷ lines tail =
    ap (λ (t : List ℕ). lines (t ++ rest)) (flat_map-cons stamped_line s ss) ∙ ap lines (append_assoc (stamped_line s) (flat_map stamped_line ss) rest) ∙ first-line s tail in
    subst P (sym cut) (on-line s ss (lines tail) entry first (entries-written ss rest (All-tail IsStamped s ss all) (All-tail FitsStamped s ss fit) h))

last-written : (quiet : Bool) → IsHistoryOf MeansStamped (lines (last_line quiet)) []
unfolding is_skipped
last-written true = (refl, tt)
last-written false = (refl, tt)

format-line : (rest : List ℕ) → lines (codes "format 2\n" ++ rest) ≡ codes "format 2" ∷ lines rest
format-line rest = cut (codes "format") (codes "2" ∷ []) rest refl refl

format-said : IsFormatTwo (codes "format 2")
unfolding is_same
format-said = refl

with-format : (text : List ℕ) (ss : List Stamped) → IsHistoryOf MeansStamped (lines text) ss → IsHistoryTwo (lines (codes "format 2\n" ++ text)) ss
with-format text ss h = subst (λ (ls : Lines). IsHistoryTwo ls ss) (sym (format-line text)) (format-said, h)

-- a history of format 2 that was written is one of its stamped entries
pub history-two-written : (ss : List Stamped) (quiet : Bool) → All IsStamped ss → All FitsStamped ss → IsHistoryTwo (lines (text_two ss quiet)) ss
history-two-written ss quiet all fit =
    subst (λ (t : List ℕ). IsHistoryTwo (lines t) ss) (sym (append_assoc (codes "format 2\n") (flat_map stamped_line ss) (last_line quiet)))
    (with-format (flat_map stamped_line ss ++ last_line quiet) ss (entries-written ss (last_line quiet) all fit (last-written quiet)))
