-- the schedule part of what is written of a history and its turns has the lines of the turns
use Rattle.std.proofs.Common.{◌≡◌, ℕ, ◌<◌, ◌^◌, Bool, true, false, cond, not, List, [], ◌∷◌, ◌++◌, map, Some, refl, ap, sym, subst, ◌∙◌, append_assoc, codes, arith}
use Rattle.std.specs.List.{flat_map}
use Rattle.std.specs.Fmt.{decimal}
use Rattle.std.proofs.lemmas.List.Sums.{take_while-cons}
use Rattle.byte_ends.specs.Text.{lines}
use Rattle.unix_calls.specs.declared.Entry.{Entry}
use Rattle.unix_calls.specs.declared.Turn.{Turn}
use Rattle.unix_calls.specs.declared.Turn.TheVariants.{Go, Push, Take, Auto}
use Rattle.unix_calls.specs.declared.World.{World}
use Rattle.file_parts.specs.Parts.{Lines, before, behind, stands_alone, is_only, schedule_lines}
use Rattle.script_words.specs.Words.{Row}
use Rattle.text_laws.proofs.Numbers.{IsNumber-decimal, digits_value-decimal}
use Rattle.run_text.specs.Faults.{Spells, SaysTurn}
use Rattle.run_text.proofs.ScheduleLaws.{turn-row, turn-lines}
use Rattle.run_text.specs.Schedule.{turn_word, turn_words, turn_line, schedule_text}
use Rattle.histories.specs.History.{line_of, last_line}
use Rattle.histories.proofs.WrittenLaws.{entry_line, entry_lines, entry_not_only, cut}
use Rattle.cluster_state.specs.Possible.{IsInWorld}
use Rattle.thread_shell.specs.Served.{SayTurns, served_text}

-- ---- the lines of turns
turn_long : (word : List ℕ) (t : Turn) → stands_alone word (turn_word t ∷ turn_words t) ≡ false
turn_long word (Go n) = refl
turn_long word (Push n k) = refl
turn_long word (Take n m) = refl
turn_long word (Auto k) = refl

turn_not_only : (word : List ℕ) (t : Turn) → is_only word (turn_line t) ≡ false
turn_not_only word t = ap (stands_alone word) (turn-row t) ∙ turn_long word t

-- ---- what each of them says
spells : (n : ℕ) → n < 2 ^ 32 → Spells (decimal n) n
spells n h = (IsNumber-decimal n h, sym (digits_value-decimal n h))

-- each is a turn of nodes of a world that has so few
abbrev pub AreInWorld : World → List Turn → Type 0
AreInWorld world [] = Unit {0}
AreInWorld world (t ∷ ts) = IsInWorld world t × AreInWorld world ts

row_says : (world : World) (t : Turn) → world.nodes < 2 ^ 32 → IsInWorld world t → SaysTurn (turn_word t ∷ turn_words t) t
row_says world (Go n) few h = (refl, spells n (omega arith))
row_says world (Push n k) few h = let a = h.0 in let b = h.1 in (refl, spells n (omega arith), spells k (omega arith))
row_says world (Take n m) few h = let a = h.0 in let b = h.1 in (refl, spells n (omega arith), spells m (omega arith))
row_says world (Auto k) few h = absurd h

pub lines_say : (world : World) (ts : List Turn) → world.nodes < 2 ^ 32 → AreInWorld world ts → SayTurns (map turn_line ts) ts
lines_say world [] few h = tt
lines_say world (t ∷ ts) few h = (
  subst (λ (row : Row). SaysTurn row t) (sym (turn-row t)) (row_says world t few h.0),
  lines_say world ts few h.1,
)

-- ---- lines that no test passes
abbrev NoneIs : (List ℕ → Bool) → Lines → Type 0
NoneIs test [] = Unit {0}
NoneIs test (l ∷ ls) = (test l ≡ false) × NoneIs test ls

none_more : (test : List ℕ → Bool) (ls more : Lines) → NoneIs test ls → NoneIs test more → NoneIs test (ls ++ more)
none_more test [] more h k = k
none_more test (l ∷ ls) more h k = (h.0, none_more test ls more h.1 k)

none_entry : (word : List ℕ) (es : List Entry) → NoneIs (is_only word) (map entry_line es)
none_entry word [] = tt
none_entry word (e ∷ es) = (entry_not_only word e, none_entry word es)

none_turn : (word : List ℕ) (ts : List Turn) → NoneIs (is_only word) (map turn_line ts)
none_turn word [] = tt
none_turn word (t ∷ ts) = (turn_not_only word t, none_turn word ts)

all_before : (test : List ℕ → Bool) (ls : Lines) → NoneIs test ls → before test ls ≡ ls
all_before test [] h = refl
all_before test (l ∷ ls) h =
    take_while-cons (λ k. not (test k)) l ls
    ∙ ap (λ b. cond (not b) (l ∷ before test ls) []) h.0
    ∙ ap (λ (ks : Lines). l ∷ ks) (all_before test ls h.1)

behind_none : (test : List ℕ → Bool) (ls more : Lines) → NoneIs test ls → behind test (ls ++ more) ≡ behind test more
behind_none test [] more h = refl
behind_none test (l ∷ ls) more h = ap (λ b. cond b (Some (ls ++ more)) (behind test (ls ++ more))) h.0 ∙ behind_none test ls more h.1

-- ---- the whole text
last_word : Bool → List ℕ
last_word true = codes "quiet"
last_word false = codes "open"

last_cut : (quiet : Bool) (rest : List ℕ) → lines (last_line quiet ++ rest) ≡ last_word quiet ∷ lines rest
unfolding last_word
last_cut true rest = cut (codes "quiet") [] rest refl refl
last_cut false rest = cut (codes "open") [] rest refl refl

last_not_history : (quiet : Bool) → is_only (codes "history") (last_word quiet) ≡ false
unfolding last_word
last_not_history true = refl
last_not_history false = refl

last_not_schedule : (quiet : Bool) → is_only (codes "schedule") (last_word quiet) ≡ false
unfolding last_word
last_not_schedule true = refl
last_not_schedule false = refl

abbrev all_lines : List Entry → Bool → List Turn → Lines
all_lines es quiet ts = map entry_line es ++ last_word quiet ∷ codes "schedule" ∷ map turn_line ts

served_lines : (es : List Entry) (quiet : Bool) (ts : List Turn) → lines (served_text es quiet ts) ≡ all_lines es quiet ts
served_lines es quiet ts =
    let rest : List ℕ = codes "schedule" ++ 10 ∷ schedule_text ts in
    ap lines (append_assoc (flat_map line_of es) (last_line quiet) rest)
    ∙ entry_lines es (last_line quiet ++ rest)
    ∙ ap (λ (ls : Lines). map entry_line es ++ ls) (last_cut quiet rest
    ∙ ap (λ (ls : Lines). last_word quiet ∷ ls) (cut (codes "schedule") [] (schedule_text ts) refl refl ∙ ap (λ (ls : Lines). codes "schedule" ∷ ls) (turn-lines ts)))

no_history : (es : List Entry) (quiet : Bool) (ts : List Turn) → NoneIs (is_only (codes "history")) (all_lines es quiet ts)
no_history es quiet ts =
    let test : List ℕ → Bool = is_only (codes "history") in
    none_more test (map entry_line es) (last_word quiet ∷ codes "schedule" ∷ map turn_line ts) (none_entry (codes "history") es) (last_not_history quiet, (refl, none_turn (codes "history") ts))

-- the schedule part is the lines of the turns
pub served_part : (es : List Entry) (quiet : Bool) (ts : List Turn) → schedule_lines (lines (served_text es quiet ts)) ≡ Some (map turn_line ts)
served_part es quiet ts =
    let test : List ℕ → Bool = is_only (codes "schedule") in
    let back : Lines = codes "schedule" ∷ map turn_line ts in
    ap schedule_lines (served_lines es quiet ts)
    ∙ ap (behind test) (all_before (is_only (codes "history")) (all_lines es quiet ts) (no_history es quiet ts))
    ∙ behind_none test (map entry_line es) (last_word quiet ∷ back) (none_entry (codes "schedule") es)
    ∙ behind_none test (last_word quiet ∷ []) back (last_not_schedule quiet, tt)
