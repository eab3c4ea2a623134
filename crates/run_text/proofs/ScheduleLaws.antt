-- a schedule that was written is read back
use Rattle.std.proofs.Common.{◌≡◌, ℕ, ◌+◌, ◌^◌, ◌<◌, ◌≤◌, true, false, List, [], ◌∷◌, ◌++◌, length, map, fold, Option, Some, Result, Ok, refl, ap, sym, ◌∙◌, arith, append_assoc, append-nil}
use Rattle.unix_calls.specs.declared.limits.TheConstants.{MOST_TURNS}
use Rattle.std.specs.Prelude.{All}
use Rattle.std.specs.List.{list_all, flat_map}
use Rattle.std.specs.Fmt.{decimal}
use Rattle.std.proofs.lemmas.List.Elements.{All-head, All-tail}
use Rattle.std.proofs.lemmas.Bool.Decides.{nat_tests}
use Rattle.byte_ends.specs.Text.{lines, words}
use Rattle.unix_calls.specs.declared.Turn.{Turn}
use Rattle.unix_calls.specs.declared.Turn.TheVariants.{Go, Push, Take, Auto}
use Rattle.script_words.specs.declared.Kind.{Kind}
use Rattle.script_words.specs.Words.{is_same, word_at, number, is_number, node, ended, is_skipped}
use Rattle.script_words.proofs.Numbers.{is_number-decides}
use Rattle.text_laws.specs.Plain.{is_plain, are_plain}
use Rattle.text_laws.proofs.Lines.{AreLines, lines-written}
use Rattle.text_laws.proofs.Words.{words-spaced, line-spaced}
use Rattle.text_laws.proofs.Numbers.{IsNumber-decimal, digits_value-decimal, plain-decimal}
use Rattle.run_text.specs.Schedule.{SoFar, HasNodes, turn_of, counted, read_turn, added, after_line, turns_of, schedule, turn_word, turn_words, turn_line, schedule_text}
use Rattle.unix_calls.specs.Turns.{turns_in, turns_total}
use Rattle.run_text.proofs.Ascii.{is_low, utf8-from_low, low-append, low-spaced, low-decimal}

-- a number that was written is read
pub number-decimal : (n : ℕ) → n < 2 ^ 32 → number (decimal n) ≡ Ok n
unfolding number
number-decimal n h =
    let k = IsNumber-decimal n h in
    let yes : is_number (decimal n) ≡ true = (is_number-decides (decimal n)).1 k in
    let some : 1 ≤ length (decimal n) = k.some in
    let value = digits_value-decimal n h in
    grind (arith, nat_tests)

node-decimal : (nodes n : ℕ) → n < nodes → nodes ≤ 2 ^ 32 → node nodes (decimal n) ≡ Ok n
unfolding node
node-decimal nodes n less small =
    let read = number-decimal n (omega arith) in
    rw read (grind (arith, nat_tests))

-- the words of a turn are read as it
turn-read : (nodes : ℕ) (t : Turn) → nodes ≤ 2 ^ 32 → HasNodes nodes t → turns_in t < 2 ^ 32 → turn_of nodes (turn_word t ∷ turn_words t) ≡ Ok t
unfolding turn_of is_same word_at ended
turn-read nodes (Go n) small fit few = rw (node-decimal nodes n fit small) refl
turn-read nodes (Push n k) small fit few = rw (node-decimal nodes n fit.0 small, node-decimal nodes k fit.1 small) refl
turn-read nodes (Take n m) small fit few = rw (node-decimal nodes n fit.0 small, node-decimal nodes m fit.1 small) refl
turn-read nodes (Auto k) small fit few = rw (number-decimal k few) refl

-- the numbers of a turn
plain-turn : (t : Turn) → are_plain (turn_words t) ≡ true
plain-turn (Go n) = rw (plain-decimal n) refl
plain-turn (Push n k) = rw (plain-decimal n, plain-decimal k) refl
plain-turn (Take n m) = rw (plain-decimal n, plain-decimal m) refl
plain-turn (Auto k) = rw (plain-decimal k) refl

low-turn : (nodes : ℕ) (t : Turn) → nodes ≤ 2 ^ 32 → HasNodes nodes t → turns_in t < 2 ^ 32 → list_all (list_all is_low) (turn_words t) ≡ true
low-turn nodes (Go n) small fit few = rw (low-decimal n (omega arith)) refl
low-turn nodes (Push n k) small fit few = let a = fit.0 in let b = fit.1 in rw (low-decimal n (omega arith), low-decimal k (omega arith)) refl
low-turn nodes (Take n m) small fit few = let a = fit.0 in let b = fit.1 in rw (low-decimal n (omega arith), low-decimal m (omega arith)) refl
low-turn nodes (Auto k) small fit few = rw (low-decimal k (omega arith)) refl

plain-word : (t : Turn) → is_plain (turn_word t) ≡ true
plain-word (Go n) = refl
plain-word (Push n k) = refl
plain-word (Take n m) = refl
plain-word (Auto k) = refl

-- the words of its line
pub turn-row : (t : Turn) → words (turn_line t) ≡ turn_word t ∷ turn_words t
turn-row t = words-spaced (turn_word t) (turn_words t) (plain-word t) (plain-turn t)

low-word : (t : Turn) → list_all is_low (turn_word t) ≡ true
low-word (Go n) = refl
low-word (Push n k) = refl
low-word (Take n m) = refl
low-word (Auto k) = refl

said-word : (t : Turn) (ws : List (List ℕ)) → is_skipped (turn_word t ∷ ws) ≡ false
unfolding is_skipped
said-word (Go n) ws = refl
said-word (Push n k) ws = refl
said-word (Take n m) ws = refl
said-word (Auto k) ws = refl

count-read : (before : ℕ) (t : Turn) → before + turns_in t ≤ MOST_TURNS → counted before t ≡ Ok (Some t)
unfolding counted
count-read before t few = grind (arith, nat_tests)

-- the line of a turn is read as it
line-read : (nodes before : ℕ) (t : Turn) → nodes ≤ 2 ^ 32 → HasNodes nodes t → before + turns_in t ≤ MOST_TURNS → read_turn nodes before (turn_line t) ≡ Ok (Some t)
unfolding read_turn
line-read nodes before t small fit few =
    let some : turns_in t < 2 ^ 32 = omega arith in
    let utf8 = utf8-from_low (turn_line t) (low-append (turn_word t) (flat_map (λ w. 32 ∷ w) (turn_words t)) (low-word t) (low-spaced (turn_words t) (low-turn nodes t small fit some))) in
    rw (utf8, turn-row t, said-word t (turn_words t), turn-read nodes t small fit some) (count-read before t few)

lines-read : (nodes : ℕ) (s : SoFar) (ts : List Turn) → nodes ≤ 2 ^ 32 → All (HasNodes nodes) ts → s.count + turns_total ts ≤ MOST_TURNS
    → turns_of (fold (after_line nodes) (Ok s) (map turn_line ts)) ≡ Ok (s.turns ++ ts)
lines-read nodes s [] small fit few = ap (λ (ts : List Turn). Ok ts) (sym (append-nil s.turns))
lines-read nodes s (t ∷ ts) small fit few =
    let first = line-read nodes s.count t small (All-head (HasNodes nodes) t ts fit) (omega arith) in
    let next : SoFar = record { turns = s.turns ++ t ∷ []; count = s.count + turns_in t; number = s.number + 1 } in
    ap (λ (r : Result (Option Turn) Kind). turns_of (fold (after_line nodes) (added s r) (map turn_line ts))) first
    ∙ lines-read nodes next ts small (All-tail (HasNodes nodes) t ts fit) (omega arith)
    ∙ ap (λ (ts : List Turn). Ok ts) (append_assoc s.turns (t ∷ []) ts)

are-lines : (ts : List Turn) → AreLines turn_line ts
are-lines [] = tt
are-lines (t ∷ ts) = (line-spaced (turn_word t) (turn_words t) (plain-word t) (plain-turn t), are-lines ts)

-- the lines of a schedule are those of its turns
pub turn-lines : (ts : List Turn) → lines (schedule_text ts) ≡ map turn_line ts
turn-lines ts = ap lines (sym (append-nil (schedule_text ts))) ∙ lines-written turn_line ts [] (are-lines ts) ∙ append-nil (map turn_line ts)

-- a schedule that was written is read back as it was
pub schedule-written : (nodes number : ℕ) (ts : List Turn) → nodes ≤ 2 ^ 32 → All (HasNodes nodes) ts → turns_total ts ≤ MOST_TURNS
    → schedule nodes number (lines (schedule_text ts)) ≡ Ok ts
unfolding schedule
schedule-written nodes number ts small fit few =
    let start : SoFar = record { turns = []; count = 0; number = number } in
    ap (λ (ls : List (List ℕ)). turns_of (fold (after_line nodes) (Ok start) ls)) (turn-lines ts) ∙ lines-read nodes start ts small fit (omega arith)
