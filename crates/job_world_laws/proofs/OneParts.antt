-- A file of the script grammar is one part: no line of it begins a schedule or a history.
use Rattle.std.proofs.Common.{◌≡◌, ℕ, true, false, cond, not, ◌==◌, List, [], ◌∷◌, map, refl, sym, ap, ◌∙◌, subst, Option, None, Some, All, codes}
use Rattle.std.proofs.lemmas.Bool.{eqb-true}
use Rattle.std.proofs.lemmas.List.Sums.{take_while-cons}
use Rattle.std.proofs.lemmas.List.Elements.{All-nil, All-cons, All-head, All-tail}
use Rattle.byte_ends.specs.Text.{words}
use Rattle.unix_calls.specs.declared.Script.{Script}
use Rattle.unix_calls.specs.declared.Start.{Start}
use Rattle.unix_calls.specs.declared.Statement.{Statement}
use Rattle.unix_calls.specs.declared.Statement.TheVariants as statement
use Rattle.unix_calls.specs.declared.World.{World}
use Rattle.file_parts.specs.Parts.{stands_alone, is_only, before, behind, world_lines, schedule_lines, history_lines}
use Rattle.script_words.specs.Words.{Word, Row, is_skipped}
use Rattle.script_laws.specs.Grammar.{Naming, Spells, Lines, ends, skips, starts, begins, says, closes, Part, silent, opens, IsFile}

-- a row that divides off no part
abbrev IsPlain : Row → Type 0
IsPlain row = (stands_alone (codes "history") row ≡ false) × (stands_alone (codes "schedule") row ≡ false)

hash_plain : (b : ℕ) (bs : Word) → (b == 35) ≡ true → IsPlain ((b ∷ bs) ∷ [])
hash_plain b bs e = subst (λ c. IsPlain ((c ∷ bs) ∷ [])) (sym (eqb-true b 35 e)) (refl, refl)

skipped_plain : (row : Row) → is_skipped row ≡ true → IsPlain row
unfolding is_skipped
skipped_plain [] s = (refl, refl)
skipped_plain ([] ∷ []) s = cc
skipped_plain ((b ∷ bs) ∷ []) s = hash_plain b bs s
skipped_plain (w ∷ v ∷ row) s = (refl, refl)

mask_plain : (signals : Row) → IsPlain (codes "mask" ∷ signals)
mask_plain [] = (refl, refl)
mask_plain (s ∷ signals) = (refl, refl)

abbrev plain : (row other : Row) → row ≡ other → IsPlain other → IsPlain row
plain row other e p = subst IsPlain (sym e) p

says_plain : (naming : Naming) (row : Row) (s : Statement) → Spells naming row s → IsPlain row
says_plain naming row statement.Getpid h = plain row _ h (refl, refl)
says_plain naming row statement.Getppid h = plain row _ h (refl, refl)
says_plain naming row (statement.Getpgid arg) h = plain row _ h.1 (refl, refl)
says_plain naming row (statement.Getsid arg) h = plain row _ h.1 (refl, refl)
says_plain naming row (statement.Fork var script at) h = plain row _ h.3 (refl, refl)
says_plain naming row (statement.Exec script) h = plain row _ h.1 (refl, refl)
says_plain naming row (statement.Exit n) h = plain row _ h.1 (refl, refl)
says_plain naming row (statement.Wait sleeps any minus arg stopped continued) h = plain row _ h.1 (refl, refl)
says_plain naming row (statement.Kill minus arg sig) h = plain row _ h.2 (refl, refl)
says_plain naming row (statement.Setpgid pid minus pgid) h = plain row _ h.2 (refl, refl)
says_plain naming row statement.Setsid h = plain row _ h (refl, refl)
says_plain naming row (statement.Action sig act) h = plain row _ h.1 (refl, refl)
says_plain naming row (statement.Mask set) h = plain row _ h.1 (mask_plain h.0)
says_plain naming row statement.Pending h = plain row _ h (refl, refl)
says_plain naming row (statement.Migrate node) h = plain row _ h.1 (refl, refl)

lines_plain : (naming : Naming) (all : List Start) (open' : Option (List Statement)) (names : List Word) (scs : List Script) (later : List Start) (rows : List Row) → Lines naming all open' names scs later rows → All IsPlain rows
lines_plain naming all now' names' scs' later' rows' ends = All-nil IsPlain
lines_plain naming all now' names' scs' later' rows' (skips {open'} {names} {scripts} {starts} row {rows} s l) = All-cons IsPlain row rows (skipped_plain row s) (lines_plain naming all open' names scripts starts rows l)
lines_plain naming all now' names' scs' later' rows' (starts {names} {scripts} {later} start row {rows} s l) = All-cons IsPlain row rows (plain row _ s.is (refl, refl)) (lines_plain naming all None names scripts later rows l)
lines_plain naming all now' names' scs' later' rows' (begins {names} {scripts} {later} name script {rows} l) =
    All-cons IsPlain (codes "script" ∷ name ∷ []) rows (refl, refl) (lines_plain naming all (Some script.statements) names scripts later rows l)
lines_plain naming all now' names' scs' later' rows' (says {statements} {names} {scripts} {later} s row {rows} h l) = All-cons IsPlain row rows (says_plain naming row s h) (lines_plain naming all (Some statements) names scripts later rows l)
lines_plain naming all now' names' scs' later' rows' (closes {names} {scripts} {later} {rows} l) = All-cons IsPlain (codes "end" ∷ []) rows (refl, refl) (lines_plain naming all None names scripts later rows l)

part_plain : (naming : Naming) (world : World) (rows : List Row) → Part naming world rows → All IsPlain rows
part_plain naming world rows' (silent row {rows} s p) = All-cons IsPlain row rows (skipped_plain row s) (part_plain naming world rows p)
part_plain naming world rows' (opens word {rows} n l) = All-cons IsPlain (codes "cluster" ∷ word ∷ []) rows (refl, refl) (lines_plain naming world.starts None naming.scripts world.scripts world.starts rows l)

-- ---- lines
whole_before : (word : Word) (ls : List (List ℕ)) → All (λ row. stands_alone word row ≡ false) (map words ls) → before (is_only word) ls ≡ ls
whole_before word [] all = refl
whole_before word (line ∷ ls) all =
    take_while-cons (λ l. not (is_only word l)) line ls
    ∙ ap (λ t. cond (not t) (line ∷ before (is_only word) ls) []) (All-head (λ row. stands_alone word row ≡ false) (words line) (map words ls) all)
    ∙ ap (λ (rest : List (List ℕ)). line ∷ rest) (whole_before word ls (All-tail (λ row. stands_alone word row ≡ false) (words line) (map words ls) all))

none_behind : (word : Word) (ls : List (List ℕ)) → All (λ row. stands_alone word row ≡ false) (map words ls) → behind (is_only word) ls ≡ None
none_behind word [] all = refl
none_behind word (line ∷ ls) all =
    ap (λ t. cond t (Some ls) (behind (is_only word) ls)) (All-head (λ row. stands_alone word row ≡ false) (words line) (map words ls) all)
    ∙ none_behind word ls (All-tail (λ row. stands_alone word row ≡ false) (words line) (map words ls) all)

pub one_part : (ls : List (List ℕ)) (world : World) → IsFile ls world → (world_lines ls ≡ ls) × (schedule_lines ls ≡ None) × (history_lines ls ≡ None)
one_part ls world file =
    let all = part_plain file.naming world (map words ls) file.part in
    let history : All (λ row. stands_alone (codes "history") row ≡ false) (map words ls) = λ k d l. (all k d l).0 in
    let schedule : All (λ row. stands_alone (codes "schedule") row ≡ false) (map words ls) = λ k d l. (all k d l).1 in
    let front : before (is_only (codes "history")) ls ≡ ls = whole_before (codes "history") ls history in (
      ap (before (is_only (codes "schedule"))) front ∙ whole_before (codes "schedule") ls schedule,
      ap (behind (is_only (codes "schedule"))) front ∙ none_behind (codes "schedule") ls schedule,
      none_behind (codes "history") ls history,
    )
