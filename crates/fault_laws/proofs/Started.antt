-- the scripts that some lines start are those that their words name
use Rattle.std.proofs.Common.{◌≡◌, ℕ, zero, suc, ◌+◌, ◌<◌, Bool, true, false, cond, List, [], ◌∷◌, ◌++◌, take, append_assoc, refl, sym, ap, ◌∙◌, subst, arith, Some, Result, Ok, Err}
use Rattle.std.specs.Prelude.{codes, slice_get, map, IsOk}
use Rattle.std.specs.List.{AllZip}
use Rattle.std.proofs.lemmas.List.{append-nil, map-append, take-map}
use Rattle.std.proofs.lemmas.List.Folds.{fold-map}
use Rattle.byte_ends.specs.Text.{words}
use Rattle.unix_calls.specs.declared.Start.{Start}
use Rattle.unix_calls.specs.declared.work.Work.{Work}
use Rattle.unix_calls.specs.Work.{work, together, work_of, total_work}
use Rattle.script_words.specs.declared.faults.Kind.{Kind}
use Rattle.script_words.specs.Words.{Word, Row, word_at}
use Rattle.script_reader.specs.declared.lines.Item.{Item}
use Rattle.script_reader.specs.declared.lines.Item.TheVariants as item
use Rattle.script_reader.specs.declared.lines.StartLine.{StartLine}
use Rattle.script_reader.specs.declared.places.Place.{Place}
use Rattle.script_words.specs.Table.{verb_word}
use Rattle.script_reader.specs.Lines.{place_after}
use Rattle.script_reader.specs.Files.{begins_with, words_behind, Told, first_place, start_of, with_start}
use Rattle.script_laws.proofs.Words.{skipped_start, begins_so, verb_start, start_word}
use Rattle.script_laws.proofs.Lines.{Step, silent, opens, begins, ends, says, starts}
use Rattle.script_laws.proofs.Starts.{script_there}
use Rattle.script_laws.proofs.Parts.{names_of, told_of}
use Rattle.script_laws.proofs.Numbered.{rows_of, rows_told}
use Rattle.fault_laws.specs.Context.{script_names}
use Rattle.fault_laws.specs.Faults.{IsFirst, started_work}
use Rattle.fault_laws.proofs.Around.{place_at}
use Rattle.fault_laws.proofs.Counted.{starts_behind}
use Rattle.fault_laws.proofs.Firsts.{script_first}
use Rattle.fault_laws.proofs.Weights.{first_one}
use Rattle.fault_laws.proofs.Weighed.{StandAt, stand_here, stand_next, told_step}

-- the script that a line starts, before others
abbrev with_script_of : Result Item Kind → List ℕ → List ℕ
with_script_of (Ok (item.Starts s)) numbers = s.script ∷ numbers
with_script_of _ numbers = numbers

-- the scripts that some lines start
abbrev pub scripts_started : List Told → List ℕ
scripts_started [] = []
scripts_started (t ∷ rest) = with_script_of t.1 (scripts_started rest)

-- ---- the starts that are counted
abbrev scripts_in : List Start → List ℕ
scripts_in ss = map (λ s. s.script) ss

one_more : (earlier : List Start) (s : StartLine) (numbers : List ℕ) → scripts_in (with_start earlier s) ++ numbers ≡ scripts_in earlier ++ s.script ∷ numbers
unfolding start_of
one_more earlier s numbers = ap (λ (ns : List ℕ). ns ++ numbers) (map-append (λ (x : Start). x.script) earlier (start_of earlier s ∷ [])) ∙ append_assoc (scripts_in earlier) (s.script ∷ []) numbers

scripts_behind : (earlier : List Start) (told : List Told) → scripts_in (starts_behind earlier told) ≡ scripts_in earlier ++ scripts_started told
scripts_behind earlier [] = sym (append-nil (scripts_in earlier))
scripts_behind earlier ((row, Ok (item.Starts s)) ∷ rest) = scripts_behind (with_start earlier s) rest ∙ one_more earlier s (scripts_started rest)
scripts_behind earlier ((row, _) ∷ rest) = scripts_behind earlier rest

-- the work of the starts is that of their scripts
pub started_same : (ws : List Work) (told : List Told) → total_work ws (starts_behind [] told) ≡ started_work ws (scripts_started told)
started_same ws told =
    sym (fold-map (λ total n. together total (work_of ws n)) (λ (s : Start). s.script) (work 0 0) (starts_behind [] told)) ∙ ap (started_work ws) (scripts_behind [] told)

-- ---- the scripts that words name
behind_step : (first : Word) (at : ℕ) (row : Row) (rows : List Row) (b : Bool) → begins_with first row ≡ b → words_behind first at (row ∷ rows) ≡ cond b (word_at row at ∷ words_behind first at rows) (words_behind first at rows)
unfolding words_behind
behind_step first at row rows true e = rw e refl
behind_step first at row rows false e = rw e refl

module _ (lines : List (List ℕ)) where
  -- the scripts of these numbers are those that the lines name that start something
  abbrev pub AreNamed : List Row → List ℕ → Type 0
  AreNamed rows numbers = AllZip (IsFirst (script_names (map words lines))) (words_behind (codes "start") 2 rows) numbers

  no_start : (row : Row) (rows : List Row) (i : Item) (numbers : List ℕ) → begins_with (codes "start") row ≡ false → with_script_of (Ok i) numbers ≡ numbers → AreNamed rows numbers → AreNamed (row ∷ rows) (with_script_of (Ok i) numbers)
  no_start row rows i numbers b e a = subst (AreNamed (row ∷ rows)) (sym e) (subst (λ (ws : List Word). AllZip (IsFirst (script_names (map words lines))) ws numbers) (sym (behind_step (codes "start") 2 row rows false b)) a)

  some_start : (row : Row) (rows : List Row) (n : ℕ) (numbers : List ℕ) → begins_with (codes "start") row ≡ true → IsFirst (script_names (map words lines)) (word_at row 2) n → AreNamed rows numbers → AreNamed (row ∷ rows) (n ∷ numbers)
  some_start row rows n numbers b f a = subst (λ (ws : List Word). AllZip (IsFirst (script_names (map words lines))) ws (n ∷ numbers)) (sym (behind_step (codes "start") 2 row rows true b)) (f, a)

  step_named : (place : Place) (row : Row) (i : Item) (now : Place) (rows : List Row) (numbers : List ℕ) → Step (names_of lines) place row i now → AreNamed rows numbers → AreNamed (row ∷ rows) (with_script_of (Ok i) numbers)
  step_named place row i now rows numbers (silent s e n) a = no_start row rows i numbers (skipped_start row s) (rw e refl) a
  step_named place row i now rows numbers (opens m s b w nu l lo hi e n) a = no_start row rows i numbers (begins_so row (codes "start") (codes "cluster") false w start_word.3) (rw e refl) a
  step_named place row i now rows numbers (begins s b w c o nm d l e n) a = no_start row rows i numbers (begins_so row (codes "start") (codes "script") false w start_word.0) (rw e refl) a
  step_named place row i now rows numbers (ends s b w o l e n) a = no_start row rows i numbers (begins_so row (codes "start") (codes "end") false w start_word.1) (rw e refl) a
  step_named place row i now rows numbers (says v s k b w o c st e n) a = no_start row rows i numbers (begins_so row (codes "start") (verb_word v) false w (verb_start v)) (rw e refl) a
  step_named place row i now rows numbers (starts s k b w c o st e n) a =
      subst (λ (x : Item). AreNamed (row ∷ rows) (with_script_of (Ok x) numbers)) (sym e)
      (some_start row rows s.script numbers (begins_so row (codes "start") (codes "start") true w start_word.2) (script_first lines (word_at row 2) s.script (script_there (names_of lines).scripts (word_at row 2) s.script st.script)) a)

  -- lines without a fault
  abbrev pub AllOk : List Told → Type 0
  AllOk rest = (j : ℕ) (t : Told) → slice_get rest j ≡ Some t → IsOk t.1

  no_ok : {X : Type 0} → false ≡ true → X
  no_ok e = absurd (cc)

  pub told_named : (k : ℕ) (rest : List Told) → StandAt lines k rest → AllOk rest → AreNamed (rows_of rest) (scripts_started rest)
  unfolding words_behind
  told_named k [] stand ok = tt
  told_named k ((row, Err kind) ∷ rest) stand ok = no_ok (ok 0 (row, Err kind) refl)
  told_named k ((row, Ok i) ∷ rest) stand ok =
      step_named (place_at lines k) row i (place_after (place_at lines k) row (Ok i)) (rows_of rest) (scripts_started rest) (told_step lines k row i (stand_here lines k (row, Ok i) rest stand))
      (told_named (k + 1) rest (stand_next lines k (row, Ok i) rest stand) (λ j t e. ok (suc j) t e))

-- words name scripts in one way
pub named_one : (names words : List Word) (ms ns : List ℕ) → AllZip (IsFirst names) words ms → AllZip (IsFirst names) words ns → ms ≡ ns
named_one names [] [] [] a b = refl
named_one names [] (m ∷ ms) ns a b = absurd a
named_one names [] [] (n ∷ ns) a b = absurd b
named_one names (w ∷ ws) [] ns a b = absurd a
named_one names (w ∷ ws) (m ∷ ms) [] a b = absurd b
named_one names (w ∷ ws) (m ∷ ms) (n ∷ ns) a b =
    let here : m ≡ n = first_one names w m n a.0 b.0 in
    let rest : ms ≡ ns = named_one names ws ms ns a.1 b.1 in
    cc

-- ---- the lines up to one
pub taken : {X : Type 0} (n : ℕ) (xs : List X) (j : ℕ) (x : X) → slice_get (take n xs) j ≡ Some x → (j < n) × (slice_get xs j ≡ Some x)
taken zero xs j x e = cc
taken (suc n) [] j x e = cc
taken (suc n) (y ∷ xs) zero x e = (omega arith, e)
taken (suc n) (y ∷ xs) (suc j) x e = let h = taken n xs j x e in (omega (arith, h.0), h.1)

pub rows_taken : (lines : List (List ℕ)) (n : ℕ) → rows_of (take n (told_of lines)) ≡ take n (map words lines)
rows_taken lines n = sym (take-map (λ (t : Told). t.0) n (told_of lines)) ∙ ap (λ (rows : List Row). take n rows) (rows_told (names_of lines) first_place lines)
