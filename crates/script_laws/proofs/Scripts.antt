-- the scripts of a part without a fault
use Rattle.std.proofs.Common.{◌≡◌, ℕ, zero, suc, ◌+◌, ◌-◌, ◌<◌, ◌≤◌, Bool, true, false, cond, List, [], ◌∷◌, length, refl, sym, ap, ◌∙◌, subst, arith, Some, Ok, All}
use Rattle.std.specs.Prelude.{codes, slice_get}
use Rattle.std.proofs.lemmas.Bool.{eqb-false}
use Rattle.std.proofs.lemmas.List.Elements.{All-nil, All-cons}
use Rattle.unix_calls.specs.declared.World.{World}
use Rattle.unix_calls.specs.declared.Script.{Script}
use Rattle.unix_calls.specs.declared.world.Statement.{Statement}
use Rattle.script_reader.specs.declared.names.Names.{Names}
use Rattle.script_reader.specs.declared.places.Place.{Place}
use Rattle.script_reader.specs.declared.lines.Item.{Item}
use Rattle.script_reader.specs.declared.lines.Item.TheVariants as item
use Rattle.script_words.specs.Words.{Row}
use Rattle.script_reader.specs.Lines.{place_after}
use Rattle.script_words.specs.Table.{verb_word}
use Rattle.script_reader.specs.Files.{begins_with, Told, place_behind, said, with_said, body, scripts_of}
use Rattle.script_laws.proofs.Statements.{AreVariables, IsRead, statement_fits}
use Rattle.script_laws.proofs.Words.{skipped_script, begins_so, verb_script, script_word}
use Rattle.script_laws.proofs.Lines.{Step, silent, opens, begins, ends, says, starts}
use Rattle.script_laws.proofs.Walks.{Walk, nodes_stay}
use Rattle.unix_calls.specs.declared.limits.TheConstants.{MOST_SCRIPTS, MOST_STATEMENTS}

-- whether a line begins a script
abbrev pub is_beginning : Item → Bool
is_beginning item.ScriptBegins = true
is_beginning _ = false

pub script_marked : (names : Names) (place : Place) (row : Row) (i : Item) (now : Place) → Step names place row i now → begins_with (codes "script") row ≡ is_beginning i
script_marked names place row i now (silent k e n) = skipped_script row k ∙ ap is_beginning (sym e)
script_marked names place row i now (opens m k b w nu l lo hi e n) = begins_so row (codes "script") (codes "cluster") false w script_word.3 ∙ ap is_beginning (sym e)
script_marked names place row i now (begins k b w a o nm d l e n) = begins_so row (codes "script") (codes "script") true w script_word.0 ∙ ap is_beginning (sym e)
script_marked names place row i now (ends k b w o l e n) = begins_so row (codes "script") (codes "end") false w script_word.1 ∙ ap is_beginning (sym e)
script_marked names place row i now (says v s k b w o c st e n) = begins_so row (codes "script") (verb_word v) false w (verb_script v) ∙ ap is_beginning (sym e)
script_marked names place row i now (starts s k b w c o st e n) = begins_so row (codes "script") (codes "start") false w script_word.2 ∙ ap is_beginning (sym e)

-- ---- what each line adds
pub body_is : (t : Told) (rest : List Told) (i : Item) → t.1 ≡ Ok i → begins_with (codes "script") t.0 ≡ is_beginning i → body (t ∷ rest) ≡ cond (is_beginning i) [] (with_said (said (Ok i)) (body rest))
unfolding body
body_is t rest i e b = rw (b, e) refl

pub scripts_are : (t : Told) (rest : List Told) (b : Bool) → begins_with (codes "script") t.0 ≡ b → scripts_of (t ∷ rest) ≡ cond b (record { statements = body rest } ∷ scripts_of rest) (scripts_of rest)
unfolding scripts_of
scripts_are t rest b e = rw e refl

below : (n most : ℕ) → n ≤ most → (n ≡ most → ⊥) → n < most
below n most le ne = omega arith

-- ---- statements
module _ (names : Names) (world : World) (variables : AreVariables names.variables world) where
  abbrev Read : Place → Statement → Type 0
  Read place = IsRead world (place.scripts - 1)

  -- the statements behind a line, from those behind the next
  said_fits : (place : Place) (row : Row) (i : Item) (now : Place) (later : List Statement) → Step names place row i now → (place.begun ≡ true → place.nodes ≡ world.nodes) → All (Read now) later
      → All (Read place) (cond (is_beginning i) [] (with_said (said (Ok i)) later))
  said_fits place row i now later (silent k e n) nodes all = rw e (subst (λ p. All (Read p) later) n all)
  said_fits place row i now later (opens m k b w nu l lo hi e n) nodes all = rw e (subst (λ p. All (Read p) later) n all)
  said_fits place row i now later (begins k b w a o nm d l e n) nodes all = rw e (All-nil (Read place))
  said_fits place row i now later (ends k b w o l e n) nodes all = rw e (subst (λ p. All (Read p) later) n all)
  said_fits place row i now later (says v s k b w o c st e n) nodes all =
      rw e (All-cons (Read place) s later ((statement_fits names place world variables (nodes b) v row).fact s st) (subst (λ p. All (Read p) later) n all))
  said_fits place row i now later (starts s k b w c o st e n) nodes all = rw e (subst (λ p. All (Read p) later) n all)

  nodes_here : (place : Place) (told : List Told) → Walk names place told → (place_behind place told).nodes ≡ world.nodes → place.begun ≡ true → place.nodes ≡ world.nodes
  nodes_here place told w total b = sym ((nodes_stay names place told w b).0) ∙ total

  pub body_fits : (place : Place) (told : List Told) → Walk names place told → (place_behind place told).nodes ≡ world.nodes → All (Read place) (body told)
  unfolding body place_behind
  body_fits place [] w total = All-nil (Read place)
  body_fits place (t ∷ rest) w total =
      let later = body_fits (place_after place t.0 t.1) rest w.3 total in
      subst (All (Read place)) (sym (body_is t rest w.0 w.1 (script_marked names place t.0 w.0 (place_after place t.0 t.1) w.2)))
      (said_fits place t.0 w.0 (place_after place t.0 t.1) (body rest) w.2 (nodes_here place (t ∷ rest) w total) later)

  -- ---- how many
  counted : (place : Place) (row : Row) (i : Item) (now : Place) (later : List Statement) → Step names place row i now → place.statements ≤ MOST_STATEMENTS → (now.statements ≤ MOST_STATEMENTS → length later + now.statements ≤ MOST_STATEMENTS)
      → length (cond (is_beginning i) [] (with_said (said (Ok i)) later)) + place.statements ≤ MOST_STATEMENTS
  counted place row i now later (silent k e n) few more = rw e (subst (λ p. p.statements ≤ MOST_STATEMENTS → length later + p.statements ≤ MOST_STATEMENTS) n more few)
  counted place row i now later (opens m k b w nu l lo hi e n) few more = rw e (subst (λ p. p.statements ≤ MOST_STATEMENTS → length later + p.statements ≤ MOST_STATEMENTS) n more few)
  counted place row i now later (begins k b w a o nm d l e n) few more = rw e (omega arith)
  counted place row i now later (ends k b w o l e n) few more = rw e (subst (λ p. p.statements ≤ MOST_STATEMENTS → length later + p.statements ≤ MOST_STATEMENTS) n more few)
  counted place row i now later (says v s k b w o c st e n) few more =
      let is : now.statements ≡ place.statements + 1 = ap (λ p. p.statements) n ∙ ap (λ x. cond x (place.statements + 1) place.statements) o in
      let lt : place.statements < MOST_STATEMENTS = below place.statements MOST_STATEMENTS few (eqb-false _ _ c) in
      let h : length later + now.statements ≤ MOST_STATEMENTS = more (omega arith) in
      rw e (omega arith)
  counted place row i now later (starts s k b w c o st e n) few more = rw e (subst (λ p. p.statements ≤ MOST_STATEMENTS → length later + p.statements ≤ MOST_STATEMENTS) n more few)

  pub body_short : (place : Place) (told : List Told) → Walk names place told → place.statements ≤ MOST_STATEMENTS → length (body told) + place.statements ≤ MOST_STATEMENTS
  unfolding body
  body_short place [] w few = omega arith
  body_short place (t ∷ rest) w few =
      subst (λ (b : List Statement). length b + place.statements ≤ MOST_STATEMENTS) (sym (body_is t rest w.0 w.1 (script_marked names place t.0 w.0 (place_after place t.0 t.1) w.2)))
      (counted place t.0 w.0 (place_after place t.0 t.1) (body rest) w.2 few (body_short (place_after place t.0 t.1) rest w.3))

  -- ---- scripts
  -- at most 256 statements of the k-th script
  abbrev pub IsReadScript : ℕ → Script → Type 0
  IsReadScript k script = (length script.statements ≤ MOST_STATEMENTS) × All (IsRead world k) script.statements

  -- each script, numbered on from a number
  abbrev pub AreReadScripts : ℕ → List Script → Type 0
  AreReadScripts k [] = Unit {0}
  AreReadScripts k (script ∷ scripts) = IsReadScript k script × AreReadScripts (k + 1) scripts

  begun_scripts : (place : Place) (row : Row) (i : Item) (now : Place) (rest : List Told) → Step names place row i now → All (Read now) (body rest) → (now.statements ≤ MOST_STATEMENTS → length (body rest) + now.statements ≤ MOST_STATEMENTS) → AreReadScripts now.scripts (scripts_of rest)
      → AreReadScripts place.scripts (cond (is_beginning i) (record { statements = body rest } ∷ scripts_of rest) (scripts_of rest))
  begun_scripts place row i now rest (silent k e n) all few later = rw e (subst (λ p. AreReadScripts p.scripts (scripts_of rest)) n later)
  begun_scripts place row i now rest (opens m k b w nu l lo hi e n) all few later = rw e (subst (λ p. AreReadScripts p.scripts (scripts_of rest)) n later)
  begun_scripts place row i now rest (begins k b w a o nm d l e n) all few later =
      let z : now.statements ≡ 0 = ap (λ p. p.statements) n in
      let s : now.scripts ≡ place.scripts + 1 = ap (λ p. p.scripts) n in
      let short : length (body rest) + now.statements ≤ MOST_STATEMENTS = few (omega arith) in
      let is : now.scripts - 1 ≡ place.scripts = omega arith in
      rw e ((omega arith, subst (λ j. All (IsRead world j) (body rest)) is all), subst (λ p. AreReadScripts p.scripts (scripts_of rest)) n later)
  begun_scripts place row i now rest (ends k b w o l e n) all few later = rw e (subst (λ p. AreReadScripts p.scripts (scripts_of rest)) n later)
  begun_scripts place row i now rest (says v s k b w o c st e n) all few later = rw e (subst (λ p. AreReadScripts p.scripts (scripts_of rest)) n later)
  begun_scripts place row i now rest (starts s k b w c o st e n) all few later = rw e (subst (λ p. AreReadScripts p.scripts (scripts_of rest)) n later)

  pub scripts_fit : (place : Place) (told : List Told) → Walk names place told → (place_behind place told).nodes ≡ world.nodes → AreReadScripts place.scripts (scripts_of told)
  unfolding scripts_of place_behind
  scripts_fit place [] w total = tt
  scripts_fit place (t ∷ rest) w total =
      let now = place_after place t.0 t.1 in
      subst (AreReadScripts place.scripts) (sym (scripts_are t rest (is_beginning w.0) (script_marked names place t.0 w.0 (place_after place t.0 t.1) w.2)))
      (begun_scripts place t.0 w.0 (place_after place t.0 t.1) rest w.2 (body_fits (place_after place t.0 t.1) rest w.3 total) (body_short (place_after place t.0 t.1) rest w.3) (scripts_fit (place_after place t.0 t.1) rest w.3 total))

  pub at_scripts : (k : ℕ) (scripts : List Script) (j : ℕ) (script : Script) → AreReadScripts k scripts → slice_get scripts j ≡ Some script → IsReadScript (k + j) script
  at_scripts k [] j script all e = cc
  at_scripts k (s ∷ ss) zero script all e = let is : s ≡ script = cc in let z : k ≡ k + 0 = omega arith in subst (λ m. IsReadScript m script) z (subst (IsReadScript k) is all.0)
  at_scripts k (s ∷ ss) (suc j) script all e = let z : (k + 1) + j ≡ k + suc j = omega arith in subst (λ m. IsReadScript m script) z (at_scripts (k + 1) ss j script all.1 e)

pub fewer : (names : Names) (place : Place) (row : Row) (i : Item) (now : Place) → Step names place row i now → place.scripts ≤ MOST_SCRIPTS → (now.scripts ≤ MOST_SCRIPTS) × (now.scripts ≡ cond (is_beginning i) (place.scripts + 1) place.scripts)
fewer names place row i now (silent k e n) few = rw (e, n) (few, refl)
fewer names place row i now (opens m k b w nu l lo hi e n) few = rw (e, n) (few, refl)
fewer names place row i now (begins k b w a o nm d l e n) few = let lt = below place.scripts MOST_SCRIPTS few (eqb-false _ _ a) in rw (e, n) (omega arith, refl)
fewer names place row i now (ends k b w o l e n) few = rw (e, n) (few, refl)
fewer names place row i now (says v s k b w o c st e n) few = rw (e, n) (few, refl)
fewer names place row i now (starts s k b w c o st e n) few = rw (e, n) (few, refl)

pub scripts_few : (names : Names) (place : Place) (told : List Told) → Walk names place told → place.scripts ≤ MOST_SCRIPTS → place.scripts + length (scripts_of told) ≤ MOST_SCRIPTS
unfolding scripts_of
scripts_few names place [] w few = omega arith
scripts_few names place (t ∷ rest) w few =
    let f = fewer names place t.0 w.0 (place_after place t.0 t.1) w.2 few in
    let later = scripts_few names (place_after place t.0 t.1) rest w.3 f.0 in
    subst (λ (s : List Script). place.scripts + length s ≤ MOST_SCRIPTS) (sym (scripts_are t rest (is_beginning w.0) (script_marked names place t.0 w.0 (place_after place t.0 t.1) w.2)))
    (go (is_beginning w.0) f.1 later)
  where
    go : (b : Bool) → (place_after place t.0 t.1).scripts ≡ cond b (place.scripts + 1) place.scripts → (place_after place t.0 t.1).scripts + length (scripts_of rest) ≤ MOST_SCRIPTS
        → place.scripts + length (cond b (record { statements = body rest } ∷ scripts_of rest) (scripts_of rest)) ≤ MOST_SCRIPTS
    go true s h = omega arith
    go false s h = omega arith
