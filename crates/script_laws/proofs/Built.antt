-- a part without a fault is one of the grammar
use Rattle.std.proofs.Common.{◌≡◌, ◌++◌, ℕ, ◌+◌, ◌≤◌, Bool, true, false, cond, List, [], ◌∷◌, length, length-append, sym, ap, ◌∙◌, subst, arith, Some, None, Ok, append_assoc}
use Rattle.std.specs.Prelude.{codes}
use Rattle.std.proofs.lemmas.List.{append-nil}
use Rattle.unix_calls.specs.declared.Script.{Script}
use Rattle.unix_calls.specs.declared.Start.{Start}
use Rattle.unix_calls.specs.declared.Work.{Work}
use Rattle.unix_calls.specs.declared.Statement.{Statement}
use Rattle.script_reader.specs.declared.names.Names.{Names}
use Rattle.script_reader.specs.declared.places.Place.{Place}
use Rattle.script_reader.specs.declared.lines.Item.{Item}
use Rattle.script_reader.specs.declared.lines.Item.TheVariants as item
use Rattle.script_words.specs.Words.{Word, Row, word_at}
use Rattle.script_reader.specs.Lines.{place_after}
use Rattle.script_reader.specs.Files.{words_behind, Told, place_behind, said, with_said, body, scripts_of, start_of, judged}
use Rattle.script_laws.specs.Grammar.{Naming, Lines, ends as no_more, skips, starts as a_start, begins as a_script, says as a_statement, closes}
use Rattle.script_laws.proofs.Lines.{Step, silent, opens, begins, ends, says, starts}
use Rattle.script_laws.proofs.Walks.{starts_now, judged_next, Walk}
use Rattle.script_laws.proofs.Scripts.{is_beginning, script_marked, body_is, scripts_are}
use Rattle.script_laws.proofs.Starts.{item_same}
use Rattle.script_laws.proofs.Numbered.{rows_of, closed_body}
use Rattle.script_laws.proofs.Understood.{name_understood}
use Rattle.script_laws.proofs.Shapes.{row_1, row_2, name_some}
use Rattle.script_laws.proofs.Said.{Follows, statement_said}
use Rattle.script_laws.proofs.Tabled.{numbers_step}
use Rattle.script_laws.proofs.Grammatical.{AreKnown, start_said}

-- the starts behind a line, and its own
abbrev later_with : List Start → Item → List Start → List Start
later_with earlier (item.Starts s) later = start_of earlier s ∷ later
later_with earlier _ later = later

module _ (names : Names) (naming : Naming) (follows : Follows names naming) (all : List Start) (known : AreKnown names all) where
  -- lines of the grammar, the first of which says an item
  abbrev Further : Place → Row → List Statement → List Word → List Script → List Start → List Start → List Row → Item → Type 0
  Further place row ss ws scs earlier later rows i =
      Lines naming all (cond place.is_open (Some (cond (is_beginning i) [] (with_said (said (Ok i)) ss))) None) (cond (is_beginning i) (word_at row 1 ∷ ws) ws) (cond (is_beginning i) (record { statements = ss } ∷ scs) scs) (later_with earlier i later) (row ∷ rows)

  line_case : (place : Place) (row : Row) (i : Item) (now : Place) (ss : List Statement) (ws : List Word) (scs : List Script) (earlier later : List Start) (rows : List Row) → Step names place row i now
      → place.begun ≡ true → place.starts ≤ length all → (now.is_open ≡ false → ss ≡ []) → Lines naming all (cond now.is_open (Some ss) None) ws scs later rows
      → Further place row ss ws scs earlier later rows i
  line_case place row i now ss ws scs earlier later rows (silent k e n) b few none d =
      subst (Further place row ss ws scs earlier later rows) (sym e) (skips row k (subst (λ p. Lines naming all (cond p.is_open (Some ss) None) ws scs later rows) n d))
  line_case place row i now ss ws scs earlier later rows (opens m k bg w nu l lo hi e n) b few none d = absurd (cc)
  line_case place row i now ss ws scs earlier later rows (begins k bg w a o nm ds l e n) b few none d =
      let is = name_understood (word_at row 1) tt nm in
      let shape = row_2 row (codes "script") w (λ e. cc) (name_some (word_at row 1) is) l in
      subst (Further place row ss ws scs earlier later rows) (sym e)
      (subst (λ (c : Bool). Lines naming all (cond c (Some []) None) (word_at row 1 ∷ ws) (record { statements = ss } ∷ scs) later (row ∷ rows)) (sym o)
      (subst (λ (r : Row). Lines naming all None (word_at row 1 ∷ ws) (record { statements = ss } ∷ scs) later (r ∷ rows)) (sym shape)
      (a_script (word_at row 1) (record { statements = ss }) (subst (λ p. Lines naming all (cond p.is_open (Some ss) None) ws scs later rows) n d))))
  line_case place row i now ss ws scs earlier later rows (ends k bg w o l e n) b few none d =
      let closed : ss ≡ [] = none (ap (λ p. p.is_open) n) in
      let shape = row_1 row (codes "end") w (λ e. cc) l in
      subst (Further place row ss ws scs earlier later rows) (sym e)
      (subst (λ (c : Bool). Lines naming all (cond c (Some ss) None) ws scs later (row ∷ rows)) (sym o)
      (subst (λ (r : Row). Lines naming all (Some ss) ws scs later (r ∷ rows)) (sym shape)
      (subst (λ (x : List Statement). Lines naming all (Some x) ws scs later ((codes "end" ∷ []) ∷ rows)) (sym closed)
      (closes (subst (λ p. Lines naming all (cond p.is_open (Some ss) None) ws scs later rows) n d)))))
  line_case place row i now ss ws scs earlier later rows (says v s k bg w o c st e n) b few none d =
      let h = (statement_said names naming follows place row v w).fact s st in
      let further : Lines naming all (Some ss) ws scs later rows = subst (λ (c : Bool). Lines naming all (cond c (Some ss) None) ws scs later rows) (ap (λ p. p.is_open) n ∙ o) d in
      subst (Further place row ss ws scs earlier later rows) (sym e)
      (subst (λ (c : Bool). Lines naming all (cond c (Some (s ∷ ss)) None) ws scs later (row ∷ rows)) (sym o) (a_statement s row h further))
  line_case place row i now ss ws scs earlier later rows (starts s k bg w c o st e n) b few none d =
      let h = start_said names naming follows all known place row s earlier w st few in
      let further : Lines naming all None ws scs later rows = subst (λ (c : Bool). Lines naming all (cond c (Some ss) None) ws scs later rows) (ap (λ p. p.is_open) n ∙ o) d in
      subst (Further place row ss ws scs earlier later rows) (sym e)
      (subst (λ (c : Bool). Lines naming all (cond c (Some ss) None) ws scs (start_of earlier s ∷ later) (row ∷ rows)) (sym o) (a_start (start_of earlier s) row h further))

  -- the lines from a place on, with the starts that they give
  pub record Goes (place : Place) (told : List Told) (earlier : List Start) : Type 0 where
    pub later : List Start
    pub is : earlier ++ later ≡ all
    pub lines : Lines naming all (cond place.is_open (Some (body told)) None) (words_behind (codes "script") 1 (rows_of told)) (scripts_of told) later (rows_of told)

  all_with : (earlier : List Start) (i : Item) (later : List Start) → starts_now earlier i ++ later ≡ all → earlier ++ later_with earlier i later ≡ all
  all_with earlier (item.Starts s) later e = sym (append_assoc earlier (start_of earlier s ∷ []) later) ∙ e
  all_with earlier item.Nothing later e = e
  all_with earlier (item.Nodes n) later e = e
  all_with earlier item.ScriptBegins later e = e
  all_with earlier item.ScriptEnds later e = e
  all_with earlier (item.Says s) later e = e

  -- how many starts there are so far
  counted : (place : Place) (row : Row) (i : Item) (now : Place) (earlier : List Start) → Step names place row i now → length earlier ≡ place.starts → length (starts_now earlier i) ≡ now.starts
  counted place row i now earlier (silent k e n) c = rw (e, n) c
  counted place row i now earlier (opens m k bg w nu l lo hi e n) c = rw (e, n) c
  counted place row i now earlier (begins k bg w a o nm d l e n) c = rw (e, n) c
  counted place row i now earlier (ends k bg w o l e n) c = rw (e, n) c
  counted place row i now earlier (says v s k bg w o cn st e n) c = rw (e, n) c
  counted place row i now earlier (starts s k bg w cn o st e n) c = rw (e, n) (length-append earlier (start_of earlier s ∷ []) ∙ ap (λ m. m + 1) c)

  begun_now : (place : Place) (row : Row) (i : Item) (now : Place) → Step names place row i now → place.begun ≡ true → now.begun ≡ true
  begun_now place row i now (silent k e n) b = ap (λ p. p.begun) n ∙ b
  begun_now place row i now (opens m k bg w nu l lo hi e n) b = absurd (cc)
  begun_now place row i now (begins k bg w a o nm d l e n) b = ap (λ p. p.begun) n
  begun_now place row i now (ends k bg w o l e n) b = ap (λ p. p.begun) n
  begun_now place row i now (says v s k bg w o c st e n) b = ap (λ p. p.begun) n
  begun_now place row i now (starts s k bg w c o st e n) b = ap (λ p. p.begun) n

  fewer : (earlier later : List Start) (n : ℕ) → length earlier ≡ n → earlier ++ later ≡ all → n ≤ length all
  fewer earlier later n c e = let l : length (earlier ++ later) ≡ length all = ap length e in let s : length (earlier ++ later) ≡ length earlier + length later = length-append earlier later in omega arith

  cast : (place : Place) {ss ss' : List Statement} {ws ws' : List Word} {scs scs' : List Script} {later : List Start} (rows : List Row) → ss' ≡ ss → ws' ≡ ws → scs' ≡ scs → Lines naming all (cond place.is_open (Some ss) None) ws scs later rows → Lines naming all (cond place.is_open (Some ss') None) ws' scs' later rows
  cast place {ss = ss} {ss' = ss'} {ws = ws} {ws' = ws'} {scs = scs} {scs' = scs'} {later = later} rows a b c d =
      subst (λ (x : List Statement). Lines naming all (cond place.is_open (Some x) None) ws' scs' later rows) (sym a)
      (subst (λ (x : List Word). Lines naming all (cond place.is_open (Some ss) None) x scs' later rows) (sym b)
      (subst (λ (x : List Script). Lines naming all (cond place.is_open (Some ss) None) ws x later rows) (sym c) d))

  pub goes : (ws : List Work) (place : Place) (told : List Told) (earlier : List Start) (line : ℕ) → Walk names place told → place.begun ≡ true → length earlier ≡ place.starts → judged ws earlier line told ≡ Ok all → (place_behind place told).is_open ≡ false → Goes place told earlier
  unfolding judged place_behind body scripts_of words_behind
  goes ws place [] earlier line w b c j closed =
      let is : earlier ≡ all = cc in
      record { later = []; is = append-nil earlier ∙ is; lines = subst (λ (o : Bool). Lines naming all (cond o (Some []) None) [] [] [] []) (sym closed) no_more }
  goes ws place (t ∷ rest) earlier line w b c j closed =
      let n = judged_next ws earlier line t.0 t.1 rest all j in
      let same : n.i ≡ w.0 = item_same n.i w.0 (sym n.read ∙ w.1) in
      let now = place_after place t.0 t.1 in
      let ih = goes ws (place_after place t.0 t.1) rest (starts_now earlier w.0) (line + 1) w.3 (begun_now place t.0 w.0 (place_after place t.0 t.1) w.2 b) (counted place t.0 w.0 (place_after place t.0 t.1) earlier w.2 c)
      (subst (λ x. judged ws (starts_now earlier x) (line + 1) rest ≡ Ok all) same n.later) closed in
      let few : place.starts ≤ length all = fewer earlier (later_with earlier w.0 ih.later) place.starts c (all_with earlier w.0 ih.later ih.is) in
      let d = line_case place t.0 w.0 (place_after place t.0 t.1) (body rest) (words_behind (codes "script") 1 (rows_of rest)) (scripts_of rest) earlier ih.later (rows_of rest) w.2 b few (closed_body names (place_after place t.0 t.1) rest w.3) ih.lines in
      let m = script_marked names place t.0 w.0 (place_after place t.0 t.1) w.2 in
      record {
        later = later_with earlier w.0 ih.later;
        is = all_with earlier w.0 ih.later ih.is;
        lines = cast place (t.0 ∷ rows_of rest) (body_is t rest w.0 w.1 m) (numbers_step t.0 (rows_of rest) (is_beginning w.0) m) (scripts_are t rest (is_beginning w.0) m) d;
      }
