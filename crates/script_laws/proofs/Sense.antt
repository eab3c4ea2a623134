-- a part of the grammar means the world that it spells
use Rattle.std.proofs.Common.{◌≡◌, ◌++◌, ℕ, suc, ◌+◌, ◌-◌, ◌<◌, ◌≤◌, Bool, true, false, cond, List, [], ◌∷◌, length, length-append, take, refl, sym, ap, ◌∙◌, subst, arith, Option, Some, None, Ok, All, append_assoc}
use Rattle.std.specs.Prelude.{codes, slice_get, IfSome}
use Rattle.std.proofs.lemmas.List.{append-nil, take_at}
use Rattle.std.proofs.lemmas.List.Elements.{All-head, All-tail}
use Rattle.std.proofs.lemmas.Option.{slice_get_within}
use Rattle.unix_calls.specs.declared.World.{World}
use Rattle.unix_calls.specs.declared.Script.{Script}
use Rattle.unix_calls.specs.declared.Start.{Start}
use Rattle.unix_calls.specs.declared.Statement.{Statement}
use Rattle.unix_calls.specs.Valid.{IsStatement, IsStart, IsValid, start_pid}
use Rattle.unix_calls.specs.Work.{works, total_work, is_little}
use Rattle.script_reader.specs.declared.names.Names.{Names}
use Rattle.script_reader.specs.declared.places.Place.{Place}
use Rattle.script_reader.specs.declared.lines.Head.TheVariants as head
use Rattle.script_reader.specs.declared.lines.Item.TheVariants as item
use Rattle.script_words.specs.Words.{Word, Row, word_at, is_skipped, ended}
use Rattle.script_reader.specs.Lines.{is_numbered, script_line, end_line, statement_line, start_line, later_line, read_row, place_after, placed_after}
use Rattle.script_words.specs.Table.{verb_word}
use Rattle.script_reader.specs.Files.{Told, place_behind, body, scripts_of, start_of, with_start, judged}
use Rattle.list_laws.proofs.Finding.{same_number}
use Rattle.script_laws.specs.Grammar.{Naming, IsCalled, Spells, SpellsStart, Lines, ends, skips, starts, begins, says, closes}
use Rattle.script_laws.proofs.Words.{skipped_script, begins_so, verb_script, script_word}
use Rattle.script_laws.proofs.Reading.{not_equal, name_read}
use Rattle.script_laws.proofs.Verbs.{verb_of}
use Rattle.script_laws.proofs.Spoken.{HasNaming, HasStarts, statement_read, first_word, start_read, line_of}
use Rattle.script_laws.proofs.Heads.{verb_head, script_head, start_head, end_head, row_read, row_place, verb_some}
use Rattle.script_laws.proofs.Told.{row_tells, row_told, Means, more, little_first, statements_of, Stands}
use Rattle.unix_calls.specs.declared.limits.TheConstants.{MOST_SCRIPTS, MOST_STATEMENTS, MOST_STARTS}

first_is : (word : Word) (row : Row) → word_at (word ∷ row) 0 ≡ word
unfolding word_at
first_is word row = refl

abbrev with_pid : Start → ℕ → Start
with_pid s n = record { node = s.node; script = s.script; var = s.var; pid = record { 0 = n }; uid = s.uid; joined = s.joined }

-- ---- lines
pub skip_read : (names : Names) (place : Place) (row : Row) → is_skipped row ≡ true → (read_row names place row ≡ Ok item.Nothing) × (place_after place row (Ok item.Nothing) ≡ place)
unfolding read_row place_after
skip_read names place row s = (rw s refl, rw s refl)

module _ (names : Names) (naming : Naming) (world : World) (has : HasNaming names naming) (known : HasStarts names naming world.starts) (valid : IsValid world) where
  abbrev Sense : Place → List Row → Option (List Statement) → List Script → List Start → Type 0
  Sense place rows open' scs earlier = Means (works world.scripts) place (row_tells names place rows) (statements_of open') scs earlier world.starts

  -- ---- a script's first line
  script_said : (place : Place) (name : Word) → place.begun ≡ true → place.is_open ≡ false → IsCalled naming.scripts name place.scripts → place.scripts < MOST_SCRIPTS → read_row names place (codes "script" ∷ name ∷ []) ≡ Ok item.ScriptBegins
  unfolding later_line script_line word_at is_numbered ended
  script_said place name b o c lt =
      row_read names place (codes "script" ∷ name ∷ []) (codes "script") head.Script refl (λ e. cc) script_head b
      ∙ rw (not_equal place.scripts MOST_SCRIPTS (below place.scripts lt), o, name_read name (has.scripts.name name place.scripts c), has.scripts.each name place.scripts c, same_number place.scripts) refl
    where
      below : (n : ℕ) → n < MOST_SCRIPTS → n ≡ MOST_SCRIPTS → ⊥
      below n lt e = omega arith

  end_said : (place : Place) → place.begun ≡ true → place.is_open ≡ true → read_row names place (codes "end" ∷ []) ≡ Ok item.ScriptEnds
  unfolding later_line end_line word_at ended
  end_said place b o = row_read names place (codes "end" ∷ []) (codes "end") head.End refl (λ e. cc) end_head b ∙ rw o refl

  statement_said : (place : Place) (row : Row) (s : Statement) → place.begun ≡ true → place.is_open ≡ true → place.nodes ≡ world.nodes → place.statements < MOST_STATEMENTS → Spells naming row s → IsStatement world (place.scripts - 1) s → read_row names place row ≡ Ok (item.Says s)
  unfolding later_line statement_line
  statement_said place row s b o n lt h v =
      row_read names place row (verb_word (verb_of s)) (head.Says (verb_of s)) (first_word naming row s h) (verb_some (verb_of s)) (verb_head (verb_of s)) b
      ∙ rw (statement_read names naming has place world n row s h v, o, not_equal place.statements MOST_STATEMENTS (below place.statements lt)) refl
    where
      below : (n : ℕ) → n < MOST_STATEMENTS → n ≡ MOST_STATEMENTS → ⊥
      below n lt e = omega arith

  start_said : (place : Place) (row : Row) (s : Start) (earlier : List Start) → place.begun ≡ true → place.is_open ≡ false → place.nodes ≡ world.nodes → place.starts < MOST_STARTS → length earlier ≡ place.starts → SpellsStart naming world.starts row s → slice_get world.starts place.starts ≡ Some s
      → IsStart world earlier s → read_row names place row ≡ Ok (item.Starts (line_of names naming has world.starts known place s))
  unfolding later_line start_line word_at
  start_said place row s earlier b o n lt c h e v =
      row_read names place row (codes "start") head.Start (ap (λ (r : Row). word_at r 0) h.is) (λ e. cc) start_head b
      ∙ rw (start_read names naming has world.starts known place row s h e (subst (λ m. s.node.0 < m) (sym n) v.node) (subst (λ m. IfSome s.joined (λ j. j < m)) c v.joined), not_equal place.starts MOST_STARTS (below place.starts lt), o) refl
    where
      below : (n : ℕ) → n < MOST_STARTS → n ≡ MOST_STARTS → ⊥
      below n lt e = omega arith

  -- a start is what its line gives, with its pid
  start_is : (place : Place) (earlier : List Start) (s : Start) → IsStart world earlier s → start_of earlier (line_of names naming has world.starts known place s) ≡ s
  unfolding start_of
  start_is place earlier s v = let is : s.pid.0 ≡ start_pid s.node earlier = v.pid in ap (λ (m : ℕ). with_pid s m) (sym is)

  at_length : (xs : List Start) (x : Start) (ys : List Start) → slice_get (xs ++ x ∷ ys) (length xs) ≡ Some x
  at_length [] x ys = refl
  at_length (y ∷ xs) x ys = at_length xs x ys

  -- ---- all lines
  number_less : {X : Type 0} (most : ℕ) (xs : List X) (k : ℕ) (x : X) → length xs ≤ most → slice_get xs k ≡ Some x → k < most
  number_less most xs k x few e = let lt : k < length xs = slice_get_within xs k x e in omega arith

  start_at : (later earlier : List Start) (s : Start) → earlier ++ s ∷ later ≡ world.starts → (slice_get world.starts (length earlier) ≡ Some s) × IsStart world earlier s
  start_at later earlier s e =
      let there : slice_get world.starts (length earlier) ≡ Some s = subst (λ (xs : List Start). slice_get xs (length earlier) ≡ Some s) e (at_length earlier s later) in
      let front : take (length earlier) world.starts ≡ earlier = subst (λ (xs : List Start). take (length earlier) xs ≡ earlier) e (take_at earlier (s ∷ later) (length earlier) refl) in
      (there, subst (λ (xs : List Start). IsStart world xs s) front (valid.starts (length earlier) s there))

  -- what further lines mean wherever they stand
  abbrev Later : Option (List Statement) → List Word → List Script → List Start → List Row → Type 0
  Later open' words scs later rows = (place : Place) (earlier : List Start) → Stands naming world place open' words scs later earlier → Sense place rows open' scs earlier

  start_case : (words : List Word) (scs : List Script) (later : List Start) (rows : List Row) (s : Start) (row : Row) → SpellsStart naming world.starts row s → Later None words scs later rows → Later None words scs (s ∷ later) (row ∷ rows)
  unfolding word_at
  start_case words scs later rows s row h ih place earlier st =
      let a = start_at later earlier s st.all in
      let there : slice_get world.starts place.starts ≡ Some s = subst (λ k. slice_get world.starts k ≡ Some s) st.count a.0 in
      let lt = number_less MOST_STARTS world.starts place.starts s valid.limits.starts there in
      let r = start_said place row s earlier st.begun st.is_open st.nodes lt st.count h there a.1 in
      started place earlier st a.1 r
    where
      first : word_at row 0 ≡ codes "start"
      first = ap (λ (r : Row). word_at r 0) h.is

      whole : (earlier : List Start) → earlier ++ s ∷ later ≡ world.starts → (earlier ++ s ∷ []) ++ later ≡ world.starts
      whole earlier e = append_assoc earlier (s ∷ []) later ∙ e

      started : (place : Place) (earlier : List Start) (st : Stands naming world place None words scs (s ∷ later) earlier) → IsStart world earlier s → read_row names place row ≡ Ok (item.Starts (line_of names naming has world.starts known place s)) → Sense place (row ∷ rows) None scs earlier
      started place earlier st v r =
          let i = item.Starts (line_of names naming has world.starts known place s) in
          let now = placed_after place place.nodes head.Start in
          let p = row_place place row (codes "start") head.Start (item.Starts (line_of names naming has world.starts known place s)) first (λ e. cc) start_head in
          let is : with_start earlier (line_of names naming has world.starts known place s) ≡ earlier ++ s ∷ [] = ap (λ (x : Start). earlier ++ x ∷ []) (start_is place earlier s v) in
          let all : (earlier ++ s ∷ []) ++ later ≡ world.starts = whole earlier st.all in
          let little : is_little (total_work (works world.scripts) (earlier ++ s ∷ [])) ≡ true = little_first (works world.scripts) (earlier ++ s ∷ []) later (subst (λ (xs : List Start). is_little (total_work (works world.scripts) xs) ≡ true) (sym all) valid.work) in
          let m : Sense (placed_after place place.nodes head.Start) rows None scs (earlier ++ s ∷ []) = ih (placed_after place place.nodes head.Start) (earlier ++ s ∷ []) (record {
            begun = refl;
            nodes = st.nodes;
            is_open = st.is_open;
            fits = tt;
            each = st.each;
            names = st.names;
            count = length-append earlier (s ∷ []) ∙ ap (λ n. n + 1) st.count;
            all = all;
          }) in
          subst (λ (ts : List Told). Means (works world.scripts) place ts [] scs earlier world.starts) (sym (row_told names place row rows (item.Starts (line_of names naming has world.starts known place s)) (placed_after place place.nodes head.Start) r p))
          (more (works world.scripts) place row (item.Starts (line_of names naming has world.starts known place s)) (placed_after place place.nodes head.Start) (row_tells names (placed_after place place.nodes head.Start) rows) [] scs earlier world.starts p refl
          (begins_so row (codes "script") (codes "start") false first script_word.2)
          (subst (λ (xs : List Start). is_little (total_work (works world.scripts) xs) ≡ true) (sym is) little)
          (subst (λ (xs : List Start). Sense (placed_after place place.nodes head.Start) rows None scs xs) (sym is) m))

  script_case : (words : List Word) (scs : List Script) (later : List Start) (rows : List Row) (name : Word) (script : Script) → Later (Some script.statements) words scs later rows → Later None (name ∷ words) (script ∷ scs) later ((codes "script" ∷ name ∷ []) ∷ rows)
  unfolding word_at
  script_case words scs later rows name script ih place earlier st =
      let zero : place.scripts + 0 ≡ place.scripts = omega arith in
      let c : IsCalled naming.scripts name place.scripts = subst (λ k. IsCalled naming.scripts name k) zero (st.names 0 name refl) in
      let e : slice_get world.scripts place.scripts ≡ Some script = subst (λ k. slice_get world.scripts k ≡ Some script) zero (st.each 0 script refl) in
      let v = valid.scripts place.scripts script e in
      let r = script_said place name st.begun st.is_open c (number_less MOST_SCRIPTS world.scripts place.scripts script valid.limits.scripts e) in
      let p = row_place place (codes "script" ∷ name ∷ []) (codes "script") head.Script item.ScriptBegins refl (λ e. cc) script_head in
      let next : (j : ℕ) → place.scripts + suc j ≡ place.scripts + 1 + j = λ j. omega arith in
      let back : place.scripts ≡ place.scripts + 1 - 1 = omega arith in
      let few : 0 + length script.statements ≤ MOST_STATEMENTS = omega (arith, v.0) in
      let m : Sense (placed_after place place.nodes head.Script) rows (Some script.statements) scs earlier = ih (placed_after place place.nodes head.Script) earlier (record {
        begun = refl;
        nodes = st.nodes;
        is_open = refl;
        fits = (subst (λ k. All (IsStatement world k) script.statements) back v.1, few);
        each = λ j x h. subst (λ k. slice_get world.scripts k ≡ Some x) (next j) (st.each (suc j) x h);
        names = λ j w h. subst (λ k. IsCalled naming.scripts w k) (next j) (st.names (suc j) w h);
        count = st.count;
        all = st.all;
      }) in
      subst (λ (ts : List Told). Means (works world.scripts) place ts [] (script ∷ scs) earlier world.starts) (sym (row_told names place (codes "script" ∷ name ∷ []) rows item.ScriptBegins (placed_after place place.nodes head.Script) r p))
      (more (works world.scripts) place (codes "script" ∷ name ∷ []) item.ScriptBegins (placed_after place place.nodes head.Script) (row_tells names (placed_after place place.nodes head.Script) rows) script.statements scs earlier world.starts p refl
      (begins_so (codes "script" ∷ name ∷ []) (codes "script") (codes "script") true refl script_word.0) tt m)

  end_case : (words : List Word) (scs : List Script) (later : List Start) (rows : List Row) → Later None words scs later rows → Later (Some []) words scs later ((codes "end" ∷ []) ∷ rows)
  unfolding word_at
  end_case words scs later rows ih place earlier st =
      let r = end_said place st.begun st.is_open in
      let p = row_place place (codes "end" ∷ []) (codes "end") head.End item.ScriptEnds refl (λ e. cc) end_head in
      let m : Sense (placed_after place place.nodes head.End) rows None scs earlier = ih (placed_after place place.nodes head.End) earlier (record { begun = refl; nodes = st.nodes; is_open = refl; fits = tt; each = st.each; names = st.names; count = st.count; all = st.all }) in
      subst (λ (ts : List Told). Means (works world.scripts) place ts [] scs earlier world.starts) (sym (row_told names place (codes "end" ∷ []) rows item.ScriptEnds (placed_after place place.nodes head.End) r p))
      (more (works world.scripts) place (codes "end" ∷ []) item.ScriptEnds (placed_after place place.nodes head.End) (row_tells names (placed_after place place.nodes head.End) rows) [] scs earlier world.starts p refl
      (begins_so (codes "end" ∷ []) (codes "script") (codes "end") false refl script_word.1) tt m)

  statement_case : (words : List Word) (scs : List Script) (later : List Start) (rows : List Row) (ss : List Statement) (s : Statement) (row : Row) → Spells naming row s → Later (Some ss) words scs later rows → Later (Some (s ∷ ss)) words scs later (row ∷ rows)
  statement_case words scs later rows ss s row h ih place earlier st =
      let lt : place.statements < MOST_STATEMENTS = room (length ss) place.statements st.fits.1 in
      let r = statement_said place row s st.begun st.is_open st.nodes lt h (All-head (IsStatement world (place.scripts - 1)) s ss st.fits.0) in
      let p = row_place place row (verb_word (verb_of s)) (head.Says (verb_of s)) (item.Says s) (first_word naming row s h) (verb_some (verb_of s)) (verb_head (verb_of s)) in
      let n : (placed_after place place.nodes (head.Says (verb_of s))).statements ≡ place.statements + 1 = ap (λ (b : Bool). cond b (place.statements + 1) place.statements) st.is_open in
      let m : Sense (placed_after place place.nodes (head.Says (verb_of s))) rows (Some ss) scs earlier = ih (placed_after place place.nodes (head.Says (verb_of s))) earlier (record {
        begun = refl;
        nodes = st.nodes;
        is_open = st.is_open;
        fits = (All-tail (IsStatement world (place.scripts - 1)) s ss st.fits.0, fewer (length ss) place.statements (placed_after place place.nodes (head.Says (verb_of s))).statements n st.fits.1);
        each = st.each;
        names = st.names;
        count = st.count;
        all = st.all;
      }) in
      subst (λ (ts : List Told). Means (works world.scripts) place ts (s ∷ ss) scs earlier world.starts) (sym (row_told names place row rows (item.Says s) (placed_after place place.nodes (head.Says (verb_of s))) r p))
      (more (works world.scripts) place row (item.Says s) (placed_after place place.nodes (head.Says (verb_of s))) (row_tells names (placed_after place place.nodes (head.Says (verb_of s))) rows) ss scs earlier world.starts p refl
      (begins_so row (codes "script") (verb_word (verb_of s)) false (first_word naming row s h) (verb_script (verb_of s))) tt m)
    where
      room : (l n : ℕ) → n + suc l ≤ MOST_STATEMENTS → n < MOST_STATEMENTS
      room l n e = omega arith

      fewer : (l n m : ℕ) → m ≡ n + 1 → n + suc l ≤ MOST_STATEMENTS → m + l ≤ MOST_STATEMENTS
      fewer l n m a b = omega arith

  pub read_lines : (open' : Option (List Statement)) (words : List Word) (scs : List Script) (later : List Start) (rows : List Row) → Lines naming world.starts open' words scs later rows → Later open' words scs later rows
  unfolding body scripts_of place_behind judged
  read_lines open' words scs later rows ends place earlier st =
      let is : earlier ≡ world.starts = sym (append-nil earlier) ∙ st.all in
      record { body = refl; scripts = refl; closed = st.is_open; begun = st.begun; nodes = refl; count = sym st.count ∙ ap length is; judged = λ line. ap (λ (xs : List Start). Ok xs) is }
  read_lines open' words scs later rows' (skips row {rows = rows} s d) place earlier st =
      let r = skip_read names place row s in
      subst (λ (ts : List Told). Means (works world.scripts) place ts (statements_of open') scs earlier world.starts) (sym (row_told names place row rows item.Nothing place r.0 r.1))
      (more (works world.scripts) place row item.Nothing place (row_tells names place rows) (statements_of open') scs earlier world.starts r.1 refl (skipped_script row s) tt (read_lines open' words scs later rows d place earlier st))
  read_lines open' words scs later rows' (starts {later = rest} s row {rows = rows} h d) place earlier st = start_case words scs rest rows s row h (read_lines None words scs rest rows d) place earlier st
  read_lines open' words scs later rows' (begins {names = names'} {scripts = scs'} name script {rows = rows} d) place earlier st = script_case names' scs' later rows name script (read_lines (Some script.statements) names' scs' later rows d) place earlier st
  read_lines open' words scs later rows' (says {statements = ss} s row {rows = rows} h d) place earlier st = statement_case words scs later rows ss s row h (read_lines (Some ss) words scs later rows d) place earlier st
  read_lines open' words scs later rows' (closes {rows = rows} d) place earlier st = end_case words scs later rows (read_lines None words scs later rows d) place earlier st
