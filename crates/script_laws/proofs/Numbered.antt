-- a part without a fault means a world that is numbered as files number
use Rattle.std.proofs.Common.{◌≡◌, ◌==◌, ◌++◌, ℕ, ◌+◌, ◌≤◌, Bool, true, false, cond, List, [], ◌∷◌, length, refl, sym, ap, ◌∙◌, subst, arith, Option, Some, None, Result, Ok, Err, append_assoc, All}
use Rattle.std.specs.Prelude.{codes, map, filter}
use Rattle.std.specs.List.{flat_map, filter_map, cons_option}
use Rattle.std.proofs.lemmas.Bool.{eqb-false}
use Rattle.std.proofs.lemmas.List.{append-nil, map-append}
use Rattle.std.proofs.lemmas.List.Elements.{All-nil, All-cons, All-weaker}
use Rattle.byte_ends.specs.Text.{words}
use Rattle.unix_calls.specs.declared.World.{World}
use Rattle.unix_calls.specs.declared.Script.{Script}
use Rattle.unix_calls.specs.declared.Start.{Start}
use Rattle.unix_calls.specs.declared.Work.{Work}
use Rattle.unix_calls.specs.declared.world.Statement.{Statement}
use Rattle.unix_calls.specs.Work.{works}
use Rattle.script_words.specs.declared.faults.Kind.{Kind}
use Rattle.script_words.specs.declared.faults.Kind.TheVariants.{UnknownWord, NoStart}
use Rattle.script_reader.specs.declared.names.Names.{Names}
use Rattle.script_reader.specs.declared.places.Place.{Place}
use Rattle.script_reader.specs.declared.lines.Item.{Item}
use Rattle.script_reader.specs.declared.lines.Item.TheVariants as item
use Rattle.script_words.specs.Words.{Word, Row, word_at}
use Rattle.script_reader.specs.Names.{Table}
use Rattle.script_reader.specs.Lines.{read_line, place_after}
use Rattle.script_reader.specs.Files.{begins_with, words_behind, gather, Told, first_place, tells, said, with_said, body, scripts_of, start_of, judged, listed}
use Rattle.script_laws.specs.Writable.{IsWrittenStatement, assigned, assigned_by, AreInOrder, variables_of, IsWritable}
use Rattle.script_laws.specs.Worlds.{ReadIsWritable}
use Rattle.script_laws.proofs.Statements.{IsRead}
use Rattle.script_laws.proofs.Tables.{none_listed}
use Rattle.script_laws.proofs.Lines.{Step, silent, opens, begins, ends, says, starts}
use Rattle.script_laws.proofs.Walks.{starts_now, judged_next, Walk}
use Rattle.script_laws.proofs.Scripts.{is_beginning, script_marked, body_is, scripts_are, AreReadScripts}
use Rattle.script_laws.proofs.Parts.{names_of, told_of, last_place, world_of, IsWhole, whole, walk, started as are_started, scripted, variables_known, world_valid}
use Rattle.script_laws.proofs.Orders.{AreNumbers, numbers-append, listed-append, in_order}
use Rattle.script_laws.proofs.Variables.{Marked, forked, started, fork_step, start_step}

-- what a line gives, where it has no fault
abbrev pub given : (Item → Option ℕ) → Result Item Kind → Option ℕ
given f (Ok i) = f i
given f (Err kind) = None

abbrev pub given_by : (Item → Option ℕ) → List Told → List ℕ
given_by f told = filter_map (λ t. given f t.1) told

abbrev pub rows_of : List Told → List Row
rows_of told = map (λ t. t.0) told

pub rows_told : (names : Names) (place : Place) (lines : List (List ℕ)) → rows_of (tells names place lines) ≡ map words lines
unfolding tells
rows_told names place [] = refl
rows_told names place (line ∷ lines) = ap (λ (rs : List Row). words line ∷ rs) (rows_told names (place_after place (words line) (read_line names place line)) lines)

positive : (n : ℕ) → (n ≡ 0 → ⊥) → 1 ≤ n
positive n ne = omega arith

-- ---- the numbers of the words of some lines
numbers_step : (variables : Table) (first : Word) (at : ℕ) (row : Row) (o : Option ℕ) (rows : List Row) (ns : List ℕ) → Marked variables first at row o → AreNumbers variables (map (λ r. word_at r at) (filter (begins_with first) rows)) ns
    → AreNumbers variables (map (λ r. word_at r at) (cond (begins_with first row) (row ∷ filter (begins_with first) rows) (filter (begins_with first) rows))) (cons_option o ns)
numbers_step variables first at row (Some n) rows ns m later = rw m.0 (m.1, later)
numbers_step variables first at row None rows ns m later = rw m later

numbers_given : (names : Names) (first : Word) (at : ℕ) (f : Item → Option ℕ) → ((place : Place) (row : Row) (i : Item) (now : Place) → Step names place row i now → Marked names.variables first at row (f i))
    → (place : Place) (told : List Told) → Walk names place told → AreNumbers names.variables (words_behind first at (rows_of told)) (given_by f told)
unfolding words_behind
numbers_given names first at f marked place [] w = tt
numbers_given names first at f marked place (t ∷ rest) w =
    rw (ap (given f) w.1) (numbers_step names.variables first at t.0 (f w.0) (rows_of rest) (given_by f rest) (marked place t.0 w.0 (place_after place t.0 t.1) w.2) (numbers_given names first at f marked (place_after place t.0 t.1) rest w.3))

-- ---- the variables of forks are those of the scripts
cons-append : (o : Option ℕ) (xs ys : List ℕ) → cons_option o xs ++ ys ≡ cons_option o (xs ++ ys)
cons-append None xs ys = refl
cons-append (Some x) xs ys = refl

item_given : (i : Item) (later : List Statement) (scripts : List Script) (ns : List ℕ) → filter_map assigned later ++ flat_map assigned_by scripts ≡ ns
    → filter_map assigned (cond (is_beginning i) [] (with_said (said (Ok i)) later)) ++ flat_map assigned_by (cond (is_beginning i) (record { statements = later } ∷ scripts) scripts) ≡ cons_option (forked i) ns
item_given (item.Says s) later scripts ns e = cons-append (assigned s) (filter_map assigned later) (flat_map assigned_by scripts) ∙ ap (cons_option (assigned s)) e
item_given item.Nothing later scripts ns e = e
item_given (item.Nodes n) later scripts ns e = e
item_given item.ScriptBegins later scripts ns e = e
item_given item.ScriptEnds later scripts ns e = e
item_given (item.Starts s) later scripts ns e = e

forks_given : (names : Names) (place : Place) (told : List Told) → Walk names place told → filter_map assigned (body told) ++ flat_map assigned_by (scripts_of told) ≡ given_by forked told
unfolding body scripts_of
forks_given names place [] w = refl
forks_given names place (t ∷ rest) w =
    let m = script_marked names place t.0 w.0 (place_after place t.0 t.1) w.2 in
    rw (body_is t rest w.0 w.1 m, scripts_are t rest (is_beginning w.0) m, ap (given forked) w.1)
    (item_given w.0 (body rest) (scripts_of rest) (given_by forked rest) (forks_given names (place_after place t.0 t.1) rest w.3))

-- outside of a script no line says a statement
closed_step : (names : Names) (place : Place) (row : Row) (i : Item) (now : Place) (later : List Statement) → Step names place row i now → place.is_open ≡ false → (now.is_open ≡ false → later ≡ []) → cond (is_beginning i) [] (with_said (said (Ok i)) later) ≡ []
closed_step names place row i now later (silent k e n) c none = rw e (none (ap (λ p. p.is_open) n ∙ c))
closed_step names place row i now later (opens m k b w nu l lo hi e n) c none = rw e (none (ap (λ p. p.is_open) n ∙ c))
closed_step names place row i now later (begins k b w a o nm d l e n) c none = rw e refl
closed_step names place row i now later (ends k b w o l e n) c none = cc
closed_step names place row i now later (says v s k b w o cn st e n) c none = cc
closed_step names place row i now later (starts s k b w cn o st e n) c none = rw e (none (ap (λ p. p.is_open) n ∙ c))

pub closed_body : (names : Names) (place : Place) (told : List Told) → Walk names place told → place.is_open ≡ false → body told ≡ []
unfolding body
closed_body names place [] w c = refl
closed_body names place (t ∷ rest) w c =
    body_is t rest w.0 w.1 (script_marked names place t.0 w.0 (place_after place t.0 t.1) w.2)
    ∙ closed_step names place t.0 w.0 (place_after place t.0 t.1) (body rest) w.2 c (closed_body names (place_after place t.0 t.1) rest w.3)

-- ---- the variables of starts
abbrev variable_of : Start → ℕ
variable_of s = s.var

start_given : (earlier : List Start) (i : Item) → map variable_of (starts_now earlier i) ≡ map variable_of earlier ++ cons_option (started i) []
unfolding start_of
start_given earlier (item.Starts s) = map-append variable_of earlier (start_of earlier s ∷ [])
start_given earlier item.Nothing = sym (append-nil (map variable_of earlier))
start_given earlier (item.Nodes n) = sym (append-nil (map variable_of earlier))
start_given earlier item.ScriptBegins = sym (append-nil (map variable_of earlier))
start_given earlier item.ScriptEnds = sym (append-nil (map variable_of earlier))
start_given earlier (item.Says s) = sym (append-nil (map variable_of earlier))

cons_whole : (o : Option ℕ) (ns : List ℕ) → cons_option o [] ++ ns ≡ cons_option o ns
cons_whole o ns = cons-append o [] ns

starts_given : (ws : List Work) (earlier : List Start) (line : ℕ) (told : List Told) (all : List Start) → judged ws earlier line told ≡ Ok all → map variable_of all ≡ map variable_of earlier ++ given_by started told
unfolding judged
starts_given ws earlier line [] all e = let is : earlier ≡ all = cc in ap (map variable_of) (sym is) ∙ sym (append-nil (map variable_of earlier))
starts_given ws earlier line (t ∷ rest) all e =
    let j = judged_next ws earlier line t.0 t.1 rest all e in
    starts_given ws (starts_now earlier j.i) (line + 1) rest all j.later
    ∙ ap (λ (ns : List ℕ). ns ++ given_by started rest) (start_given earlier j.i)
    ∙ append_assoc (map variable_of earlier) (cons_option (started j.i) []) (given_by started rest)
    ∙ ap (λ (ns : List ℕ). map variable_of earlier ++ ns) (cons_whole (started j.i) (given_by started rest) ∙ ap (λ (o : Option ℕ). cons_option o (given_by started rest)) (sym (ap (given started) j.read)))

-- ---- a whole part
-- where nothing is wrong behind the last line, something is started
started_some : (b : Bool) (n m : ℕ) → cond b (Some UnknownWord) (cond (n == 0) (Some NoStart) None) ≡ None → m ≡ n → 1 ≤ m
started_some true n m e c = cc
started_some false n m e c = go (n == 0) refl e
  where
    go : (b : Bool) → (n == 0) ≡ b → cond b (Some NoStart) None ≡ None → 1 ≤ m
    go true z h = cc
    go false z h = let ne : n ≡ 0 → ⊥ = eqb-false n 0 z in positive m (λ e. ne (sym c ∙ e))

module _ (first : ℕ) (lines : List (List ℕ)) (world : World) (w : IsWhole first lines world) where
  walked_part : Walk (names_of lines) first_place (told_of lines)
  walked_part = walk first lines world w

  forks_of_world : flat_map assigned_by (scripts_of (told_of lines)) ≡ given_by forked (told_of lines)
  forks_of_world =
      ap (λ (ss : List Statement). filter_map assigned ss ++ flat_map assigned_by (scripts_of (told_of lines))) (sym (closed_body (names_of lines) first_place (told_of lines) walked_part refl))
      ∙ forks_given (names_of lines) first_place (told_of lines) walked_part

  variables_given : variables_of (world_of lines w.starts) ≡ given_by forked (told_of lines) ++ given_by started (told_of lines)
  variables_given = rw (forks_of_world, starts_given (works (scripts_of (told_of lines))) [] first (told_of lines) w.starts w.judged) refl

  abbrev FileRows : List Row
  FileRows = map words lines

  numbers_same : (f : Item → Option ℕ) (first : Word) (at : ℕ) → AreNumbers (names_of lines).variables (words_behind first at (rows_of (told_of lines))) (given_by f (told_of lines)) → AreNumbers (names_of lines).variables (words_behind first at FileRows) (given_by f (told_of lines))
  numbers_same f first at a = subst (λ (rs : List Row). AreNumbers (names_of lines).variables (words_behind first at rs) (given_by f (told_of lines))) (rows_told (names_of lines) first_place lines) a

  all_numbers : AreNumbers (names_of lines).variables (words_behind (codes "fork") 1 FileRows ++ words_behind (codes "start") 3 FileRows) (variables_of (world_of lines w.starts))
  all_numbers =
      subst (AreNumbers (names_of lines).variables (words_behind (codes "fork") 1 FileRows ++ words_behind (codes "start") 3 FileRows)) (sym variables_given)
      (numbers-append (names_of lines).variables (words_behind (codes "fork") 1 FileRows) (words_behind (codes "start") 3 FileRows) (given_by forked (told_of lines)) (given_by started (told_of lines))
      (numbers_same forked (codes "fork") 1 (numbers_given (names_of lines) (codes "fork") 1 forked (fork_step (names_of lines)) first_place (told_of lines) walked_part))
      (numbers_same started (codes "start") 3 (numbers_given (names_of lines) (codes "start") 3 started (start_step (names_of lines)) first_place (told_of lines) walked_part)))

  all_listed : (names_of lines).variables ≡ listed [] (words_behind (codes "fork") 1 FileRows ++ words_behind (codes "start") 3 FileRows)
  unfolding gather
  all_listed = listed-append [] (words_behind (codes "fork") 1 FileRows) (words_behind (codes "start") 3 FileRows)

  pub ordered : AreInOrder 0 (variables_of (world_of lines w.starts)) (length (names_of lines).variables)
  ordered =
      subst (λ (t : Table). AreInOrder 0 (variables_of (world_of lines w.starts)) (length t)) (sym all_listed)
      (in_order [] (words_behind (codes "fork") 1 FileRows ++ words_behind (codes "start") 3 FileRows) (variables_of (world_of lines w.starts)) none_listed
      (subst (λ (t : Table). AreNumbers t (words_behind (codes "fork") 1 FileRows ++ words_behind (codes "start") 3 FileRows) (variables_of (world_of lines w.starts))) all_listed all_numbers))

  written_scripts : (k : ℕ) (scripts : List Script) → AreReadScripts (names_of lines) (world_of lines w.starts) (variables_known first lines world w) k scripts → All (λ script. All IsWrittenStatement script.statements) scripts
  written_scripts k [] all = All-nil (λ script. All IsWrittenStatement script.statements)
  written_scripts k (s ∷ ss) all =
      All-cons (λ script. All IsWrittenStatement script.statements) s ss (All-weaker (IsRead (world_of lines w.starts) k) IsWrittenStatement (λ x h. h.1) s.statements all.0.1) (written_scripts (k + 1) ss all.1)

  pub some_starts : 1 ≤ length w.starts
  some_starts = started_some (last_place lines).is_open (last_place lines).starts (length w.starts) w.ended ((are_started first lines world w).count)

  world_writable : IsWritable (world_of lines w.starts)
  world_writable = record {
    valid = world_valid first lines world w;
    statements = written_scripts 0 (scripts_of (told_of lines)) (scripted first lines world w);
    users = (are_started first lines world w).users;
    some_start = some_starts;
    variables = ordered;
  }

pub read_writable : ReadIsWritable
read_writable first lines world e = let w = whole first lines world e in subst IsWritable (sym w.is) (world_writable first lines world w)
