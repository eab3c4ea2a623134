-- a part that is read is one of the grammar
use Rattle.std.proofs.Common.{◌≡◌, ◌==◌, inl, inr, ℕ, zero, suc, ◌+◌, Bool, true, false, cond, List, [], ◌∷◌, length, refl, sym, ap, ◌∙◌, subst, arith, Option, Some, None, Ok, All}
use Rattle.std.specs.Prelude.{codes, slice_get, get_or, map, nat_le}
use Rattle.std.specs.Str.{is_utf8}
use Rattle.std.proofs.lemmas.List.{length-map}
use Rattle.std.proofs.lemmas.List.Elements.{All-nil, All-cons}
use Rattle.std.proofs.lemmas.Option.{slice_get-get_or}
use Rattle.byte_ends.specs.Text.{words}
use Rattle.unix_calls.specs.declared.World.{World}
use Rattle.unix_calls.specs.declared.Script.{Script}
use Rattle.unix_calls.specs.declared.Start.{Start}
use Rattle.unix_calls.specs.declared.Work.{Work}
use Rattle.unix_calls.specs.Work.{works}
use Rattle.script_words.specs.declared.faults.Kind.TheVariants.{NotUtf8, UnknownWord, NoStart}
use Rattle.script_reader.specs.declared.names.Names.{Names}
use Rattle.script_reader.specs.declared.places.Place.{Place}
use Rattle.script_reader.specs.declared.lines.Item.{Item}
use Rattle.script_words.specs.Words.{Word, Row, word_at, number}
use Rattle.script_reader.specs.Names.{number_in}
use Rattle.script_reader.specs.Lines.{read_row, read_line, place_after}
use Rattle.script_reader.specs.Files.{begins_with, words_behind, gather, listed, numbered, Told, first_place, tells, place_behind, scripts_of, body, judged}
use Rattle.script_laws.specs.Grammar.{IsName, Naming, IsFor, AreNames, Lines, Part, silent as a_silent, opens as a_cluster, IsFile}
use Rattle.script_laws.specs.Worlds.{ReadIsFile}
use Rattle.script_laws.proofs.Results.{then_ok}
use Rattle.script_laws.proofs.Lines.{Step, silent, opens, begins, ends, says, starts}
use Rattle.script_laws.proofs.Walks.{AllRead, all_read, starts_now, judged_next, Walk, nodes_stay}
use Rattle.script_laws.proofs.Scripts.{is_beginning, script_marked, scripts_are}
use Rattle.script_laws.proofs.Starts.{item_same}
use Rattle.script_laws.proofs.Parts.{names_of, told_of, last_place, world_of, IsWhole, whole, walk, started, world_valid}
use Rattle.script_laws.proofs.Numbered.{rows_of, rows_told, ordered, some_starts}
use Rattle.script_laws.proofs.Understood.{number_understood}
use Rattle.script_laws.proofs.Shapes.{row_2, number_some}
use Rattle.script_laws.proofs.Said.{Follows}
use Rattle.script_laws.proofs.Tabled.{numbered_from, words_of, IsEnumerated, listed_enumerated, none_enumerated, AllNames, HasNames, listed_names, all_named, names_given, script_named, start_named, fork_named, numbers_step, scripts_numbered}
use Rattle.script_laws.proofs.Grammatical.{AreKnown}
use Rattle.script_laws.proofs.Built.{goes}

name_at : (ws : List Word) (n : ℕ) (w : Word) → AllNames ws → slice_get ws n ≡ Some w → IsName w
name_at [] n w a e = cc
name_at (v ∷ ws) zero w a e = let is : v ≡ w = cc in subst IsName is a.0
name_at (v ∷ ws) (suc n) w a e = name_at ws n w a.1 e

texts_read : (names : Names) (place : Place) (lines : List (List ℕ)) → AllRead (tells names place lines) → All (λ line. is_utf8 line ≡ true) lines
unfolding tells read_line
texts_read names place [] a = All-nil (λ line. is_utf8 line ≡ true)
texts_read names place (line ∷ lines) a =
    All-cons (λ line. is_utf8 line ≡ true) line lines ((then_ok (is_utf8 line) (read_row names place (words line)) NotUtf8 a.0.0 a.0.1).0) (texts_read names (place_after place (words line) (read_line names place line)) lines a.1)

-- ---- the lines up to the cluster's
module _ (names : Names) (naming : Naming) (follows : Follows names naming) (world : World) (known : AreKnown names world.starts) (ws : List Work) where
  -- lines of which none says anything yet
  abbrev IsFresh : Place → Type 0
  IsFresh place = (place.begun ≡ false) × (place.is_open ≡ false) × (place.starts ≡ 0)

  pub record Ends (place : Place) (told : List Told) : Type 0 where
    pub begun : (place_behind place told).begun ≡ true
    pub closed : (place_behind place told).is_open ≡ false
    pub nodes : (place_behind place told).nodes ≡ world.nodes
    pub called : words_behind (codes "script") 1 (rows_of told) ≡ naming.scripts
    pub scripts : scripts_of told ≡ world.scripts

  ends_later : (place : Place) (t : Told) (rest : List Told) → begins_with (codes "script") t.0 ≡ false → Ends place (t ∷ rest) → Ends (place_after place t.0 t.1) rest
  unfolding place_behind
  ends_later place t rest m e = record { begun = e.begun; closed = e.closed; nodes = e.nodes; called = sym (numbers_step t.0 (rows_of rest) false m) ∙ e.called; scripts = sym (scripts_are t rest false m) ∙ e.scripts }

  cluster_part : (place : Place) (row : Row) (i : Item) (n : ℕ) (now : Place) (rest : List Told) (line : ℕ) → word_at row 0 ≡ codes "cluster" → number (word_at row 1) ≡ Ok n → nat_le (length row) 2 ≡ true → now.nodes ≡ n → now.begun ≡ true → now.is_open ≡ false → now.starts ≡ 0
      → Walk names now rest → judged ws [] line rest ≡ Ok world.starts → Ends now rest → Part naming world (row ∷ rows_of rest)
  cluster_part place row i n now rest line w nu l nodes b o c walk j e =
      let f = (number_understood (word_at row 1)).fact n nu in
      let g = goes names naming follows world.starts known ws now rest [] line walk b (sym c) j e.closed in
      let count : n ≡ world.nodes = sym nodes ∙ sym ((nodes_stay names now rest walk b).0) ∙ e.nodes in
      subst (λ (r : Row). Part naming world (r ∷ rows_of rest)) (sym (row_2 row (codes "cluster") w (λ e. cc) (number_some (word_at row 1) n f) l))
      (a_cluster (word_at row 1) (subst (IsFor (word_at row 1)) count f)
      (subst (λ (x : List Start). Lines naming world.starts None naming.scripts world.scripts x (rows_of rest)) g.is
      (subst (λ (x : List Script). Lines naming world.starts None naming.scripts x g.later (rows_of rest)) e.scripts
      (subst (λ (x : List Word). Lines naming world.starts None x (scripts_of rest) g.later (rows_of rest)) e.called
      (subst (λ (x : Bool). Lines naming world.starts (cond x (Some (body rest)) None) (words_behind (codes "script") 1 (rows_of rest)) (scripts_of rest) g.later (rows_of rest)) o g.lines)))))

  part_step : (place : Place) (t : Told) (rest : List Told) (i : Item) (line : ℕ) → Step names place t.0 i (place_after place t.0 t.1) → IsFresh place → Walk names (place_after place t.0 t.1) rest → judged ws (starts_now [] i) (line + 1) rest ≡ Ok world.starts → Ends place (t ∷ rest)
      → (IsFresh (place_after place t.0 t.1) → judged ws [] (line + 1) rest ≡ Ok world.starts → Ends (place_after place t.0 t.1) rest → Part naming world (rows_of rest)) → Part naming world (t.0 ∷ rows_of rest)
  part_step place t rest i line (silent k e n) fresh walk j ends' ih =
      let m = script_marked names place t.0 i (place_after place t.0 t.1) (silent k e n) ∙ ap is_beginning e in
      a_silent t.0 k (ih (subst IsFresh (sym n) fresh) (subst (λ x. judged ws (starts_now [] x) (line + 1) rest ≡ Ok world.starts) e j) (ends_later place t rest m ends'))
  part_step place t rest i line (opens n k b w nu l lo hi e p) fresh walk j ends' ih =
      let m = script_marked names place t.0 i (place_after place t.0 t.1) (opens n k b w nu l lo hi e p) ∙ ap is_beginning e in
      cluster_part place t.0 i n (place_after place t.0 t.1) rest (line + 1) w nu l (ap (λ q. q.nodes) p) (ap (λ q. q.begun) p) (ap (λ q. q.is_open) p ∙ fresh.1) (ap (λ q. q.starts) p ∙ fresh.2) walk
      (subst (λ x. judged ws (starts_now [] x) (line + 1) rest ≡ Ok world.starts) e j) (ends_later place t rest m ends')
  part_step place t rest i line (begins k b w a o nm d l e n) fresh walk j ends' ih = let f : place.begun ≡ false = fresh.0 in absurd (cc)
  part_step place t rest i line (ends k b w o l e n) fresh walk j ends' ih = let f : place.begun ≡ false = fresh.0 in absurd (cc)
  part_step place t rest i line (says v s k b w o c st e n) fresh walk j ends' ih = let f : place.begun ≡ false = fresh.0 in absurd (cc)
  part_step place t rest i line (starts s k b w c o st e n) fresh walk j ends' ih = let f : place.begun ≡ false = fresh.0 in absurd (cc)

  pub part_built : (place : Place) (told : List Told) (line : ℕ) → IsFresh place → Walk names place told → judged ws [] line told ≡ Ok world.starts → Ends place told → Part naming world (rows_of told)
  unfolding judged place_behind
  part_built place [] line fresh w j e = let f : place.begun ≡ false = fresh.0 in let g : place.begun ≡ true = e.begun in absurd (cc)
  part_built place (t ∷ rest) line fresh w j e =
      let n = judged_next ws [] line t.0 t.1 rest world.starts j in
      let same : n.i ≡ w.0 = item_same n.i w.0 (sym n.read ∙ w.1) in
      part_step place t rest w.0 line w.2 fresh w.3 (subst (λ x. judged ws (starts_now [] x) (line + 1) rest ≡ Ok world.starts) same n.later) e (λ fresh' j' e'. part_built (place_after place t.0 t.1) rest (line + 1) fresh' w.3 j' e')

-- ---- a whole part
module _ (first : ℕ) (lines : List (List ℕ)) (world : World) (w : IsWhole first lines world) where
  abbrev FileRows : List Row
  FileRows = map words lines

  same_rows : rows_of (told_of lines) ≡ FileRows
  same_rows = rows_told (names_of lines) first_place lines

  walked : Walk (names_of lines) first_place (told_of lines)
  walked = walk first lines world w

  -- each name that lines give is a name
  names_at : (word : Word) (at : ℕ) → ((place : Place) (row : Row) (i : Item) (now : Place) → Step (names_of lines) place row i now → begins_with word row ≡ true → IsName (word_at row at)) → AllNames (words_behind word at FileRows)
  names_at word at f = subst (λ (rs : List Row). AllNames (words_behind word at rs)) same_rows (names_given (names_of lines) word at f first_place (told_of lines) walked)

  abbrev FileNames : Naming
  FileNames = record { scripts = words_behind (codes "script") 1 FileRows; variables = words_of (names_of lines).variables }

  enumerated : IsEnumerated (names_of lines).variables
  unfolding gather
  enumerated = listed_enumerated (listed [] (words_behind (codes "fork") 1 FileRows)) (words_behind (codes "start") 3 FileRows) (listed_enumerated [] (words_behind (codes "fork") 1 FileRows) none_enumerated)

  variable_names : HasNames (names_of lines).variables
  unfolding gather
  variable_names =
      listed_names (listed [] (words_behind (codes "fork") 1 FileRows)) (words_behind (codes "start") 3 FileRows) (names_at (codes "start") 3 (start_named (names_of lines)))
      (listed_names [] (words_behind (codes "fork") 1 FileRows) (names_at (codes "fork") 1 (fork_named (names_of lines))) (record { each = λ word n e. cc }))

  script_names : AllNames (words_behind (codes "script") 1 FileRows)
  script_names = names_at (codes "script") 1 (script_named (names_of lines))

  numbers_of : (words : List Word) (word : Word) (n : ℕ) → number_in (numbered [] 0 words) word ≡ Some n → slice_get words n ≡ Some word
  numbers_of words word n e = elim (numbered_from [] 0 words word n e) [
    | inl h ↦ cc
    | inr h ↦ let z : n ≡ h.0 = omega (arith, h.1) in ap (slice_get words) z ∙ h.2
  ]

  script_called : (word : Word) (n : ℕ) → number_in (names_of lines).scripts word ≡ Some n → slice_get (words_behind (codes "script") 1 FileRows) n ≡ Some word
  unfolding gather
  script_called word n e = numbers_of (words_behind (codes "script") 1 FileRows) word n e

  start_called : (word : Word) (n : ℕ) → number_in (names_of lines).starts word ≡ Some n → slice_get (words_behind (codes "start") 3 FileRows) n ≡ Some word
  unfolding gather
  start_called word n e = numbers_of (words_behind (codes "start") 3 FileRows) word n e

  follows : Follows (names_of lines) FileNames
  follows = record {
    variables = enumerated.to;
    scripts = script_called;
    variable_name = λ word n c. variable_names.each word n (enumerated.from word n c);
    script_name = λ word n c. name_at (words_behind (codes "script") 1 FileRows) n word script_names c;
  }

  some_word : (a b : Word) (o : Option Word) → o ≡ Some a → o ≡ Some b → a ≡ b
  some_word a b o x y = cc

  known : AreKnown (names_of lines) w.starts
  known = record {
    named = λ i s e. let m = (started first lines world w).named i s e in (m.word, m.number, m.var);
    one = λ a b n x y. some_word a b (slice_get (words_behind (codes "start") 3 FileRows) n) (start_called a n x) (start_called b n y);
  }

  some_number : (a b : ℕ) (o : Option ℕ) → o ≡ Some a → o ≡ Some b → a ≡ b
  some_number a b o x y = cc

  are_scripts : AreNames (words_behind (codes "script") 1 FileRows)
  are_scripts = (all_named (words_behind (codes "script") 1 FileRows) script_names, λ word a b x y. same a b (some_number (0 + a) (0 + b) (number_in (names_of lines).scripts word) (at word a x) (at word b y)))
    where
      at : (word : Word) (j : ℕ) → slice_get (words_behind (codes "script") 1 FileRows) j ≡ Some word → number_in (names_of lines).scripts word ≡ Some (0 + j)
      at word j e = scripts_numbered (names_of lines) first_place (told_of lines) walked j word (ap (λ (rs : List Row). slice_get (words_behind (codes "script") 1 rs) j) same_rows ∙ e)

      same : (a b : ℕ) → 0 + a ≡ 0 + b → a ≡ b
      same a b e = omega arith

  are_variables : AreNames (words_of (names_of lines).variables)
  are_variables = (each, λ word a b x y. some_number a b (number_in (names_of lines).variables word) (enumerated.from word a x) (enumerated.from word b y))
    where
      each : All IsName (words_of (names_of lines).variables)
      each k d lt = variable_names.each (get_or (words_of (names_of lines).variables) k d) k (enumerated.from (get_or (words_of (names_of lines).variables) k d) k (slice_get-get_or (words_of (names_of lines).variables) k d lt))

  closed_at_end : (b : Bool) (n : ℕ) → cond b (Some UnknownWord) (cond (n == 0) (Some NoStart) None) ≡ None → b ≡ false
  closed_at_end true n e = cc
  closed_at_end false n e = refl

  part : Part FileNames (world_of lines w.starts) FileRows
  part =
      subst (Part FileNames (world_of lines w.starts)) same_rows
      (part_built (names_of lines) FileNames follows (world_of lines w.starts) known (works (scripts_of (told_of lines))) first_place (told_of lines) first (refl, refl, refl) walked w.judged
      (record {
        begun = w.begun;
        closed = closed_at_end (last_place lines).is_open (last_place lines).starts w.ended;
        nodes = refl;
        called = ap (λ (rs : List Row). words_behind (codes "script") 1 rs) same_rows;
        scripts = refl;
      }))

  is_file : IsFile lines (world_of lines w.starts)
  is_file = record {
    naming = FileNames;
    texts = texts_read (names_of lines) first_place lines (all_read (works (scripts_of (told_of lines))) [] first (told_of lines) w.starts w.judged);
    part = part;
    scripts = are_scripts;
    variables = are_variables;
    total = length-map (names_of lines).variables (λ e. e.0);
    in_order = ordered first lines world w;
    some_start = some_starts first lines world w;
    valid = world_valid first lines world w;
  }

pub read_is_file : ReadIsFile
read_is_file first lines world e = let w = whole first lines world e in subst (IsFile lines) (sym w.is) (is_file first lines world w)
