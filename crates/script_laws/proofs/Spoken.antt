-- statements and starts of the grammar are read as what they spell
use Rattle.std.proofs.Common.{◌≡◌, inl, inr, ◌++◌, ℕ, ◌-◌, ◌<◌, true, false, List, ◌∷◌, refl, sym, subst, Option, Some, None, Ok}
use Rattle.std.specs.Prelude.{codes, slice_get, IfSome}
use Rattle.std.proofs.lemmas.Bool.{lt-ltb}
use Rattle.unix_names.specs.declared.NodeId.{NodeId}
use Rattle.unix_calls.specs.declared.World.{World}
use Rattle.unix_calls.specs.declared.Start.{Start}
use Rattle.unix_calls.specs.declared.Statement.{Statement}
use Rattle.unix_calls.specs.declared.Statement.TheVariants as statement
use Rattle.unix_calls.specs.Valid.{IsNode, IsStatement}
use Rattle.script_reader.specs.declared.names.Names.{Names}
use Rattle.script_reader.specs.declared.places.Place.{Place}
use Rattle.script_reader.specs.declared.lines.Item.TheVariants as item
use Rattle.script_reader.specs.declared.lines.StartLine.{StartLine}
use Rattle.script_words.specs.Words.{Word, Row, is_same, word_at, ended, node}
use Rattle.script_reader.specs.Names.{number_in}
use Rattle.script_reader.specs.Statements.{script, earlier_script, site, fork_statement, wait_statement, kill_statement, setpgid_statement, action_statement, mask_statement, migrate_statement, exec_statement, exit_statement, getpgid_statement, getsid_statement, statement_of}
use Rattle.script_words.specs.Table.{verb_word}
use Rattle.script_reader.specs.Lines.{is_numbered, start_variable, user, earlier_start, joined, start_words}
use Rattle.list_laws.proofs.Finding.{same_number}
use Rattle.script_laws.specs.Grammar.{Naming, IsCalled, IsSite, Spells, IsUser, Joins, SpellsStart}
use Rattle.script_laws.proofs.Verbs.{verb_of}
use Rattle.script_laws.proofs.Reading.{Agrees, name_read, number_read, node_read, signal_number_read, set_read, own_read, process_read, target_read, wanted_read, selector_read, act_read, changes_read}

-- the names of a file have the numbers of a naming
pub record HasNaming (names : Names) (naming : Naming) : Type 0 where
  pub variables : Agrees names.variables naming.variables
  pub scripts : Agrees names.scripts naming.scripts

module _ (names : Names) (naming : Naming) (has : HasNaming names naming) (place : Place) (world : World) (nodes : place.nodes ≡ world.nodes) where
  script_read : (word : Word) (n : ℕ) → IsCalled naming.scripts word n → script names.scripts word ≡ Ok n
  unfolding script
  script_read word n c = rw (name_read word (has.scripts.name word n c), has.scripts.each word n c) refl

  earlier_read : (word : Word) (n : ℕ) → IsCalled naming.scripts word n → n < place.scripts - 1 → earlier_script names place word ≡ Ok n
  unfolding earlier_script
  earlier_read word n c lt = rw (script_read word n c, lt-ltb n (place.scripts - 1) lt) refl

  site_read : (a b c : Word) (row : Row) (at : Option NodeId) → IsSite row at → IfSome at (IsNode world) → site place.nodes (a ∷ b ∷ c ∷ row) ≡ Ok at
  unfolding site word_at is_same ended
  site_read a b c row None h lt = rw h refl
  site_read a b c row (Some node) h lt = rw (h.1, node_read place.nodes h.0 node.0 h.2 (subst (λ m. node.0 < m) (sym nodes) lt)) refl

  fork_read : (row : Row) (var script : ℕ) (at : Option NodeId) → Spells naming row (statement.Fork var script at) → IsStatement world (place.scripts - 1) (statement.Fork var script at) → fork_statement names place row ≡ Ok (statement.Fork var script at)
  unfolding fork_statement word_at
  fork_read row var script at h v =
      rw (h.3, own_read names.variables naming has.variables h.0 var h.4, earlier_read h.1 script h.5 v.1, site_read (codes "fork") h.0 h.1 h.2 at h.6 v.2) refl

  pub statement_read : (row : Row) (s : Statement) → Spells naming row s → IsStatement world (place.scripts - 1) s → statement_of names place (verb_of s) row ≡ Ok s
  unfolding statement_of word_at ended getpgid_statement getsid_statement exec_statement exit_statement wait_statement kill_statement setpgid_statement action_statement mask_statement migrate_statement
  statement_read row statement.Getpid h v = rw h refl
  statement_read row statement.Getppid h v = rw h refl
  statement_read row (statement.Getpgid arg) h v = rw (h.1, process_read names.variables naming has.variables h.0 arg h.2) refl
  statement_read row (statement.Getsid arg) h v = rw (h.1, process_read names.variables naming has.variables h.0 arg h.2) refl
  statement_read row (statement.Fork var script at) h v = fork_read row var script at h v
  statement_read row (statement.Exec script) h v = rw (h.1, earlier_read h.0 script h.2 v) refl
  statement_read row (statement.Exit n) h v = rw (h.1, number_read h.0 n h.2) refl
  statement_read row (statement.Wait true any minus arg stopped continued) h v =
      rw (h.1, selector_read names.variables naming has.variables h.0 any minus arg h.2, changes_read (codes "wait") h.0 stopped continued) refl
  statement_read row (statement.Wait false any minus arg stopped continued) h v =
      rw (h.1, selector_read names.variables naming has.variables h.0 any minus arg h.2, changes_read (codes "poll") h.0 stopped continued) refl
  statement_read row (statement.Kill minus arg sig) h v = rw (h.2, target_read names.variables naming has.variables h.0 minus arg h.3, signal_number_read h.1 sig h.4) refl
  statement_read row (statement.Setpgid pid minus pgid) h v = rw (h.2, process_read names.variables naming has.variables h.0 pid h.3, wanted_read names.variables naming has.variables h.1 minus pgid h.4) refl
  statement_read row statement.Setsid h v = rw h refl
  statement_read row (statement.Action sig act) h v = rw (h.1, signal_number_read h.0 sig h.2, act_read act) refl
  statement_read row (statement.Mask set) h v = rw (h.1, set_read h.0 set h.2) refl
  statement_read row statement.Pending h v = rw h refl
  statement_read row (statement.Migrate node) h v = rw (h.1, node_read place.nodes h.0 node.0 h.2 (subst (λ m. node.0 < m) (sym nodes) v)) refl

-- ---- starts
pub first_word : (naming : Naming) (row : Row) (s : Statement) → Spells naming row s → word_at row 0 ≡ verb_word (verb_of s)
unfolding word_at
first_word naming row statement.Getpid h = rw h refl
first_word naming row statement.Getppid h = rw h refl
first_word naming row (statement.Getpgid arg) h = rw h.1 refl
first_word naming row (statement.Getsid arg) h = rw h.1 refl
first_word naming row (statement.Fork var script at) h = rw h.3 refl
first_word naming row (statement.Exec script) h = rw h.1 refl
first_word naming row (statement.Exit n) h = rw h.1 refl
first_word naming row (statement.Wait true any minus arg stopped continued) h = rw h.1 refl
first_word naming row (statement.Wait false any minus arg stopped continued) h = rw h.1 refl
first_word naming row (statement.Kill minus arg sig) h = rw h.2 refl
first_word naming row (statement.Setpgid pid minus pgid) h = rw h.2 refl
first_word naming row statement.Setsid h = rw h refl
first_word naming row (statement.Action sig act) h = rw h.1 refl
first_word naming row (statement.Mask set) h = rw h.1 refl
first_word naming row statement.Pending h = rw h refl
first_word naming row (statement.Migrate node) h = rw h.1 refl

-- a start of the part stands under its variable
pub record HasStarts (names : Names) (naming : Naming) (all : List Start) : Type 0 where
  pub each : (i : ℕ) (s : Start) (word : Word) → slice_get all i ≡ Some s → IsCalled naming.variables word s.var → number_in names.starts word ≡ Some i

module _ (names : Names) (naming : Naming) (has : HasNaming names naming) (all : List Start) (known : HasStarts names naming all) (place : Place) where
  variable_read : (word : Word) (s : Start) → slice_get all place.starts ≡ Some s → IsCalled naming.variables word s.var → start_variable names place word ≡ Ok s.var
  unfolding start_variable is_numbered
  variable_read word s e c = rw (name_read word (has.variables.name word s.var c), known.each place.starts s word e c, same_number place.starts, has.variables.each word s.var c) refl

  earlier_start_read : (word : Word) (j : ℕ) (other : Start) → slice_get all j ≡ Some other → IsCalled naming.variables word other.var → j < place.starts → earlier_start names place word ≡ Ok j
  unfolding earlier_start
  earlier_start_read word j other e c lt = rw (name_read word (has.variables.name word other.var c), known.each j other word e c, lt-ltb j place.starts lt) refl

  -- what stands behind the variable of a start
  pub record EndsSo (a b c d : Word) (more : Row) (uid : ℕ) (o : Option ℕ) : Type 0 where
    pub count : ℕ
    pub user : user (a ∷ b ∷ c ∷ d ∷ more) ≡ Ok (uid, count)
    pub joined : joined names place count (a ∷ b ∷ c ∷ d ∷ more) ≡ Ok o

  abbrev IsEarlier : Option ℕ → Type 0
  IsEarlier o = IfSome o (λ j. j < place.starts)

  start_end : (a b c d : Word) (users other : Row) (uid : ℕ) (o : Option ℕ) → IsUser users uid → Joins naming all other o → IsEarlier o → EndsSo a b c d (users ++ other) uid o
  unfolding user joined word_at is_same ended
  start_end a b c d users other uid None (inl u) j lt = record { count = 4; user = rw (u.0, u.1, j) refl; joined = rw (u.0, j) refl }
  start_end a b c d users other uid None (inr u) j lt = record { count = 6; user = rw (u.1, number_read u.0 uid u.2) refl; joined = rw (u.1, j) refl }
  start_end a b c d users other uid (Some k) (inl u) j lt = record { count = 4; user = rw (u.0, u.1, j.2) refl; joined = rw (u.0, j.2, earlier_start_read j.0 k j.1 j.3 j.4 lt) refl }
  start_end a b c d users other uid (Some k) (inr u) j lt = record { count = 6; user = rw (u.1, number_read u.0 uid u.2) refl; joined = rw (u.1, j.2, earlier_start_read j.0 k j.1 j.3 j.4 lt) refl }

  -- what a start's line says
  abbrev pub line_of : Start → StartLine
  line_of s = record { node = s.node.0; script = s.script; var = s.var; uid = s.uid; joined = s.joined }

  pub start_read : (row : Row) (s : Start) → SpellsStart naming all row s → slice_get all place.starts ≡ Some s → s.node.0 < place.nodes → IsEarlier s.joined → start_words names place row ≡ Ok (item.Starts (line_of s))
  unfolding start_words word_at script
  start_read row s h e lt j =
      let t = start_end (codes "start") h.site h.name h.variable h.user h.other s.uid s.joined h.uid h.joined j in
      rw (h.is, node_read place.nodes h.site s.node.0 h.node lt, name_read h.name (has.scripts.name h.name s.script h.script), has.scripts.each h.name s.script h.script, variable_read h.variable s e h.var, t.user, t.joined) refl
