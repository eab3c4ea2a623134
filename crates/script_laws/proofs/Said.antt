-- statements that are read are statements of the grammar
use Rattle.std.proofs.Common.{◌≡◌, ℕ, ◌-◌, Bool, true, false, [], ◌∷◌, drop, sym, ap, ◌∙◌, Some}
use Rattle.std.specs.Prelude.{codes, nat_lt}
use Rattle.unix_names.specs.declared.Act.{Act}
use Rattle.unix_names.specs.declared.Act.TheVariants.{Default, Ignore, Catch}
use Rattle.unix_calls.specs.declared.Arg.{Arg}
use Rattle.unix_calls.specs.declared.Arg.TheVariants.{Zero, One, Nobody, Own, Maker, Var}
use Rattle.unix_calls.specs.declared.Statement.{Statement}
use Rattle.unix_calls.specs.declared.Statement.TheVariants as statement
use Rattle.script_words.specs.declared.faults.Kind.TheVariants.{UnknownScript, LaterScript}
use Rattle.script_reader.specs.declared.names.Names.{Names}
use Rattle.script_reader.specs.declared.places.Place.{Place}
use Rattle.script_words.specs.declared.table.Verb.{Verb}
use Rattle.script_words.specs.declared.table.Verb.TheVariants as verb
use Rattle.script_words.specs.Words.{Word, Row, found, word_at, name, number, signal_number, node}
use Rattle.script_reader.specs.Names.{number_in}
use Rattle.script_words.specs.Table.{verb_word}
use Rattle.script_reader.specs.Statements.{own_variable, script, earlier_script, process, target, wanted_group, selector, changes, act, signals, site, fork_statement, wait_statement, kill_statement, setpgid_statement, action_statement, mask_statement, migrate_statement, exec_statement, exit_statement, getpgid_statement, getsid_statement, statement_of}
use Rattle.script_laws.specs.Grammar.{wait_word, change_words, act_word, IsName, Naming, IsCalled, IsFor, IsArg, Targets, Wants, Selects, IsForSignalNumber, AreForSet, IsSite, Spells}
use Rattle.script_laws.proofs.Results.{Gives, next, choice, gives, fails, found_there, weaker, anything}
use Rattle.script_laws.proofs.Understood.{number_understood, node_understood, signal_number_understood, set_understood, own_understood, process_understood, target_understood, wanted_understood, selector_understood, act_understood, TargetsAs, WantsAs, SelectsAs}
use Rattle.script_laws.proofs.Shapes.{row_1, row_2, row_more, row_3, row_rest, at_first, ended_so, number_some, name_some, signal_number_some, change_understood, site_understood}

-- the numbers of a file's names are those of a naming
pub record Follows (names : Names) (naming : Naming) : Type 0 where
  pub variables : (word : Word) (n : ℕ) → number_in names.variables word ≡ Some n → IsCalled naming.variables word n
  pub scripts : (word : Word) (n : ℕ) → number_in names.scripts word ≡ Some n → IsCalled naming.scripts word n
  pub variable_name : (word : Word) (n : ℕ) → IsCalled naming.variables word n → IsName word
  pub script_name : (word : Word) (n : ℕ) → IsCalled naming.scripts word n → IsName word

module _ (names : Names) (naming : Naming) (follows : Follows names naming) where
  -- ---- words that are there
  arg_some : (word : Word) (arg : Arg) → IsArg naming word arg → word ≡ [] → ⊥
  arg_some word Zero h e = let z : codes "0" ≡ [] = sym h ∙ e in cc
  arg_some word One h e = let z : codes "1" ≡ [] = sym h ∙ e in cc
  arg_some word Nobody h e = let z : codes "none" ≡ [] = sym h ∙ e in cc
  arg_some word Own h e = let z : codes "self" ≡ [] = sym h ∙ e in cc
  arg_some word Maker h e = let z : codes "maker" ≡ [] = sym h ∙ e in cc
  arg_some word (Var v) h e = name_some word (follows.variable_name word v h) e

  target_some : (word : Word) (minus : Bool) (arg : Arg) → Targets naming word minus arg → word ≡ [] → ⊥
  target_some word false arg h e = arg_some word arg h e
  target_some word true arg h e = let z : 45 ∷ h.0 ≡ [] = sym h.1 ∙ e in cc

  wanted_some : (word : Word) (minus : Bool) (arg : Arg) → Wants naming word minus arg → word ≡ [] → ⊥
  wanted_some word true One h e = let z : codes "-1" ≡ [] = sym h ∙ e in cc
  wanted_some word true Zero h e = target_some word true Zero h e
  wanted_some word true Nobody h e = target_some word true Nobody h e
  wanted_some word true Own h e = target_some word true Own h e
  wanted_some word true Maker h e = target_some word true Maker h e
  wanted_some word true (Var v) h e = target_some word true (Var v) h e
  wanted_some word false arg h e = arg_some word arg h e

  selector_some : (word : Word) (any minus : Bool) (arg : Arg) → Selects naming word any minus arg → word ≡ [] → ⊥
  selector_some word true minus arg h e = let z : codes "any" ≡ [] = sym h.0 ∙ e in cc
  selector_some word false minus arg h e = target_some word minus arg h e

  act_some : (word : Word) (a : Act) → word ≡ act_word a → word ≡ [] → ⊥
  act_some word Default h e = let z : codes "default" ≡ [] = sym h ∙ e in cc
  act_some word Ignore h e = let z : codes "ignore" ≡ [] = sym h ∙ e in cc
  act_some word Catch h e = let z : codes "catch" ≡ [] = sym h ∙ e in cc

  pub script_understood : (word : Word) → Gives (script names.scripts word) (IsCalled naming.scripts word)
  unfolding script
  script_understood word =
      next (name word) _ _ (IsCalled naming.scripts word) (anything (name word)) (λ u _.
      weaker (found (number_in names.scripts word) UnknownScript) (λ n. number_in names.scripts word ≡ Some n) (IsCalled naming.scripts word) (found_there (number_in names.scripts word) UnknownScript) (follows.scripts word))

  earlier_understood : (place : Place) (word : Word) → Gives (earlier_script names place word) (IsCalled naming.scripts word)
  unfolding earlier_script
  earlier_understood place word =
      next (script names.scripts word) _ (IsCalled naming.scripts word) (IsCalled naming.scripts word) (script_understood word) (λ n c.
      choice (nat_lt n (place.scripts - 1)) _ _ (IsCalled naming.scripts word) (λ _. gives n (IsCalled naming.scripts word) c) (λ _. fails LaterScript (IsCalled naming.scripts word)))

  -- ---- statements
  module _ (place : Place) (row : Row) where
    abbrev Here : Statement → Type 0
    Here = Spells naming row

    abbrev Begins : Word → Type 0
    Begins word = word_at row 0 ≡ word

    fork_said : Begins (codes "fork") → Gives (fork_statement names place row) Here
    unfolding fork_statement
    fork_said w =
        next (own_variable names.variables (word_at row 1)) _ (IsCalled naming.variables (word_at row 1)) Here (own_understood names.variables naming follows.variables (word_at row 1)) (λ var v.
        next (earlier_script names place (word_at row 2)) _ (IsCalled naming.scripts (word_at row 2)) Here (earlier_understood place (word_at row 2)) (λ script s.
        next (site place.nodes row) _ (IsSite (drop 3 row)) Here (site_understood place.nodes row) (λ at a.
        gives (statement.Fork var script at) Here (word_at row 1, word_at row 2, drop 3 row, row_rest row (codes "fork") w (λ e. cc) (name_some (word_at row 1) (follows.variable_name (word_at row 1) var v)) (name_some (word_at row 2) (follows.script_name (word_at row 2) script s)), v, s, a))))

    exec_said : Begins (codes "exec") → Gives (exec_statement names place row) Here
    unfolding exec_statement
    exec_said w =
        next (earlier_script names place (word_at row 1)) _ (IsCalled naming.scripts (word_at row 1)) Here (earlier_understood place (word_at row 1)) (λ n s.
        ended_so row 2 (statement.Exec n) Here (λ e. (word_at row 1, row_2 row (codes "exec") w (λ e. cc) (name_some (word_at row 1) (follows.script_name (word_at row 1) n s)) e, s)))

    exit_said : Begins (codes "exit") → Gives (exit_statement row) Here
    unfolding exit_statement
    exit_said w =
        next (number (word_at row 1)) _ (IsFor (word_at row 1)) Here (number_understood (word_at row 1)) (λ n f.
        ended_so row 2 (statement.Exit n) Here (λ e. (word_at row 1, row_2 row (codes "exit") w (λ e. cc) (number_some (word_at row 1) n f) e, f)))

    getpgid_said : Begins (codes "getpgid") → Gives (getpgid_statement names.variables row) Here
    unfolding getpgid_statement
    getpgid_said w =
        next (process names.variables (word_at row 1)) _ (IsArg naming (word_at row 1)) Here (process_understood names.variables naming follows.variables (word_at row 1)) (λ arg a.
        ended_so row 2 (statement.Getpgid arg) Here (λ e. (word_at row 1, row_2 row (codes "getpgid") w (λ e. cc) (arg_some (word_at row 1) arg a) e, a)))

    getsid_said : Begins (codes "getsid") → Gives (getsid_statement names.variables row) Here
    unfolding getsid_statement
    getsid_said w =
        next (process names.variables (word_at row 1)) _ (IsArg naming (word_at row 1)) Here (process_understood names.variables naming follows.variables (word_at row 1)) (λ arg a.
        ended_so row 2 (statement.Getsid arg) Here (λ e. (word_at row 1, row_2 row (codes "getsid") w (λ e. cc) (arg_some (word_at row 1) arg a) e, a)))

    wait_said : (sleeps : Bool) → Begins (wait_word sleeps) → (wait_word sleeps ≡ [] → ⊥) → Gives (wait_statement names.variables sleeps row) Here
    unfolding wait_statement
    wait_said sleeps w ne =
        next (selector names.variables (word_at row 1)) _ (SelectsAs names.variables naming follows.variables (word_at row 1)) Here (selector_understood names.variables naming follows.variables (word_at row 1)) (λ whom s.
        next (changes row) _ (λ c. drop 2 row ≡ change_words c.0 c.1) Here (change_understood row) (λ asked c.
        gives (statement.Wait sleeps whom.0 whom.1 whom.2 asked.0 asked.1) Here
        (word_at row 1, row_more row (wait_word sleeps) w ne (selector_some (word_at row 1) whom.0 whom.1 whom.2 s) ∙ ap (λ (r : Row). wait_word sleeps ∷ word_at row 1 ∷ r) c, s)))

    kill_said : Begins (codes "kill") → Gives (kill_statement names.variables row) Here
    unfolding kill_statement
    kill_said w =
        next (target names.variables (word_at row 1)) _ (TargetsAs names.variables naming follows.variables (word_at row 1)) Here (target_understood names.variables naming follows.variables (word_at row 1)) (λ whom t.
        next (signal_number (word_at row 2)) _ (IsForSignalNumber (word_at row 2)) Here (signal_number_understood (word_at row 2)) (λ sig s.
        ended_so row 3 (statement.Kill whom.0 whom.1 sig) Here (λ e.
        (word_at row 1, word_at row 2, row_3 row (codes "kill") w (λ e. cc) (target_some (word_at row 1) whom.0 whom.1 t) (signal_number_some (word_at row 2) sig s) e, t, s))))

    setpgid_said : Begins (codes "setpgid") → Gives (setpgid_statement names.variables row) Here
    unfolding setpgid_statement
    setpgid_said w =
        next (process names.variables (word_at row 1)) _ (IsArg naming (word_at row 1)) Here (process_understood names.variables naming follows.variables (word_at row 1)) (λ pid p.
        next (wanted_group names.variables (word_at row 2)) _ (WantsAs names.variables naming follows.variables (word_at row 2)) Here (wanted_understood names.variables naming follows.variables (word_at row 2)) (λ wanted t.
        ended_so row 3 (statement.Setpgid pid wanted.0 wanted.1) Here (λ e.
        (word_at row 1, word_at row 2, row_3 row (codes "setpgid") w (λ e. cc) (arg_some (word_at row 1) pid p) (wanted_some (word_at row 2) wanted.0 wanted.1 t) e, p, t))))

    action_said : Begins (codes "action") → Gives (action_statement row) Here
    unfolding action_statement
    action_said w =
        next (signal_number (word_at row 1)) _ (IsForSignalNumber (word_at row 1)) Here (signal_number_understood (word_at row 1)) (λ sig s.
        next (act (word_at row 2)) _ (λ a. word_at row 2 ≡ act_word a) Here (act_understood (word_at row 2)) (λ action a.
        ended_so row 3 (statement.Action sig action) Here (λ e.
        (word_at row 1, row_3 row (codes "action") w (λ e. cc) (signal_number_some (word_at row 1) sig s) (act_some (word_at row 2) action a) e ∙ ap (λ (x : Word). codes "action" ∷ word_at row 1 ∷ x ∷ []) a, s))))

    mask_said : Begins (codes "mask") → Gives (mask_statement row) Here
    unfolding mask_statement
    mask_said w =
        next (signals 0 (drop 1 row)) _ (AreForSet (drop 1 row)) Here (set_understood (drop 1 row)) (λ set s.
        gives (statement.Mask set) Here (drop 1 row, at_first row (codes "mask") w (λ e. cc), s))

    migrate_said : Begins (codes "migrate") → Gives (migrate_statement place.nodes row) Here
    unfolding migrate_statement
    migrate_said w =
        next (node place.nodes (word_at row 1)) _ (IsFor (word_at row 1)) Here (node_understood place.nodes (word_at row 1)) (λ n f.
        ended_so row 2 (statement.Migrate (record { 0 = n })) Here (λ e. (word_at row 1, row_2 row (codes "migrate") w (λ e. cc) (number_some (word_at row 1) n f) e, f)))

    pub statement_said : (v : Verb) → Begins (verb_word v) → Gives (statement_of names place v row) Here
    unfolding statement_of
    statement_said verb.Getpid w = ended_so row 1 statement.Getpid Here (λ e. row_1 row (codes "getpid") w (λ e. cc) e)
    statement_said verb.Getppid w = ended_so row 1 statement.Getppid Here (λ e. row_1 row (codes "getppid") w (λ e. cc) e)
    statement_said verb.Setsid w = ended_so row 1 statement.Setsid Here (λ e. row_1 row (codes "setsid") w (λ e. cc) e)
    statement_said verb.Pending w = ended_so row 1 statement.Pending Here (λ e. row_1 row (codes "pending") w (λ e. cc) e)
    statement_said verb.Getpgid w = getpgid_said w
    statement_said verb.Getsid w = getsid_said w
    statement_said verb.Fork w = fork_said w
    statement_said verb.Exec w = exec_said w
    statement_said verb.Exit w = exit_said w
    statement_said verb.Wait w = wait_said true w (λ e. cc)
    statement_said verb.Poll w = wait_said false w (λ e. cc)
    statement_said verb.Kill w = kill_said w
    statement_said verb.Setpgid w = setpgid_said w
    statement_said verb.Action w = action_said w
    statement_said verb.Mask w = mask_said w
    statement_said verb.Migrate w = migrate_said w
