-- the statement of a line is one of the verb that the line begins with
use Rattle.std.proofs.Common.{◌≡◌, Bool, true, false, cond, drop, refl}
use Rattle.unix_calls.specs.declared.Arg.{Arg}
use Rattle.unix_calls.specs.declared.world.Statement.{Statement}
use Rattle.unix_calls.specs.declared.world.Statement.TheVariants as statement
use Rattle.script_reader.specs.declared.names.Names.{Names}
use Rattle.script_reader.specs.declared.places.Place.{Place}
use Rattle.script_words.specs.declared.table.Verb.{Verb}
use Rattle.script_words.specs.declared.table.Verb.TheVariants as verb
use Rattle.script_words.specs.Words.{Row, word_at, number, signal_number, node}
use Rattle.script_reader.specs.Statements.{own_variable, process, target, wanted_group, selector, changes, act, signals, earlier_script, site, fork_statement, wait_statement, kill_statement, setpgid_statement, action_statement, mask_statement, migrate_statement, exec_statement, exit_statement, getpgid_statement, getsid_statement, statement_of}
use Rattle.script_laws.proofs.Results.{Gives, next, gives, ended_here, anything}

-- the word that a statement begins with
abbrev pub verb_of : Statement → Verb
verb_of statement.Getpid = verb.Getpid
verb_of statement.Getppid = verb.Getppid
verb_of (statement.Getpgid arg) = verb.Getpgid
verb_of (statement.Getsid arg) = verb.Getsid
verb_of (statement.Fork var script at) = verb.Fork
verb_of (statement.Exec script) = verb.Exec
verb_of (statement.Exit n) = verb.Exit
verb_of (statement.Wait true any minus arg stopped continued) = verb.Wait
verb_of (statement.Wait false any minus arg stopped continued) = verb.Poll
verb_of (statement.Kill minus arg sig) = verb.Kill
verb_of (statement.Setpgid pid minus pgid) = verb.Setpgid
verb_of statement.Setsid = verb.Setsid
verb_of (statement.Action sig act) = verb.Action
verb_of (statement.Mask set) = verb.Mask
verb_of statement.Pending = verb.Pending
verb_of (statement.Migrate node) = verb.Migrate

abbrev IsOf : Verb → Statement → Type 0
IsOf v s = verb_of s ≡ v

wait_is : (sleeps any minus : Bool) (arg : Arg) (stopped continued : Bool) → IsOf (cond sleeps verb.Wait verb.Poll) (statement.Wait sleeps any minus arg stopped continued)
wait_is true any minus arg stopped continued = refl
wait_is false any minus arg stopped continued = refl

module _ (names : Names) (place : Place) (row : Row) where
  of_fork : Gives (fork_statement names place row) (IsOf verb.Fork)
  unfolding fork_statement
  of_fork =
      next (own_variable names.variables (word_at row 1)) _ _ (IsOf verb.Fork) (anything (own_variable names.variables (word_at row 1))) (λ var _.
      next (earlier_script names place (word_at row 2)) _ _ (IsOf verb.Fork) (anything (earlier_script names place (word_at row 2))) (λ script _.
      next (site place.nodes row) _ _ (IsOf verb.Fork) (anything (site place.nodes row)) (λ at _.
      gives (statement.Fork var script at) (IsOf verb.Fork) refl)))

  of_exec : Gives (exec_statement names place row) (IsOf verb.Exec)
  unfolding exec_statement
  of_exec = next (earlier_script names place (word_at row 1)) _ _ (IsOf verb.Exec) (anything (earlier_script names place (word_at row 1))) (λ n _. ended_here row 2 (statement.Exec n) (IsOf verb.Exec) refl)

  of_exit : Gives (exit_statement row) (IsOf verb.Exit)
  unfolding exit_statement
  of_exit = next (number (word_at row 1)) _ _ (IsOf verb.Exit) (anything (number (word_at row 1))) (λ n _. ended_here row 2 (statement.Exit n) (IsOf verb.Exit) refl)

  of_getpgid : Gives (getpgid_statement names.variables row) (IsOf verb.Getpgid)
  unfolding getpgid_statement
  of_getpgid = next (process names.variables (word_at row 1)) _ _ (IsOf verb.Getpgid) (anything (process names.variables (word_at row 1))) (λ arg _. ended_here row 2 (statement.Getpgid arg) (IsOf verb.Getpgid) refl)

  of_getsid : Gives (getsid_statement names.variables row) (IsOf verb.Getsid)
  unfolding getsid_statement
  of_getsid = next (process names.variables (word_at row 1)) _ _ (IsOf verb.Getsid) (anything (process names.variables (word_at row 1))) (λ arg _. ended_here row 2 (statement.Getsid arg) (IsOf verb.Getsid) refl)

  of_wait : (sleeps : Bool) → Gives (wait_statement names.variables sleeps row) (IsOf (cond sleeps verb.Wait verb.Poll))
  unfolding wait_statement
  of_wait sleeps =
      next (selector names.variables (word_at row 1)) _ _ (IsOf (cond sleeps verb.Wait verb.Poll)) (anything (selector names.variables (word_at row 1))) (λ whom _.
      next (changes row) _ _ (IsOf (cond sleeps verb.Wait verb.Poll)) (anything (changes row)) (λ asked _.
      gives (statement.Wait sleeps whom.0 whom.1 whom.2 asked.0 asked.1) (IsOf (cond sleeps verb.Wait verb.Poll)) (wait_is sleeps whom.0 whom.1 whom.2 asked.0 asked.1)))

  of_kill : Gives (kill_statement names.variables row) (IsOf verb.Kill)
  unfolding kill_statement
  of_kill =
      next (target names.variables (word_at row 1)) _ _ (IsOf verb.Kill) (anything (target names.variables (word_at row 1))) (λ whom _.
      next (signal_number (word_at row 2)) _ _ (IsOf verb.Kill) (anything (signal_number (word_at row 2))) (λ sig _.
      ended_here row 3 (statement.Kill whom.0 whom.1 sig) (IsOf verb.Kill) refl))

  of_setpgid : Gives (setpgid_statement names.variables row) (IsOf verb.Setpgid)
  unfolding setpgid_statement
  of_setpgid =
      next (process names.variables (word_at row 1)) _ _ (IsOf verb.Setpgid) (anything (process names.variables (word_at row 1))) (λ pid _.
      next (wanted_group names.variables (word_at row 2)) _ _ (IsOf verb.Setpgid) (anything (wanted_group names.variables (word_at row 2))) (λ wanted _.
      ended_here row 3 (statement.Setpgid pid wanted.0 wanted.1) (IsOf verb.Setpgid) refl))

  of_action : Gives (action_statement row) (IsOf verb.Action)
  unfolding action_statement
  of_action =
      next (signal_number (word_at row 1)) _ _ (IsOf verb.Action) (anything (signal_number (word_at row 1))) (λ sig _.
      next (act (word_at row 2)) _ _ (IsOf verb.Action) (anything (act (word_at row 2))) (λ action _.
      ended_here row 3 (statement.Action sig action) (IsOf verb.Action) refl))

  of_mask : Gives (mask_statement row) (IsOf verb.Mask)
  unfolding mask_statement
  of_mask = next (signals 0 (drop 1 row)) _ _ (IsOf verb.Mask) (anything (signals 0 (drop 1 row))) (λ set _. gives (statement.Mask set) (IsOf verb.Mask) refl)

  of_migrate : Gives (migrate_statement place.nodes row) (IsOf verb.Migrate)
  unfolding migrate_statement
  of_migrate = next (node place.nodes (word_at row 1)) _ _ (IsOf verb.Migrate) (anything (node place.nodes (word_at row 1))) (λ n _. ended_here row 2 (statement.Migrate (record { 0 = n })) (IsOf verb.Migrate) refl)

  pub verb_said : (v : Verb) → Gives (statement_of names place v row) (λ s. verb_of s ≡ v)
  unfolding statement_of
  verb_said verb.Getpid = ended_here row 1 statement.Getpid (IsOf verb.Getpid) refl
  verb_said verb.Getppid = ended_here row 1 statement.Getppid (IsOf verb.Getppid) refl
  verb_said verb.Setsid = ended_here row 1 statement.Setsid (IsOf verb.Setsid) refl
  verb_said verb.Pending = ended_here row 1 statement.Pending (IsOf verb.Pending) refl
  verb_said verb.Getpgid = of_getpgid
  verb_said verb.Getsid = of_getsid
  verb_said verb.Fork = of_fork
  verb_said verb.Exec = of_exec
  verb_said verb.Exit = of_exit
  verb_said verb.Wait = of_wait true
  verb_said verb.Poll = of_wait false
  verb_said verb.Kill = of_kill
  verb_said verb.Setpgid = of_setpgid
  verb_said verb.Action = of_action
  verb_said verb.Mask = of_mask
  verb_said verb.Migrate = of_migrate
