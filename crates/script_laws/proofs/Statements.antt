-- what a statement is that is read where it stands
use Rattle.std.proofs.Common.{◌≡◌, ℕ, ◌<◌, ◌^◌, ◌-◌, Bool, true, false, ◌&&◌, ltb, [], ◌∷◌, drop, length, refl, subst, arith, Option, Some, None, Result, Ok, Err}
use Rattle.std.specs.Prelude.{IfSome, nat_le, nat_lt, ◌==◌, codes, cond}
use Rattle.std.specs.List.{list_all}
use Rattle.std.specs.Str.Parse.{digits_value}
use Rattle.std.proofs.lemmas.Bool.{ltb-true, and_parts}
use Rattle.unix_names.specs.declared.NodeId.{NodeId}
use Rattle.unix_names.specs.Signals.{number_of, signal_named}
use Rattle.unix_names.specs.Sets.{IsSignals, added}
use Rattle.unix_names.proofs.SetLaws.{number_small, IsSignals-none, IsSignals-added}
use Rattle.unix_calls.specs.declared.World.{World}
use Rattle.unix_calls.specs.declared.world.Arg.{Arg}
use Rattle.unix_calls.specs.declared.world.Arg.TheVariants.{Zero, One, Nobody, Own, Maker, Var}
use Rattle.unix_calls.specs.declared.world.Statement.{Statement}
use Rattle.unix_calls.specs.declared.world.Statement.TheVariants as statement
use Rattle.unix_calls.specs.Valid.{IsNode, IsArgument, IsStatement}
use Rattle.script_words.specs.declared.faults.Kind.{Kind}
use Rattle.script_words.specs.declared.faults.Kind.TheVariants.{UnknownWord, BadNumber, NoSuchNode, LaterScript}
use Rattle.script_words.specs.declared.table.Verb.{Verb}
use Rattle.script_words.specs.declared.table.Verb.TheVariants as verb
use Rattle.script_reader.specs.declared.names.Names.{Names}
use Rattle.script_reader.specs.declared.places.Place.{Place}
use Rattle.script_words.specs.Words.{Word, Row, ◌>>=◌, found, is_same, word_at, name, number, is_number, is_digit, begins_with_digit, signal_number, signal, is_minus_digits, node}
use Rattle.script_reader.specs.Names.{Table, number_in}
use Rattle.script_reader.specs.Statements.{own_variable, script, earlier_script, variable, group, process, target, wanted_group, selector, changes, act, signals, site, fork_statement, wait_statement, kill_statement, setpgid_statement, action_statement, mask_statement, migrate_statement, exec_statement, exit_statement, getpgid_statement, getsid_statement, statement_of}
use Rattle.script_laws.specs.Writable.{IsTarget, IsWanted, IsSelector, IsWrittenStatement}
use Rattle.script_laws.proofs.Results.{Gives, next, choice, gives, fails, ended_here, found_there, weaker, anything}

-- every variable's number is a variable of the world
pub record AreVariables (variables : Table) (world : World) : Type 0 where
  pub each : (word : Word) (n : ℕ) → number_in variables word ≡ Some n → n < world.vars

-- ---- words
abbrev pub IsSmall : ℕ → Type 0
IsSmall n = n < 2 ^ 32

small : (word : Word) → is_number word ≡ true → digits_value 10 word < 2 ^ 32
unfolding is_number
small word e = ltb-true _ _ (and_parts (ltb 0 (length word) && nat_le (length word) 10 && list_all is_digit word) (ltb (digits_value 10 word) (2 ^ 32)) e).1

pub number_fits : (word : Word) → Gives (number word) IsSmall
unfolding number
number_fits word =
    choice (length word == 0) _ _ IsSmall (λ _. fails UnknownWord IsSmall) (λ _.
    choice (is_number word) _ _ IsSmall (λ e. gives (digits_value 10 word) IsSmall (small word e)) (λ _. fails BadNumber IsSmall))

below : (bound n : ℕ) (kind : Kind) → Gives (cond (nat_lt n bound) (Ok n) (Err kind)) (λ n. n < bound)
below bound n kind = choice (nat_lt n bound) _ _ (λ n. n < bound) (λ e. gives n (λ n. n < bound) (ltb-true n bound e)) (λ _. fails kind (λ n. n < bound))

pub node_fits : (nodes : ℕ) (word : Word) → Gives (node nodes word) (λ n. n < nodes)
unfolding node
node_fits nodes word = next (number word) _ _ (λ n. n < nodes) (anything (number word)) (λ n _. below nodes n NoSuchNode)

pub signal_number_fits : (word : Word) → Gives (signal_number word) IsSmall
unfolding signal_number
signal_number_fits word =
    choice (begins_with_digit word) _ _ IsSmall (λ _. number_fits word) (λ _.
    next (found (signal_named word) UnknownWord) _ _ IsSmall (anything (found (signal_named word) UnknownWord)) (λ s _. gives (number_of s) IsSmall (omega (arith, number_small s))))

module _ (variables : Table) (world : World) (fits : AreVariables variables world) where
  pub own_variable_fits : (word : Word) → Gives (own_variable variables word) (λ n. n < world.vars)
  unfolding own_variable
  own_variable_fits word = next (name word) _ _ (λ n. n < world.vars) (anything (name word)) (λ u _. weaker (found (number_in variables word) UnknownWord) _ (λ n. n < world.vars) (found_there (number_in variables word) UnknownWord) (fits.each word))

  -- an argument that can stand behind a minus
  abbrev IsGroup : Arg → Type 0
  IsGroup arg = IsArgument world arg × IsTarget true arg

  var_fits : (word : Word) → Gives (found (number_in variables word) UnknownWord >>= λ n. Ok (Var n)) IsGroup
  var_fits word = next (found (number_in variables word) UnknownWord) _ _ IsGroup (found_there (number_in variables word) UnknownWord) (λ n e. gives (Var n) IsGroup (fits.each word n e, tt))

  variable_fits : (word : Word) → Gives (variable variables word) IsGroup
  unfolding variable
  variable_fits word = go (name word) refl
    where
      go : (r : Result (Unit {0}) Kind) → name word ≡ r → Gives (variable variables word) IsGroup
      go (Ok u) e = rw e (var_fits word)
      go (Err k) e = rw e (fails UnknownWord IsGroup)

  group_fits : (word : Word) → Gives (group variables word) IsGroup
  unfolding group
  group_fits word =
      choice (is_same word (codes "none")) _ _ IsGroup (λ _. gives Nobody IsGroup (tt, tt)) (λ _.
      choice (is_same word (codes "self")) _ _ IsGroup (λ _. gives Own IsGroup (tt, tt)) (λ _.
      choice (is_same word (codes "maker")) _ _ IsGroup (λ _. gives Maker IsGroup (tt, tt)) (λ _.
      variable_fits word)))

  process_fits : (word : Word) → Gives (process variables word) (IsArgument world)
  unfolding process
  process_fits word =
      choice (is_same word (codes "0")) _ _ (IsArgument world) (λ _. gives Zero (IsArgument world) tt) (λ _.
      choice (is_same word (codes "1")) _ _ (IsArgument world) (λ _. gives One (IsArgument world) tt) (λ _.
      weaker (group variables word) IsGroup (IsArgument world) (group_fits word) (λ arg g. g.0)))

  -- whom a word names that may have a minus
  abbrev pub Targets : Bool × Arg → Type 0
  Targets t = IsArgument world t.1 × IsTarget t.0 t.1

  target_fits : (word : Word) → Gives (target variables word) Targets
  unfolding target
  target_fits [] = fails UnknownWord Targets
  target_fits (b ∷ bs) =
      choice (is_minus_digits (b ∷ bs)) _ _ Targets (λ _. fails BadNumber Targets) (λ _.
      choice (b == 45) _ _ Targets (λ _.
      next (group variables bs) _ IsGroup Targets (group_fits bs) (λ arg g. gives (true, arg) Targets g)) (λ _.
      next (process variables (b ∷ bs)) _ (IsArgument world) Targets (process_fits (b ∷ bs)) (λ arg a. gives (false, arg) Targets (a, tt))))

  abbrev pub Wants : Bool × Arg → Type 0
  Wants t = IsArgument world t.1 × IsWanted t.0 t.1

  wanted : (minus : Bool) (arg : Arg) → IsTarget minus arg → IsWanted minus arg
  wanted true One t = tt
  wanted true Zero t = t
  wanted true _ t = tt
  wanted false _ t = tt

  wanted_fits : (word : Word) → Gives (wanted_group variables word) Wants
  unfolding wanted_group
  wanted_fits word =
      choice (is_same word (codes "-1")) _ _ Wants (λ _. gives (true, One) Wants (tt, tt)) (λ _.
      weaker (target variables word) Targets Wants (target_fits word) (λ t n. (n.0, wanted t.0 t.1 n.1)))

  abbrev pub Selects : Bool × Bool × Arg → Type 0
  Selects t = IsArgument world t.2 × IsSelector t.0 t.1 t.2

  selector_fits : (word : Word) → Gives (selector variables word) Selects
  unfolding selector
  selector_fits word =
      choice (is_same word (codes "any")) _ _ Selects (λ _. gives (true, false, Nobody) Selects (tt, (refl, refl))) (λ _.
      next (target variables word) _ Targets Selects (target_fits word) (λ t n. gives (false, t.0, t.1) Selects n))

pub signals_fit : (set : ℕ) (row : Row) → IsSignals set → Gives (signals set row) IsSignals
unfolding signals added
signals_fit set [] s = gives set IsSignals s
signals_fit set (word ∷ words) s = next (signal word) _ _ IsSignals (anything (signal word)) (λ sig _. signals_fit (added set sig) words (IsSignals-added set sig s))

abbrev IsSite : World → Option NodeId → Type 0
IsSite world at = IfSome at (IsNode world)

pub site_fits : (world : World) (nodes : ℕ) (row : Row) → nodes ≡ world.nodes → Gives (site nodes row) (IsSite world)
unfolding site
site_fits world nodes row e =
    choice (nat_le (length row) 3) _ _ (IsSite world) (λ _. gives None (IsSite world) tt) (λ _.
    choice (is_same (word_at row 3) (codes "at")) _ _ (IsSite world) (λ _.
    next (node nodes (word_at row 4)) _ _ (IsSite world) (node_fits nodes (word_at row 4)) (λ n h.
    ended_here row 5 (Some (record { 0 = n })) (IsSite world) (subst (λ m. n < m) e h))) (λ _. fails UnknownWord (IsSite world)))

-- ---- statements
-- a statement of the k-th script, as files have it
abbrev pub IsRead : World → ℕ → Statement → Type 0
IsRead world k s = IsStatement world k s × IsWrittenStatement s

module _ (names : Names) (place : Place) (world : World) (variables : AreVariables names.variables world) (nodes : place.nodes ≡ world.nodes) where
  abbrev Read : Statement → Type 0
  Read = IsRead world (place.scripts - 1)

  earlier_fits : (word : Word) → Gives (earlier_script names place word) (λ n. n < place.scripts - 1)
  unfolding earlier_script
  earlier_fits word = next (script names.scripts word) _ _ (λ n. n < place.scripts - 1) (anything (script names.scripts word)) (λ n _. below (place.scripts - 1) n LaterScript)

  fork_fits : (row : Row) → Gives (fork_statement names place row) Read
  unfolding fork_statement
  fork_fits row =
      next (own_variable names.variables (word_at row 1)) _ _ Read (own_variable_fits names.variables world variables (word_at row 1)) (λ var v.
      next (earlier_script names place (word_at row 2)) _ _ Read (earlier_fits (word_at row 2)) (λ script s.
      next (site place.nodes row) _ _ Read (site_fits world place.nodes row nodes) (λ at a.
      gives (statement.Fork var script at) Read ((v, s, a), tt))))

  exec_fits : (row : Row) → Gives (exec_statement names place row) Read
  unfolding exec_statement
  exec_fits row = next (earlier_script names place (word_at row 1)) _ _ Read (earlier_fits (word_at row 1)) (λ script s. ended_here row 2 (statement.Exec script) Read (s, tt))

  exit_fits : (row : Row) → Gives (exit_statement row) Read
  unfolding exit_statement
  exit_fits row = next (number (word_at row 1)) _ _ Read (number_fits (word_at row 1)) (λ n h. ended_here row 2 (statement.Exit n) Read (tt, h))

  getpgid_fits : (row : Row) → Gives (getpgid_statement names.variables row) Read
  unfolding getpgid_statement
  getpgid_fits row = next (process names.variables (word_at row 1)) _ _ Read (process_fits names.variables world variables (word_at row 1)) (λ arg a. ended_here row 2 (statement.Getpgid arg) Read (a, tt))

  getsid_fits : (row : Row) → Gives (getsid_statement names.variables row) Read
  unfolding getsid_statement
  getsid_fits row = next (process names.variables (word_at row 1)) _ _ Read (process_fits names.variables world variables (word_at row 1)) (λ arg a. ended_here row 2 (statement.Getsid arg) Read (a, tt))

  wait_fits : (sleeps : Bool) (row : Row) → Gives (wait_statement names.variables sleeps row) Read
  unfolding wait_statement
  wait_fits sleeps row =
      next (selector names.variables (word_at row 1)) _ _ Read (selector_fits names.variables world variables (word_at row 1)) (λ whom w.
      next (changes row) _ _ Read (anything (changes row)) (λ asked _.
      gives (statement.Wait sleeps whom.0 whom.1 whom.2 asked.0 asked.1) Read w))

  kill_fits : (row : Row) → Gives (kill_statement names.variables row) Read
  unfolding kill_statement
  kill_fits row =
      next (target names.variables (word_at row 1)) _ _ Read (target_fits names.variables world variables (word_at row 1)) (λ whom w.
      next (signal_number (word_at row 2)) _ _ Read (signal_number_fits (word_at row 2)) (λ sig s.
      ended_here row 3 (statement.Kill whom.0 whom.1 sig) Read (w.0, (w.1, s))))

  setpgid_fits : (row : Row) → Gives (setpgid_statement names.variables row) Read
  unfolding setpgid_statement
  setpgid_fits row =
      next (process names.variables (word_at row 1)) _ _ Read (process_fits names.variables world variables (word_at row 1)) (λ pid p.
      next (wanted_group names.variables (word_at row 2)) _ _ Read (wanted_fits names.variables world variables (word_at row 2)) (λ wanted w.
      ended_here row 3 (statement.Setpgid pid wanted.0 wanted.1) Read ((p, w.0), w.1)))

  action_fits : (row : Row) → Gives (action_statement row) Read
  unfolding action_statement
  action_fits row =
      next (signal_number (word_at row 1)) _ _ Read (signal_number_fits (word_at row 1)) (λ sig s.
      next (act (word_at row 2)) _ _ Read (anything (act (word_at row 2))) (λ action _.
      ended_here row 3 (statement.Action sig action) Read (tt, s)))

  mask_fits : (row : Row) → Gives (mask_statement row) Read
  unfolding mask_statement
  mask_fits row = next (signals 0 (drop 1 row)) _ _ Read (signals_fit 0 (drop 1 row) IsSignals-none) (λ set s. gives (statement.Mask set) Read (tt, s))

  migrate_fits : (row : Row) → Gives (migrate_statement place.nodes row) Read
  unfolding migrate_statement
  migrate_fits row = next (node place.nodes (word_at row 1)) _ _ Read (node_fits place.nodes (word_at row 1)) (λ n h. ended_here row 2 (statement.Migrate (record { 0 = n })) Read (subst (λ m. n < m) nodes h, tt))

  -- a statement that is read fits the world
  pub statement_fits : (v : Verb) (row : Row) → Gives (statement_of names place v row) Read
  unfolding statement_of
  statement_fits verb.Getpid row = ended_here row 1 statement.Getpid Read (tt, tt)
  statement_fits verb.Getppid row = ended_here row 1 statement.Getppid Read (tt, tt)
  statement_fits verb.Setsid row = ended_here row 1 statement.Setsid Read (tt, tt)
  statement_fits verb.Pending row = ended_here row 1 statement.Pending Read (tt, tt)
  statement_fits verb.Getpgid row = getpgid_fits row
  statement_fits verb.Getsid row = getsid_fits row
  statement_fits verb.Fork row = fork_fits row
  statement_fits verb.Exec row = exec_fits row
  statement_fits verb.Exit row = exit_fits row
  statement_fits verb.Wait row = wait_fits true row
  statement_fits verb.Poll row = wait_fits false row
  statement_fits verb.Kill row = kill_fits row
  statement_fits verb.Setpgid row = setpgid_fits row
  statement_fits verb.Action row = action_fits row
  statement_fits verb.Mask row = mask_fits row
  statement_fits verb.Migrate row = migrate_fits row
