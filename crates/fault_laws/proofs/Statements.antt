-- the words of a statement, read where they stand: they are as the statement's form has them, or the fault is that of the first wrong one
use Rattle.std.proofs.Common.{◌≡◌, inl, inr, ℕ, suc, Bool, true, false, List, [], ◌∷◌, drop, refl, ap, ◌∙◌, Some, None, Result, Err}
use Rattle.std.specs.Prelude.{codes}
use Rattle.std.proofs.lemmas.List.Elements.{All-nil, All-cons, All-head, All-tail, All-drop}
use Rattle.unix_names.specs.declared.states.Act.{Act}
use Rattle.unix_names.specs.Sets.{added}
use Rattle.unix_names.specs.Signals.{signal_named}
use Rattle.unix_calls.specs.declared.world.Arg.{Arg}
use Rattle.unix_calls.specs.declared.world.Statement.TheVariants as statement
use Rattle.script_words.specs.declared.faults.Kind.{Kind}
use Rattle.script_words.specs.declared.faults.Kind.TheVariants.{UnknownWord}
use Rattle.script_words.specs.Words.{Word, Row, ◌>>=◌, found, is_same, word_at, name, has_name_form, number, begins_with_digit, signal_number, signal, ended, node}
use Rattle.script_reader.specs.declared.names.Names.{Names}
use Rattle.script_reader.specs.declared.places.Place.{Place}
use Rattle.script_words.specs.declared.table.Verb.{Verb}
use Rattle.script_words.specs.declared.table.Verb.TheVariants as verb
use Rattle.script_reader.specs.Names.{Table}
use Rattle.script_words.specs.Table.{verb_word, act_named, changes_in}
use Rattle.script_reader.specs.Statements.{own_variable, script, earlier_script, variable, group, process, target, wanted_group, selector, changes, act, signals, site, fork_statement, wait_statement, kill_statement, setpgid_statement, action_statement, mask_statement, migrate_statement, exec_statement, exit_statement, getpgid_statement, getsid_statement, statement_of}
use Rattle.script_reader.specs.Files.{begins_with}
use Rattle.script_laws.proofs.Words.{same_words, begins_so, fork_word}
use Rattle.fault_laws.specs.Slots as slot
use Rattle.fault_laws.specs.Slots.{Fits, Misfits}
use Rattle.fault_laws.specs.Patterns.{Pattern, ends, needs, may, each, wait_form, form_of, AreRight, AreWrong}
use Rattle.fault_laws.proofs.Words.{differ}
use Rattle.fault_laws.proofs.Tells.{tells_ok, tells_err, tells_next, tells_weaker}
use Rattle.fault_laws.proofs.Knows.{AreWords, Knows}
use Rattle.fault_laws.proofs.Readings.{number_told, signal_number_told, signal_told, act_told, node_told, any_script_told, earlier_script_told, variable_told, process_told, target_told, wanted_told, selector_told}
use Rattle.fault_laws.proofs.Shapes.{At, Reads, map_told, needs_told, ended_told, may_or}

-- where a child begins, and which changes of a child are asked for
abbrev site_form : Pattern
site_form = may (codes "at") (needs slot.node ends) ends

abbrev changes_form : Pattern
changes_form = may (codes "stopped") (may (codes "continued") ends ends) (may (codes "continued") ends ends)

module _ (rows before : List Row) where
  -- a word too many behind the one change that may stand there
  one_more : (word next : Word) (more : Row) → AreWrong rows before (may (codes "continued") ends ends) (word ∷ next ∷ more) UnknownWord
  one_more word next more = go (is_same word (codes "continued")) refl
    where
      go : (c : Bool) → is_same word (codes "continued") ≡ c → AreWrong rows before (may (codes "continued") ends ends) (word ∷ next ∷ more) UnknownWord
      go true e = inl (same_words word (codes "continued") e, refl)
      go false e = inr (differ word (codes "continued") e, refl)

  asked_told : (words : Row) → At rows before (found (changes_in words) UnknownWord) changes_form words
  unfolding changes_in
  asked_told [] = tells_ok (false, false) _ _ refl
  asked_told (only ∷ []) = go (is_same only (codes "stopped")) (is_same only (codes "continued")) refl refl
    where
      go : (s c : Bool) → is_same only (codes "stopped") ≡ s → is_same only (codes "continued") ≡ c → At rows before (found (changes_in (only ∷ [])) UnknownWord) changes_form (only ∷ [])
      go true c es ec = rw es (tells_ok (true, false) _ _ (inl (same_words only (codes "stopped") es, refl)))
      go false true es ec = rw (es, ec) (tells_ok (false, true) _ _ (inr (differ only (codes "stopped") es, inl (same_words only (codes "continued") ec, refl))))
      go false false es ec = rw (es, ec) (tells_err UnknownWord _ _ (inr (differ only (codes "stopped") es, inr (differ only (codes "continued") ec, refl))))
  asked_told (first ∷ second ∷ []) = go (is_same first (codes "stopped")) (is_same second (codes "continued")) refl refl
    where
      go : (s c : Bool) → is_same first (codes "stopped") ≡ s → is_same second (codes "continued") ≡ c → At rows before (found (changes_in (first ∷ second ∷ [])) UnknownWord) changes_form (first ∷ second ∷ [])
      go true true es ec = rw (es, ec) (tells_ok (true, true) _ _ (inl (same_words first (codes "stopped") es, inl (same_words second (codes "continued") ec, refl))))
      go true false es ec = rw (es, ec) (tells_err UnknownWord _ _ (inl (same_words first (codes "stopped") es, inr (differ second (codes "continued") ec, refl))))
      go false c es ec = rw es (tells_err UnknownWord _ _ (inr (differ first (codes "stopped") es, one_more first second [])))
  asked_told (first ∷ second ∷ third ∷ more) = go (is_same first (codes "stopped")) refl
    where
      go : (s : Bool) → is_same first (codes "stopped") ≡ s → At rows before (found (changes_in (first ∷ second ∷ third ∷ more)) UnknownWord) changes_form (first ∷ second ∷ third ∷ more)
      go true es = tells_err UnknownWord _ _ (inl (same_words first (codes "stopped") es, one_more second third more))
      go false es = tells_err UnknownWord _ _ (inr (differ first (codes "stopped") es, one_more first second (third ∷ more)))

-- ---- words that are missing
pub name_none : name [] ≡ Err UnknownWord
unfolding name has_name_form
name_none = refl

pub number_none : number [] ≡ Err UnknownWord
unfolding number
number_none = refl

signal_number_none : signal_number [] ≡ Err UnknownWord
unfolding signal_number begins_with_digit signal_named is_same
signal_number_none = refl

act_none : act [] ≡ Err UnknownWord
unfolding act act_named is_same
act_none = refl

pub node_none : (nodes : ℕ) → node nodes [] ≡ Err UnknownWord
unfolding node number
node_none nodes = refl

pub script_none : (scripts : Table) → script scripts [] ≡ Err UnknownWord
unfolding script name has_name_form
script_none scripts = refl

earlier_script_none : (names : Names) (place : Place) → earlier_script names place [] ≡ Err UnknownWord
unfolding earlier_script script name has_name_form
earlier_script_none names place = refl

own_variable_none : (variables : Table) → own_variable variables [] ≡ Err UnknownWord
unfolding own_variable name has_name_form
own_variable_none variables = refl

process_none : (variables : Table) → process variables [] ≡ Err UnknownWord
unfolding process group variable name has_name_form is_same
process_none variables = refl

target_none : (variables : Table) → target variables [] ≡ Err UnknownWord
unfolding target
target_none variables = refl

wanted_none : (variables : Table) → wanted_group variables [] ≡ Err UnknownWord
unfolding wanted_group target is_same
wanted_none variables = refl

selector_none : (variables : Table) → selector variables [] ≡ Err UnknownWord
unfolding selector target is_same
selector_none variables = refl

-- ---- signals of a set
module _ (rows before : List Row) where
  -- one signal more at the head of the words
  first_signal : (word : Word) (words : Row) (kind : Kind) → Fits rows before slot.signal word → AreWrong rows before (each slot.signal) words kind → AreWrong rows before (each slot.signal) (word ∷ words) kind
  first_signal word words kind fit w =
      (word ∷ w.0, w.1, w.2, ap (λ (r : Row). word ∷ r) w.3, All-cons (Fits rows before slot.signal) word w.0 fit w.4, w.5)

  -- any number of signals
  signals_told : (set : ℕ) (words : Row) → AreWords words → At rows before (signals set words) (each slot.signal) words
  unfolding signals
  signals_told set [] are = tells_ok set (λ n. AreRight rows before (each slot.signal) []) (AreWrong rows before (each slot.signal) []) (All-nil (Fits rows before slot.signal))
  signals_told set (word ∷ words) are =
      tells_next (signal word) (λ s. signals (added set s) words) (λ s. Fits rows before slot.signal word) (Misfits rows before slot.signal word) (λ n. AreRight rows before (each slot.signal) (word ∷ words)) (AreWrong rows before (each slot.signal) (word ∷ words))
      (signal_told rows before word (All-head (λ x. ¬ (x ≡ [])) word words are)) (λ s e fit.
      tells_weaker (signals (added set s) words) _ (λ n. AreRight rows before (each slot.signal) (word ∷ words)) _ (AreWrong rows before (each slot.signal) (word ∷ words)) (signals_told (added set s) words (All-tail (λ x. ¬ (x ≡ [])) word words are))
      (λ n all. All-cons (Fits rows before slot.signal) word words fit all) (λ kind w. first_signal word words kind fit w))
      (λ kind m. ([], words, word, refl, All-nil (Fits rows before slot.signal), m))

-- ---- words at their places
module _ (names : Names) (place : Place) (rows before : List Row) (row : Row) (knows : Knows names place rows before row) (are : AreWords row) (begun : place.begun ≡ true) where
  abbrev Here : {A : Type 0} → Result A Kind → Pattern → ℕ → Type 0
  Here r form k = Reads rows before row are r form k

  pub number_at : {A : Type 0} (form : Pattern) (k : ℕ) (f : ℕ → Result A Kind) → ((x : ℕ) → Here (f x) form (suc k)) → Here (number (word_at row k) >>= f) (needs slot.number form) k
  number_at form k f rest = needs_told rows before row are slot.number form k (number (word_at row k)) f (λ e. ap number e ∙ number_none) (λ some. tells_weaker (number (word_at row k)) _ _ _ _ (number_told (word_at row k) some) (λ n is. is.0) (λ kind m. m)) rest

  pub node_at : {A : Type 0} (form : Pattern) (k : ℕ) (f : ℕ → Result A Kind) → ((x : ℕ) → Here (f x) form (suc k)) → Here (node place.nodes (word_at row k) >>= f) (needs slot.node form) k
  node_at form k f rest = needs_told rows before row are slot.node form k (node place.nodes (word_at row k)) f (λ e. ap (node place.nodes) e ∙ node_none place.nodes) (λ some. node_told names place rows before row knows (word_at row k) some begun) rest

  pub any_script_at : {A : Type 0} (form : Pattern) (k : ℕ) (f : ℕ → Result A Kind) → ((x : ℕ) → Here (f x) form (suc k)) → Here (script names.scripts (word_at row k) >>= f) (needs slot.any_script form) k
  any_script_at form k f rest = needs_told rows before row are slot.any_script form k (script names.scripts (word_at row k)) f (λ e. ap (script names.scripts) e ∙ script_none names.scripts) (λ some. any_script_told names place rows before row knows (word_at row k)) rest

  earlier_script_at : {A : Type 0} (form : Pattern) (k : ℕ) (f : ℕ → Result A Kind) → ((x : ℕ) → Here (f x) form (suc k)) → Here (earlier_script names place (word_at row k) >>= f) (needs slot.earlier_script form) k
  earlier_script_at form k f rest = needs_told rows before row are slot.earlier_script form k (earlier_script names place (word_at row k)) f (λ e. ap (earlier_script names place) e ∙ earlier_script_none names place) (λ some. earlier_script_told names place rows before row knows (word_at row k)) rest

  process_at : {A : Type 0} (form : Pattern) (k : ℕ) (f : Arg → Result A Kind) → ((x : Arg) → Here (f x) form (suc k)) → Here (process names.variables (word_at row k) >>= f) (needs slot.process form) k
  process_at form k f rest = needs_told rows before row are slot.process form k (process names.variables (word_at row k)) f (λ e. ap (process names.variables) e ∙ process_none names.variables) (λ some. process_told names place rows before row knows (word_at row k)) rest

  target_at : {A : Type 0} (form : Pattern) (k : ℕ) (f : Bool × Arg → Result A Kind) → ((x : Bool × Arg) → Here (f x) form (suc k)) → Here (target names.variables (word_at row k) >>= f) (needs slot.target form) k
  target_at form k f rest = needs_told rows before row are slot.target form k (target names.variables (word_at row k)) f (λ e. ap (target names.variables) e ∙ target_none names.variables) (λ some. target_told names place rows before row knows (word_at row k) some) rest

  wanted_at : {A : Type 0} (form : Pattern) (k : ℕ) (f : Bool × Arg → Result A Kind) → ((x : Bool × Arg) → Here (f x) form (suc k)) → Here (wanted_group names.variables (word_at row k) >>= f) (needs slot.wanted form) k
  wanted_at form k f rest = needs_told rows before row are slot.wanted form k (wanted_group names.variables (word_at row k)) f (λ e. ap (wanted_group names.variables) e ∙ wanted_none names.variables) (λ some. wanted_told names place rows before row knows (word_at row k) some) rest

  selector_at : {A : Type 0} (form : Pattern) (k : ℕ) (f : Bool × Bool × Arg → Result A Kind) → ((x : Bool × Bool × Arg) → Here (f x) form (suc k)) → Here (selector names.variables (word_at row k) >>= f) (needs slot.selector form) k
  selector_at form k f rest = needs_told rows before row are slot.selector form k (selector names.variables (word_at row k)) f (λ e. ap (selector names.variables) e ∙ selector_none names.variables) (λ some. selector_told names place rows before row knows (word_at row k) some) rest

  signal_number_at : {A : Type 0} (form : Pattern) (k : ℕ) (f : ℕ → Result A Kind) → ((x : ℕ) → Here (f x) form (suc k)) → Here (signal_number (word_at row k) >>= f) (needs slot.signal_number form) k
  signal_number_at form k f rest = needs_told rows before row are slot.signal_number form k (signal_number (word_at row k)) f (λ e. ap signal_number e ∙ signal_number_none) (λ some. signal_number_told rows before (word_at row k) some) rest

  act_at : {A : Type 0} (form : Pattern) (k : ℕ) (f : Act → Result A Kind) → ((x : Act) → Here (f x) form (suc k)) → Here (act (word_at row k) >>= f) (needs slot.action form) k
  act_at form k f rest = needs_told rows before row are slot.action form k (act (word_at row k)) f (λ e. ap act e ∙ act_none) (λ some. act_told rows before (word_at row k)) rest

  ended_at : {A : Type 0} (k : ℕ) (x : A) → Here (ended row k x) ends k
  ended_at k x = ended_told rows before row are k x

  -- ---- statements
  site_told : Here (site place.nodes row) site_form 3
  unfolding site ended
  site_told =
      may_or rows before row are (codes "at") (needs slot.node ends) ends 3 None _ (Err UnknownWord) (λ e. cc)
      (node_at ends 4 _ (λ n. ended_at 5 (Some (record { 0 = n })))) (ended_at 3 None)

  changes_told : Here (changes row) changes_form 2
  unfolding changes
  changes_told = asked_told rows before (drop 2 row)

  fork_told : begins_with (codes "fork") row ≡ true → Here (fork_statement names place row) (form_of verb.Fork) 1
  unfolding fork_statement
  fork_told fork =
      needs_told rows before row are slot.variable (needs slot.earlier_script site_form) 1 (own_variable names.variables (word_at row 1)) _ (λ e. ap (own_variable names.variables) e ∙ own_variable_none names.variables)
      (λ some. variable_told names place rows before row knows fork) (λ var.
      earlier_script_at site_form 2 _ (λ script.
      map_told rows before (site place.nodes row) (λ at. statement.Fork var script at) site_form (drop 3 row) site_told))

  exec_told : Here (exec_statement names place row) (form_of verb.Exec) 1
  unfolding exec_statement
  exec_told = earlier_script_at ends 1 _ (λ n. ended_at 2 (statement.Exec n))

  exit_told : Here (exit_statement row) (form_of verb.Exit) 1
  unfolding exit_statement
  exit_told = number_at ends 1 _ (λ n. ended_at 2 (statement.Exit n))

  getpgid_told : Here (getpgid_statement names.variables row) (form_of verb.Getpgid) 1
  unfolding getpgid_statement
  getpgid_told = process_at ends 1 _ (λ arg. ended_at 2 (statement.Getpgid arg))

  getsid_told : Here (getsid_statement names.variables row) (form_of verb.Getsid) 1
  unfolding getsid_statement
  getsid_told = process_at ends 1 _ (λ arg. ended_at 2 (statement.Getsid arg))

  wait_told : (sleeps : Bool) → Here (wait_statement names.variables sleeps row) wait_form 1
  unfolding wait_statement
  wait_told sleeps =
      selector_at changes_form 1 _ (λ whom.
      map_told rows before (changes row) (λ asked. statement.Wait sleeps whom.0 whom.1 whom.2 asked.0 asked.1) changes_form (drop 2 row) changes_told)

  kill_told : Here (kill_statement names.variables row) (form_of verb.Kill) 1
  unfolding kill_statement
  kill_told = target_at (needs slot.signal_number ends) 1 _ (λ whom. signal_number_at ends 2 _ (λ sig. ended_at 3 (statement.Kill whom.0 whom.1 sig)))

  setpgid_told : Here (setpgid_statement names.variables row) (form_of verb.Setpgid) 1
  unfolding setpgid_statement
  setpgid_told = process_at (needs slot.wanted ends) 1 _ (λ pid. wanted_at ends 2 _ (λ wanted. ended_at 3 (statement.Setpgid pid wanted.0 wanted.1)))

  action_told : Here (action_statement row) (form_of verb.Action) 1
  unfolding action_statement
  action_told = signal_number_at (needs slot.action ends) 1 _ (λ sig. act_at ends 2 _ (λ action. ended_at 3 (statement.Action sig action)))

  mask_told : AreWords (drop 1 row) → Here (mask_statement row) (form_of verb.Mask) 1
  unfolding mask_statement
  mask_told rest = map_told rows before (signals 0 (drop 1 row)) (λ set. statement.Mask set) (each slot.signal) (drop 1 row) (signals_told rows before 0 (drop 1 row) rest)

  migrate_told : Here (migrate_statement place.nodes row) (form_of verb.Migrate) 1
  unfolding migrate_statement
  migrate_told = node_at ends 1 _ (λ n. ended_at 2 (statement.Migrate (record { 0 = n })))

  -- the words behind a statement's word
  pub statement_told : (v : Verb) → word_at row 0 ≡ verb_word v → Here (statement_of names place v row) (form_of v) 1
  unfolding statement_of
  statement_told verb.Getpid w = ended_at 1 statement.Getpid
  statement_told verb.Getppid w = ended_at 1 statement.Getppid
  statement_told verb.Setsid w = ended_at 1 statement.Setsid
  statement_told verb.Pending w = ended_at 1 statement.Pending
  statement_told verb.Getpgid w = getpgid_told
  statement_told verb.Getsid w = getsid_told
  statement_told verb.Fork w = fork_told (begins_so row (codes "fork") (codes "fork") true w fork_word.0)
  statement_told verb.Exec w = exec_told
  statement_told verb.Exit w = exit_told
  statement_told verb.Wait w = wait_told true
  statement_told verb.Poll w = wait_told false
  statement_told verb.Kill w = kill_told
  statement_told verb.Setpgid w = setpgid_told
  statement_told verb.Action w = action_told
  statement_told verb.Mask w = mask_told (All-drop (λ x. ¬ (x ≡ [])) 1 row are)
  statement_told verb.Migrate w = migrate_told
