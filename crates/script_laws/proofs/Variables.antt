-- variables are numbered by their first fork lines, and then by their start lines
use Rattle.std.proofs.Common.{◌≡◌, ◌∙◌, ap, ℕ, true, false, refl, sym, subst, Option, Some, None, Ok}
use Rattle.std.specs.Prelude.{codes}
use Rattle.unix_calls.specs.declared.world.Statement.{Statement}
use Rattle.unix_calls.specs.declared.world.Statement.TheVariants as statement
use Rattle.script_words.specs.declared.faults.Kind.TheVariants.{UnknownWord}
use Rattle.script_reader.specs.declared.names.Names.{Names}
use Rattle.script_reader.specs.declared.places.Place.{Place}
use Rattle.script_words.specs.declared.table.Verb.{Verb}
use Rattle.script_words.specs.declared.table.Verb.TheVariants as verb
use Rattle.script_reader.specs.declared.lines.Item.{Item}
use Rattle.script_reader.specs.declared.lines.Item.TheVariants as item
use Rattle.script_words.specs.Words.{Word, Row, is_same, word_at, name}
use Rattle.script_reader.specs.Names.{Table, number_in}
use Rattle.script_words.specs.Table.{verb_word}
use Rattle.script_reader.specs.Statements.{own_variable, earlier_script, site, fork_statement, statement_of}
use Rattle.script_reader.specs.Files.{begins_with}
use Rattle.script_laws.specs.Writable.{assigned}
use Rattle.script_laws.proofs.Results.{next_ok, found_ok}
use Rattle.script_laws.proofs.Words.{skipped_start, skipped_fork, begins_so, verb_start, start_word, fork_word}
use Rattle.script_laws.proofs.Verbs.{verb_of, verb_said}
use Rattle.script_laws.proofs.Lines.{Step, silent, opens, begins, ends, says, starts}
use Rattle.script_laws.proofs.Starts.{variable_there}

-- ---- lines that give a variable
-- the variable that a line of these words gives, behind its first word
abbrev pub Marked : Table → Word → ℕ → Row → Option ℕ → Type 0
Marked variables first at row (Some n) = (begins_with first row ≡ true) × (number_in variables (word_at row at) ≡ Some n)
Marked variables first at row None = begins_with first row ≡ false

fork_marked : (names : Names) (place : Place) (row : Row) (s : Statement) → fork_statement names place row ≡ Ok s → word_at row 0 ≡ codes "fork" → Marked names.variables (codes "fork") 1 row (assigned s)
unfolding fork_statement own_variable
fork_marked names place row s e w =
    let a = next_ok (own_variable names.variables (word_at row 1)) _ s e in
    let n = next_ok (name (word_at row 1)) _ a.0 a.1 in
    let b = next_ok (earlier_script names place (word_at row 2)) _ s a.2 in
    let c = next_ok (site place.nodes row) _ s b.2 in
    let is : statement.Fork a.0 b.0 c.0 ≡ s = cc in
    subst (λ x. Marked names.variables (codes "fork") 1 row (assigned x)) is (begins_so row (codes "fork") (codes "fork") true w fork_word.0, found_ok (number_in names.variables (word_at row 1)) UnknownWord a.0 n.2)

fork_begins : is_same (verb_word verb.Fork) (codes "fork") ≡ true
unfolding is_same
fork_begins = refl

-- a statement that begins with no fork assigns no variable
no_variable : (s : Statement) → is_same (verb_word (verb_of s)) (codes "fork") ≡ false → assigned s ≡ None
no_variable (statement.Fork var script at) d = let is = fork_begins in cc
no_variable _ d = refl

none_marked : (names : Names) (place : Place) (row : Row) (v : Verb) (s : Statement) → statement_of names place v row ≡ Ok s → word_at row 0 ≡ verb_word v → is_same (verb_word v) (codes "fork") ≡ false → Marked names.variables (codes "fork") 1 row (assigned s)
none_marked names place row v s e w d =
    let is = (verb_said names place row v).fact s e in
    rw (no_variable s (ap (λ (u : Verb). is_same (verb_word u) (codes "fork")) is ∙ d)) (begins_so row (codes "fork") (verb_word v) false w d)

says_marked : (names : Names) (place : Place) (row : Row) (v : Verb) (s : Statement) → statement_of names place v row ≡ Ok s → word_at row 0 ≡ verb_word v → Marked names.variables (codes "fork") 1 row (assigned s)
unfolding statement_of is_same
says_marked names place row verb.Fork s e w = fork_marked names place row s e w
says_marked names place row v s e w = none_marked names place row v s e w refl

-- the variable that an item assigns, or that of a start
abbrev pub forked : Item → Option ℕ
forked (item.Says s) = assigned s
forked _ = None

abbrev pub started : Item → Option ℕ
started (item.Starts s) = Some s.var
started _ = None

pub fork_step : (names : Names) (place : Place) (row : Row) (i : Item) (now : Place) → Step names place row i now → Marked names.variables (codes "fork") 1 row (forked i)
fork_step names place row i now (silent k e n) = rw e (skipped_fork row k)
fork_step names place row i now (opens m k b w nu l lo hi e n) = rw e (begins_so row (codes "fork") (codes "cluster") false w fork_word.4)
fork_step names place row i now (begins k b w a o nm d l e n) = rw e (begins_so row (codes "fork") (codes "script") false w fork_word.1)
fork_step names place row i now (ends k b w o l e n) = rw e (begins_so row (codes "fork") (codes "end") false w fork_word.2)
fork_step names place row i now (says v s k b w o c st e n) = rw e (says_marked names place row v s st w)
fork_step names place row i now (starts s k b w c o st e n) = rw e (begins_so row (codes "fork") (codes "start") false w fork_word.3)

pub start_step : (names : Names) (place : Place) (row : Row) (i : Item) (now : Place) → Step names place row i now → Marked names.variables (codes "start") 3 row (started i)
start_step names place row i now (silent k e n) = rw e (skipped_start row k)
start_step names place row i now (opens m k b w nu l lo hi e n) = rw e (begins_so row (codes "start") (codes "cluster") false w start_word.3)
start_step names place row i now (begins k b w a o nm d l e n) = rw e (begins_so row (codes "start") (codes "script") false w start_word.0)
start_step names place row i now (ends k b w o l e n) = rw e (begins_so row (codes "start") (codes "end") false w start_word.1)
start_step names place row i now (says v s k b w o c st e n) = rw e (begins_so row (codes "start") (verb_word v) false w (verb_start v))
start_step names place row i now (starts s k b w c o st e n) =
    subst (λ x. Marked names.variables (codes "start") 3 row (started x)) (sym e) (begins_so row (codes "start") (codes "start") true w start_word.2, (variable_there names place (word_at row 3) s.var st.var).1)
