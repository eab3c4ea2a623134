-- what a line says keeps within bounds
use Rattle.std.proofs.Common.{◌≡◌, ℕ, ◌+◌, ◌<◌, ◌≤◌, ◌==◌, ◌&&◌, Bool, true, false, if◌then◌else◌, nat_lt, nat_le, codes, Result, Ok, Err, refl, arith}
use Rattle.std.proofs.lemmas.Bool.Decides.{nat_tests}
use Rattle.script_words.specs.declared.faults.Kind.{Kind}
use Rattle.script_words.specs.declared.faults.Kind.TheVariants.{NotUtf8, NoClusterLine, UnknownWord, NoSuchNode, TooManyNodes, TooManyScripts, TooManyStatements, TooManyStarts, DoubleName}
use Rattle.script_reader.specs.declared.names.Names.{Names}
use Rattle.script_reader.specs.declared.places.Place.{Place}
use Rattle.script_words.specs.declared.table.Verb.{Verb}
use Rattle.script_reader.specs.declared.lines.Head.{Head}
use Rattle.script_reader.specs.declared.lines.Head.TheVariants as head
use Rattle.script_reader.specs.declared.lines.Item.{Item}
use Rattle.script_reader.specs.declared.lines.Item.TheVariants as item
use Rattle.script_reader.specs.declared.lines.StartLine.{StartLine}
use Rattle.unix_calls.specs.declared.Statement.{Statement}
use Rattle.script_reader.specs.MethodCuts.{CutRow, read_cut}
use Rattle.script_reader.specs.MethodReading.{HasNode}
use Rattle.script_words.specs.Words.{Word, Row, ◌>>=◌, is_same, word_at, name, number, ended, node, is_skipped}
use Rattle.script_reader.specs.Statements.{script, statement_of}
use Rattle.script_reader.specs.Lines.{is_numbered, head_of, start_variable, user, joined, cluster_line, script_line, end_line, statement_line, start_words, start_line, later_line, read_row, nodes_after, placed_after, place_after}
use Rattle.unix_calls.specs.declared.limits.TheConstants.{MOST_NODES, MOST_SCRIPTS, MOST_STATEMENTS, MOST_STARTS}

-- what a line says of nodes: at most 64 of them, and starts on one of so many
pub record IsFine (nodes : ℕ) (read : Result Item Kind) : Type 0 where
  pub counts : (n : ℕ) → read ≡ Ok (item.Nodes n) → n ≤ MOST_NODES
  pub starts : (s : StartLine) → read ≡ Ok (item.Starts s) → s.node < nodes

fine-err : (m : ℕ) (kind : Kind) → IsFine m (Err kind)
fine-err m kind = record { counts = λ n e. absurd cc; starts = λ s e. absurd cc }

fine-if : (m : ℕ) (b : Bool) (x y : Result Item Kind) → (b ≡ true → IsFine m x) → IsFine m y → IsFine m (if b then x else y)
fine-if m true x y p q = p refl
fine-if m false x y p q = q

fine-bind : {A : Type 0} (m : ℕ) (r : Result A Kind) (f : A → Result Item Kind) → ((a : A) → r ≡ Ok a → IsFine m (f a)) → IsFine m (r >>= f)
fine-bind m (Ok a) f p = p a refl
fine-bind m (Err e) f p = fine-err m e

node_found : (m n k : ℕ) (b : Bool) → nat_lt n m ≡ b → (if b then Ok n else Err NoSuchNode) ≡ Ok k → k < m
node_found m n k true is e = let same : n ≡ k = cc in grind (arith, nat_tests)
node_found m n k false is e = absurd cc

node_read : (m : ℕ) (r : Result ℕ Kind) (k : ℕ) → (r >>= λ n. (if nat_lt n m then Ok n else Err NoSuchNode)) ≡ Ok k → k < m
node_read m (Err e) k h = absurd cc
node_read m (Ok n) k h = node_found m n k (nat_lt n m) refl h

node-fits : (m : ℕ) (word : Word) (k : ℕ) → node m word ≡ Ok k → k < m
unfolding node
node-fits m word k h = node_read m (number word) k h

few : (n : ℕ) → (nat_lt 0 n && nat_le n MOST_NODES) ≡ true → n ≤ MOST_NODES
few n h = grind (arith, nat_tests)

-- a line that says something else than nodes or a start
fine-nodes : (m n : ℕ) → n ≤ MOST_NODES → IsFine m (Ok (item.Nodes n))
fine-nodes m n le = record { counts = λ k e. let same : n ≡ k = cc in rw (← same) le; starts = λ s e. absurd cc }

fine-begins : (m : ℕ) → IsFine m (Ok item.ScriptBegins)
fine-begins m = record { counts = λ n e. absurd cc; starts = λ s e. absurd cc }

fine-ends : (m : ℕ) → IsFine m (Ok item.ScriptEnds)
fine-ends m = record { counts = λ n e. absurd cc; starts = λ s e. absurd cc }

fine-nothing : (m : ℕ) → IsFine m (Ok item.Nothing)
fine-nothing m = record { counts = λ n e. absurd cc; starts = λ s e. absurd cc }

fine-says : (m : ℕ) (s : Statement) → IsFine m (Ok (item.Says s))
fine-says m s = record { counts = λ n e. absurd cc; starts = λ t e. absurd cc }

fine-starts : (m : ℕ) (s : StartLine) → s.node < m → IsFine m (Ok (item.Starts s))
fine-starts m s lt = record { counts = λ n e. absurd cc; starts = λ t e. let same : s ≡ t = cc in rw (← same) lt }

fine-cluster : (m : ℕ) (row : Row) → IsFine m (cluster_line row)
unfolding cluster_line
fine-cluster m row =
    fine-if m (is_same (word_at row 0) (codes "cluster")) _ _
    (λ _. fine-bind m (number (word_at row 1)) _ (λ n _. fine-if m (nat_lt 0 n && nat_le n MOST_NODES) _ _ (λ h. fine-bind m (ended {A = Unit {0}} row 2 tt) _ (λ _ _. fine-nodes m n (few n h))) (fine-err m TooManyNodes)))
    (fine-err m NoClusterLine)

fine-script : (m : ℕ) (names : Names) (place : Place) (row : Row) → IsFine m (script_line names place row)
unfolding script_line
fine-script m names place row =
    fine-if m (place.scripts == MOST_SCRIPTS) _ _ (λ _. fine-err m TooManyScripts) (fine-if m place.is_open _ _ (λ _. fine-err m UnknownWord)
    (fine-bind m (name (word_at row 1)) _ (λ _ _. fine-if m (is_numbered names.scripts (word_at row 1) place.scripts) _ _ (λ _. fine-bind m (ended {A = Unit {0}} row 2 tt) _ (λ _ _. fine-begins m)) (fine-err m DoubleName))))

fine-end : (m : ℕ) (place : Place) (row : Row) → IsFine m (end_line place row)
unfolding end_line
fine-end m place row = fine-if m place.is_open _ _ (λ _. fine-bind m (ended {A = Unit {0}} row 1 tt) _ (λ _ _. fine-ends m)) (fine-err m UnknownWord)

fine-statement : (m : ℕ) (names : Names) (place : Place) (verb : Verb) (row : Row) → IsFine m (statement_line names place verb row)
unfolding statement_line
fine-statement m names place verb row =
    fine-if m place.is_open _ _ (λ _. fine-if m (place.statements == MOST_STATEMENTS) _ _ (λ _. fine-err m TooManyStatements) (fine-bind m (statement_of names place verb row) _ (λ s _. fine-says m s))) (fine-err m UnknownWord)

fine-words : (names : Names) (place : Place) (row : Row) → IsFine place.nodes (start_words names place row)
unfolding start_words
fine-words names place row =
    fine-bind place.nodes (node place.nodes (word_at row 1)) _ (λ site is. fine-bind place.nodes (script names.scripts (word_at row 2)) _ (λ runs _. fine-bind place.nodes (start_variable names place (word_at row 3)) _ (λ variable _. fine-bind place.nodes (user row) _ (λ uid _. fine-bind place.nodes (joined names place uid.1 row) _ (λ other _. fine-starts place.nodes (record { node = site; script = runs; var = variable; uid = uid.0; joined = other }) (node-fits place.nodes (word_at row 1) site is))))))

fine-start : (names : Names) (place : Place) (row : Row) → IsFine place.nodes (start_line names place row)
unfolding start_line
fine-start names place row = fine-if place.nodes (place.starts == MOST_STARTS) _ _ (λ _. fine-err place.nodes TooManyStarts) (fine-if place.nodes place.is_open _ _ (λ _. fine-err place.nodes UnknownWord) (fine-words names place row))

fine-later : (names : Names) (place : Place) (h : Head) (row : Row) → IsFine place.nodes (later_line names place h row)
unfolding later_line
fine-later names place head.Script row = fine-script place.nodes names place row
fine-later names place head.End row = fine-end place.nodes place row
fine-later names place head.Start row = fine-start names place row
fine-later names place (head.Says verb) row = fine-statement place.nodes names place verb row
fine-later names place head.Unknown row = fine-err place.nodes UnknownWord

fine-row : (names : Names) (place : Place) (row : Row) → IsFine place.nodes (read_row names place row)
unfolding read_row
fine-row names place row =
    fine-if place.nodes (is_skipped row) _ _ (λ _. fine-nothing place.nodes) (fine-if place.nodes place.begun _ _ (λ _. fine-later names place (head_of (word_at row 0)) row) (fine-cluster place.nodes row))

pub fine-cut : (names : Names) (place : Place) (line : CutRow) → IsFine place.nodes (read_cut names place line)
fine-cut names place line = fine-if place.nodes line.1 _ _ (λ _. fine-row names place line.0) (fine-err place.nodes NotUtf8)

-- a start that a line says is on one of at most 64 nodes
pub has-node : (m : ℕ) (read : Result Item Kind) → IsFine m read → m ≤ MOST_NODES → HasNode read
has-node m (Ok (item.Starts s)) fine le = let lt = fine.starts s refl in omega arith
has-node m (Ok _) fine le = tt
has-node m (Err _) fine le = tt

-- the counts of a place behind so many lines, and the nodes of its cluster
pub record IsWithin (n : ℕ) (place : Place) : Type 0 where
  pub scripts : place.scripts ≤ n
  pub statements : place.statements ≤ n
  pub starts : place.starts ≤ n
  pub nodes : place.nodes ≤ MOST_NODES

few_nodes : (m : ℕ) (read : Result Item Kind) → IsFine m read → m ≤ MOST_NODES → nodes_after m read ≤ MOST_NODES
few_nodes m (Ok (item.Nodes n)) fine le = fine.counts n refl
few_nodes m (Ok _) fine le = le
few_nodes m (Err _) fine le = le

within-placed : (n : ℕ) (place : Place) (nodes : ℕ) (h : Head) → IsWithin n place → nodes ≤ MOST_NODES → IsWithin (n + 1) (placed_after place nodes h)
within-placed n place nodes head.Script w le = record { scripts = omega (arith, w.scripts); statements = omega arith; starts = omega (arith, w.starts); nodes = le }
within-placed n place nodes head.End w le = record { scripts = omega (arith, w.scripts); statements = omega (arith, w.statements); starts = omega (arith, w.starts); nodes = le }
within-placed n place nodes head.Start w le = record { scripts = omega (arith, w.scripts); statements = omega (arith, w.statements); starts = omega (arith, w.starts); nodes = le }
within-placed n place nodes (head.Says verb) w le = record { scripts = omega (arith, w.scripts); statements = risen place.is_open; starts = omega (arith, w.starts); nodes = le } where
  risen : (b : Bool) → (if b then place.statements + 1 else place.statements) ≤ n + 1
  risen true = omega (arith, w.statements)
  risen false = omega (arith, w.statements)
within-placed n place nodes head.Unknown w le = record { scripts = omega (arith, w.scripts); statements = omega (arith, w.statements); starts = omega (arith, w.starts); nodes = le }

within-more : (n : ℕ) (place : Place) → IsWithin n place → IsWithin (n + 1) place
within-more n place w = record { scripts = omega (arith, w.scripts); statements = omega (arith, w.statements); starts = omega (arith, w.starts); nodes = w.nodes }

-- one line more
pub within-after : (n : ℕ) (place : Place) (row : Row) (read : Result Item Kind) → IsFine place.nodes read → IsWithin n place → IsWithin (n + 1) (place_after place row read)
unfolding place_after
within-after n place row read fine w = pick (is_skipped row) where
  pick : (b : Bool) → IsWithin (n + 1) (if b then place else placed_after place (nodes_after place.nodes read) (head_of (word_at row 0)))
  pick true = within-more n place w
  pick false = within-placed n place (nodes_after place.nodes read) (head_of (word_at row 0)) w (few_nodes place.nodes read fine w.nodes)
