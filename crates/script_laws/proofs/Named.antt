-- the names that lines of the grammar give
use Rattle.std.proofs.Common.{◌≡◌, ◌++◌, ℕ, Bool, true, false, cond, List, [], ◌∷◌, refl, sym, ap, ◌∙◌, subst, Option, Some, None}
use Rattle.std.specs.Prelude.{codes, map, is_some}
use Rattle.std.specs.List.{flat_map, filter_map, cons_option}
use Rattle.unix_calls.specs.declared.World.{World}
use Rattle.unix_calls.specs.declared.Script.{Script}
use Rattle.unix_calls.specs.declared.Start.{Start}
use Rattle.unix_calls.specs.declared.Statement.{Statement}
use Rattle.unix_calls.specs.declared.Statement.TheVariants as statement
use Rattle.script_words.specs.Words.{Word, Row, is_same, word_at}
use Rattle.script_words.specs.Table.{verb_word}
use Rattle.script_reader.specs.Files.{begins_with, words_behind}
use Rattle.script_laws.specs.Writable.{assigned, assigned_by}
use Rattle.script_laws.specs.Grammar.{Naming, IsCalled, Spells, Lines, ends, skips, starts, begins, says, closes, Part, silent, opens}
use Rattle.script_laws.proofs.Words.{skipped_script, skipped_start, skipped_fork, begins_so, verb_script, verb_start, script_word, start_word, fork_word}
use Rattle.script_laws.proofs.Verbs.{verb_of}
use Rattle.script_laws.proofs.Spoken.{first_word}
use Rattle.script_laws.proofs.Told.{statements_of}

-- words that have these numbers among names
abbrev pub AreCalled : List Word → List Word → List ℕ → Type 0
AreCalled names [] [] = Unit {0}
AreCalled names (w ∷ ws) (n ∷ ns) = IsCalled names w n × AreCalled names ws ns
AreCalled names _ _ = ⊥

pub called-append : (names ws vs : List Word) (ns ms : List ℕ) → AreCalled names ws ns → AreCalled names vs ms → AreCalled names (ws ++ vs) (ns ++ ms)
called-append names [] vs [] ms a b = b
called-append names (w ∷ ws) vs (n ∷ ns) ms a b = (a.0, called-append names ws vs ns ms a.1 b)
called-append names [] vs (n ∷ ns) ms a b = absurd a
called-append names (w ∷ ws) vs [] ms a b = absurd a

-- the words of one line more
behind : (first : Word) (at : ℕ) (row : Row) (rows : List Row) (b : Bool) → begins_with first row ≡ b → words_behind first at (row ∷ rows) ≡ cond b (word_at row at ∷ words_behind first at rows) (words_behind first at rows)
unfolding words_behind
behind first at row rows true e = rw e refl
behind first at row rows false e = rw e refl

-- ---- scripts
pub script_words : (naming : Naming) (all : List Start) (open' : Option (List Statement)) (words : List Word) (scs : List Script) (later : List Start) (rows : List Row) → Lines naming all open' words scs later rows → words_behind (codes "script") 1 rows ≡ words
unfolding words_behind word_at
script_words naming all open' words scs later rows ends = refl
script_words naming all open' words scs later rows' (skips row {rows = rows} s d) = behind (codes "script") 1 row rows false (skipped_script row s) ∙ script_words naming all open' words scs later rows d
script_words naming all open' words scs later rows' (starts {later = rest} s row {rows = rows} h d) =
    behind (codes "script") 1 row rows false (begins_so row (codes "script") (codes "start") false (ap (λ (r : Row). word_at r 0) h.is) script_word.2) ∙ script_words naming all None words scs rest rows d
script_words naming all open' words scs later rows' (begins {names = names'} {scripts = scs'} name script {rows = rows} d) =
    behind (codes "script") 1 (codes "script" ∷ name ∷ []) rows true (begins_so (codes "script" ∷ name ∷ []) (codes "script") (codes "script") true refl script_word.0)
    ∙ ap (λ (ws : List Word). name ∷ ws) (script_words naming all (Some script.statements) names' scs' later rows d)
script_words naming all open' words scs later rows' (says {statements = ss} s row {rows = rows} h d) =
    behind (codes "script") 1 row rows false (begins_so row (codes "script") (verb_word (verb_of s)) false (first_word naming row s h) (verb_script (verb_of s))) ∙ script_words naming all (Some ss) words scs later rows d
script_words naming all open' words scs later rows' (closes {rows = rows} d) =
    behind (codes "script") 1 (codes "end" ∷ []) rows false (begins_so (codes "end" ∷ []) (codes "script") (codes "end") false refl script_word.1) ∙ script_words naming all None words scs later rows d

-- ---- starts

pub start_words : (naming : Naming) (all : List Start) (open' : Option (List Statement)) (words : List Word) (scs : List Script) (later : List Start) (rows : List Row) → Lines naming all open' words scs later rows → AreCalled naming.variables (words_behind (codes "start") 3 rows) (map (λ s. s.var) later)
unfolding words_behind word_at
start_words naming all open' words scs later rows ends = tt
start_words naming all open' words scs later rows' (skips row {rows = rows} s d) =
    subst (λ (ws : List Word). AreCalled naming.variables ws (map (λ s. s.var) later)) (sym (behind (codes "start") 3 row rows false (skipped_start row s))) (start_words naming all open' words scs later rows d)
start_words naming all open' words scs later rows' (starts {later = rest} s row {rows = rows} h d) =
    let w : word_at row 3 ≡ h.variable = ap (λ (r : Row). word_at r 3) h.is in
    subst (λ (ws : List Word). AreCalled naming.variables ws (map (λ s. s.var) (s ∷ rest))) (sym (behind (codes "start") 3 row rows true (begins_so row (codes "start") (codes "start") true (ap (λ (r : Row). word_at r 0) h.is) start_word.2)))
    (subst (λ (x : Word). IsCalled naming.variables x s.var) (sym w) h.var, start_words naming all None words scs rest rows d)
start_words naming all open' words scs later rows' (begins {names = names'} {scripts = scs'} name script {rows = rows} d) =
    subst (λ (ws : List Word). AreCalled naming.variables ws (map (λ s. s.var) later)) (sym (behind (codes "start") 3 (codes "script" ∷ name ∷ []) rows false (begins_so (codes "script" ∷ name ∷ []) (codes "start") (codes "script") false refl start_word.0)))
    (start_words naming all (Some script.statements) names' scs' later rows d)
start_words naming all open' words scs later rows' (says {statements = ss} s row {rows = rows} h d) =
    subst (λ (ws : List Word). AreCalled naming.variables ws (map (λ s. s.var) later)) (sym (behind (codes "start") 3 row rows false (begins_so row (codes "start") (verb_word (verb_of s)) false (first_word naming row s h) (verb_start (verb_of s)))))
    (start_words naming all (Some ss) words scs later rows d)
start_words naming all open' words scs later rows' (closes {rows = rows} d) =
    subst (λ (ws : List Word). AreCalled naming.variables ws (map (λ s. s.var) later)) (sym (behind (codes "start") 3 (codes "end" ∷ []) rows false (begins_so (codes "end" ∷ []) (codes "start") (codes "end") false refl start_word.1)))
    (start_words naming all None words scs later rows d)

-- ---- forks
-- the variables of the open script's further forks, and those of further scripts
abbrev pub forks_of : Option (List Statement) → List Script → List ℕ
forks_of open' scs = filter_map assigned (statements_of open') ++ flat_map assigned_by scs

fork_mark : (s : Statement) → is_same (verb_word (verb_of s)) (codes "fork") ≡ is_some (assigned s)
unfolding is_same
fork_mark (statement.Fork var script at) = refl
fork_mark (statement.Wait true any minus arg stopped continued) = refl
fork_mark (statement.Wait false any minus arg stopped continued) = refl
fork_mark _ = refl

cons-append : (o : Option ℕ) (xs ys : List ℕ) → cons_option o xs ++ ys ≡ cons_option o (xs ++ ys)
cons-append None xs ys = refl
cons-append (Some x) xs ys = refl

fork_said : (naming : Naming) (row : Row) (s : Statement) (ws : List Word) (ns : List ℕ) → Spells naming row s → AreCalled naming.variables ws ns → AreCalled naming.variables (cond (is_some (assigned s)) (word_at row 1 ∷ ws) ws) (cons_option (assigned s) ns)
unfolding word_at
fork_said naming row (statement.Fork var script at) ws ns h a = (subst (λ (x : Word). IsCalled naming.variables x var) (sym (ap (λ (r : Row). word_at r 1) h.3)) h.4, a)
fork_said naming row statement.Getpid ws ns h a = a
fork_said naming row _ ws ns h a = a

pub fork_words : (naming : Naming) (all : List Start) (open' : Option (List Statement)) (words : List Word) (scs : List Script) (later : List Start) (rows : List Row) → Lines naming all open' words scs later rows → AreCalled naming.variables (words_behind (codes "fork") 1 rows) (forks_of open' scs)
unfolding words_behind word_at
fork_words naming all open' words scs later rows ends = tt
fork_words naming all open' words scs later rows' (skips row {rows = rows} s d) =
    subst (λ (ws : List Word). AreCalled naming.variables ws (forks_of open' scs)) (sym (behind (codes "fork") 1 row rows false (skipped_fork row s))) (fork_words naming all open' words scs later rows d)
fork_words naming all open' words scs later rows' (starts {later = rest} s row {rows = rows} h d) =
    subst (λ (ws : List Word). AreCalled naming.variables ws (forks_of None scs)) (sym (behind (codes "fork") 1 row rows false (begins_so row (codes "fork") (codes "start") false (ap (λ (r : Row). word_at r 0) h.is) fork_word.3))) (fork_words naming all None words scs rest rows d)
fork_words naming all open' words scs later rows' (begins {names = names'} {scripts = scs'} name script {rows = rows} d) =
    subst (λ (ws : List Word). AreCalled naming.variables ws (forks_of None (script ∷ scs'))) (sym (behind (codes "fork") 1 (codes "script" ∷ name ∷ []) rows false (begins_so (codes "script" ∷ name ∷ []) (codes "fork") (codes "script") false refl fork_word.1)))
    (fork_words naming all (Some script.statements) names' scs' later rows d)
fork_words naming all open' words scs later rows' (says {statements = ss} s row {rows = rows} h d) =
    subst (λ (ws : List Word). AreCalled naming.variables ws (forks_of (Some (s ∷ ss)) scs)) (sym (behind (codes "fork") 1 row rows (is_some (assigned s)) (begins_so row (codes "fork") (verb_word (verb_of s)) (is_some (assigned s)) (first_word naming row s h) (fork_mark s))))
    (subst (AreCalled naming.variables (cond (is_some (assigned s)) (word_at row 1 ∷ words_behind (codes "fork") 1 rows) (words_behind (codes "fork") 1 rows))) (sym (cons-append (assigned s) (filter_map assigned ss) (flat_map assigned_by scs)))
    (fork_said naming row s (words_behind (codes "fork") 1 rows) (forks_of (Some ss) scs) h (fork_words naming all (Some ss) words scs later rows d)))
fork_words naming all open' words scs later rows' (closes {rows = rows} d) =
    subst (λ (ws : List Word). AreCalled naming.variables ws (forks_of None scs)) (sym (behind (codes "fork") 1 (codes "end" ∷ []) rows false (begins_so (codes "end" ∷ []) (codes "fork") (codes "end") false refl fork_word.2))) (fork_words naming all None words scs later rows d)

-- ---- a part
-- the names that a part gives
pub record GivesNames (naming : Naming) (world : World) (rows : List Row) : Type 0 where
  pub scripts : words_behind (codes "script") 1 rows ≡ naming.scripts
  pub forks : AreCalled naming.variables (words_behind (codes "fork") 1 rows) (flat_map assigned_by world.scripts)
  pub starts : AreCalled naming.variables (words_behind (codes "start") 3 rows) (map (λ s. s.var) world.starts)

unmarked : (naming : Naming) (world : World) (row : Row) (rows : List Row) → begins_with (codes "script") row ≡ false → begins_with (codes "fork") row ≡ false → begins_with (codes "start") row ≡ false → GivesNames naming world rows → GivesNames naming world (row ∷ rows)
unmarked naming world row rows a b c g = record {
  scripts = behind (codes "script") 1 row rows false a ∙ g.scripts;
  forks = subst (λ (ws : List Word). AreCalled naming.variables ws (flat_map assigned_by world.scripts)) (sym (behind (codes "fork") 1 row rows false b)) g.forks;
  starts = subst (λ (ws : List Word). AreCalled naming.variables ws (map (λ s. s.var) world.starts)) (sym (behind (codes "start") 3 row rows false c)) g.starts;
}

pub part_names : (naming : Naming) (world : World) (rows : List Row) → Part naming world rows → GivesNames naming world rows
unfolding word_at
part_names naming world rows' (silent row {rows = rows} s p) = unmarked naming world row rows (skipped_script row s) (skipped_fork row s) (skipped_start row s) (part_names naming world rows p)
part_names naming world rows' (opens word {rows = rows} n d) =
    unmarked naming world (codes "cluster" ∷ word ∷ []) rows (begins_so (codes "cluster" ∷ word ∷ []) (codes "script") (codes "cluster") false refl script_word.3) (begins_so (codes "cluster" ∷ word ∷ []) (codes "fork") (codes "cluster") false refl fork_word.4)
    (begins_so (codes "cluster" ∷ word ∷ []) (codes "start") (codes "cluster") false refl start_word.3)
    (record {
      scripts = script_words naming world.starts None naming.scripts world.scripts world.starts rows d;
      forks = fork_words naming world.starts None naming.scripts world.scripts world.starts rows d;
      starts = start_words naming world.starts None naming.scripts world.scripts world.starts rows d;
    })
