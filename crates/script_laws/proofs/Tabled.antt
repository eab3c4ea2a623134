-- names that a part without a fault gives
use Rattle.std.proofs.Common.{◌≡◌, ◌⊎◌, inl, inr, ◌++◌, ℕ, zero, suc, ◌+◌, ◌<◌, Bool, true, false, cond, List, [], ◌∷◌, length, refl, sym, ap, ◌∙◌, subst, arith, Option, Some, None, Ok, All}
use Rattle.std.specs.Prelude.{codes, slice_get, map, is_some}
use Rattle.std.proofs.lemmas.List.{map-append, length-map}
use Rattle.std.proofs.lemmas.List.Elements.{All-nil, All-cons}
use Rattle.unix_calls.specs.declared.Statement.{Statement}
use Rattle.script_reader.specs.declared.names.Names.{Names}
use Rattle.script_reader.specs.declared.places.Place.{Place}
use Rattle.script_words.specs.declared.table.Verb.{Verb}
use Rattle.script_words.specs.declared.table.Verb.TheVariants as verb
use Rattle.script_reader.specs.declared.lines.Item.{Item}
use Rattle.script_words.specs.Words.{Word, Row, word_at, name}
use Rattle.script_reader.specs.Names.{Table, number_in, noted}
use Rattle.script_words.specs.Table.{verb_word}
use Rattle.script_reader.specs.Statements.{own_variable, fork_statement, statement_of}
use Rattle.script_reader.specs.Lines.{place_after, start_variable}
use Rattle.script_reader.specs.Files.{begins_with, words_behind, numbered, listed, Told}
use Rattle.script_laws.specs.Grammar.{IsName}
use Rattle.script_laws.proofs.Results.{next_ok}
use Rattle.script_laws.proofs.Words.{skipped_script, skipped_start, skipped_fork, begins_so, verb_script, verb_start, verb_fork, script_word, start_word, fork_word}
use Rattle.script_laws.proofs.Tables.{noted_from}
use Rattle.script_laws.proofs.Orders.{noted_still, noted_new}
use Rattle.script_laws.proofs.Lines.{Step, silent, opens, begins, ends, says, starts}
use Rattle.script_laws.proofs.Walks.{Walk}
use Rattle.script_laws.proofs.Scripts.{is_beginning, script_marked}
use Rattle.script_laws.proofs.Starts.{numbered_here, pushed}
use Rattle.script_laws.proofs.Numbered.{rows_of}
use Rattle.script_laws.proofs.Understood.{name_understood}

-- ---- numbers come from words
pub numbered_from : (t : Table) (k : ℕ) (words : List Word) (w : Word) (m : ℕ) → number_in (numbered t k words) w ≡ Some m → (number_in t w ≡ Some m) ⊎ ((j : ℕ) × (m ≡ k + j) × (slice_get words j ≡ Some w))
unfolding numbered
numbered_from t k [] w m e = inl e
numbered_from t k (word ∷ words) w m e = elim (numbered_from (noted t word k) (k + 1) words w m e) [
  | inl h ↦ elim (noted_from t word k w m h) [ inl o ↦ inl o | inr n ↦ inr (0, n.0 ∙ same k, ap (λ (x : Word). Some x) (sym n.1)) ]
  | inr h ↦ inr (suc h.0, h.1 ∙ more k h.0, h.2)
]
  where
    same : (k : ℕ) → k ≡ k + 0
    same k = omega arith

    more : (k j : ℕ) → k + 1 + j ≡ k + suc j
    more k j = omega arith

pub slice_still : {X : Type 0} (xs ys : List X) (k : ℕ) (x : X) → slice_get xs k ≡ Some x → slice_get (xs ++ ys) k ≡ Some x
slice_still [] ys k x e = cc
slice_still (y ∷ xs) ys zero x e = e
slice_still (y ∷ xs) ys (suc k) x e = slice_still xs ys k x e

slice_last : {X : Type 0} (xs : List X) (x : X) → slice_get (xs ++ x ∷ []) (length xs) ≡ Some x
slice_last [] x = refl
slice_last (y ∷ xs) x = slice_last xs x

abbrev pub words_of : Table → List Word
words_of t = map (λ e. e.0) t

-- each word's number is its place
pub record IsEnumerated (t : Table) : Type 0 where
  pub to : (w : Word) (n : ℕ) → number_in t w ≡ Some n → slice_get (words_of t) n ≡ Some w
  pub from : (w : Word) (n : ℕ) → slice_get (words_of t) n ≡ Some w → number_in t w ≡ Some n

noted_enumerated : (t : Table) (word : Word) → IsEnumerated t → IsEnumerated (noted t word (length t))
noted_enumerated t word en = go (number_in t word) refl
  where
    long : length (words_of t) ≡ length t
    long = length-map t (λ e. e.0)

    go : (o : Option ℕ) → number_in t word ≡ o → IsEnumerated (noted t word (length t))
    go (Some k) e = subst IsEnumerated (sym (ap (λ (o : Option ℕ). cond (is_some o) t (t ++ (word, length t) ∷ [])) e)) en
    go None e =
        let is : noted t word (length t) ≡ t ++ (word, length t) ∷ [] = ap (λ (o : Option ℕ). cond (is_some o) t (t ++ (word, length t) ∷ [])) e in
        let ws : words_of (noted t word (length t)) ≡ words_of t ++ word ∷ [] = ap (λ (x : Table). words_of x) is ∙ map-append (λ (x : Word × ℕ). x.0) t ((word, length t) ∷ []) in
        record {
          to = λ w n h. ap (λ (x : List Word). slice_get x n) ws ∙ to w n (noted_from t word (length t) w n h);
          from = λ w n h. from e w n (pushed (words_of t) word n w (ap (λ (x : List Word). slice_get x n) (sym ws) ∙ h));
        }
      where
        to : (w : Word) (n : ℕ) → (number_in t w ≡ Some n) ⊎ ((n ≡ length t) × (w ≡ word)) → slice_get (words_of t ++ word ∷ []) n ≡ Some w
        to w n (inl o) = slice_still (words_of t) (word ∷ []) n w (en.to w n o)
        to w n (inr o) = ap (slice_get (words_of t ++ word ∷ [])) (o.0 ∙ sym long) ∙ slice_last (words_of t) word ∙ ap (λ (x : Word). Some x) (sym o.1)

        from : number_in t word ≡ None → (w : Word) (n : ℕ) → ((slice_get (words_of t) n ≡ Some w) × (n < length (words_of t))) ⊎ ((n ≡ length (words_of t)) × (word ≡ w)) → number_in (noted t word (length t)) w ≡ Some n
        from e w n (inl o) = noted_still t word (length t) w n (en.from w n o.0)
        from e w n (inr o) = subst (λ (x : Word). number_in (noted t word (length t)) x ≡ Some n) o.1 (noted_new t word (length t) e ∙ ap (λ (m : ℕ). Some m) (sym (o.0 ∙ long)))

pub listed_enumerated : (t : Table) (words : List Word) → IsEnumerated t → IsEnumerated (listed t words)
unfolding listed
listed_enumerated t [] en = en
listed_enumerated t (word ∷ words) en = listed_enumerated (noted t word (length t)) words (noted_enumerated t word en)

pub none_enumerated : IsEnumerated []
none_enumerated = record { to = λ w n e. cc; from = λ w n e. cc }

-- ---- all words are names
abbrev pub AllNames : List Word → Type 0
AllNames [] = Unit {0}
AllNames (w ∷ ws) = IsName w × AllNames ws

pub names-append : (a b : List Word) → AllNames a → AllNames b → AllNames (a ++ b)
names-append [] b x y = y
names-append (w ∷ a) b x y = (x.0, names-append a b x.1 y)

pub record HasNames (t : Table) : Type 0 where
  pub each : (w : Word) (n : ℕ) → number_in t w ≡ Some n → IsName w

noted_names : (t : Table) (word : Word) (k : ℕ) → IsName word → HasNames t → HasNames (noted t word k)
noted_names t word k n h = record { each = λ w m e. elim (noted_from t word k w m e) [ inl o ↦ h.each w m o | inr o ↦ subst IsName (sym o.1) n ] }

pub listed_names : (t : Table) (words : List Word) → AllNames words → HasNames t → HasNames (listed t words)
unfolding listed
listed_names t [] a h = h
listed_names t (word ∷ words) a h = listed_names (noted t word (length t)) words a.1 (noted_names t word (length t) a.0 h)

pub all_named : (words : List Word) → AllNames words → All IsName words
all_named [] a = All-nil IsName
all_named (w ∷ ws) a = All-cons IsName w ws a.0 (all_named ws a.1)

-- where each line that begins with a word has a name
names_step : (first : Word) (at : ℕ) (row : Row) (rows : List Row) (b : Bool) → begins_with first row ≡ b → (begins_with first row ≡ true → IsName (word_at row at)) → AllNames (words_behind first at rows) → AllNames (words_behind first at (row ∷ rows))
unfolding words_behind
names_step first at row rows true e n a = rw e (n e, a)
names_step first at row rows false e n a = rw e a

pub names_given : (names : Names) (first : Word) (at : ℕ) → ((place : Place) (row : Row) (i : Item) (now : Place) → Step names place row i now → begins_with first row ≡ true → IsName (word_at row at))
    → (place : Place) (told : List Told) → Walk names place told → AllNames (words_behind first at (rows_of told))
unfolding words_behind
names_given names first at f place [] w = tt
names_given names first at f place (t ∷ rest) w = names_step first at t.0 (rows_of rest) (begins_with first t.0) refl (f place t.0 w.0 (place_after place t.0 t.1) w.2) (names_given names first at f (place_after place t.0 t.1) rest w.3)

no_true : {X : Type 0} (b : Bool) → b ≡ false → b ≡ true → X
no_true b f t = absurd (cc)

pub script_named : (names : Names) (place : Place) (row : Row) (i : Item) (now : Place) → Step names place row i now → begins_with (codes "script") row ≡ true → IsName (word_at row 1)
script_named names place row i now (silent k e n) b = no_true _ (skipped_script row k) b
script_named names place row i now (opens m k bg w nu l lo hi e n) b = no_true _ (begins_so row (codes "script") (codes "cluster") false w script_word.3) b
script_named names place row i now (begins k bg w a o nm d l e n) b = name_understood (word_at row 1) tt nm
script_named names place row i now (ends k bg w o l e n) b = no_true _ (begins_so row (codes "script") (codes "end") false w script_word.1) b
script_named names place row i now (says v s k bg w o c st e n) b = no_true _ (begins_so row (codes "script") (verb_word v) false w (verb_script v)) b
script_named names place row i now (starts s k bg w c o st e n) b = no_true _ (begins_so row (codes "script") (codes "start") false w script_word.2) b

variable_name : (names : Names) (place : Place) (word : Word) (n : ℕ) → start_variable names place word ≡ Ok n → IsName word
unfolding start_variable
variable_name names place word n e = let a = next_ok (name word) _ n e in name_understood word a.0 a.1

pub start_named : (names : Names) (place : Place) (row : Row) (i : Item) (now : Place) → Step names place row i now → begins_with (codes "start") row ≡ true → IsName (word_at row 3)
start_named names place row i now (silent k e n) b = no_true _ (skipped_start row k) b
start_named names place row i now (opens m k bg w nu l lo hi e n) b = no_true _ (begins_so row (codes "start") (codes "cluster") false w start_word.3) b
start_named names place row i now (begins k bg w a o nm d l e n) b = no_true _ (begins_so row (codes "start") (codes "script") false w start_word.0) b
start_named names place row i now (ends k bg w o l e n) b = no_true _ (begins_so row (codes "start") (codes "end") false w start_word.1) b
start_named names place row i now (says v s k bg w o c st e n) b = no_true _ (begins_so row (codes "start") (verb_word v) false w (verb_start v)) b
start_named names place row i now (starts s k bg w c o st e n) b = variable_name names place (word_at row 3) s.var st.var

said_named : (names : Names) (place : Place) (row : Row) (v : Verb) (s : Statement) → statement_of names place v row ≡ Ok s → word_at row 0 ≡ verb_word v → begins_with (codes "fork") row ≡ true → IsName (word_at row 1)
unfolding statement_of fork_statement own_variable
said_named names place row verb.Fork s e w b =
    let a = next_ok (own_variable names.variables (word_at row 1)) _ s e in
    let n = next_ok (name (word_at row 1)) _ a.0 a.1 in
    name_understood (word_at row 1) n.0 n.1
said_named names place row verb.Getpid s e w b = no_true _ (begins_so row (codes "fork") (verb_word verb.Getpid) false w (verb_fork verb.Getpid (λ e. cc))) b
said_named names place row verb.Getppid s e w b = no_true _ (begins_so row (codes "fork") (verb_word verb.Getppid) false w (verb_fork verb.Getppid (λ e. cc))) b
said_named names place row verb.Getpgid s e w b = no_true _ (begins_so row (codes "fork") (verb_word verb.Getpgid) false w (verb_fork verb.Getpgid (λ e. cc))) b
said_named names place row verb.Getsid s e w b = no_true _ (begins_so row (codes "fork") (verb_word verb.Getsid) false w (verb_fork verb.Getsid (λ e. cc))) b
said_named names place row verb.Exec s e w b = no_true _ (begins_so row (codes "fork") (verb_word verb.Exec) false w (verb_fork verb.Exec (λ e. cc))) b
said_named names place row verb.Exit s e w b = no_true _ (begins_so row (codes "fork") (verb_word verb.Exit) false w (verb_fork verb.Exit (λ e. cc))) b
said_named names place row verb.Wait s e w b = no_true _ (begins_so row (codes "fork") (verb_word verb.Wait) false w (verb_fork verb.Wait (λ e. cc))) b
said_named names place row verb.Poll s e w b = no_true _ (begins_so row (codes "fork") (verb_word verb.Poll) false w (verb_fork verb.Poll (λ e. cc))) b
said_named names place row verb.Kill s e w b = no_true _ (begins_so row (codes "fork") (verb_word verb.Kill) false w (verb_fork verb.Kill (λ e. cc))) b
said_named names place row verb.Setpgid s e w b = no_true _ (begins_so row (codes "fork") (verb_word verb.Setpgid) false w (verb_fork verb.Setpgid (λ e. cc))) b
said_named names place row verb.Setsid s e w b = no_true _ (begins_so row (codes "fork") (verb_word verb.Setsid) false w (verb_fork verb.Setsid (λ e. cc))) b
said_named names place row verb.Action s e w b = no_true _ (begins_so row (codes "fork") (verb_word verb.Action) false w (verb_fork verb.Action (λ e. cc))) b
said_named names place row verb.Mask s e w b = no_true _ (begins_so row (codes "fork") (verb_word verb.Mask) false w (verb_fork verb.Mask (λ e. cc))) b
said_named names place row verb.Pending s e w b = no_true _ (begins_so row (codes "fork") (verb_word verb.Pending) false w (verb_fork verb.Pending (λ e. cc))) b
said_named names place row verb.Migrate s e w b = no_true _ (begins_so row (codes "fork") (verb_word verb.Migrate) false w (verb_fork verb.Migrate (λ e. cc))) b

pub fork_named : (names : Names) (place : Place) (row : Row) (i : Item) (now : Place) → Step names place row i now → begins_with (codes "fork") row ≡ true → IsName (word_at row 1)
fork_named names place row i now (silent k e n) b = no_true _ (skipped_fork row k) b
fork_named names place row i now (opens m k bg w nu l lo hi e n) b = no_true _ (begins_so row (codes "fork") (codes "cluster") false w fork_word.4) b
fork_named names place row i now (begins k bg w a o nm d l e n) b = no_true _ (begins_so row (codes "fork") (codes "script") false w fork_word.1) b
fork_named names place row i now (ends k bg w o l e n) b = no_true _ (begins_so row (codes "fork") (codes "end") false w fork_word.2) b
fork_named names place row i now (says v s k bg w o c st e n) b = said_named names place row v s st w b
fork_named names place row i now (starts s k bg w c o st e n) b = no_true _ (begins_so row (codes "fork") (codes "start") false w fork_word.3) b

-- ---- scripts are numbered in order
pub numbers_step : (row : Row) (rows : List Row) (b : Bool) → begins_with (codes "script") row ≡ b → words_behind (codes "script") 1 (row ∷ rows) ≡ cond b (word_at row 1 ∷ words_behind (codes "script") 1 rows) (words_behind (codes "script") 1 rows)
unfolding words_behind
numbers_step row rows true e = rw e refl
numbers_step row rows false e = rw e refl

script_step : (names : Names) (place : Place) (row : Row) (i : Item) (now : Place) → Step names place row i now → (now.scripts ≡ cond (is_beginning i) (place.scripts + 1) place.scripts) × (is_beginning i ≡ true → number_in names.scripts (word_at row 1) ≡ Some place.scripts)
script_step names place row i now (silent k e n) = (rw (e, n) refl, λ b. no_true (is_beginning i) (ap is_beginning e) b)
script_step names place row i now (opens m k bg w nu l lo hi e n) = (rw (e, n) refl, λ b. no_true (is_beginning i) (ap is_beginning e) b)
script_step names place row i now (begins k bg w a o nm d l e n) = (rw (e, n) refl, λ b. numbered_here names.scripts (word_at row 1) place.scripts d)
script_step names place row i now (ends k bg w o l e n) = (rw (e, n) refl, λ b. no_true (is_beginning i) (ap is_beginning e) b)
script_step names place row i now (says v s k bg w o c st e n) = (rw (e, n) refl, λ b. no_true (is_beginning i) (ap is_beginning e) b)
script_step names place row i now (starts s k bg w c o st e n) = (rw (e, n) refl, λ b. no_true (is_beginning i) (ap is_beginning e) b)

pub scripts_numbered : (names : Names) (place : Place) (told : List Told) → Walk names place told → (j : ℕ) (w : Word) → slice_get (words_behind (codes "script") 1 (rows_of told)) j ≡ Some w → number_in names.scripts w ≡ Some (place.scripts + j)
unfolding words_behind
scripts_numbered names place [] walk j w e = cc
scripts_numbered names place (t ∷ rest) walk j w e =
    go (is_beginning walk.0) (script_marked names place t.0 walk.0 (place_after place t.0 t.1) walk.2) (script_step names place t.0 walk.0 (place_after place t.0 t.1) walk.2) (scripts_numbered names (place_after place t.0 t.1) rest walk.3) j e
  where
    go : (b : Bool) → begins_with (codes "script") t.0 ≡ b → ((place_after place t.0 t.1).scripts ≡ cond b (place.scripts + 1) place.scripts) × (b ≡ true → number_in names.scripts (word_at t.0 1) ≡ Some place.scripts)
        → ((j : ℕ) (w : Word) → slice_get (words_behind (codes "script") 1 (rows_of rest)) j ≡ Some w → number_in names.scripts w ≡ Some ((place_after place t.0 t.1).scripts + j))
        → (j : ℕ) → slice_get (words_behind (codes "script") 1 (t.0 ∷ rows_of rest)) j ≡ Some w → number_in names.scripts w ≡ Some (place.scripts + j)
    go false m s ih j e = ih j w (ap (λ (ws : List Word). slice_get ws j) (sym (numbers_step t.0 (rows_of rest) false m)) ∙ e) ∙ ap (λ (k : ℕ). Some (k + j)) s.0
    go true m s ih zero e =
        let h : slice_get (word_at t.0 1 ∷ words_behind (codes "script") 1 (rows_of rest)) zero ≡ Some w = ap (λ (ws : List Word). slice_get ws zero) (sym (numbers_step t.0 (rows_of rest) true m)) ∙ e in
        let is : word_at t.0 1 ≡ w = cc in
        let z : place.scripts ≡ place.scripts + 0 = omega arith in
        subst (λ (x : Word). number_in names.scripts x ≡ Some (place.scripts + 0)) is (s.1 refl ∙ ap (λ (k : ℕ). Some k) z)
    go true m s ih (suc j) e =
        let h : slice_get (word_at t.0 1 ∷ words_behind (codes "script") 1 (rows_of rest)) (suc j) ≡ Some w = ap (λ (ws : List Word). slice_get ws (suc j)) (sym (numbers_step t.0 (rows_of rest) true m)) ∙ e in
        let z : place.scripts + 1 + j ≡ place.scripts + suc j = omega arith in
        ih j w h ∙ ap (λ (k : ℕ). Some (k + j)) s.0 ∙ ap (λ (k : ℕ). Some k) z
