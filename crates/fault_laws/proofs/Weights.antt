-- all scripts that are to make as much work as those of a part have the same works
use Rattle.std.proofs.Common.{◌≡◌, ◌⊎◌, inl, inr, ◌++◌, ℕ, ◌+◌, ◌<◌, Bool, true, false, List, [], ◌∷◌, refl, sym, ap, ◌∙◌, arith, Option, Some, None}
use Rattle.std.specs.Prelude.{codes, map, fold, is_some}
use Rattle.byte_ends.specs.Text.{words}
use Rattle.unix_calls.specs.declared.world.Script.{Script}
use Rattle.unix_calls.specs.declared.world.Statement.{Statement}
use Rattle.unix_calls.specs.declared.world.Statement.TheVariants.{Fork, Exec}
use Rattle.unix_calls.specs.declared.work.Work.{Work}
use Rattle.unix_calls.specs.Work.{work, together, work_of, without_itself, with_statement, with_script, works}
use Rattle.script_words.specs.Words.{Word, Row, is_same, word_at}
use Rattle.script_words.specs.Table.{verb_named}
use Rattle.script_reader.specs.Files.{begins_with, with_said}
use Rattle.script_laws.proofs.Words.{same_words, begins_so}
use Rattle.fault_laws.specs.Context.{is_statement, script_names}
use Rattle.fault_laws.specs.Faults.{IsFirst, Weighs, Adds, Bodies, HaveBodies}

-- what a statement adds to the work: a fork or an exec also that of a script
pub data Charge : Type 0 where
  one : Charge
  forks : ℕ → Charge
  execs : ℕ → Charge

abbrev pub charge : Statement → Charge
charge (Fork var script at) = forks script
charge (Exec script) = execs script
charge _ = one

abbrev pub charges : List Statement → List Charge
charges statements = map charge statements

abbrev pub burdens : List Script → List (List Charge)
burdens scripts = map (λ script. charges script.statements) scripts

-- ---- the work of scripts, by what their statements add
abbrev charged : List Work → Work → Charge → Work
charged earlier w (forks script) = together (together w (work 0 1)) (work_of earlier script)
charged earlier w (execs script) = together (together w (work 0 1)) (without_itself (work_of earlier script))
charged earlier w one = together w (work 0 1)

abbrev burdened : List Work → List Charge → List Work
burdened earlier cs = earlier ++ fold (charged earlier) (work 1 1) cs ∷ []

statement_charged : (earlier : List Work) (w : Work) (s : Statement) → with_statement earlier w s ≡ charged earlier w (charge s)
statement_charged earlier w (Fork var script at) = refl
statement_charged earlier w (Exec script) = refl
statement_charged earlier w _ = refl

statements_charged : (earlier : List Work) (w : Work) (statements : List Statement) → fold (with_statement earlier) w statements ≡ fold (charged earlier) w (charges statements)
statements_charged earlier w [] = refl
statements_charged earlier w (s ∷ ss) = statements_charged earlier (with_statement earlier w s) ss ∙ ap (λ (x : Work). fold (charged earlier) x (charges ss)) (statement_charged earlier w s)

scripts_burdened : (earlier : List Work) (scripts : List Script) → fold with_script earlier scripts ≡ fold burdened earlier (burdens scripts)
scripts_burdened earlier [] = refl
scripts_burdened earlier (s ∷ ss) =
    scripts_burdened (with_script earlier s) ss ∙ ap (λ (x : Work). fold burdened (earlier ++ x ∷ []) (burdens ss)) (statements_charged earlier (work 1 1) s.statements)

pub works_same : (a b : List Script) → burdens a ≡ burdens b → works a ≡ works b
works_same a b e = scripts_burdened [] a ∙ ap (fold burdened []) e ∙ sym (scripts_burdened [] b)

-- ---- a line makes one charge
pub first_one : (names : List Word) (word : Word) (m n : ℕ) → IsFirst names word m → IsFirst names word n → m ≡ n
first_one names word m n a b = go (order m n)
  where
    order : (m n : ℕ) → (m < n) ⊎ ((n < m) ⊎ (m ≡ n))
    order m n = grind arith

    go : (m < n) ⊎ ((n < m) ⊎ (m ≡ n)) → m ≡ n
    go (inl lt) = absurd (b.1 m lt a.0)
    go (inr (inl lt)) = absurd (a.1 n lt b.0)
    go (inr (inr e)) = e

-- what a line adds that says a statement without a fault
abbrev pub ChargesSo : List Row → Row → Charge → Type 0
ChargesSo rows row one = (is_statement row ≡ true) × (begins_with (codes "fork") row ≡ false) × (begins_with (codes "exec") row ≡ false)
ChargesSo rows row (forks script) = (begins_with (codes "fork") row ≡ true) × IsFirst (script_names rows) (word_at row 2) script
ChargesSo rows row (execs script) = (begins_with (codes "exec") row ≡ true) × IsFirst (script_names rows) (word_at row 1) script

weighs_so : (rows : List Row) (row : Row) (s : Statement) → Weighs rows row s → ChargesSo rows row (charge s)
weighs_so rows row (Fork var script at) w = w
weighs_so rows row (Exec script) w = w
weighs_so rows row _ w = w

pub so_weighs : (rows : List Row) (row : Row) (s : Statement) → ChargesSo rows row (charge s) → Weighs rows row s
so_weighs rows row (Fork var script at) w = w
so_weighs rows row (Exec script) w = w
so_weighs rows row _ w = w

begun_by : (row : Row) (first : Word) → begins_with first row ≡ true → word_at row 0 ≡ first
unfolding begins_with
begun_by row first e = same_words (word_at row 0) first e

fork_is : is_some (verb_named (codes "fork")) ≡ true
unfolding verb_named is_same
fork_is = refl

exec_is : is_some (verb_named (codes "exec")) ≡ true
unfolding verb_named is_same
exec_is = refl

no_both : {X : Type 0} (b : Bool) → b ≡ true → b ≡ false → X
no_both b t f = absurd (cc)

exec_no_fork : is_same (codes "exec") (codes "fork") ≡ false
unfolding is_same
exec_no_fork = refl

not_both : {X : Type 0} (row : Row) → begins_with (codes "fork") row ≡ true → begins_with (codes "exec") row ≡ true → X
not_both row f x = no_both _ f (begins_so row (codes "fork") (codes "exec") false (begun_by row (codes "exec") x) exec_no_fork)

charges_statement : (rows : List Row) (row : Row) (c : Charge) → ChargesSo rows row c → is_statement row ≡ true
charges_statement rows row one h = h.0
charges_statement rows row (forks n) h = ap (λ (w : Word). is_some (verb_named w)) (begun_by row (codes "fork") h.0) ∙ fork_is
charges_statement rows row (execs n) h = ap (λ (w : Word). is_some (verb_named w)) (begun_by row (codes "exec") h.0) ∙ exec_is

charge_one : (rows : List Row) (row : Row) (c d : Charge) → ChargesSo rows row c → ChargesSo rows row d → c ≡ d
charge_one rows row one one a b = refl
charge_one rows row one (forks n) a b = no_both _ b.0 a.1
charge_one rows row one (execs n) a b = no_both _ b.0 a.2
charge_one rows row (forks m) one a b = no_both _ a.0 b.1
charge_one rows row (forks m) (forks n) a b = ap (λ k. forks k) (first_one (script_names rows) (word_at row 2) m n a.1 b.1)
charge_one rows row (forks m) (execs n) a b = not_both row a.0 b.0
charge_one rows row (execs m) one a b = no_both _ a.0 b.2
charge_one rows row (execs m) (forks n) a b = not_both row b.0 a.0
charge_one rows row (execs m) (execs n) a b = ap (λ k. execs k) (first_one (script_names rows) (word_at row 1) m n a.1 b.1)

-- ---- what is added, and the scripts
module _ (lines : List (List ℕ)) where
  -- a line adds a statement or none
  not_none : (k : ℕ) (row : Row) (s : Statement) → Adds lines k row None → Adds lines k row (Some s) → ⊥
  not_none k row s (inl no_statement) a = let is : is_statement row ≡ true = charges_statement (map words lines) row (charge s) (weighs_so (map words lines) row s a.0) in cc
  not_none k row s (inr f) a = a.1 f.0 f.1 f.2

  added_same : (k : ℕ) (row : Row) (x y : Option Statement) (xs ys : List Statement) → Adds lines k row x → Adds lines k row y → charges xs ≡ charges ys → charges (with_said x xs) ≡ charges (with_said y ys)
  added_same k row None None xs ys a b e = e
  added_same k row None (Some t) xs ys a b e = absurd (not_none k row t a b)
  added_same k row (Some s) None xs ys a b e = absurd (not_none k row s b a)
  added_same k row (Some s) (Some t) xs ys a b e =
      let is : charge s ≡ charge t = charge_one (map words lines) row (charge s) (charge t) (weighs_so (map words lines) row s a.0) (weighs_so (map words lines) row t b.0) in
      cc

  abbrev AreSame : List Statement → List Script → List Statement → List Script → Type 0
  AreSame xs ss ys ts = (charges xs ≡ charges ys) × (burdens ss ≡ burdens ts)

  -- what a line makes of the statements and the scripts behind it
  abbrev pub StepsSo : ℕ → Row → List Statement → List Script → List Statement → List Script → Type 0
  StepsSo k row later more xs ss =
      ((begins_with (codes "script") row ≡ true) × (xs ≡ []) × (ss ≡ record { statements = later } ∷ more))
      ⊎ ((begins_with (codes "script") row ≡ false) × (added : Option Statement) × Adds lines k row added × (xs ≡ with_said added later) × (ss ≡ more))

  scripts_more : (xs ys : List Statement) (ss ts : List Script) → charges xs ≡ charges ys → burdens ss ≡ burdens ts → ◌≡◌ {A = List (List Charge)} (charges xs ∷ burdens ss) (charges ys ∷ burdens ts)
  scripts_more xs ys ss ts x s = cc

  bodies_same : (k : ℕ) (rows : List Row) (xs ys : List Statement) (ss ts : List Script) → Bodies lines k rows xs ss → Bodies lines k rows ys ts → AreSame xs ss ys ts
  bodies_same k [] xs ys ss ts a b = (ap charges (a.0 ∙ sym b.0), ap burdens (a.1 ∙ sym b.1))
  bodies_same k (row ∷ rows) xs ys ss ts a b = go a.3 b.3 (bodies_same (k + 1) rows a.0 b.0 a.1 b.1 a.2 b.2)
    where
      go : StepsSo k row a.0 a.1 xs ss → StepsSo k row b.0 b.1 ys ts → AreSame a.0 a.1 b.0 b.1 → AreSame xs ss ys ts
      go (inl x) (inl y) h = (ap charges (x.1 ∙ sym y.1), ap burdens x.2 ∙ scripts_more a.0 b.0 a.1 b.1 h.0 h.1 ∙ ap burdens (sym y.2))
      go (inl x) (inr y) h = no_both _ x.0 y.0
      go (inr x) (inl y) h = no_both _ y.0 x.0
      go (inr x) (inr y) h = (
        ap charges x.3 ∙ added_same k row x.1 y.1 a.0 b.0 x.2 y.2 h.0 ∙ ap charges (sym y.3),
        ap burdens x.4 ∙ h.1 ∙ ap burdens (sym y.4),
      )

  pub have_same : (a b : List Script) → HaveBodies lines a → HaveBodies lines b → works a ≡ works b
  have_same a b x y = works_same a b ((bodies_same 0 (map words lines) x.0 y.0 a b x.1 y.1).1)
