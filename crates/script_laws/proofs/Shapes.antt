-- statements that are read are statements of the grammar
use Rattle.std.proofs.Common.{◌≡◌, inl, inr, ℕ, zero, suc, ◌≤◌, Bool, true, false, [], ◌∷◌, length, drop, refl, sym, ap, ◌∙◌, subst, arith, Option, Some, None}
use Rattle.std.specs.Prelude.{codes, nat_le}
use Rattle.std.proofs.lemmas.Bool.{leb-true}
use Rattle.unix_names.specs.declared.Signal.{Signal}
use Rattle.unix_names.specs.declared.Signal.TheVariants.{Hup}
use Rattle.unix_names.specs.Signals.{word_of}
use Rattle.script_words.specs.declared.faults.Kind.TheVariants.{UnknownWord}
use Rattle.script_words.specs.Words.{Word, Row, found, is_same, word_at, ended, node}
use Rattle.script_words.specs.Table.{changes_in}
use Rattle.script_reader.specs.Statements.{changes, site}
use Rattle.script_laws.specs.Grammar.{change_words, IsName, IsFor, IsForSignalNumber, IsSite}
use Rattle.script_laws.proofs.Results.{Gives, next, choice, gives, fails, found_there, weaker}
use Rattle.script_laws.proofs.Words.{same_words}
use Rattle.script_laws.proofs.Understood.{node_understood}

-- ---- rows by their words
pub opened : (row : Row) (k : ℕ) → (word_at row k ≡ [] → ⊥) → drop k row ≡ word_at row k ∷ drop (suc k) row
unfolding word_at
opened [] zero ne = absurd (ne refl)
opened [] (suc k) ne = absurd (ne refl)
opened (w ∷ ws) zero ne = refl
opened (w ∷ ws) (suc k) ne = opened ws k ne

dropped_all : (row : Row) (k : ℕ) → length row ≤ k → drop k row ≡ []
dropped_all [] zero le = refl
dropped_all [] (suc k) le = refl
dropped_all (w ∷ ws) zero le = absurd (omega arith)
dropped_all (w ∷ ws) (suc k) le = dropped_all ws k (omega arith)

pub dropped : (row : Row) (k : ℕ) → nat_le (length row) k ≡ true → drop k row ≡ []
dropped row k e = dropped_all row k (leb-true (length row) k e)

pub at_first : (row : Row) (a : Word) → word_at row 0 ≡ a → (a ≡ [] → ⊥) → row ≡ a ∷ drop 1 row
at_first row a w ne = opened row 0 (λ e. ne (sym w ∙ e)) ∙ ap (λ (x : Word). x ∷ drop 1 row) w

pub row_1 : (row : Row) (a : Word) → word_at row 0 ≡ a → (a ≡ [] → ⊥) → nat_le (length row) 1 ≡ true → row ≡ a ∷ []
row_1 row a w ne le = at_first row a w ne ∙ ap (λ (r : Row). a ∷ r) (dropped row 1 le)

pub row_2 : (row : Row) (a : Word) → word_at row 0 ≡ a → (a ≡ [] → ⊥) → (word_at row 1 ≡ [] → ⊥) → nat_le (length row) 2 ≡ true → row ≡ a ∷ word_at row 1 ∷ []
row_2 row a w ne n1 le = at_first row a w ne ∙ ap (λ (r : Row). a ∷ r) (opened row 1 n1 ∙ ap (λ (r : Row). word_at row 1 ∷ r) (dropped row 2 le))

pub row_more : (row : Row) (a : Word) → word_at row 0 ≡ a → (a ≡ [] → ⊥) → (word_at row 1 ≡ [] → ⊥) → row ≡ a ∷ word_at row 1 ∷ drop 2 row
row_more row a w ne n1 = at_first row a w ne ∙ ap (λ (r : Row). a ∷ r) (opened row 1 n1)

pub row_rest : (row : Row) (a : Word) → word_at row 0 ≡ a → (a ≡ [] → ⊥) → (word_at row 1 ≡ [] → ⊥) → (word_at row 2 ≡ [] → ⊥) → row ≡ a ∷ word_at row 1 ∷ word_at row 2 ∷ drop 3 row
row_rest row a w ne n1 n2 = row_more row a w ne n1 ∙ ap (λ (r : Row). a ∷ word_at row 1 ∷ r) (opened row 2 n2)

pub row_3 : (row : Row) (a : Word) → word_at row 0 ≡ a → (a ≡ [] → ⊥) → (word_at row 1 ≡ [] → ⊥) → (word_at row 2 ≡ [] → ⊥) → nat_le (length row) 3 ≡ true → row ≡ a ∷ word_at row 1 ∷ word_at row 2 ∷ []
row_3 row a w ne n1 n2 le = row_rest row a w ne n1 n2 ∙ ap (λ (r : Row). a ∷ word_at row 1 ∷ word_at row 2 ∷ r) (dropped row 3 le)

pub ended_so : {A : Type 0} (row : Row) (n : ℕ) (x : A) (P : A → Type 0) → (nat_le (length row) n ≡ true → P x) → Gives (ended row n x) P
unfolding ended
ended_so row n x P p = choice (nat_le (length row) n) _ _ P (λ e. gives x P (p e)) (λ _. fails UnknownWord P)

-- ---- words that are there
pub number_some : (word : Word) (n : ℕ) → IsFor word n → word ≡ [] → ⊥
number_some word n f e = none (subst (λ (w : Word). 1 ≤ length w) e f.0.some)
  where
    none : 1 ≤ 0 → ⊥
    none le = omega arith

pub name_some : (word : Word) → IsName word → word ≡ [] → ⊥
name_some word n e = let h : n.form.letter ∷ n.form.others ≡ [] = sym n.form.is ∙ e in cc

signal_some : (s : Signal) → word_of s ≡ [] → ⊥
signal_some Hup e = cc
signal_some _ e = cc

pub signal_number_some : (word : Word) (n : ℕ) → IsForSignalNumber word n → word ≡ [] → ⊥
signal_number_some word n (inl h) e = signal_some h.0 (sym h.1 ∙ e)
signal_number_some word n (inr h) e = number_some word n h e

some_same : (x y : Bool × Bool) → ◌≡◌ {A = Option (Bool × Bool)} (Some x) (Some y) → x ≡ y
some_same x y e = cc

none_some : (y : Bool × Bool) → ◌≡◌ {A = Option (Bool × Bool)} None (Some y) → ⊥
none_some y e = cc

-- the words that ask for changes of a child are those of the grammar
changes_spelled : (row : Row) (asked : Bool × Bool) → changes_in row ≡ Some asked → row ≡ change_words asked.0 asked.1
unfolding changes_in
changes_spelled [] asked e = subst (λ (c : Bool × Bool). [] ≡ change_words c.0 c.1) (some_same (false, false) asked e) refl
changes_spelled (only ∷ []) asked e = go (is_same only (codes "stopped")) (is_same only (codes "continued")) refl refl
  where
    Asked : Bool × Bool → Type 0
    Asked c = only ∷ [] ≡ change_words c.0 c.1

    go : (s c : Bool) → is_same only (codes "stopped") ≡ s → is_same only (codes "continued") ≡ c → only ∷ [] ≡ change_words asked.0 asked.1
    go true c es ec = subst Asked (some_same (true, false) asked (rw es at e)) (ap (λ (w : Word). w ∷ []) (same_words only (codes "stopped") es))
    go false true es ec = subst Asked (some_same (false, true) asked (rw (es, ec) at e)) (ap (λ (w : Word). w ∷ []) (same_words only (codes "continued") ec))
    go false false es ec = absurd (none_some asked (rw (es, ec) at e))
changes_spelled (first ∷ second ∷ []) asked e = go (is_same first (codes "stopped")) (is_same second (codes "continued")) refl refl
  where
    Asked : Bool × Bool → Type 0
    Asked c = first ∷ second ∷ [] ≡ change_words c.0 c.1

    go : (s c : Bool) → is_same first (codes "stopped") ≡ s → is_same second (codes "continued") ≡ c → first ∷ second ∷ [] ≡ change_words asked.0 asked.1
    go true true es ec =
        subst Asked (some_same (true, true) asked (rw (es, ec) at e))
        (ap (λ (w : Word). w ∷ second ∷ []) (same_words first (codes "stopped") es) ∙ ap (λ (w : Word). codes "stopped" ∷ w ∷ []) (same_words second (codes "continued") ec))
    go true false es ec = absurd (none_some asked (rw (es, ec) at e))
    go false c es ec = absurd (none_some asked (rw es at e))
changes_spelled (first ∷ second ∷ third ∷ more) asked e = absurd (none_some asked e)

pub change_understood : (row : Row) → Gives (changes row) (λ c. drop 2 row ≡ change_words c.0 c.1)
unfolding changes
change_understood row =
    weaker (found (changes_in (drop 2 row)) UnknownWord) (λ c. changes_in (drop 2 row) ≡ Some c) (λ c. drop 2 row ≡ change_words c.0 c.1)
    (found_there (changes_in (drop 2 row)) UnknownWord) (λ c e. changes_spelled (drop 2 row) c e)

pub site_understood : (nodes : ℕ) (row : Row) → Gives (site nodes row) (IsSite (drop 3 row))
unfolding site
site_understood nodes row =
    choice (nat_le (length row) 3) _ _ (IsSite (drop 3 row)) (λ e. gives None (IsSite (drop 3 row)) (dropped row 3 e)) (λ _.
    choice (is_same (word_at row 3) (codes "at")) _ _ (IsSite (drop 3 row)) (λ s.
    next (node nodes (word_at row 4)) _ (IsFor (word_at row 4)) (IsSite (drop 3 row)) (node_understood nodes (word_at row 4)) (λ n f.
    ended_so row 5 (Some (record { 0 = n })) (IsSite (drop 3 row)) (λ e. (word_at row 4, at_site (same_words (word_at row 3) (codes "at") s) n f e, f)))) (λ _. fails UnknownWord (IsSite (drop 3 row))))
  where
    at_site : word_at row 3 ≡ codes "at" → (n : ℕ) → IsFor (word_at row 4) n → nat_le (length row) 5 ≡ true → drop 3 row ≡ codes "at" ∷ word_at row 4 ∷ []
    at_site w n f e =
        opened row 3 (λ z. let h : codes "at" ≡ [] = sym w ∙ z in cc) ∙ ap (λ (x : Word). x ∷ drop 4 row) w
        ∙ ap (λ (r : Row). codes "at" ∷ r) (opened row 4 (number_some (word_at row 4) n f) ∙ ap (λ (r : Row). word_at row 4 ∷ r) (dropped row 5 e))
