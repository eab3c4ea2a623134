-- lines without a fault are lines of the grammar
use Rattle.std.proofs.Common.{◌≡◌, inl, inr, ◌++◌, ℕ, zero, suc, ◌+◌, ◌<◌, ◌≤◌, true, List, [], ◌∷◌, length, drop, refl, sym, ap, ◌∙◌, arith, Some, None}
use Rattle.std.specs.Prelude.{codes, slice_get, nat_le, nat_lt}
use Rattle.std.proofs.lemmas.Bool.{ltb-true}
use Rattle.unix_calls.specs.declared.Start.{Start}
use Rattle.script_words.specs.declared.faults.Kind.TheVariants.{UnknownWord}
use Rattle.script_reader.specs.declared.names.Names.{Names}
use Rattle.script_reader.specs.declared.places.Place.{Place}
use Rattle.script_reader.specs.declared.lines.StartLine.{StartLine}
use Rattle.script_words.specs.Words.{Word, Row, found, is_same, word_at, name, number}
use Rattle.script_reader.specs.Names.{number_in}
use Rattle.script_reader.specs.Lines.{user, earlier_start, joined}
use Rattle.script_reader.specs.Files.{start_of}
use Rattle.script_laws.specs.Grammar.{IsName, Naming, IsCalled, IsFor, IsUser, Joins, SpellsStart}
use Rattle.script_laws.proofs.Results.{Gives, next, choice, gives, fails, found_there}
use Rattle.script_laws.proofs.Words.{same_words}
use Rattle.script_laws.proofs.Lines.{IsStartLine}
use Rattle.script_laws.proofs.Starts.{variable_there}
use Rattle.script_laws.proofs.Understood.{name_understood, number_understood, node_understood}
use Rattle.script_laws.proofs.Shapes.{opened, dropped, row_rest, ended_so, number_some, name_some}
use Rattle.script_laws.proofs.Said.{Follows, script_understood}

exists_at : (xs : List Start) (j : ℕ) → j < length xs → (s : Start) × (slice_get xs j ≡ Some s)
exists_at [] j lt = absurd (omega arith)
exists_at (x ∷ xs) zero lt = (x, refl)
exists_at (x ∷ xs) (suc j) lt = exists_at xs j (omega arith)

-- the user of a start, and what stands behind it
abbrev UserSo : Row → ℕ × ℕ → Type 0
UserSo row u = (users : Row) × (drop 4 row ≡ users ++ drop u.1 row) × IsUser users u.0

user_understood : (row : Row) → Gives (user row) (UserSo row)
unfolding user
user_understood row =
    choice (is_same (word_at row 4) (codes "uid")) _ _ (UserSo row) (λ s.
    next (number (word_at row 5)) _ (IsFor (word_at row 5)) (UserSo row) (number_understood (word_at row 5)) (λ n f.
    gives (n, 6) (UserSo row) (codes "uid" ∷ word_at row 5 ∷ [], there (same_words (word_at row 4) (codes "uid") s) n f, inr (word_at row 5, refl, f)))) (λ _.
    gives (0, 4) (UserSo row) ([], refl, inl (refl, refl)))
  where
    there : word_at row 4 ≡ codes "uid" → (n : ℕ) → IsFor (word_at row 5) n → drop 4 row ≡ codes "uid" ∷ word_at row 5 ∷ drop 6 row
    there w n f =
        opened row 4 (λ z. let h : codes "uid" ≡ [] = sym w ∙ z in cc) ∙ ap (λ (x : Word). x ∷ drop 5 row) w
        ∙ ap (λ (r : Row). codes "uid" ∷ r) (opened row 5 (number_some (word_at row 5) n f))

-- the starts of a part, each under its word
pub record AreKnown (names : Names) (all : List Start) : Type 0 where
  pub named : (i : ℕ) (s : Start) → slice_get all i ≡ Some s → (word : Word) × (number_in names.starts word ≡ Some i) × (number_in names.variables word ≡ Some s.var)
  pub one : (a b : Word) (n : ℕ) → number_in names.starts a ≡ Some n → number_in names.starts b ≡ Some n → a ≡ b

module _ (names : Names) (naming : Naming) (follows : Follows names naming) (all : List Start) (known : AreKnown names all) where
  abbrev IsEarlier : Place → Word → ℕ → Type 0
  IsEarlier place word j = IsName word × (number_in names.starts word ≡ Some j) × (j < place.starts)

  earlier_start_understood : (place : Place) (word : Word) → Gives (earlier_start names place word) (IsEarlier place word)
  unfolding earlier_start
  earlier_start_understood place word =
      next (name word) _ (λ u. IsName word) (IsEarlier place word) (record { fact = λ u e. name_understood word u e }) (λ u is.
      next (found (number_in names.starts word) UnknownWord) _ (λ n. number_in names.starts word ≡ Some n) (IsEarlier place word) (found_there (number_in names.starts word) UnknownWord) (λ n e.
      choice (nat_lt n place.starts) _ _ (IsEarlier place word) (λ lt. gives n (IsEarlier place word) (is, e, ltb-true n place.starts lt)) (λ _. fails UnknownWord (IsEarlier place word))))

  joined_understood : (place : Place) (count : ℕ) (row : Row) → place.starts ≤ length all → Gives (joined names place count row) (Joins naming all (drop count row))
  unfolding joined
  joined_understood place count row few =
      choice (nat_le (length row) count) _ _ (Joins naming all (drop count row)) (λ e. gives None (Joins naming all (drop count row)) (dropped row count e)) (λ _.
      choice (is_same (word_at row count) (codes "with")) _ _ (Joins naming all (drop count row)) (λ s.
      next (earlier_start names place (word_at row (count + 1))) _ (IsEarlier place (word_at row (count + 1))) (Joins naming all (drop count row)) (earlier_start_understood place (word_at row (count + 1))) (λ j h.
      ended_so row (count + 2) (Some j) (Joins naming all (drop count row)) (λ e. joins j (same_words (word_at row count) (codes "with") s) h.0 h.1 h.2 e))) (λ _. fails UnknownWord (Joins naming all (drop count row))))
    where
      one_more : count + 1 ≡ suc count
      one_more = omega arith

      two_more : count + 2 ≡ suc (suc count)
      two_more = omega arith

      shape : (word : Word) → word_at row count ≡ codes "with" → word_at row (suc count) ≡ word → (word ≡ [] → ⊥) → nat_le (length row) (suc (suc count)) ≡ true → drop count row ≡ codes "with" ∷ word ∷ []
      shape word w v ne e =
          opened row count (λ z. let h : codes "with" ≡ [] = sym w ∙ z in cc) ∙ ap (λ (x : Word). x ∷ drop (suc count) row) w
          ∙ ap (λ (r : Row). codes "with" ∷ r) (opened row (suc count) (λ z. ne (sym v ∙ z)) ∙ ap (λ (x : Word). x ∷ drop (suc (suc count)) row) v ∙ ap (λ (r : Row). word ∷ r) (dropped row (suc (suc count)) e))

      joins : (j : ℕ) → word_at row count ≡ codes "with" → IsName (word_at row (count + 1)) → number_in names.starts (word_at row (count + 1)) ≡ Some j → j < place.starts → nat_le (length row) (count + 2) ≡ true → Joins naming all (drop count row) (Some j)
      joins j w is e lt le =
          let x = exists_at all j (omega arith) in
          let m = known.named j x.0 x.1 in
          let same : m.0 ≡ word_at row (count + 1) = known.one m.0 (word_at row (count + 1)) j m.1 e in
          let called : IsCalled naming.variables (word_at row (count + 1)) x.0.var = follows.variables (word_at row (count + 1)) x.0.var (ap (number_in names.variables) (sym same) ∙ m.2) in
          (word_at row (count + 1), x.0, shape (word_at row (count + 1)) w (ap (word_at row) (sym one_more)) (name_some (word_at row (count + 1)) is) (ap (nat_le (length row)) (sym two_more) ∙ le), x.1, called)

  -- a start without a fault
  pub start_said : (place : Place) (row : Row) (s : StartLine) (earlier : List Start) → word_at row 0 ≡ codes "start" → IsStartLine names place row s → place.starts ≤ length all → SpellsStart naming all row (start_of earlier s)
  unfolding start_of
  start_said place row s earlier w l few =
      let site = (node_understood place.nodes (word_at row 1)).fact s.node l.node in
      let runs = (script_understood names naming follows (word_at row 2)).fact s.script l.script in
      let v = follows.variables (word_at row 3) s.var (variable_there names place (word_at row 3) s.var l.var).1 in
      let u = (user_understood row).fact (s.uid, l.count) l.uid in
      let j = (joined_understood place l.count row few).fact s.joined l.joined in
      record {
        site = word_at row 1;
        name = word_at row 2;
        variable = word_at row 3;
        user = u.0;
        other = drop l.count row;
        is = row_rest row (codes "start") w (λ e. cc) (number_some (word_at row 1) s.node site) (name_some (word_at row 2) (follows.script_name (word_at row 2) s.script runs))
            ∙ ap (λ (r : Row). codes "start" ∷ word_at row 1 ∷ word_at row 2 ∷ r) (opened row 3 (name_some (word_at row 3) (follows.variable_name (word_at row 3) s.var v)) ∙ ap (λ (r : Row). word_at row 3 ∷ r) u.1);
        node = site;
        script = runs;
        var = v;
        uid = u.2;
        joined = j;
      }
