-- the names that the reader gathers, at a line among all lines
use Rattle.std.proofs.Common.{◌≡◌, ◌++◌, ℕ, ◌-◌, ◌<◌, ◌≤◌, true, false, List, [], ◌∷◌, length, drop, sym, ap, ◌∙◌, subst, arith, append_assoc, Some, None}
use Rattle.std.specs.Prelude.{codes, slice_get, Contains}
use Rattle.std.proofs.lemmas.List.{take-append-drop, length-take-le}
use Rattle.std.proofs.lemmas.List.Elements.{Contains-append_left, Contains-append_right}
use Rattle.script_words.specs.Words.{Word, Row, word_at}
use Rattle.script_reader.specs.Names.{number_in}
use Rattle.script_reader.specs.Lines.{is_numbered}
use Rattle.script_reader.specs.Files.{begins_with, words_behind, listed, gather}
use Rattle.script_laws.proofs.Orders.{listed-append}
use Rattle.fault_laws.specs.Context.{script_names, start_names, variable_names, earlier_names}
use Rattle.fault_laws.proofs.Positions.{contains_at, seam_at, numbered_contained, numbered_not, numbered_front, numbered_back, unnumbered_front, numbered_new, numbered_old, listed_contained, listed_not}
use Rattle.fault_laws.proofs.Places.{words_behind-append, words_behind-cons}

-- a line among the lines before it and behind it
module _ (rows before : List Row) (row : Row) (rest : List Row) (is : rows ≡ before ++ row ∷ rest) where
  -- the words that lines give are those of the lines before, and others
  given_before : (first : Word) (at : ℕ) → words_behind first at rows ≡ words_behind first at before ++ words_behind first at (row ∷ rest)
  given_before first at = ap (words_behind first at) is ∙ words_behind-append first at before (row ∷ rest)

  -- and where this line gives one, it comes next
  given_here : (first : Word) (at : ℕ) → begins_with first row ≡ true → words_behind first at rows ≡ words_behind first at before ++ word_at row at ∷ words_behind first at rest
  given_here first at e = given_before first at ∙ ap (λ (ws : List Word). words_behind first at before ++ ws) (words_behind-cons first at row rest e)

  contains_here : (first : Word) (at : ℕ) → begins_with first row ≡ true → Contains (words_behind first at rows) (word_at row at)
  contains_here first at e =
      contains_at (words_behind first at rows) (word_at row at) (length (words_behind first at before))
      (ap (λ (ws : List Word). slice_get ws (length (words_behind first at before))) (given_here first at e) ∙ seam_at (words_behind first at before) (words_behind first at rest) (word_at row at))

  -- ---- scripts
  pub script_known : (word : Word) (n : ℕ) → number_in (gather rows).scripts word ≡ Some n → Contains (script_names rows) word
  unfolding gather
  script_known word n e = numbered_contained (script_names rows) word n e

  pub script_unknown : (word : Word) → number_in (gather rows).scripts word ≡ None → ¬ Contains (script_names rows) word
  unfolding gather
  script_unknown word e = numbered_not (script_names rows) word e

  -- the scripts before the one that is open
  earlier_before : script_names rows ≡ earlier_names before ++ (drop (length (script_names before) - 1) (script_names before) ++ words_behind (codes "script") 1 (row ∷ rest))
  earlier_before =
      given_before (codes "script") 1 ∙ ap (λ (ws : List Word). ws ++ words_behind (codes "script") 1 (row ∷ rest)) (sym (take-append-drop (length (script_names before) - 1) (script_names before)))
      ∙ append_assoc (earlier_names before) (drop (length (script_names before) - 1) (script_names before)) (words_behind (codes "script") 1 (row ∷ rest))

  earlier_counted : length (earlier_names before) ≡ length (script_names before) - 1
  earlier_counted = length-take-le (length (script_names before) - 1) (script_names before) (omega arith)

  pub script_earlier : (word : Word) (n : ℕ) → number_in (gather rows).scripts word ≡ Some n → n < length (script_names before) - 1 → Contains (earlier_names before) word
  unfolding gather
  script_earlier word n e lt = numbered_front (earlier_names before) _ (script_names rows) earlier_before word n e (subst (λ (m : ℕ). n < m) (sym earlier_counted) lt)

  pub script_later : (word : Word) (n : ℕ) → number_in (gather rows).scripts word ≡ Some n → length (script_names before) - 1 ≤ n → ¬ Contains (earlier_names before) word
  unfolding gather
  script_later word n e le = numbered_back (earlier_names before) _ (script_names rows) earlier_before word n e (subst (λ (m : ℕ). m ≤ n) (sym earlier_counted) le)

  pub script_new : begins_with (codes "script") row ≡ true → is_numbered (gather rows).scripts (word_at row 1) (length (script_names before)) ≡ true → ¬ Contains (script_names before) (word_at row 1)
  unfolding gather
  script_new b e = numbered_new (script_names before) _ (script_names rows) (word_at row 1) (given_here (codes "script") 1 b) e

  pub script_old : begins_with (codes "script") row ≡ true → is_numbered (gather rows).scripts (word_at row 1) (length (script_names before)) ≡ false → Contains (script_names before) (word_at row 1)
  unfolding gather
  script_old b e = numbered_old (script_names before) _ (script_names rows) (word_at row 1) (given_here (codes "script") 1 b) e

  -- ---- variables
  variables_listed : (gather rows).variables ≡ listed [] (variable_names rows)
  unfolding gather
  variables_listed = listed-append [] (words_behind (codes "fork") 1 rows) (start_names rows)

  pub variable_known : (word : Word) (n : ℕ) → number_in (gather rows).variables word ≡ Some n → Contains (variable_names rows) word
  variable_known word n e = listed_contained (variable_names rows) word n (ap (λ t. number_in t word) (sym variables_listed) ∙ e)

  pub variable_unknown : (word : Word) → number_in (gather rows).variables word ≡ None → ¬ Contains (variable_names rows) word
  variable_unknown word e = listed_not (variable_names rows) word (ap (λ t. number_in t word) (sym variables_listed) ∙ e)

  pub forked : begins_with (codes "fork") row ≡ true → ¬ (number_in (gather rows).variables (word_at row 1) ≡ None)
  forked b e = variable_unknown (word_at row 1) e (Contains-append_left (words_behind (codes "fork") 1 rows) (start_names rows) (word_at row 1) (contains_here (codes "fork") 1 b))

  pub started : begins_with (codes "start") row ≡ true → ¬ (number_in (gather rows).variables (word_at row 3) ≡ None)
  started b e = variable_unknown (word_at row 3) e (Contains-append_right (words_behind (codes "fork") 1 rows) (start_names rows) (word_at row 3) (contains_here (codes "start") 3 b))

  -- ---- starts
  pub start_new : begins_with (codes "start") row ≡ true → is_numbered (gather rows).starts (word_at row 3) (length (start_names before)) ≡ true → ¬ Contains (start_names before) (word_at row 3)
  unfolding gather
  start_new b e = numbered_new (start_names before) _ (start_names rows) (word_at row 3) (given_here (codes "start") 3 b) e

  pub start_old : begins_with (codes "start") row ≡ true → is_numbered (gather rows).starts (word_at row 3) (length (start_names before)) ≡ false → Contains (start_names before) (word_at row 3)
  unfolding gather
  start_old b e = numbered_old (start_names before) _ (start_names rows) (word_at row 3) (given_here (codes "start") 3 b) e

  pub start_earlier : (word : Word) (n : ℕ) → number_in (gather rows).starts word ≡ Some n → n < length (start_names before) → Contains (start_names before) word
  unfolding gather
  start_earlier word n e lt = numbered_front (start_names before) _ (start_names rows) (given_before (codes "start") 3) word n e lt

  pub start_later : (word : Word) (n : ℕ) → number_in (gather rows).starts word ≡ Some n → length (start_names before) ≤ n → ¬ Contains (start_names before) word
  unfolding gather
  start_later word n e le = numbered_back (start_names before) _ (start_names rows) (given_before (codes "start") 3) word n e le

  pub start_unknown : (word : Word) → number_in (gather rows).starts word ≡ None → ¬ Contains (start_names before) word
  unfolding gather
  start_unknown word e = unnumbered_front (start_names before) _ (start_names rows) (given_before (codes "start") 3) word e
