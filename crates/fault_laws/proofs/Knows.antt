-- what the reader knows of a line: the place and the names that it carries are what stands around the line
use Rattle.std.proofs.Common.{◌≡◌, ℕ, ◌-◌, ◌<◌, ◌≤◌, true, false, List, [], length, Some, None, All}
use Rattle.std.specs.Prelude.{codes, Contains}
use Rattle.script_words.specs.Words.{Word, Row, word_at}
use Rattle.script_reader.specs.declared.names.Names.{Names}
use Rattle.script_reader.specs.declared.places.Place.{Place}
use Rattle.script_reader.specs.Names.{number_in}
use Rattle.script_reader.specs.Lines.{is_numbered}
use Rattle.script_reader.specs.Files.{begins_with}
use Rattle.fault_laws.specs.Context.{is_begun, nodes_in, is_open, statement_count, script_names, start_names, variable_names, earlier_names}

-- the words of a line: none is empty
abbrev pub AreWords : Row → Type 0
AreWords row = All (λ word. ¬ (word ≡ [])) row

-- rows are the words of all lines, before those of the lines before this one
pub record Knows (names : Names) (place : Place) (rows before : List Row) (row : Row) : Type 0 where
  pub begun : place.begun ≡ is_begun before
  pub nodes : place.begun ≡ true → place.nodes ≡ nodes_in rows
  pub open' : place.is_open ≡ is_open before
  pub scripts : place.scripts ≡ length (script_names before)
  pub statements : place.is_open ≡ true → place.statements ≡ statement_count before
  pub starts : place.starts ≡ length (start_names before)
  -- scripts
  pub script_known : (word : Word) (n : ℕ) → number_in names.scripts word ≡ Some n → Contains (script_names rows) word
  pub script_unknown : (word : Word) → number_in names.scripts word ≡ None → ¬ Contains (script_names rows) word
  pub script_earlier : (word : Word) (n : ℕ) → number_in names.scripts word ≡ Some n → n < place.scripts - 1 → Contains (earlier_names before) word
  pub script_later : (word : Word) (n : ℕ) → number_in names.scripts word ≡ Some n → place.scripts - 1 ≤ n → ¬ Contains (earlier_names before) word
  pub script_new : begins_with (codes "script") row ≡ true → is_numbered names.scripts (word_at row 1) place.scripts ≡ true → ¬ Contains (script_names before) (word_at row 1)
  pub script_old : begins_with (codes "script") row ≡ true → is_numbered names.scripts (word_at row 1) place.scripts ≡ false → Contains (script_names before) (word_at row 1)
  -- variables
  pub variable_known : (word : Word) (n : ℕ) → number_in names.variables word ≡ Some n → Contains (variable_names rows) word
  pub variable_unknown : (word : Word) → number_in names.variables word ≡ None → ¬ Contains (variable_names rows) word
  pub forked : begins_with (codes "fork") row ≡ true → ¬ (number_in names.variables (word_at row 1) ≡ None)
  pub started : begins_with (codes "start") row ≡ true → ¬ (number_in names.variables (word_at row 3) ≡ None)
  -- starts
  pub start_new : begins_with (codes "start") row ≡ true → is_numbered names.starts (word_at row 3) place.starts ≡ true → ¬ Contains (start_names before) (word_at row 3)
  pub start_old : begins_with (codes "start") row ≡ true → is_numbered names.starts (word_at row 3) place.starts ≡ false → Contains (start_names before) (word_at row 3)
  pub start_earlier : (word : Word) (n : ℕ) → number_in names.starts word ≡ Some n → n < place.starts → Contains (start_names before) word
  pub start_later : (word : Word) (n : ℕ) → number_in names.starts word ≡ Some n → place.starts ≤ n → ¬ Contains (start_names before) word
  pub start_unknown : (word : Word) → number_in names.starts word ≡ None → ¬ Contains (start_names before) word
