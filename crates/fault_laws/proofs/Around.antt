-- the place and the names that the reader carries are what stands around each line
use Rattle.std.proofs.Common.{◌≡◌, ◌==◌, ◌++◌, ℕ, zero, suc, ◌-◌, ◌<◌, ◌≤◌, true, false, not, List, [], ◌∷◌, length, take, refl, sym, ap, ◌∙◌, subst, arith, Option, Some, Ok}
use Rattle.std.specs.Prelude.{slice_get, map}
use Rattle.std.specs.List.{slice_split}
use Rattle.std.specs.Option.{option_map}
use Rattle.std.specs.Str.{is_utf8}
use Rattle.std.proofs.lemmas.List.{take-map}
use Rattle.std.proofs.lemmas.List.Elements.{All-weaker, filter_passes}
use Rattle.std.proofs.lemmas.Option.{slice_get-map}
use Rattle.byte_ends.specs.Text.{is_blank, words}
use Rattle.script_words.specs.Words.{Word, Row, word_at, is_skipped}
use Rattle.script_reader.specs.declared.names.Names.{Names}
use Rattle.script_reader.specs.declared.places.Place.{Place}
use Rattle.script_reader.specs.declared.lines.Item.TheVariants as item
use Rattle.script_reader.specs.Lines.{is_numbered, cluster_line, read_line, place_after}
use Rattle.script_reader.specs.Files.{Told, first_place, tells, place_behind}
use Rattle.script_laws.proofs.Numbered.{rows_of, rows_told}
use Rattle.script_laws.proofs.Parts.{names_of, told_of}
use Rattle.fault_laws.specs.Context.{is_begun, nodes_in, is_open, start_names}
use Rattle.fault_laws.proofs.Knows.{AreWords, Knows}
use Rattle.fault_laws.proofs.Places.{Follows, first_follows, follows_lines}
use Rattle.fault_laws.proofs.Nodes.{nodes_behind, nodes_said}
use Rattle.fault_laws.proofs.Names.{script_known, script_unknown, script_earlier, script_later, script_new, script_old, variable_known, variable_unknown, forked, started, start_new, start_old, start_earlier, start_later, start_unknown}

-- where the line behind so many others stands
abbrev pub place_at : List (List ℕ) → ℕ → Place
place_at lines k = place_behind first_place (take k (told_of lines))

-- the first line that says something is that of the cluster, without a fault
pub record HasCluster (lines : List (List ℕ)) : Type 0 where
  pub j : ℕ
  pub line : List ℕ
  pub n : ℕ
  pub there : slice_get lines j ≡ Some line
  pub first : is_begun (take j (map words lines)) ≡ false
  pub is_text : is_utf8 line ≡ true
  pub says : is_skipped (words line) ≡ false
  pub counts : cluster_line (words line) ≡ Ok (item.Nodes n)

-- ---- words
some_word : (word : List ℕ) → not (length word == 0) ≡ true → ¬ (word ≡ [])
some_word word e is = let z : not (length word == 0) ≡ false = ap (λ (w : List ℕ). not (length w == 0)) is in absurd (cc)

pub words_full : (line : List ℕ) → AreWords (words line)
words_full line = All-weaker _ (λ word. ¬ (word ≡ [])) some_word (words line) (filter_passes (λ word. not (length word == 0)) (slice_split is_blank line))

-- ---- what is told of a line
same_line : (a b : List ℕ) → ◌≡◌ {A = Option (List ℕ)} (Some a) (Some b) → a ≡ b
same_line a b e = cc

same_told : (a b : Told) → ◌≡◌ {A = Option Told} (Some a) (Some b) → a ≡ b
same_told a b e = cc

-- what is told of a line behind so many others
abbrev told_behind : Names → Place → List (List ℕ) → ℕ → List ℕ → Told
told_behind names place lines k line = (words line, read_line names (place_behind place (take k (tells names place lines))) line)

tells_at : (names : Names) (place : Place) (lines : List (List ℕ)) (k : ℕ) (line : List ℕ) → slice_get lines k ≡ Some line → slice_get (tells names place lines) k ≡ Some (told_behind names place lines k line)
unfolding tells place_behind
tells_at names place [] k line e = cc
tells_at names place (line' ∷ lines) zero line e = ap (λ (l : List ℕ). Some (words l, read_line names place l)) (same_line line' line e)
tells_at names place (line' ∷ lines) (suc k) line e = tells_at names (place_after place (words line') (read_line names place line')) lines k line e

tells_from : (names : Names) (place : Place) (lines : List (List ℕ)) (k : ℕ) (t : Told) → slice_get (tells names place lines) k ≡ Some t → (line : List ℕ) × (slice_get lines k ≡ Some line) × (t ≡ told_behind names place lines k line)
unfolding tells place_behind
tells_from names place [] k t e = cc
tells_from names place (line ∷ lines) zero t e = (line, refl, sym (same_told (words line, read_line names place line) t e))
tells_from names place (line ∷ lines) (suc k) t e = tells_from names (place_after place (words line) (read_line names place line)) lines k t e

pub told_at : (lines : List (List ℕ)) (k : ℕ) (line : List ℕ) → slice_get lines k ≡ Some line → slice_get (told_of lines) k ≡ Some (words line, read_line (names_of lines) (place_at lines k) line)
told_at lines k line e = tells_at (names_of lines) first_place lines k line e

pub line_told : (lines : List (List ℕ)) (k : ℕ) (t : Told) → slice_get (told_of lines) k ≡ Some t → (line : List ℕ) × (slice_get lines k ≡ Some line) × (t ≡ (words line, read_line (names_of lines) (place_at lines k) line))
line_told lines k t e = tells_from (names_of lines) first_place lines k t e

-- ---- what stands around a line
-- the words of a line among those of all lines
row_at : (lines : List (List ℕ)) (k : ℕ) (line : List ℕ) → slice_get lines k ≡ Some line → slice_get (map words lines) k ≡ Some (words line)
row_at lines k line e = slice_get-map words lines k ∙ ap (option_map words) e

-- lines are those before one, this one, and others
split_at : (rows : List Row) (k : ℕ) (row : Row) → slice_get rows k ≡ Some row → (rest : List Row) × (rows ≡ take k rows ++ row ∷ rest)
split_at [] k row e = cc
split_at (row' ∷ rows) zero row e = let is : row' ≡ row = cc in (rows, ap (λ (r : Row). r ∷ rows) is)
split_at (row' ∷ rows) (suc k) row e = let s = split_at rows k row e in (s.0, ap (λ (rs : List Row). row' ∷ rs) s.1)

follows_at : (lines : List (List ℕ)) (k : ℕ) → Follows (place_at lines k) (take k (map words lines))
follows_at lines k =
    let rows : rows_of (take k (told_of lines)) ≡ take k (map words lines) = sym (take-map (λ (t : Told). t.0) k (told_of lines)) ∙ ap (take k) (rows_told (names_of lines) first_place lines) in
    subst (Follows (place_at lines k)) rows (follows_lines (take k (told_of lines)) first_place [] first_follows)

nodes_known : (lines : List (List ℕ)) (k : ℕ) → HasCluster lines → (place_at lines k).begun ≡ true → (place_at lines k).nodes ≡ nodes_in (map words lines)
nodes_known lines k c b =
    nodes_behind (names_of lines) first_place lines c.j c.line c.n refl c.there c.first c.is_text c.says c.counts k b
    ∙ sym (nodes_said (map words lines) c.j (words c.line) c.n (row_at lines c.j c.line c.there) c.first c.says c.counts)

pub knows_at : (lines : List (List ℕ)) (k : ℕ) (line : List ℕ) → slice_get lines k ≡ Some line → (is_begun (take k (map words lines)) ≡ true → HasCluster lines)
    → Knows (names_of lines) (place_at lines k) (map words lines) (take k (map words lines)) (words line)
knows_at lines k line e cluster =
    let rows : List Row = map words lines in
    let before : List Row = take k (map words lines) in
    let f = follows_at lines k in
    let s = split_at (map words lines) k (words line) (row_at lines k line e) in
    record {
      begun = f.begun;
      nodes = λ b. nodes_known lines k (cluster (sym f.begun ∙ b)) b;
      open' = f.open';
      scripts = f.scripts;
      statements = f.statements;
      starts = f.starts;
      script_known = script_known rows before (words line) s.0 s.1;
      script_unknown = script_unknown rows before (words line) s.0 s.1;
      script_earlier = λ word n h lt. script_earlier rows before (words line) s.0 s.1 word n h (subst (λ (m : ℕ). n < m - 1) f.scripts lt);
      script_later = λ word n h le. script_later rows before (words line) s.0 s.1 word n h (subst (λ (m : ℕ). m - 1 ≤ n) f.scripts le);
      script_new = λ b h. script_new rows before (words line) s.0 s.1 b (subst (λ (m : ℕ). is_numbered (names_of lines).scripts (word_at (words line) 1) m ≡ true) f.scripts h);
      script_old = λ b h. script_old rows before (words line) s.0 s.1 b (subst (λ (m : ℕ). is_numbered (names_of lines).scripts (word_at (words line) 1) m ≡ false) f.scripts h);
      variable_known = variable_known rows before (words line) s.0 s.1;
      variable_unknown = variable_unknown rows before (words line) s.0 s.1;
      forked = forked rows before (words line) s.0 s.1;
      started = started rows before (words line) s.0 s.1;
      start_new = λ b h. start_new rows before (words line) s.0 s.1 b (subst (λ (m : ℕ). is_numbered (names_of lines).starts (word_at (words line) 3) m ≡ true) f.starts h);
      start_old = λ b h. start_old rows before (words line) s.0 s.1 b (subst (λ (m : ℕ). is_numbered (names_of lines).starts (word_at (words line) 3) m ≡ false) f.starts h);
      start_earlier = λ word n h lt. start_earlier rows before (words line) s.0 s.1 word n h (subst (λ (m : ℕ). n < m) f.starts lt);
      start_later = λ word n h le. start_later rows before (words line) s.0 s.1 word n h (subst (λ (m : ℕ). m ≤ n) f.starts le);
      start_unknown = start_unknown rows before (words line) s.0 s.1;
    }

-- ---- behind the whole part
pub record KnowsEnd (lines : List (List ℕ)) (place : Place) : Type 0 where
  pub begun : place.begun ≡ is_begun (map words lines)
  pub open' : place.is_open ≡ is_open (map words lines)
  pub starts : (place.starts ≡ 0 → start_names (map words lines) ≡ []) × (start_names (map words lines) ≡ [] → place.starts ≡ 0)

none_given : (words : List Word) (n : ℕ) → n ≡ length words → (n ≡ 0 → words ≡ []) × (words ≡ [] → n ≡ 0)
none_given [] n e = (λ z. refl, λ z. e)
none_given (w ∷ ws) n e = (λ z. absurd (omega arith), λ z. absurd (cc))

pub knows_end : (lines : List (List ℕ)) → KnowsEnd lines (place_behind first_place (told_of lines))
knows_end lines =
    let f = subst (Follows (place_behind first_place (told_of lines))) (rows_told (names_of lines) first_place lines) (follows_lines (told_of lines) first_place [] first_follows) in
    record { begun = f.begun; open' = f.open'; starts = none_given (start_names (map words lines)) (place_behind first_place (told_of lines)).starts f.starts }
