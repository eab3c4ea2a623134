-- names gathered line by line, and numbered one by one
use Rattle.std.proofs.Common.{◌≡◌, ℕ, ◌+◌, ◌<◌, ◌≤◌, true, false, List, [], ◌∷◌, ◌++◌, length, map, filter, drop, get_or, Bor, Bool, codes, refl, sym, ap, ◌∙◌, append_assoc, arith}
use Rattle.std.proofs.lemmas.List.{at_drop_more, at_drop_all, map-append, append-nil}
use Rattle.std.proofs.lemmas.List.Elements.{filter-append}
use Rattle.std.proofs.lemmas.Grind.{common_steps}
use Rattle.std.specs.Prelude.{slice_range}
use Rattle.script_words.specs.Words.{Word, Row, word_at, is_same}
use Rattle.script_reader.specs.Names.{Table, noted}
use Rattle.script_reader.specs.Files.{begins_with, words_behind, numbered, listed}
use Rattle.script_reader.specs.MethodCuts.{CutRow, row_of, cut_rows}
use Rattle.script_reader.specs.declared.cuts.CutLine.{CutLine}
use Rattle.script_reader.proofs.Rows.{rows-more}

-- the words of a line, and those of further lines
words_behind-more : (first : Word) (at : ℕ) (row : Row) (rows : List Row) → words_behind first at (row ∷ rows) ≡ words_behind first at (row ∷ []) ++ words_behind first at rows
unfolding words_behind
words_behind-more first at row rows =
    ap (map (λ r. word_at r at)) (filter-append (begins_with first) (row ∷ []) rows) ∙ map-append (λ r. word_at r at) (filter (begins_with first) (row ∷ [])) (filter (begins_with first) rows)

words_behind-none : (first : Word) (at : ℕ) → words_behind first at [] ≡ []
unfolding words_behind
words_behind-none first at = refl

pub words_behind-yes : (first : Word) (at : ℕ) (row : Row) → begins_with first row ≡ true → words_behind first at (row ∷ []) ≡ word_at row at ∷ []
unfolding words_behind
words_behind-yes first at row holds = rw holds refl

pub words_behind-not : (first : Word) (at : ℕ) (row : Row) → begins_with first row ≡ false → words_behind first at (row ∷ []) ≡ []
unfolding words_behind
words_behind-not first at row isnt = rw isnt refl

list_rest : Table → List (Bor (List ℕ)) → Table
list_rest table ws = listed table (map (λ w. w.now) ws)

pub list-more : (ws : List (Bor (List ℕ))) (i : ℕ) (table : Table) (d : Bor (List ℕ)) (total : Table) → i < length ws
    → listed table (map (λ w. w.now) (drop i ws)) ≡ total → listed (noted table (get_or ws i d).now (length table)) (map (λ w. w.now) (drop (i + 1) ws)) ≡ total
unfolding listed list_rest
list-more ws i table d total lt so_far = sym (at_drop_more (list_rest table) ws i d lt) ∙ so_far

pub list-all : (ws : List (Bor (List ℕ))) (i : ℕ) (table total : Table) → length ws ≤ i → listed table (map (λ w. w.now) (drop i ws)) ≡ total → table ≡ total
unfolding listed list_rest
list-all ws i table total le so_far = sym (at_drop_all (list_rest table) ws i le) ∙ so_far

number_rest : Table → ℕ → List (Bor (List ℕ)) → Table
number_rest table n ws = numbered table n (map (λ w. w.now) ws)

pub number-more : (ws : List (Bor (List ℕ))) (i n : ℕ) (table : Table) (d : Bor (List ℕ)) (total : Table) → i < length ws
    → numbered table n (map (λ w. w.now) (drop i ws)) ≡ total → numbered (noted table (get_or ws i d).now n) (n + 1) (map (λ w. w.now) (drop (i + 1) ws)) ≡ total
unfolding numbered number_rest
number-more ws i n table d total lt so_far = sym (at_drop_more (number_rest table n) ws i d lt) ∙ so_far

pub number-all : (ws : List (Bor (List ℕ))) (i n : ℕ) (table total : Table) → length ws ≤ i → numbered table n (map (λ w. w.now) (drop i ws)) ≡ total → table ≡ total
unfolding numbered number_rest
number-all ws i n table total le so_far = sym (at_drop_all (number_rest table n) ws i le) ∙ so_far

-- the words that were found, and those of the lines still to come
pub words-more : (first : Word) (at : ℕ) (line : CutRow) (all rest : List CutRow) (found total : List Word) → all ≡ line ∷ rest
    → found ++ words_behind first at (map row_of all) ≡ total
    → (found ++ words_behind first at (line.0 ∷ [])) ++ words_behind first at (map row_of rest) ≡ total
words-more first at line all rest found total e so_far =
    append_assoc found (words_behind first at (line.0 ∷ [])) (words_behind first at (map row_of rest))
    ∙ ap (λ (ws : List Word). found ++ ws) (sym (words_behind-more first at line.0 (map row_of rest)) ∙ ap (λ (rows : List CutRow). words_behind first at (map row_of rows)) (sym e))
    ∙ so_far

pub words-all : (first : Word) (at : ℕ) (rows : List CutRow) (found total : List Word) → rows ≡ [] → found ++ words_behind first at (map row_of rows) ≡ total → found ≡ total
words-all first at rows found total none so_far =
    sym (append-nil found) ∙ ap (λ (ws : List Word). found ++ ws) (sym (words_behind-none first at)) ∙ ap (λ (rs : List CutRow). found ++ words_behind first at (map row_of rs)) (sym none) ∙ so_far

-- a blank line gives no name
blank-script : begins_with (codes "script") [] ≡ false
unfolding begins_with word_at is_same
blank-script = refl

blank-fork : begins_with (codes "fork") [] ≡ false
unfolding begins_with word_at is_same
blank-fork = refl

blank-start : begins_with (codes "start") [] ≡ false
unfolding begins_with word_at is_same
blank-start = refl

blank_more : (first : Word) (at : ℕ) (rest all : List CutRow) (utf8 : Bool) (found total : List Word) → begins_with first [] ≡ false → all ≡ ([], utf8) ∷ rest
    → found ++ words_behind first at (map row_of all) ≡ total → found ++ words_behind first at (map row_of rest) ≡ total
blank_more first at rest all utf8 found total isnt e so_far =
    sym (ap (λ (ws : List Word). found ++ ws)
    (ap (λ (rows : List CutRow). words_behind first at (map row_of rows)) e
    ∙ words_behind-more first at [] (map row_of rest)
    ∙ ap (λ (ws : List Word). ws ++ words_behind first at (map row_of rest)) (words_behind-not first at [] isnt)))
    ∙ so_far

empty_range : (ws : List (Bor (List ℕ))) (n : ℕ) → slice_range ws n n ≡ []
empty_range ws n = grind (arith, common_steps)

module _ (all : List (Bor (List ℕ))) (from : ℕ) (lines : List CutLine) (i : ℕ) (d : CutLine) (within : i < length lines) (none : (get_or lines i d).word_count ≡ 0) where
  blank-here : cut_rows all from (drop i lines) ≡ ([], (get_or lines i d).is_utf8) ∷ cut_rows all from (drop (i + 1) lines)
  blank-here =
      let same : from + (get_or lines i d).word_count ≡ from = omega (arith, none) in
      rows-more all from lines i d within
      ∙ ap (λ (n : ℕ). (map (λ w. w.now) (slice_range all from n), (get_or lines i d).is_utf8) ∷ cut_rows all n (drop (i + 1) lines)) same
      ∙ ap (λ (ws : List (Bor (List ℕ))). (map (λ w. w.now) ws, (get_or lines i d).is_utf8) ∷ cut_rows all from (drop (i + 1) lines)) (empty_range all from)

  -- so what is still to be found stands behind it
  pub scripts-behind : (found total : List Word) → found ++ words_behind (codes "script") 1 (map row_of (cut_rows all from (drop i lines))) ≡ total → found ++ words_behind (codes "script") 1 (map row_of (cut_rows all from (drop (i + 1) lines))) ≡ total
  scripts-behind found total = blank_more (codes "script") 1 (cut_rows all from (drop (i + 1) lines)) (cut_rows all from (drop i lines)) (get_or lines i d).is_utf8 found total blank-script blank-here

  pub forks-behind : (found total : List Word) → found ++ words_behind (codes "fork") 1 (map row_of (cut_rows all from (drop i lines))) ≡ total → found ++ words_behind (codes "fork") 1 (map row_of (cut_rows all from (drop (i + 1) lines))) ≡ total
  forks-behind found total = blank_more (codes "fork") 1 (cut_rows all from (drop (i + 1) lines)) (cut_rows all from (drop i lines)) (get_or lines i d).is_utf8 found total blank-fork blank-here

  pub starts-behind : (found total : List Word) → found ++ words_behind (codes "start") 3 (map row_of (cut_rows all from (drop i lines))) ≡ total → found ++ words_behind (codes "start") 3 (map row_of (cut_rows all from (drop (i + 1) lines))) ≡ total
  starts-behind found total = blank_more (codes "start") 3 (cut_rows all from (drop (i + 1) lines)) (cut_rows all from (drop i lines)) (get_or lines i d).is_utf8 found total blank-start blank-here
