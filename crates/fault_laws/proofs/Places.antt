-- where a line stands, as the reader carries it, is what the lines before it say
use Rattle.std.proofs.Common.{◌≡◌, ◌++◌, ℕ, ◌+◌, Bool, true, false, cond, List, [], ◌∷◌, length, refl, sym, ap, ◌∙◌, subst, arith, append_assoc, Option, Some, None, Result}
use Rattle.std.specs.Prelude.{codes, map, filter, is_some}
use Rattle.std.proofs.Math.Bool.{or-true}
use Rattle.std.proofs.lemmas.Bool.{eqb-true}
use Rattle.std.proofs.lemmas.List.{append-nil, length-append, map-append}
use Rattle.std.proofs.lemmas.List.Folds.{list_any-append}
use Rattle.std.proofs.lemmas.List.Elements.{filter-append}
use Rattle.std.proofs.lemmas.List.Sums.{fold-append}
use Rattle.list_laws.proofs.Filters.{or_false}
use Rattle.script_words.specs.declared.faults.Kind.{Kind}
use Rattle.script_words.specs.Words.{Word, Row, is_same, word_at, is_skipped}
use Rattle.script_reader.specs.declared.places.Place.{Place}
use Rattle.script_words.specs.declared.table.Verb.{Verb}
use Rattle.script_reader.specs.declared.lines.Head.{Head}
use Rattle.script_reader.specs.declared.lines.Head.TheVariants as head
use Rattle.script_reader.specs.declared.lines.Item.{Item}
use Rattle.script_words.specs.Table.{verb_named}
use Rattle.script_reader.specs.Lines.{head_of, nodes_after, placed_after, place_after}
use Rattle.script_reader.specs.Files.{begins_with, words_behind, Told, first_place, place_behind}
use Rattle.script_laws.proofs.Words.{same_words, skipped_script, skipped_start}
use Rattle.script_laws.proofs.Numbered.{rows_of}
use Rattle.fault_laws.specs.Context.{says_something, is_begun, script_names, start_names, opened, is_open, is_statement, counted, statement_count}

-- ---- what a line begins with
abbrev pub opens : Head → Bool
opens head.Script = true
opens _ = false

abbrev pub closes : Head → Bool
closes head.End = true
closes _ = false

abbrev pub starts : Head → Bool
starts head.Start = true
starts _ = false

abbrev pub says : Head → Bool
says (head.Says v) = true
says _ = false

-- a word by which a line is read so
pub record Marks (word : Word) (h : Head) : Type 0 where
  pub script : is_same word (codes "script") ≡ opens h
  pub end' : is_same word (codes "end") ≡ closes h
  pub start : is_same word (codes "start") ≡ starts h
  pub statement : is_some (verb_named word) ≡ says h

script_marks : Marks (codes "script") head.Script
unfolding is_same verb_named
script_marks = record { script = refl; end' = refl; start = refl; statement = refl }

end_marks : Marks (codes "end") head.End
unfolding is_same verb_named
end_marks = record { script = refl; end' = refl; start = refl; statement = refl }

start_marks : Marks (codes "start") head.Start
unfolding is_same verb_named
start_marks = record { script = refl; end' = refl; start = refl; statement = refl }

pub head_marks : (word : Word) → Marks word (head_of word)
unfolding head_of
head_marks word = go (is_same word (codes "script")) (is_same word (codes "end")) (is_same word (codes "start")) (verb_named word) refl refl refl refl
  where
    same : (w : Word) (h : Head) → Marks w h → is_same word w ≡ true → Marks word h
    same w h m e = subst (λ (x : Word). Marks x h) (sym (same_words word w e)) m

    go : (a b c : Bool) (o : Option Verb) → is_same word (codes "script") ≡ a → is_same word (codes "end") ≡ b → is_same word (codes "start") ≡ c → verb_named word ≡ o → Marks word (head_of word)
    go true b c o ea eb ec eo = rw ea (same (codes "script") head.Script script_marks ea)
    go false true c o ea eb ec eo = rw (ea, eb) (same (codes "end") head.End end_marks eb)
    go false false true o ea eb ec eo = rw (ea, eb, ec) (same (codes "start") head.Start start_marks ec)
    go false false false (Some v) ea eb ec eo = rw (ea, eb, ec, eo) (record { script = ea; end' = eb; start = ec; statement = ap is_some eo })
    go false false false None ea eb ec eo = rw (ea, eb, ec, eo) (record { script = ea; end' = eb; start = ec; statement = ap is_some eo })

-- ---- what lines give, and one line more
pub words_behind-append : (first : Word) (at : ℕ) (a b : List Row) → words_behind first at (a ++ b) ≡ words_behind first at a ++ words_behind first at b
unfolding words_behind
words_behind-append first at a b = ap (map (λ row. word_at row at)) (filter-append (begins_with first) a b) ∙ map-append (λ row. word_at row at) (filter (begins_with first) a) (filter (begins_with first) b)

pub words_behind-cons : (first : Word) (at : ℕ) (row : Row) (rows : List Row) → begins_with first row ≡ true → words_behind first at (row ∷ rows) ≡ word_at row at ∷ words_behind first at rows
unfolding words_behind
words_behind-cons first at row rows e = rw e refl

-- how many words lines give, and with one line more
last_counted : (first : Word) (at : ℕ) (n : ℕ) (row : Row) (b : Bool) → begins_with first row ≡ b → n + length (words_behind first at (row ∷ [])) ≡ cond b (n + 1) n
unfolding words_behind
last_counted first at n row true e = rw e refl
last_counted first at n row false e = rw e (omega arith)

counted_push : (first : Word) (at : ℕ) (rows : List Row) (row : Row) (b : Bool) → begins_with first row ≡ b
    → length (words_behind first at (rows ++ row ∷ [])) ≡ cond b (length (words_behind first at rows) + 1) (length (words_behind first at rows))
counted_push first at rows row b e =
    ap (λ (ws : List Word). length ws) (words_behind-append first at rows (row ∷ [])) ∙ length-append (words_behind first at rows) (words_behind first at (row ∷ [])) ∙ last_counted first at (length (words_behind first at rows)) row b e

begun_push : (rows : List Row) (row : Row) (b : Bool) → is_skipped row ≡ b → is_begun (rows ++ row ∷ []) ≡ cond b (is_begun rows) true
begun_push rows row true e = list_any-append says_something rows (row ∷ []) ∙ rw e (or_false (is_begun rows))
begun_push rows row false e = list_any-append says_something rows (row ∷ []) ∙ rw e (or-true (is_begun rows))

open_push : (rows : List Row) (row : Row) (a b : Bool) → begins_with (codes "script") row ≡ a → begins_with (codes "end") row ≡ b → is_open (rows ++ row ∷ []) ≡ cond a true (cond b false (is_open rows))
unfolding is_open
open_push rows row a b ea eb = fold-append opened false rows (row ∷ []) ∙ rw (ea, eb) refl

count_push : (rows : List Row) (row : Row) (a b : Bool) → begins_with (codes "script") row ≡ a → is_statement row ≡ b → statement_count (rows ++ row ∷ []) ≡ cond a 0 (cond b (statement_count rows + 1) (statement_count rows))
unfolding statement_count
count_push rows row a b ea eb = fold-append counted 0 rows (row ∷ []) ∙ rw (ea, eb) refl

-- ---- where lines stand
-- a place behind these lines
pub record Follows (place : Place) (rows : List Row) : Type 0 where
  pub begun : place.begun ≡ is_begun rows
  pub open' : place.is_open ≡ is_open rows
  pub scripts : place.scripts ≡ length (script_names rows)
  pub statements : place.is_open ≡ true → place.statements ≡ statement_count rows
  pub starts : place.starts ≡ length (start_names rows)

pub first_follows : Follows first_place []
unfolding words_behind is_open statement_count
first_follows = record { begun = refl; open' = refl; scripts = refl; statements = λ o. refl; starts = refl }

-- a line that is skipped begins with no word that counts
hash_marks : (cs : List ℕ) → (is_same (35 ∷ cs) (codes "end") ≡ false) × (is_some (verb_named (35 ∷ cs)) ≡ false)
unfolding is_same verb_named
hash_marks cs = (refl {a = false}, refl {a = false})

skipped_marks : (row : Row) → is_skipped row ≡ true → (begins_with (codes "end") row ≡ false) × (is_statement row ≡ false)
unfolding is_skipped begins_with word_at is_same verb_named
skipped_marks [] e = (refl, refl)
skipped_marks ([] ∷ ws) e = cc
skipped_marks ((c ∷ cs) ∷ ws) e = subst (λ (x : ℕ). (begins_with (codes "end") ((x ∷ cs) ∷ ws) ≡ false) × (is_statement ((x ∷ cs) ∷ ws) ≡ false)) (sym (eqb-true c 35 e)) (hash_marks cs)

-- by the head of a line that isn't skipped
follows_placed : (place : Place) (rows : List Row) (row : Row) (nodes : ℕ) (h : Head) → Follows place rows → is_skipped row ≡ false → Marks (word_at row 0) h → Follows (placed_after place nodes h) (rows ++ row ∷ [])
unfolding begins_with
follows_placed place rows row nodes head.Script f skip m = record {
  begun = sym (begun_push rows row false skip);
  open' = sym (open_push rows row true false m.script m.end');
  scripts = ap (λ n. n + 1) f.scripts ∙ sym (counted_push (codes "script") 1 rows row true m.script);
  statements = λ o. sym (count_push rows row true false m.script m.statement);
  starts = f.starts ∙ sym (counted_push (codes "start") 3 rows row false m.start);
}
follows_placed place rows row nodes head.End f skip m = record {
  begun = sym (begun_push rows row false skip);
  open' = sym (open_push rows row false true m.script m.end');
  scripts = f.scripts ∙ sym (counted_push (codes "script") 1 rows row false m.script);
  statements = λ o. cc;
  starts = f.starts ∙ sym (counted_push (codes "start") 3 rows row false m.start);
}
follows_placed place rows row nodes head.Start f skip m = record {
  begun = sym (begun_push rows row false skip);
  open' = f.open' ∙ sym (open_push rows row false false m.script m.end');
  scripts = f.scripts ∙ sym (counted_push (codes "script") 1 rows row false m.script);
  statements = λ o. f.statements o ∙ sym (count_push rows row false false m.script m.statement);
  starts = ap (λ n. n + 1) f.starts ∙ sym (counted_push (codes "start") 3 rows row true m.start);
}
follows_placed place rows row nodes (head.Says v) f skip m = record {
  begun = sym (begun_push rows row false skip);
  open' = f.open' ∙ sym (open_push rows row false false m.script m.end');
  scripts = f.scripts ∙ sym (counted_push (codes "script") 1 rows row false m.script);
  statements = λ o. ap (λ (b : Bool). cond b (place.statements + 1) place.statements) o ∙ ap (λ n. n + 1) (f.statements o) ∙ sym (count_push rows row false true m.script m.statement);
  starts = f.starts ∙ sym (counted_push (codes "start") 3 rows row false m.start);
}
follows_placed place rows row nodes head.Unknown f skip m = record {
  begun = sym (begun_push rows row false skip);
  open' = f.open' ∙ sym (open_push rows row false false m.script m.end');
  scripts = f.scripts ∙ sym (counted_push (codes "script") 1 rows row false m.script);
  statements = λ o. f.statements o ∙ sym (count_push rows row false false m.script m.statement);
  starts = f.starts ∙ sym (counted_push (codes "start") 3 rows row false m.start);
}

-- where a line is skipped, the place stays
follows_skipped : (place : Place) (rows : List Row) (row : Row) → Follows place rows → is_skipped row ≡ true → Follows place (rows ++ row ∷ [])
follows_skipped place rows row f skip =
    let m = skipped_marks row skip in
    record {
      begun = f.begun ∙ sym (begun_push rows row true skip);
      open' = f.open' ∙ sym (open_push rows row false false (skipped_script row skip) m.0);
      scripts = f.scripts ∙ sym (counted_push (codes "script") 1 rows row false (skipped_script row skip));
      statements = λ o. f.statements o ∙ sym (count_push rows row false false (skipped_script row skip) m.1);
      starts = f.starts ∙ sym (counted_push (codes "start") 3 rows row false (skipped_start row skip));
    }

pub follows_line : (place : Place) (rows : List Row) (row : Row) (read : Result Item Kind) → Follows place rows → Follows (place_after place row read) (rows ++ row ∷ [])
unfolding place_after
follows_line place rows row read f = go (is_skipped row) refl
  where
    go : (b : Bool) → is_skipped row ≡ b → Follows (cond b place (placed_after place (nodes_after place.nodes read) (head_of (word_at row 0)))) (rows ++ row ∷ [])
    go true e = follows_skipped place rows row f e
    go false e = follows_placed place rows row (nodes_after place.nodes read) (head_of (word_at row 0)) f e (head_marks (word_at row 0))

pub follows_lines : (told : List Told) (place : Place) (rows : List Row) → Follows place rows → Follows (place_behind place told) (rows ++ rows_of told)
unfolding place_behind
follows_lines [] place rows f = subst (Follows place) (sym (append-nil rows)) f
follows_lines (t ∷ rest) place rows f =
    subst (Follows (place_behind (place_after place t.0 t.1) rest)) (append_assoc rows (t.0 ∷ []) (rows_of rest)) (follows_lines rest (place_after place t.0 t.1) (rows ++ t.0 ∷ []) (follows_line place rows t.0 t.1 f))
