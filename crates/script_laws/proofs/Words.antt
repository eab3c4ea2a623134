-- words that are told apart
use Rattle.std.proofs.Common.{◌≡◌, ◌==◌, ℕ, Bool, true, false, List, [], ◌∷◌, refl, ap, ◌∙◌, subst, Option, Some, None}
use Rattle.std.specs.Prelude.{codes}
use Rattle.unix_names.specs.declared.Act.{Act}
use Rattle.unix_names.proofs.SignalLaws.{find-passes}
use Rattle.std.proofs.lemmas.Bool.{eqb-true}
use Rattle.std.proofs.lemmas.Slice.Eq.{bytes_eq-Decides}
use Rattle.script_words.specs.declared.table.Verb.{Verb}
use Rattle.script_words.specs.declared.table.Verb.TheVariants as verb
use Rattle.script_reader.specs.declared.lines.Head.{Head}
use Rattle.script_reader.specs.declared.lines.Head.TheVariants as head
use Rattle.script_words.specs.Words.{Word, Row, is_same, word_at, is_skipped}
use Rattle.script_words.specs.Table.{verb_word, all_verbs, verb_named, act_word, all_acts, act_named}
use Rattle.script_reader.specs.Lines.{head_of}
use Rattle.script_reader.specs.Files.{begins_with}

pub same_words : (a b : Word) → is_same a b ≡ true → a ≡ b
unfolding is_same
same_words a b e = (bytes_eq-Decides a b).0 e

pub words_same : (a b : Word) → a ≡ b → is_same a b ≡ true
unfolding is_same
words_same a b e = (bytes_eq-Decides a b).1 e

pub verb_spelled : (word : Word) (v : Verb) → verb_named word ≡ Some v → word ≡ verb_word v
unfolding verb_named
verb_spelled word v e = same_words word (verb_word v) (find-passes (λ v. is_same word (verb_word v)) all_verbs v e)

pub act_spelled : (word : Word) (a : Act) → act_named word ≡ Some a → word ≡ act_word a
unfolding act_named
act_spelled word a e = same_words word (act_word a) (find-passes (λ a. is_same word (act_word a)) all_acts a e)

-- the word that a line begins with, by what it begins with
abbrev pub BeginsSo : Word → Head → Type 0
BeginsSo word head.Script = word ≡ codes "script"
BeginsSo word head.End = word ≡ codes "end"
BeginsSo word head.Start = word ≡ codes "start"
BeginsSo word (head.Says v) = word ≡ verb_word v
BeginsSo word head.Unknown = (word ≡ codes "script" → ⊥) × (word ≡ codes "start" → ⊥) × (word ≡ codes "fork" → ⊥)

differs : (a b : Word) → is_same a b ≡ false → a ≡ b → ⊥
differs a b n e = let y : is_same a b ≡ true = words_same a b e in cc

fork_named : verb_named (codes "fork") ≡ None → ⊥
unfolding verb_named is_same
fork_named e = cc

pub head_word : (word : Word) → BeginsSo word (head_of word)
unfolding head_of
head_word word = go (is_same word (codes "script")) (is_same word (codes "end")) (is_same word (codes "start")) (verb_named word) refl refl refl refl
  where
    go : (a b c : Bool) (o : Option Verb) → is_same word (codes "script") ≡ a → is_same word (codes "end") ≡ b → is_same word (codes "start") ≡ c → verb_named word ≡ o → BeginsSo word (head_of word)
    go true b c o ea eb ec eo = rw ea (same_words word (codes "script") ea)
    go false true c o ea eb ec eo = rw (ea, eb) (same_words word (codes "end") eb)
    go false false true o ea eb ec eo = rw (ea, eb, ec) (same_words word (codes "start") ec)
    go false false false (Some v) ea eb ec eo = rw (ea, eb, ec, eo) (verb_spelled word v eo)
    go false false false None ea eb ec eo = rw (ea, eb, ec, eo) (differs word (codes "script") ea, differs word (codes "start") ec, λ f. fork_named (subst (λ w. verb_named w ≡ None) f eo))

-- ---- lines by their first word
-- a line that is skipped begins with none of these
skipped_first : (row : Row) (first : Word) (b : ℕ) (bs : List ℕ) → first ≡ b ∷ bs → (35 == b) ≡ false → is_skipped row ≡ true → begins_with first row ≡ false
unfolding is_skipped begins_with word_at is_same
skipped_first [] first b bs f n e = rw f refl
skipped_first ([] ∷ ws) first b bs f n e = cc
skipped_first ((c ∷ cs) ∷ ws) first b bs f n e = let is : c ≡ 35 = eqb-true c 35 e in rw (f, is, n) refl

pub skipped_script : (row : Row) → is_skipped row ≡ true → begins_with (codes "script") row ≡ false
skipped_script row e = skipped_first row (codes "script") 115 (codes "cript") refl refl e

pub skipped_start : (row : Row) → is_skipped row ≡ true → begins_with (codes "start") row ≡ false
skipped_start row e = skipped_first row (codes "start") 115 (codes "tart") refl refl e

pub skipped_fork : (row : Row) → is_skipped row ≡ true → begins_with (codes "fork") row ≡ false
skipped_fork row e = skipped_first row (codes "fork") 102 (codes "ork") refl refl e

-- whether a line begins with a word, by the word that it begins with
pub begins_so : (row : Row) (first word : Word) (b : Bool) → word_at row 0 ≡ word → is_same word first ≡ b → begins_with first row ≡ b
unfolding begins_with
begins_so row first word b w e = ap (λ z. is_same z first) w ∙ e

pub verb_script : (v : Verb) → is_same (verb_word v) (codes "script") ≡ false
unfolding is_same
verb_script verb.Getpid = refl
verb_script _ = refl

pub verb_start : (v : Verb) → is_same (verb_word v) (codes "start") ≡ false
unfolding is_same
verb_start verb.Getpid = refl
verb_start _ = refl

pub script_word : (is_same (codes "script") (codes "script") ≡ true) × (is_same (codes "end") (codes "script") ≡ false) × (is_same (codes "start") (codes "script") ≡ false) × (is_same (codes "cluster") (codes "script") ≡ false)
unfolding is_same
script_word = (refl, refl, refl, refl)

pub start_word : (is_same (codes "script") (codes "start") ≡ false) × (is_same (codes "end") (codes "start") ≡ false) × (is_same (codes "start") (codes "start") ≡ true) × (is_same (codes "cluster") (codes "start") ≡ false)
unfolding is_same
start_word = (refl, refl, refl, refl)

pub verb_fork : (v : Verb) → (v ≡ verb.Fork → ⊥) → is_same (verb_word v) (codes "fork") ≡ false
unfolding is_same
verb_fork verb.Fork n = absurd (n refl)
verb_fork _ n = refl

pub fork_word : (is_same (codes "fork") (codes "fork") ≡ true) × (is_same (codes "script") (codes "fork") ≡ false) × (is_same (codes "end") (codes "fork") ≡ false) × (is_same (codes "start") (codes "fork") ≡ false) × (is_same (codes "cluster") (codes "fork") ≡ false)
unfolding is_same
fork_word = (refl, refl, refl, refl, refl)
