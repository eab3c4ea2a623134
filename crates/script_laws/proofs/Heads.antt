-- how lines are read by their first words
use Rattle.std.proofs.Common.{◌≡◌, true, false, [], ◌∷◌, refl, sym, Ok}
use Rattle.std.specs.Prelude.{codes}
use Rattle.script_reader.specs.declared.names.Names.{Names}
use Rattle.script_reader.specs.declared.places.Place.{Place}
use Rattle.script_words.specs.declared.table.Verb.{Verb}
use Rattle.script_words.specs.declared.table.Verb.TheVariants as verb
use Rattle.script_reader.specs.declared.lines.Head.{Head}
use Rattle.script_reader.specs.declared.lines.Head.TheVariants as head
use Rattle.script_reader.specs.declared.lines.Item.{Item}
use Rattle.script_words.specs.Words.{Word, Row, is_same, word_at, is_skipped}
use Rattle.script_words.specs.Table.{verb_word, verb_named}
use Rattle.script_reader.specs.Lines.{head_of, later_line, read_row, nodes_after, placed_after, place_after}

-- a word that says how its line is read
pub record IsHead (word : Word) (h : Head) : Type 0 where
  pub head : head_of word ≡ h
  pub said : is_skipped (word ∷ []) ≡ false

pub verb_head : (v : Verb) → IsHead (verb_word v) (head.Says v)
unfolding head_of verb_named is_same is_skipped
verb_head verb.Getpid = record { head = refl; said = refl }
verb_head _ = record { head = refl; said = refl }

pub script_head : IsHead (codes "script") head.Script
unfolding head_of is_same is_skipped
script_head = record { head = refl; said = refl }

pub start_head : IsHead (codes "start") head.Start
unfolding head_of is_same is_skipped
start_head = record { head = refl; said = refl }

pub end_head : IsHead (codes "end") head.End
unfolding head_of is_same is_skipped
end_head = record { head = refl; said = refl }

pub cluster_head : IsHead (codes "cluster") head.Unknown
unfolding head_of is_same is_skipped verb_named
cluster_head = record { head = refl; said = refl }

not_skipped : (row : Row) (word : Word) → word_at row 0 ≡ word → is_skipped (word ∷ []) ≡ false → (word ≡ [] → ⊥) → is_skipped row ≡ false
unfolding word_at is_skipped
not_skipped [] word w s ne = absurd (ne (sym w))
not_skipped (first ∷ rest) word w s ne = rw w s

pub row_read : (names : Names) (place : Place) (row : Row) (word : Word) (h : Head) → word_at row 0 ≡ word → (word ≡ [] → ⊥) → IsHead word h → place.begun ≡ true → read_row names place row ≡ later_line names place h row
unfolding read_row
row_read names place row word h w ne is b = rw (not_skipped row word w is.said ne, b, w, is.head) refl

pub row_place : (place : Place) (row : Row) (word : Word) (h : Head) (i : Item) → word_at row 0 ≡ word → (word ≡ [] → ⊥) → IsHead word h → place_after place row (Ok i) ≡ placed_after place (nodes_after place.nodes (Ok i)) h
unfolding place_after
row_place place row word h i w ne is = rw (not_skipped row word w is.said ne, w, is.head) refl

pub verb_some : (v : Verb) → verb_word v ≡ [] → ⊥
verb_some verb.Getpid e = cc
verb_some _ e = cc
