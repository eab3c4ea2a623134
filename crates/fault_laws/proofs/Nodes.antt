-- the nodes of the cluster, as the reader carries them behind the first line that says something
use Rattle.std.proofs.Common.{◌≡◌, ◌&&◌, ℕ, zero, suc, Bool, true, false, not, List, [], ◌∷◌, take, refl, sym, ◌∙◌, subst, Option, Some, Result, Ok, Err}
use Rattle.std.specs.Prelude.{codes, slice_get, map, find, nat_lt, nat_le}
use Rattle.std.specs.Str.{is_utf8}
use Rattle.std.specs.Str.Parse.{digits_value}
use Rattle.std.proofs.lemmas.Bool.{or_parts}
use Rattle.byte_ends.specs.Text.{words}
use Rattle.script_words.specs.declared.faults.Kind.{Kind}
use Rattle.script_words.specs.declared.faults.Kind.TheVariants.{NotUtf8, NoClusterLine, TooManyNodes}
use Rattle.script_words.specs.Words.{Row, is_same, word_at, number, ended, is_skipped}
use Rattle.script_reader.specs.declared.names.Names.{Names}
use Rattle.script_reader.specs.declared.places.Place.{Place}
use Rattle.script_reader.specs.declared.lines.Head.{Head}
use Rattle.script_reader.specs.declared.lines.Head.TheVariants as head
use Rattle.script_reader.specs.declared.lines.Item.{Item}
use Rattle.script_reader.specs.declared.lines.Item.TheVariants as item
use Rattle.script_reader.specs.Lines.{head_of, cluster_line, read_row, read_line, placed_after, place_after}
use Rattle.script_reader.specs.Files.{tells, place_behind}
use Rattle.script_laws.proofs.Results.{next_ok, then_ok}
use Rattle.script_laws.proofs.Lines.{step}
use Rattle.script_laws.proofs.Walks.{nodes_stay}
use Rattle.script_laws.proofs.Understood.{number_understood}
use Rattle.fault_laws.specs.Context.{says_something, is_begun, nodes_in}
use Rattle.unix_calls.specs.declared.limits.TheConstants.{MOST_NODES}

-- ---- the place behind a line that says something
placed_nodes : (place : Place) (nodes : ℕ) (h : Head) → ((placed_after place nodes h).nodes ≡ nodes) × ((placed_after place nodes h).begun ≡ true)
placed_nodes place nodes head.Script = (refl, refl)
placed_nodes place nodes head.End = (refl, refl)
placed_nodes place nodes head.Start = (refl, refl)
placed_nodes place nodes (head.Says v) = (refl, refl)
placed_nodes place nodes head.Unknown = (refl, refl)

-- ---- lines behind the cluster's
row_read : (names : Names) (place : Place) (line : List ℕ) (i : Item) → read_line names place line ≡ Ok i → read_row names place (words line) ≡ Ok i
unfolding read_line
row_read names place line i e = (then_ok (is_utf8 line) (read_row names place (words line)) NotUtf8 i e).1

-- they leave the nodes, whether or not they have faults
abbrev Stays : Place → Place → Type 0
Stays place now = (now.nodes ≡ place.nodes) × (now.begun ≡ true)

fault_stays : (place : Place) (row : Row) (kind : Kind) → place.begun ≡ true → Stays place (place_after place row (Err kind))
unfolding place_after
fault_stays place row kind b = go (is_skipped row) refl
  where
    go : (s : Bool) → is_skipped row ≡ s → Stays place (place_after place row (Err kind))
    go true e = rw e (refl, b)
    go false e = rw e (placed_nodes place place.nodes (head_of (word_at row 0)))

line_stays : (names : Names) (place : Place) (line : List ℕ) → place.begun ≡ true → Stays place (place_after place (words line) (read_line names place line))
unfolding place_behind
line_stays names place line b = go (read_line names place line) refl
  where
    go : (r : Result Item Kind) → read_line names place line ≡ r → Stays place (place_after place (words line) r)
    go (Err kind) e = fault_stays place (words line) kind b
    go (Ok i) e = nodes_stay names place ((words line, Ok i) ∷ []) (i, refl, step names place (words line) i (row_read names place line i e), tt) b

lines_stay : (names : Names) (place : Place) (lines : List (List ℕ)) (k : ℕ) → place.begun ≡ true → (place_behind place (take k (tells names place lines))).nodes ≡ place.nodes
unfolding place_behind tells
lines_stay names place lines zero b = refl
lines_stay names place [] (suc k) b = refl
lines_stay names place (line ∷ lines) (suc k) b =
    let s = line_stays names place line b in
    lines_stay names (place_after place (words line) (read_line names place line)) lines k s.1 ∙ s.0

-- ---- the cluster's line
cluster_begins : (names : Names) (place : Place) (line : List ℕ) (n : ℕ) → place.begun ≡ false → is_utf8 line ≡ true → is_skipped (words line) ≡ false → cluster_line (words line) ≡ Ok (item.Nodes n)
    → ((place_after place (words line) (read_line names place line)).nodes ≡ n) × ((place_after place (words line) (read_line names place line)).begun ≡ true)
unfolding place_after read_line read_row
cluster_begins names place line n b text says e = rw (says, text, b, e) (placed_nodes place n (head_of (word_at (words line) 0)))

skipped_first : (row : Row) (rows : List Row) → is_begun (row ∷ rows) ≡ false → (is_skipped row ≡ true) × (is_begun rows ≡ false)
skipped_first row rows e = let p = or_parts (says_something row) (is_begun rows) e in (not_true (is_skipped row) p.0, p.1)
  where
    not_true : (b : Bool) → not b ≡ false → b ≡ true
    not_true true e = refl
    not_true false e = cc

skipped_stays : (place : Place) (row : Row) (read : Result Item Kind) → is_skipped row ≡ true → place_after place row read ≡ place
unfolding place_after
skipped_stays place row read e = rw e refl

same_line : (a b : List ℕ) → ◌≡◌ {A = Option (List ℕ)} (Some a) (Some b) → a ≡ b
same_line a b e = cc

-- behind it the reader carries its number
pub nodes_behind : (names : Names) (place : Place) (lines : List (List ℕ)) (j : ℕ) (line : List ℕ) (n : ℕ) → place.begun ≡ false → slice_get lines j ≡ Some line → is_begun (take j (map words lines)) ≡ false
    → is_utf8 line ≡ true → is_skipped (words line) ≡ false → cluster_line (words line) ≡ Ok (item.Nodes n)
    → (k : ℕ) → (place_behind place (take k (tells names place lines))).begun ≡ true → (place_behind place (take k (tells names place lines))).nodes ≡ n
unfolding place_behind tells place_after
nodes_behind names place lines j line n b there first text says e zero begun = absurd (cc)
nodes_behind names place [] j line n b there first text says e (suc k) begun = cc
nodes_behind names place (line' ∷ lines) zero line n b there first text says e (suc k) begun =
    let is : line ≡ line' = sym (same_line line' line there) in
    let c = cluster_begins names place line' n b (subst (λ (l : List ℕ). is_utf8 l ≡ true) is text) (subst (λ (l : List ℕ). is_skipped (words l) ≡ false) is says) (subst (λ (l : List ℕ). cluster_line (words l) ≡ Ok (item.Nodes n)) is e) in
    lines_stay names (place_after place (words line') (read_line names place line')) lines k c.1 ∙ c.0
nodes_behind names place (line' ∷ lines) (suc j) line n b there first text says e (suc k) begun =
    let s = skipped_first (words line') (take j (map words lines)) first in
    let same : place_after place (words line') (read_line names place line') ≡ place = skipped_stays place (words line') (read_line names place line') s.0 in
    subst (λ (p : Place). (place_behind p (take k (tells names p lines))).begun ≡ true → (place_behind p (take k (tells names p lines))).nodes ≡ n) (sym same) (nodes_behind names place lines j line n b there s.1 text says e k) begun

-- ---- the number on the cluster's line
cluster_number : (row : Row) (n : ℕ) → cluster_line row ≡ Ok (item.Nodes n) → digits_value 10 (word_at row 1) ≡ n
unfolding cluster_line
cluster_number row n e =
    let c = then_ok (is_same (word_at row 0) (codes "cluster")) _ NoClusterLine (item.Nodes n) e in
    let m = next_ok (number (word_at row 1)) _ (item.Nodes n) c.1 in
    let t = then_ok (nat_lt 0 m.0 && nat_le m.0 MOST_NODES) _ TooManyNodes (item.Nodes n) m.2 in
    let d = next_ok (ended {A = Unit {0}} row 2 tt) _ (item.Nodes n) t.1 in
    let is : m.0 ≡ n = cc in
    ((number_understood (word_at row 1)).fact m.0 m.1).1 ∙ is

same_row : (a b : Row) → ◌≡◌ {A = Option Row} (Some a) (Some b) → a ≡ b
same_row a b e = cc

found_first : (rows : List Row) (j : ℕ) (row : Row) → slice_get rows j ≡ Some row → is_begun (take j rows) ≡ false → is_skipped row ≡ false → find says_something rows ≡ Some row
found_first [] j row there first says = cc
found_first (row' ∷ rows) zero row there first says = let is : row' ≡ row = same_row row' row there in rw (is, says) refl
found_first (row' ∷ rows) (suc j) row there first says = let s = skipped_first row' (take j rows) first in rw s.0 (found_first rows j row there s.1 says)

-- the nodes are what it says
pub nodes_said : (rows : List Row) (j : ℕ) (row : Row) (n : ℕ) → slice_get rows j ≡ Some row → is_begun (take j rows) ≡ false → is_skipped row ≡ false → cluster_line row ≡ Ok (item.Nodes n) → nodes_in rows ≡ n
nodes_said rows j row n there first says e = rw (found_first rows j row there first says) (cluster_number row n e)
