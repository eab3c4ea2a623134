-- lines that the reader reaches: the cluster stands before them, and no line before has a fault
use Rattle.std.proofs.Common.{◌≡◌, ℕ, zero, suc, ◌<◌, Bool, true, false, List, [], ◌∷◌, take, refl, sym, ap, ◌∙◌, add-one, arith, Option, Some, Result, Ok, Err}
use Rattle.std.specs.Prelude.{if◌then◌else◌, codes, slice_get, map, IsOk}
use Rattle.std.specs.Str.{is_utf8}
use Rattle.byte_ends.specs.Text.{words}
use Rattle.unix_calls.specs.Work.{works}
use Rattle.script_words.specs.declared.faults.Kind.{Kind}
use Rattle.script_words.specs.declared.faults.Kind.TheVariants.{NotUtf8}
use Rattle.script_words.specs.Words.{Row, is_skipped}
use Rattle.script_reader.specs.declared.names.Names.{Names}
use Rattle.script_reader.specs.declared.places.Place.{Place}
use Rattle.script_reader.specs.declared.lines.Item.{Item}
use Rattle.script_reader.specs.declared.lines.Item.TheVariants as item
use Rattle.script_reader.specs.Lines.{cluster_line, read_row, read_line, place_after}
use Rattle.script_reader.specs.Files.{begins_with, scripts_of}
use Rattle.script_laws.proofs.Results.{then_ok}
use Rattle.script_laws.proofs.Words.{skipped_start}
use Rattle.script_laws.proofs.Lines.{Step, silent, opens, begins, ends, says, starts, step}
use Rattle.script_laws.proofs.Parts.{names_of, told_of}
use Rattle.fault_laws.specs.Context.{is_begun}
use Rattle.fault_laws.specs.Faults as aspect
use Rattle.fault_laws.specs.Faults.{Aspect, OwnFault, Overworks}
use Rattle.fault_laws.proofs.Around.{place_at, HasCluster, told_at, knows_at}
use Rattle.fault_laws.proofs.Bodies.{overworks_not}
use Rattle.fault_laws.proofs.Own.{own_clean}
use Rattle.fault_laws.proofs.Stops.{AreReadBelow, AreLittleTo}

-- ---- lines and their words
same_row : (a b : Row) → ◌≡◌ {A = Option Row} (Some a) (Some b) → a ≡ b
same_row a b e = cc

-- the line of a row
pub row_line : (lines : List (List ℕ)) (k : ℕ) (row : Row) → slice_get (map words lines) k ≡ Some row → (line : List ℕ) × (slice_get lines k ≡ Some line) × (words line ≡ row)
row_line [] k row e = cc
row_line (line ∷ lines) zero row e = (line, refl, same_row (words line) row e)
row_line (line ∷ lines) (suc k) row e = row_line lines k row e

-- a line's own fault stands at a line
pub own_there : (lines : List (List ℕ)) (k : ℕ) (aspect : Aspect) (kind : Kind) → OwnFault lines k aspect kind → (line : List ℕ) × (slice_get lines k ≡ Some line)
own_there lines k aspect.text kind (e, line, there, bad) = (line, there)
own_there lines k aspect.limit kind (row, there, p) = let l = row_line lines k row there in (l.0, l.1)
own_there lines k aspect.wording kind (row, there, p) = let l = row_line lines k row there in (l.0, l.1)
own_there lines k aspect.labour kind f = absurd f
own_there lines k aspect.silence kind f = absurd f
own_there lines k aspect.opening kind f = absurd f
own_there lines k aspect.idleness kind f = absurd f

-- ---- what is said before a line
-- behind one line more
begun_next : (row : Row) (rest : List Row) (b : Bool) → is_skipped row ≡ b → is_begun (row ∷ rest) ≡ (if b then is_begun rest else true)
begun_next row rest true e = rw e refl
begun_next row rest false e = rw e refl

-- the first line that says something
pub begun_here : (rows : List Row) (k : ℕ) → is_begun (take k rows) ≡ false → is_begun (take (suc k) rows) ≡ true → (row : Row) × (slice_get rows k ≡ Some row) × (is_skipped row ≡ false)
begun_here [] k n e = cc
begun_here (row ∷ rows) zero n e = go (is_skipped row) refl
  where
    go : (b : Bool) → is_skipped row ≡ b → (x : Row) × (slice_get (row ∷ rows) zero ≡ Some x) × (is_skipped x ≡ false)
    go true h = let o = begun_next row [] true h in cc
    go false h = (row, refl, h)
begun_here (row ∷ rows) (suc k) n e = go (is_skipped row) refl (begun_here rows k)
  where
    go : (b : Bool) → is_skipped row ≡ b → (is_begun (take k rows) ≡ false → is_begun (take (suc k) rows) ≡ true → (x : Row) × (slice_get rows k ≡ Some x) × (is_skipped x ≡ false)) → (x : Row) × (slice_get rows k ≡ Some x) × (is_skipped x ≡ false)
    go true h ih = ih (sym (begun_next row (take k rows) true h) ∙ n) (sym (begun_next row (take (suc k) rows) true h) ∙ e)
    go false h ih = let o = begun_next row (take k rows) false h in cc

-- behind a line that says something
pub begun_behind : (rows : List Row) (k : ℕ) (row : Row) → slice_get rows k ≡ Some row → is_skipped row ≡ false → is_begun (take (suc k) rows) ≡ true
begun_behind [] k row e loud = cc
begun_behind (x ∷ rows) zero row e loud = begun_next x [] false (ap is_skipped (same_row x row e) ∙ loud)
begun_behind (x ∷ rows) (suc k) row e loud = go (is_skipped x) refl (begun_behind rows k row e loud)
  where
    go : (b : Bool) → is_skipped x ≡ b → is_begun (take (suc k) rows) ≡ true → is_begun (x ∷ take (suc k) rows) ≡ true
    go true h ih = begun_next x (take (suc k) rows) true h ∙ ih
    go false h ih = begun_next x (take (suc k) rows) false h

-- where nothing is said, nothing is said before a line
pub begun_never : (rows : List Row) (k : ℕ) → is_begun rows ≡ false → is_begun (take k rows) ≡ false
begun_never rows zero n = refl
begun_never [] (suc k) n = refl
begun_never (row ∷ rows) (suc k) n = go (is_skipped row) refl (begun_never rows k)
  where
    go : (b : Bool) → is_skipped row ≡ b → (is_begun rows ≡ false → is_begun (take k rows) ≡ false) → is_begun (row ∷ take k rows) ≡ false
    go true h ih = begun_next row (take k rows) true h ∙ ih (sym (begun_next row rows true h) ∙ n)
    go false h ih = let o = begun_next row rows false h in cc

-- and each line is skipped
pub never_says : (rows : List Row) (k : ℕ) (row : Row) → is_begun rows ≡ false → slice_get rows k ≡ Some row → is_skipped row ≡ true
never_says rows k row n e = go (is_skipped row) refl
  where
    go : (b : Bool) → is_skipped row ≡ b → b ≡ true
    go true h = refl
    go false h = let y = begun_behind rows k row e h in let z = begun_never rows (suc k) n in cc

-- ---- the line of the cluster
is_read : (r : Result Item Kind) → IsOk r → (i : Item) × (r ≡ Ok i)
is_read (Ok i) h = (i, refl)
is_read (Err kind) h = cc

counted : (names : Names) (place : Place) (row : Row) (i : Item) (now : Place) → Step names place row i now → place.begun ≡ false → is_skipped row ≡ false → (n : ℕ) × (i ≡ item.Nodes n)
counted names place row i now (silent k e n) b s = cc
counted names place row i now (opens m k b' w nu l lo hi e n) b s = (m, e)
counted names place row i now (begins k b' w a o nm d l e n) b s = cc
counted names place row i now (ends k b' w o l e n) b s = cc
counted names place row i now (says v st k b' w o c t e n) b s = cc
counted names place row i now (starts st k b' w c o t e n) b s = cc

first_row : (names : Names) (place : Place) (row : Row) → place.begun ≡ false → is_skipped row ≡ false → read_row names place row ≡ cluster_line row
unfolding read_row
first_row names place row b s = rw (s, b) refl

first_read : (names : Names) (place : Place) (line : List ℕ) (i : Item) → place.begun ≡ false → is_skipped (words line) ≡ false → read_line names place line ≡ Ok i → (is_utf8 line ≡ true) × (n : ℕ) × (cluster_line (words line) ≡ Ok (item.Nodes n))
unfolding read_line
first_read names place line i b s e =
    let t = then_ok (is_utf8 line) (read_row names place (words line)) NotUtf8 i e in
    let c = counted names place (words line) i (place_after place (words line) (Ok i)) (step names place (words line) i t.1) b s in
    (t.0, c.0, sym (first_row names place (words line) b s) ∙ t.1 ∙ ap (λ (x : Item). Ok x) c.1)

-- the first line that says something and is read without a fault
cluster_here : (lines : List (List ℕ)) (k : ℕ) (row : Row) → is_begun (take k (map words lines)) ≡ false → slice_get (map words lines) k ≡ Some row → is_skipped row ≡ false → AreReadBelow (told_of lines) (suc k) → HasCluster lines
cluster_here lines k row first there some read =
    let l = row_line lines k row there in
    let line : List ℕ = l.0 in
    let loud : is_skipped (words line) ≡ false = ap is_skipped l.2 ∙ some in
    let knows = knows_at lines k line l.1 (λ b. absurd (not_both b)) in
    let i = is_read (read_line (names_of lines) (place_at lines k) line) (read k (words line, read_line (names_of lines) (place_at lines k) line) (omega arith) (told_at lines k line l.1)) in
    let c = first_read (names_of lines) (place_at lines k) line i.0 (knows.begun ∙ first) loud i.1 in
    record { j = k; line = line; n = c.1; there = l.1; first = first; is_text = c.0; says = loud; counts = c.2 }
  where
    not_both : is_begun (take k (map words lines)) ≡ true → ⊥
    not_both b = cc

-- where something is said before a line that is reached, the cluster is
pub cluster_before : (lines : List (List ℕ)) (k : ℕ) → AreReadBelow (told_of lines) k → is_begun (take k (map words lines)) ≡ true → HasCluster lines
cluster_before lines zero read b = cc
cluster_before lines (suc k) read b = go (is_begun (take k (map words lines))) refl (cluster_before lines k (λ j t lt e. read j t (omega arith) e))
  where
    go : (c : Bool) → is_begun (take k (map words lines)) ≡ c → (is_begun (take k (map words lines)) ≡ true → HasCluster lines) → HasCluster lines
    go true h ih = ih h
    go false h ih = let f = begun_here (map words lines) k h b in cluster_here lines k f.0 h f.1 f.2 read

-- ---- no faults before
-- a start says something
pub start_says : (row : Row) → begins_with (codes "start") row ≡ true → is_skipped row ≡ false
start_says row s = go (is_skipped row) refl
  where
    go : (b : Bool) → is_skipped row ≡ b → b ≡ false
    go true h = let n = skipped_start row h in cc
    go false h = refl

-- a line that is reached and is a start
pub cluster_at_start : (lines : List (List ℕ)) (k : ℕ) (row : Row) → AreReadBelow (told_of lines) (suc k) → slice_get (map words lines) k ≡ Some row → begins_with (codes "start") row ≡ true → HasCluster lines
cluster_at_start lines k row read there start = cluster_before lines (suc k) read (begun_behind (map words lines) k row there (start_says row start))

-- lines before which the reader stops have no fault of their own
pub own_none : (lines : List (List ℕ)) (k j : ℕ) (aspect : Aspect) (kind : Kind) → AreReadBelow (told_of lines) k → j < k → ¬ OwnFault lines j aspect kind
own_none lines k j aspect kind read lt f =
    let l = own_there lines j aspect kind f in
    let there = told_at lines j l.0 l.1 in
    own_clean lines j _ there (cluster_before lines j (λ i t h e. read i t (omega arith) e)) (read j _ lt there) aspect kind f

-- and their starts do not make too much work
pub works_little : (lines : List (List ℕ)) (k j : ℕ) → AreReadBelow (told_of lines) k → AreLittleTo (works (scripts_of (told_of lines))) [] (told_of lines) k → j < k → ¬ Overworks lines j
works_little lines k j read little lt over =
    overworks_not lines j
    (cluster_at_start lines j over.row (λ i t h e. read i t (omega arith) e) over.there over.starts)
    (λ i t le e. read i t (omega arith) e)
    (rw add-one (little (suc j) (omega arith)))
    over
