-- each fault that is told is the least one: of a silent part, of a line, and of the whole part
use Rattle.std.proofs.Common.{◌≡◌, ◌⊎◌, inl, inr, ℕ, suc, ◌+◌, ◌-◌, ◌<◌, ◌≤◌, Bool, true, false, List, [], ◌∷◌, length, take, refl, sym, ap, ◌∙◌, subst, add-one, arith, Option, Some, Ok, Err}
use Rattle.std.specs.Prelude.{if◌then◌else◌, codes, slice_get, map, option_map, IsOk}
use Rattle.std.specs.Str.{is_utf8}
use Rattle.std.proofs.lemmas.Bool.{cases_order}
use Rattle.std.proofs.lemmas.Option.{slice_get-map, slice_get_within}
use Rattle.byte_ends.specs.Text.{words}
use Rattle.unix_calls.specs.Work.{works, total_work, is_little}
use Rattle.script_words.specs.declared.faults.Kind.{Kind}
use Rattle.script_words.specs.declared.faults.Kind.TheVariants.{NotUtf8, NoClusterLine, UnknownWord, TooMuchWork, NoStart}
use Rattle.script_words.specs.declared.faults.Fault.{Fault}
use Rattle.script_words.specs.Words.{Row, is_skipped}
use Rattle.script_reader.specs.declared.names.Names.{Names}
use Rattle.script_reader.specs.declared.places.Place.{Place}
use Rattle.script_reader.specs.declared.lines.Item.{Item}
use Rattle.script_reader.specs.declared.lines.Item.TheVariants as item
use Rattle.script_reader.specs.declared.lines.StartLine.{StartLine}
use Rattle.script_reader.specs.Lines.{read_row, read_line, place_after}
use Rattle.script_words.specs.Kinds.{fault_at}
use Rattle.script_reader.specs.Files.{begins_with, Told, scripts_of, silent_kind}
use Rattle.script_laws.proofs.Words.{start_word, begins_so}
use Rattle.script_laws.proofs.Results.{then_ok}
use Rattle.script_laws.proofs.Lines.{Step, silent, opens, begins, ends, says, starts, step}
use Rattle.script_laws.proofs.Parts.{names_of, told_of}
use Rattle.fault_laws.specs.Context.{is_begun, is_open, start_names}
use Rattle.fault_laws.specs.Patterns.{IsWrong}
use Rattle.fault_laws.specs.Faults as aspect
use Rattle.fault_laws.specs.Faults.{Aspect, rank, OwnFault, Overworks, last_place, HasFault}
use Rattle.fault_laws.specs.Told.{IsNotBefore, IsLeastFault, HasNoFault}
use Rattle.fault_laws.proofs.Around.{place_at, line_told}
use Rattle.fault_laws.proofs.Counted.{starts_behind}
use Rattle.fault_laws.proofs.Bodies.{overworks}
use Rattle.fault_laws.proofs.Own.{own_fault}
use Rattle.fault_laws.proofs.Stops.{AreReadBelow, AreLittleTo, Cause, Stops, Passes}
use Rattle.fault_laws.proofs.Reached.{begun_never, never_says, start_says, cluster_before, cluster_at_start, own_none, works_little}

-- ---- the order of the faults
-- no fault of a line stands before this one in the order of the line's faults
abbrev pub IsFirstThere : List (List ℕ) → ℕ → Aspect → Kind → Type 0
IsFirstThere lines k aspect kind = (aspect' : Aspect) (kind' : Kind) → HasFault lines k aspect' kind' → (rank aspect < rank aspect') ⊎ ((aspect' ≡ aspect) × (kind' ≡ kind))

-- no fault stands at a line before
abbrev pub NoneBefore : List (List ℕ) → ℕ → Type 0
NoneBefore lines k = (j : ℕ) (aspect : Aspect) (kind : Kind) → j < k → ¬ HasFault lines j aspect kind

-- then no fault of the part is before this one
not_before : (lines : List (List ℕ)) (k : ℕ) (aspect : Aspect) (kind : Kind) → NoneBefore lines k → IsFirstThere lines k aspect kind
    → (k' : ℕ) (aspect' : Aspect) (kind' : Kind) → HasFault lines k' aspect' kind' → IsNotBefore k aspect kind k' aspect' kind'
not_before lines k aspect kind none here k' aspect' kind' f = go (cases_order k' k)
  where
    at_line : (k' ≡ k) → (rank aspect < rank aspect') ⊎ ((aspect' ≡ aspect) × (kind' ≡ kind)) → IsNotBefore k aspect kind k' aspect' kind'
    at_line e (inl lt) = inr (inl (e, lt))
    at_line e (inr (a, b)) = inr (inr (e, a, b))

    go : (k' ≡ k) ⊎ (k' < k) ⊎ (k < k') → IsNotBefore k aspect kind k' aspect' kind'
    go (inl e) = at_line e (here aspect' kind' (subst (λ n. HasFault lines n aspect' kind') e f))
    go (inr (inl lt)) = absurd (none k' aspect' kind' lt f)
    go (inr (inr lt)) = inl lt

-- the least fault, of a line before which none has one
pub least_by : (first : ℕ) (lines : List (List ℕ)) (fault : Fault) (k : ℕ) (aspect : Aspect) → fault.line ≡ first + k → HasFault lines k aspect fault.kind → NoneBefore lines k → IsFirstThere lines k aspect fault.kind
    → IsLeastFault first lines fault
least_by first lines fault k aspect e is none here = record { k = k; aspect = aspect; at_line = e; is = is; least = not_before lines k aspect fault.kind none here }

-- ---- a part in which nothing is said
-- a line of wrong words says something
wrong_says : (rows before : List Row) (row : Row) (kind : Kind) → IsWrong rows before row kind → is_skipped row ≡ false
wrong_says rows before [] kind w = absurd w
wrong_says rows before (word ∷ row) kind w = w.0

module _ (lines : List (List ℕ)) (quiet : is_begun (map words lines) ≡ false) where
  -- no limit is passed, no word is wrong and no work is made
  no_limit : (k : ℕ) (kind : Kind) → ¬ OwnFault lines k aspect.limit kind
  no_limit k kind (row, there, inl (e, begun, s, n)) = let n = begun_never (map words lines) k quiet in cc
  no_limit k kind (row, there, inr (inl (e, begun, s, o, n))) = let n = begun_never (map words lines) k quiet in cc
  no_limit k kind (row, there, inr (inr (e, begun, s, n))) = let n = begun_never (map words lines) k quiet in cc

  no_wording : (k : ℕ) (kind : Kind) → ¬ OwnFault lines k aspect.wording kind
  no_wording k kind (row, there, w) =
      let s = wrong_says (map words lines) (take k (map words lines)) row kind w in
      let n = never_says (map words lines) k row quiet there in cc

  no_labour : (k : ℕ) → ¬ Overworks lines k
  no_labour k over = let s = start_says over.row over.starts in let n = never_says (map words lines) k over.row quiet over.there in cc

  -- a first line that is no text
  first_text : IsFirstThere lines 0 aspect.text NotUtf8
  first_text aspect.text kind f = inr (refl, f.0)
  first_text aspect.limit kind f = inl (omega arith)
  first_text aspect.wording kind f = inl (omega arith)
  first_text aspect.labour kind f = inl (omega arith)
  first_text aspect.silence kind f = inl (omega arith)
  first_text aspect.opening kind f = inl (omega arith)
  first_text aspect.idleness kind f = inl (omega arith)

  -- a first line that is a text, or none
  first_silent : ((kind : Kind) → ¬ OwnFault lines 0 aspect.text kind) → IsFirstThere lines 0 aspect.silence NoClusterLine
  first_silent good aspect.text kind f = absurd (good kind f)
  first_silent good aspect.limit kind f = absurd (no_limit 0 kind f)
  first_silent good aspect.wording kind f = absurd (no_wording 0 kind f)
  first_silent good aspect.labour kind f = absurd (no_labour 0 f.1)
  first_silent good aspect.silence kind f = inr (refl, f.0)
  first_silent good aspect.opening kind f = inl (omega arith)
  first_silent good aspect.idleness kind f = inl (omega arith)

-- the fault of a part in which nothing is said
pub silent_least : (first : ℕ) (lines : List (List ℕ)) (fault : Fault) → is_begun (map words lines) ≡ false → fault_at first (silent_kind lines) ≡ fault → IsLeastFault first lines fault
silent_least first lines fault quiet e = subst (IsLeastFault first lines) e (go lines quiet)
  where
    nowhere : (kind : Kind) → ¬ OwnFault [] 0 aspect.text kind
    nowhere kind (k, line, there, bad) = cc

    none : (lines : List (List ℕ)) → NoneBefore lines 0
    none lines j aspect kind lt f = absurd (omega arith)

    no_text : (line : List ℕ) (lines : List (List ℕ)) → is_utf8 line ≡ true → (kind : Kind) → ¬ OwnFault (line ∷ lines) 0 aspect.text kind
    no_text line lines u kind (k, other, there, bad) = let same : line ≡ other = cc in let v : is_utf8 other ≡ true = sym (ap is_utf8 same) ∙ u in cc

    at_first : (line : List ℕ) (lines : List (List ℕ)) → is_begun (map words (line ∷ lines)) ≡ false → (b : Bool) → is_utf8 line ≡ b → IsLeastFault first (line ∷ lines) (fault_at first (if b then NoClusterLine else NotUtf8))
    at_first line lines quiet true u = least_by first (line ∷ lines) (fault_at first NoClusterLine) 0 aspect.silence (omega arith) (refl, refl, quiet) (none (line ∷ lines)) (first_silent (line ∷ lines) quiet (no_text line lines u))
    at_first line lines quiet false u = least_by first (line ∷ lines) (fault_at first NotUtf8) 0 aspect.text (omega arith) (refl, line, refl, u) (none (line ∷ lines)) (first_text (line ∷ lines) quiet)

    go : (lines : List (List ℕ)) → is_begun (map words lines) ≡ false → IsLeastFault first lines (fault_at first (silent_kind lines))
    go [] quiet = least_by first [] (fault_at first NoClusterLine) 0 aspect.silence (omega arith) (refl, refl, quiet) (none []) (first_silent [] quiet nowhere)
    go (line ∷ lines) quiet = at_first line lines quiet (is_utf8 line) refl

-- ---- a line at which the reader stops
-- a line's own fault is one of the part, and comes before those that are not of a line
own_rank : (lines : List (List ℕ)) (k : ℕ) (aspect : Aspect) (kind : Kind) → OwnFault lines k aspect kind → (rank aspect < 3) × HasFault lines k aspect kind
own_rank lines k aspect.text kind f = (omega arith, f)
own_rank lines k aspect.limit kind f = (omega arith, f)
own_rank lines k aspect.wording kind f = (omega arith, f)
own_rank lines k aspect.labour kind f = absurd f
own_rank lines k aspect.silence kind f = absurd f
own_rank lines k aspect.opening kind f = absurd f
own_rank lines k aspect.idleness kind f = absurd f

-- before such a line none has a fault
none_before : (lines : List (List ℕ)) (k : ℕ) → is_begun (map words lines) ≡ true → k ≤ last_place lines → AreReadBelow (told_of lines) k → AreLittleTo (works (scripts_of (told_of lines))) [] (told_of lines) k
    → NoneBefore lines k
none_before lines k begun le read little j aspect.text kind lt f = own_none lines k j aspect.text kind read lt f
none_before lines k begun le read little j aspect.limit kind lt f = own_none lines k j aspect.limit kind read lt f
none_before lines k begun le read little j aspect.wording kind lt f = own_none lines k j aspect.wording kind read lt f
none_before lines k begun le read little j aspect.labour kind lt f = works_little lines k j read little lt f.1
none_before lines k begun le read little j aspect.silence kind lt f = let q = f.2 in cc
none_before lines k begun le read little j aspect.opening kind lt f = let q = f.1 in absurd (omega arith)
none_before lines k begun le read little j aspect.idleness kind lt f = let q = f.1 in absurd (omega arith)

-- what is read as a start begins with that word
starts_so : (names : Names) (place : Place) (row : Row) (i : Item) (now : Place) (s : StartLine) → Step names place row i now → i ≡ item.Starts s → begins_with (codes "start") row ≡ true
starts_so names place row i now s (silent k e n) is = cc
starts_so names place row i now s (opens m k b' w nu l lo hi e n) is = cc
starts_so names place row i now s (begins k b' w a o nm d l e n) is = cc
starts_so names place row i now s (ends k b' w o l e n) is = cc
starts_so names place row i now s (says v st k b' w o c t e n) is = cc
starts_so names place row i now s (starts st k b' w c o t e n) is = begins_so row (codes "start") (codes "start") true w start_word.2

start_read : (names : Names) (place : Place) (line : List ℕ) (s : StartLine) → read_line names place line ≡ Ok (item.Starts s) → begins_with (codes "start") (words line) ≡ true
unfolding read_line
start_read names place line s e =
    let t = then_ok (is_utf8 line) (read_row names place (words line)) NotUtf8 (item.Starts s) e in
    starts_so names place (words line) (item.Starts s) (place_after place (words line) (Ok (item.Starts s))) s (step names place (words line) (item.Starts s) t.1) refl

same_told : (a b : Told) → ◌≡◌ {A = Option Told} (Some a) (Some b) → a ≡ b
same_told a b e = cc

-- what is told at one place is read without a fault
told_ok : (a b : Told) (i : Item) → ◌≡◌ {A = Option Told} (Some a) (Some b) → a.1 ≡ Ok i → IsOk b.1
told_ok a b i e is = let o : b.1 ≡ Ok i = ap (λ (x : Told). x.1) (sym (same_told a b e)) ∙ is in rw o refl

module _ (first : ℕ) (lines : List (List ℕ)) (fault : Fault) (begun : is_begun (map words lines) ≡ true)
    (s : Stops (works (scripts_of (told_of lines))) [] first (told_of lines) fault) where
  within : s.k ≤ last_place lines
  within = let l = line_told lines s.k s.t s.there in let lt = slice_get_within lines s.k l.0 l.1 in omega arith

  none : NoneBefore lines s.k
  none = none_before lines s.k begun within s.before s.little

  -- its own fault
  by_own : s.t.1 ≡ Err fault.kind → IsLeastFault first lines fault
  by_own e =
      let o = own_fault lines s.k s.t s.there (cluster_before lines s.k s.before) fault.kind e in
      let r = own_rank lines s.k o.0 fault.kind o.1 in
      least_by first lines fault s.k o.0 s.at_line r.1 none (here o.0 r.0 o.2)
    where
      here : (a : Aspect) → rank a < 3 → ((b : Aspect) (kind : Kind) → OwnFault lines s.k b kind → (rank a < rank b) ⊎ ((b ≡ a) × (kind ≡ fault.kind))) → IsFirstThere lines s.k a fault.kind
      here a lt h aspect.text kind f = h aspect.text kind f
      here a lt h aspect.limit kind f = h aspect.limit kind f
      here a lt h aspect.wording kind f = h aspect.wording kind f
      here a lt h aspect.labour kind f = inl (omega arith)
      here a lt h aspect.silence kind f = inl (omega arith)
      here a lt h aspect.opening kind f = inl (omega arith)
      here a lt h aspect.idleness kind f = inl (omega arith)

  -- the work of the starts up to it
  by_work : (sl : StartLine) → s.t.1 ≡ Ok (item.Starts sl) → fault.kind ≡ TooMuchWork
      → is_little (total_work (works (scripts_of (told_of lines))) (starts_behind [] (take (suc s.k) (told_of lines)))) ≡ false → IsLeastFault first lines fault
  by_work sl e much over =
      let l = line_told lines s.k s.t s.there in
      let line : List ℕ = l.0 in
      let there : slice_get (map words lines) s.k ≡ Some (words line) = slice_get-map words lines s.k ∙ ap (λ (x : Option (List ℕ)). option_map words x) l.1 in
      let start : begins_with (codes "start") (words line) ≡ true = start_read (names_of lines) (place_at lines s.k) line sl (ap (λ (x : Told). x.1) (sym l.2) ∙ e) in
      let cluster = cluster_at_start lines s.k (words line) read there start in
      let over' = overworks lines s.k (words line) cluster (λ j t le h. read j t (omega arith) h) there start (rw add-one over) in
      least_by first lines fault s.k aspect.labour s.at_line (much, over') none here
    where
      read : AreReadBelow (told_of lines) (suc s.k)
      read j t lt h = go (cases_order j s.k)
        where
          go : (j ≡ s.k) ⊎ (j < s.k) ⊎ (s.k < j) → IsOk t.1
          go (inl same) = told_ok s.t t (item.Starts sl) (sym s.there ∙ ap (λ (n : ℕ). slice_get (told_of lines) n) (sym same) ∙ h) e
          go (inr (inl less)) = s.before j t less h
          go (inr (inr more)) = absurd (omega arith)

      here : IsFirstThere lines s.k aspect.labour fault.kind
      here aspect.text kind f = absurd (own_none lines (suc s.k) s.k aspect.text kind read (omega arith) f)
      here aspect.limit kind f = absurd (own_none lines (suc s.k) s.k aspect.limit kind read (omega arith) f)
      here aspect.wording kind f = absurd (own_none lines (suc s.k) s.k aspect.wording kind read (omega arith) f)
      here aspect.labour kind f = inr (refl, f.0 ∙ sym much)
      here aspect.silence kind f = inl (omega arith)
      here aspect.opening kind f = inl (omega arith)
      here aspect.idleness kind f = inl (omega arith)

  pub stop_least : IsLeastFault first lines fault
  stop_least = go s.cause
    where
      go : Cause (works (scripts_of (told_of lines))) [] (told_of lines) s.k s.t fault.kind → IsLeastFault first lines fault
      go (inl e) = by_own e
      go (inr (sl, e, much, over)) = by_work sl e much over

-- ---- behind the last line
-- no line has a fault of its own, and no starts make too much work
pub record AreClean (lines : List (List ℕ)) : Type 0 where
  pub own : (k : ℕ) (aspect : Aspect) (kind : Kind) → ¬ OwnFault lines k aspect kind
  pub work : (k : ℕ) → ¬ Overworks lines k

pub passes_clean : (lines : List (List ℕ)) → Passes (works (scripts_of (told_of lines))) [] (told_of lines) → AreClean lines
passes_clean lines p = record {
  own = λ k aspect kind. own_none lines (suc k) k aspect kind (p.read (suc k)) (omega arith);
  work = λ k. works_little lines (suc k) k (p.read (suc k)) (p.little (suc k)) (omega arith);
}

module _ (first : ℕ) (lines : List (List ℕ)) (begun : is_begun (map words lines) ≡ true) (clean : AreClean lines) where
  -- a fault of the whole part stands at its last line
  none_at_all : NoneBefore lines (last_place lines)
  none_at_all j aspect.text kind lt f = clean.own j aspect.text kind f
  none_at_all j aspect.limit kind lt f = clean.own j aspect.limit kind f
  none_at_all j aspect.wording kind lt f = clean.own j aspect.wording kind f
  none_at_all j aspect.labour kind lt f = clean.work j f.1
  none_at_all j aspect.silence kind lt f = let q = f.2 in cc
  none_at_all j aspect.opening kind lt f = let q = f.1 in absurd (omega arith)
  none_at_all j aspect.idleness kind lt f = let q = f.1 in absurd (omega arith)

  some_line : 1 ≤ length lines
  some_line = go lines begun
    where
      go : (lines : List (List ℕ)) → is_begun (map words lines) ≡ true → 1 ≤ length lines
      go [] b = cc
      go (line ∷ lines) b = omega arith

  last_line : first + length lines - 1 ≡ first + last_place lines
  last_line = let some = some_line in omega arith

  -- a script is open
  pub open_least : is_open (map words lines) ≡ true → IsLeastFault first lines (fault_at (first + length lines - 1) UnknownWord)
  open_least open' = least_by first lines (fault_at (first + length lines - 1) UnknownWord) (last_place lines) aspect.opening last_line (refl, refl, open') none_at_all here
    where
      here : IsFirstThere lines (last_place lines) aspect.opening UnknownWord
      here aspect.text kind f = absurd (clean.own (last_place lines) aspect.text kind f)
      here aspect.limit kind f = absurd (clean.own (last_place lines) aspect.limit kind f)
      here aspect.wording kind f = absurd (clean.own (last_place lines) aspect.wording kind f)
      here aspect.labour kind f = absurd (clean.work (last_place lines) f.1)
      here aspect.silence kind f = let q = f.2 in cc
      here aspect.opening kind f = inr (refl, f.0)
      here aspect.idleness kind f = inl (omega arith)

  -- nothing is started
  pub idle_least : is_open (map words lines) ≡ false → start_names (map words lines) ≡ [] → IsLeastFault first lines (fault_at (first + length lines - 1) NoStart)
  idle_least closed idle = least_by first lines (fault_at (first + length lines - 1) NoStart) (last_place lines) aspect.idleness last_line (refl, refl, idle) none_at_all here
    where
      here : IsFirstThere lines (last_place lines) aspect.idleness NoStart
      here aspect.text kind f = absurd (clean.own (last_place lines) aspect.text kind f)
      here aspect.limit kind f = absurd (clean.own (last_place lines) aspect.limit kind f)
      here aspect.wording kind f = absurd (clean.own (last_place lines) aspect.wording kind f)
      here aspect.labour kind f = absurd (clean.work (last_place lines) f.1)
      here aspect.silence kind f = let q = f.2 in cc
      here aspect.opening kind f = let q = f.2 in cc
      here aspect.idleness kind f = inr (refl, f.0)

  -- neither
  pub no_fault : is_open (map words lines) ≡ false → (start_names (map words lines) ≡ [] → ⊥) → HasNoFault lines
  no_fault closed busy k aspect.text kind f = clean.own k aspect.text kind f
  no_fault closed busy k aspect.limit kind f = clean.own k aspect.limit kind f
  no_fault closed busy k aspect.wording kind f = clean.own k aspect.wording kind f
  no_fault closed busy k aspect.labour kind f = clean.work k f.1
  no_fault closed busy k aspect.silence kind f = let q = f.2 in cc
  no_fault closed busy k aspect.opening kind f = let q = f.2 in cc
  no_fault closed busy k aspect.idleness kind f = busy f.2
