-- the meaning of lines, one line after the other
use Rattle.std.proofs.Common.{◌≡◌, ℕ, ◌+◌, ◌<◌, ◌≤◌, Bool, true, false, if◌then◌else◌, List, [], ◌∷◌, ◌++◌, length, drop, get_or, codes, Option, Some, None, Result, Ok, Err, refl, sym, ap, ◌∙◌, append_assoc, cond, arith}
use Rattle.std.specs.Prelude.{is_some}
use Rattle.std.proofs.lemmas.List.{at_drop_more, at_drop_all, append-nil, drop_all}
use Rattle.std.proofs.lemmas.List.Sums.{fold_push}
use Rattle.byte_ends.specs.Text.{lines}
use Rattle.unix_calls.specs.declared.Script.{Script}
use Rattle.unix_calls.specs.declared.Start.{Start}
use Rattle.unix_calls.specs.declared.Statement.{Statement}
use Rattle.unix_calls.specs.declared.Work.{Work}
use Rattle.unix_calls.specs.Work.{work, together, work_of, total_work, is_little}
use Rattle.script_reader.specs.declared.bodies.Bodies.{Bodies}
use Rattle.script_words.specs.declared.faults.Fault.{Fault}
use Rattle.script_words.specs.declared.faults.Kind.{Kind}
use Rattle.script_words.specs.declared.faults.Kind.TheVariants.{TooMuchWork}
use Rattle.script_reader.specs.declared.names.Names.{Names}
use Rattle.script_reader.specs.declared.places.Place.{Place}
use Rattle.script_reader.specs.declared.lines.Item.{Item}
use Rattle.script_reader.specs.declared.lines.Item.TheVariants as item
use Rattle.script_reader.specs.declared.lines.StartLine.{StartLine}
use Rattle.script_words.specs.Words.{Row}
use Rattle.script_reader.specs.Lines.{place_after}
use Rattle.script_reader.specs.MethodCuts.{CutRow, read_cut, cut_tells}
use Rattle.script_words.specs.Kinds.{fault_at}
use Rattle.script_reader.specs.Files.{Told, begins_with, said, body, place_behind, scripts_of, start_of, with_start, judged}
use Rattle.script_reader.specs.MethodReading.{scripts_with, started, HasNode, judged_with}
use Rattle.script_reader.specs.declared.marks.Marks.{Marks}
use Rattle.script_reader.specs.declared.marks.NumberedStart.{NumberedStart}
use Rattle.unix_calls.specs.declared.limits.TheConstants.{MOST_NODES}

-- ---- one line more of a text
-- behind the last line there is none
pub no-lines : (text : List ℕ) (at : ℕ) → at ≡ length text → lines (drop at text) ≡ []
no-lines text at e = ap lines (drop_all at text (omega (arith, e)))

module _ (names : Names) (place : Place) (line : CutRow) (all rest : List CutRow) (first : all ≡ line ∷ rest) where
  abbrev now : Place
  now = place_after place line.0 (read_cut names place line)

  abbrev later : List Told
  later = cut_tells names now rest

  tells-first : cut_tells names place all ≡ (line.0, read_cut names place line) ∷ later
  unfolding cut_tells
  tells-first = ap (cut_tells names place) first

  pub scripts-more : (bodies next' : Bodies) (total : List Script)
      → ((more : List Told) → scripts_with next' more ≡ scripts_with bodies ((line.0, read_cut names place line) ∷ more))
      → scripts_with bodies (cut_tells names place all) ≡ total → scripts_with next' later ≡ total
  scripts-more bodies next' total step so_far = step later ∙ ap (scripts_with bodies) (sym tells-first) ∙ so_far

  pub place-more : (total : Place) → place_behind place (cut_tells names place all) ≡ total → place_behind now later ≡ total
  unfolding place_behind
  place-more total so_far = ap (place_behind place) (sym tells-first) ∙ so_far

  pub marks-more : (works : List Work) (marks next' : Marks) (number : ℕ) (total : Result (List Start) Fault)
      → ((row : Row) (more : List Told) → judged_with works [] next'.starts next'.fault (number + 1) more ≡ judged_with works [] marks.starts marks.fault number ((row, read_cut names place line) ∷ more))
      → judged_with works [] marks.starts marks.fault number (cut_tells names place all) ≡ total
      → judged_with works [] next'.starts next'.fault (number + 1) later ≡ total
  marks-more works marks next' number total step so_far =
      step line.0 later ∙ ap (judged_with works [] marks.starts marks.fault number) (sym tells-first) ∙ so_far

-- ---- what is judged of a line
-- a line with a fault is judged that fault
judged-bad : (works : List Work) (starts : List Start) (number : ℕ) (row : Row) (rest : List Told) (read : Result Item Kind) (kind : Kind) → started read ≡ Err kind
    → judged works starts number ((row, read) ∷ rest) ≡ Err (fault_at number kind)
unfolding judged
judged-bad works starts number row rest (Err k) kind e = let same : k ≡ kind = cc in rw same refl
judged-bad works starts number row rest (Ok (item.Starts s)) kind e = absurd cc
judged-bad works starts number row rest (Ok _) kind e = absurd cc

-- a line that is no start
judged-other : (works : List Work) (starts : List Start) (number : ℕ) (row : Row) (rest : List Told) (read : Result Item Kind) → started read ≡ Ok None
    → judged works starts number ((row, read) ∷ rest) ≡ judged works starts (number + 1) rest
unfolding judged
judged-other works starts number row rest (Err k) e = absurd cc
judged-other works starts number row rest (Ok (item.Starts s)) e = absurd cc
judged-other works starts number row rest (Ok _) e = refl

-- a start
judged-start : (works : List Work) (starts : List Start) (number : ℕ) (row : Row) (rest : List Told) (read : Result Item Kind) (s : StartLine) → started read ≡ Ok (Some s)
    → cond (is_little (total_work works (with_start starts s))) (judged works (with_start starts s) (number + 1) rest) (Err (fault_at number TooMuchWork)) ≡ judged works starts number ((row, read) ∷ rest)
unfolding judged
judged-start works starts number row rest (Err k) s e = absurd cc
judged-start works starts number row rest (Ok (item.Starts t)) s e = let same : t ≡ s = cc in rw same refl
judged-start works starts number row rest (Ok _) s e = absurd cc

-- ---- what is marked
-- further lines change what is judged as they would with nothing marked
alike : (works : List Work) (f g : Option Fault) (n m : ℕ) (rest rest' : List Told)
    → ((earlier : List Start) → judged_with works earlier [] g m rest' ≡ judged_with works earlier [] f n rest)
    → (earlier : List Start) (ss : List NumberedStart) → judged_with works earlier ss g m rest' ≡ judged_with works earlier ss f n rest
unfolding judged_with
alike works f g n m rest rest' base earlier [] = base earlier
alike works f g n m rest rest' base earlier (s ∷ ss) =
    ap (λ (r : Result (List Start) Fault). cond (is_little (total_work works (with_start earlier s.line))) r (Err (fault_at s.number TooMuchWork))) (alike works f g n m rest rest' base (with_start earlier s.line) ss)

grown : (works : List Work) (more : List NumberedStart) (f g : Option Fault) (n m : ℕ) (rest rest' : List Told)
    → ((earlier : List Start) → judged_with works earlier more g m rest' ≡ judged_with works earlier [] f n rest)
    → (earlier : List Start) (ss : List NumberedStart) → judged_with works earlier (ss ++ more) g m rest' ≡ judged_with works earlier ss f n rest
unfolding judged_with
grown works more f g n m rest rest' base earlier [] = base earlier
grown works more f g n m rest rest' base earlier (s ∷ ss) =
    ap (λ (r : Result (List Start) Fault). cond (is_little (total_work works (with_start earlier s.line))) r (Err (fault_at s.number TooMuchWork))) (grown works more f g n m rest rest' base (with_start earlier s.line) ss)

-- behind a fault nothing counts
pub marked-behind : (works : List Work) (earlier : List Start) (ss : List NumberedStart) (fault : Option Fault) (number : ℕ) (t : Told) (rest : List Told) → is_some fault ≡ true
    → judged_with works earlier ss fault (number + 1) rest ≡ judged_with works earlier ss fault number (t ∷ rest)
unfolding judged_with
marked-behind works earlier ss (Some fault) number t rest h = alike works (Some fault) (Some fault) number (number + 1) (t ∷ rest) rest (λ e. refl) earlier ss
marked-behind works earlier ss None number t rest h = absurd cc

none-yet : (fault : Option Fault) → is_some fault ≡ false → fault ≡ None
none-yet None h = refl
none-yet (Some fault) h = absurd cc

pub marked-bad : (works : List Work) (earlier : List Start) (ss : List NumberedStart) (fault : Option Fault) (number : ℕ) (row : Row) (rest : List Told) (read : Result Item Kind) (kind : Kind)
    → is_some fault ≡ false → started read ≡ Err kind
    → judged_with works earlier ss (Some (fault_at number kind)) (number + 1) rest ≡ judged_with works earlier ss fault number ((row, read) ∷ rest)
unfolding judged_with
marked-bad works earlier ss fault number row rest read kind h e =
    rw (none-yet fault h) (alike works None (Some (fault_at number kind)) number (number + 1) ((row, read) ∷ rest) rest (λ starts. sym (judged-bad works starts number row rest read kind e)) earlier ss)

pub marked-other : (works : List Work) (earlier : List Start) (ss : List NumberedStart) (fault : Option Fault) (number : ℕ) (row : Row) (rest : List Told) (read : Result Item Kind)
    → is_some fault ≡ false → started read ≡ Ok None
    → judged_with works earlier ss fault (number + 1) rest ≡ judged_with works earlier ss fault number ((row, read) ∷ rest)
unfolding judged_with
marked-other works earlier ss fault number row rest read h e =
    rw (none-yet fault h) (alike works None None number (number + 1) ((row, read) ∷ rest) rest (λ starts. sym (judged-other works starts number row rest read e)) earlier ss)

pub marked-start : (works : List Work) (earlier : List Start) (ss : List NumberedStart) (fault : Option Fault) (number : ℕ) (row : Row) (rest : List Told) (read : Result Item Kind) (s : StartLine)
    → is_some fault ≡ false → started read ≡ Ok (Some s)
    → judged_with works earlier (ss ++ record { number = number; line = s } ∷ []) fault (number + 1) rest ≡ judged_with works earlier ss fault number ((row, read) ∷ rest)
unfolding judged_with
marked-start works earlier ss fault number row rest read s h e =
    rw (none-yet fault h) (grown works (record { number = number; line = s } ∷ []) None None number (number + 1) ((row, read) ∷ rest) rest (λ starts. judged-start works starts number row rest read s e) earlier ss)

pub node-in : (read : Result Item Kind) (s : StartLine) → started read ≡ Ok (Some s) → HasNode read → s.node < MOST_NODES
node-in (Err k) s e h = absurd cc
node-in (Ok (item.Starts t)) s e h = let same : t ≡ s = cc in rw (← same) h
node-in (Ok _) s e h = absurd cc

-- ---- the marked starts, one after the other
module _ (works : List Work) (list : List Start) (ss : List NumberedStart) (i : ℕ) (d : NumberedStart) (fault : Option Fault) (number : ℕ) (total : Result (List Start) Fault) where
  abbrev rest_of : List NumberedStart → Result (List Start) Fault
  rest_of marked = judged_with works list marked fault number []

  here : i < length ss → rest_of (drop i ss) ≡ total
      → cond (is_little (total_work works (with_start list (get_or ss i d).line))) (judged_with works (with_start list (get_or ss i d).line) (drop (i + 1) ss) fault number []) (Err (fault_at (get_or ss i d).number TooMuchWork)) ≡ total
  unfolding judged_with
  here lt so_far = sym (at_drop_more rest_of ss i d lt) ∙ so_far

  pub start-taken : i < length ss → is_little (total_work works (with_start list (get_or ss i d).line)) ≡ true → rest_of (drop i ss) ≡ total
      → judged_with works (with_start list (get_or ss i d).line) (drop (i + 1) ss) fault number [] ≡ total
  start-taken lt little so_far = rw little at (here lt so_far)

  pub start-crowds : i < length ss → is_little (total_work works (with_start list (get_or ss i d).line)) ≡ false → rest_of (drop i ss) ≡ total → Err (fault_at (get_or ss i d).number TooMuchWork) ≡ total
  start-crowds lt much so_far = rw much at (here lt so_far)

pub starts-all : (works : List Work) (list : List Start) (ss : List NumberedStart) (i : ℕ) (fault : Option Fault) (number : ℕ) (total : Result (List Start) Fault)
    → length ss ≤ i → judged_with works list (drop i ss) fault number [] ≡ total → judged_with works list [] fault number [] ≡ total
starts-all works list ss i fault number total le so_far = sym (at_drop_all (λ marked. judged_with works list marked fault number []) ss i le) ∙ so_far

pub ends-bad : (works : List Work) (list : List Start) (fault : Fault) (number : ℕ) → judged_with works list [] (Some fault) number [] ≡ Err fault
unfolding judged_with
ends-bad works list fault number = refl

pub ends-fine : (works : List Work) (list : List Start) (number : ℕ) → judged_with works list [] None number [] ≡ Ok list
unfolding judged_with judged
ends-fine works list number = refl

-- a line that begins a script
pub take-script : (so_far next : Bodies) (row : Row) (read : Result Item Kind) (rest : List Told) → begins_with (codes "script") row ≡ true
    → next.begun ≡ true → next.last ≡ [] → next.whole ≡ (if so_far.begun then so_far.whole ++ record { statements = so_far.last } ∷ [] else so_far.whole)
    → scripts_with next rest ≡ scripts_with so_far ((row, read) ∷ rest)
unfolding scripts_with scripts_of body
take-script so_far next row read rest holds begun last whole = rw (begun, last, whole, holds) (pick so_far.begun) where
  pick : (b : Bool) → (if b then so_far.whole ++ record { statements = so_far.last } ∷ [] else so_far.whole) ++ record { statements = body rest } ∷ scripts_of rest
      ≡ (if b then so_far.whole ++ record { statements = so_far.last ++ [] } ∷ record { statements = body rest } ∷ scripts_of rest else so_far.whole ++ record { statements = body rest } ∷ scripts_of rest)
  pick true = append_assoc so_far.whole (record { statements = so_far.last } ∷ []) (record { statements = body rest } ∷ scripts_of rest) ∙ ap (λ (l : List Statement). so_far.whole ++ record { statements = l } ∷ record { statements = body rest } ∷ scripts_of rest) (sym (append-nil so_far.last))
  pick false = refl

-- a line that says a statement
pub take-statement : (so_far : Bodies) (row : Row) (read : Result Item Kind) (rest : List Told) (s : Statement) → begins_with (codes "script") row ≡ false → said read ≡ Some s
    → scripts_with (record { whole = so_far.whole; begun = so_far.begun; last = so_far.last ++ s ∷ [] }) rest ≡ scripts_with so_far ((row, read) ∷ rest)
unfolding scripts_with scripts_of body
take-statement so_far row read rest s isnt is = rw (isnt, is, append_assoc so_far.last (s ∷ []) (body rest)) refl

-- a line that says neither
pub take-nothing : (so_far : Bodies) (row : Row) (read : Result Item Kind) (rest : List Told) → begins_with (codes "script") row ≡ false → said read ≡ None
    → scripts_with so_far rest ≡ scripts_with so_far ((row, read) ∷ rest)
unfolding scripts_with scripts_of body
take-nothing so_far row read rest isnt is = rw (isnt, is) refl

pub finish-begun : (so_far : Bodies) → so_far.begun ≡ true → so_far.whole ++ record { statements = so_far.last } ∷ [] ≡ scripts_with so_far []
unfolding scripts_with scripts_of body
finish-begun so_far holds = rw (holds, append-nil so_far.last) refl

pub finish-none : (so_far : Bodies) → so_far.begun ≡ false → so_far.whole ≡ scripts_with so_far []
unfolding scripts_with scripts_of body
finish-none so_far isnt = rw (isnt, append-nil so_far.whole) refl

-- the work of all starts with one more
pub total-with : (works : List Work) (starts : List Start) (s : StartLine) (total : Work) → total ≡ total_work works starts → together total (work_of works s.script) ≡ total_work works (with_start starts s)
unfolding start_of
total-with works starts s total e = rw e (sym (fold_push (λ t start. together t (work_of works start.script)) (work 0 0) starts (start_of starts s)))
