-- lines of the grammar mean what they spell
use Rattle.std.proofs.Common.{◌≡◌, ◌++◌, ℕ, ◌+◌, ◌-◌, ◌<◌, ◌≤◌, true, false, cond, List, [], ◌∷◌, length, refl, sym, ap, ◌∙◌, arith, Option, Some, None, Ok, All}
use Rattle.std.specs.Prelude.{codes, slice_get, map, fold, is_some, nat_le, min}
use Rattle.std.specs.Str.{is_utf8}
use Rattle.std.proofs.lemmas.Bool.{le-leb, leb-true, and_parts}
use Rattle.std.proofs.lemmas.List.Elements.{All-head, All-tail}
use Rattle.byte_ends.specs.Text.{words}
use Rattle.unix_calls.specs.declared.World.{World}
use Rattle.unix_calls.specs.declared.Script.{Script}
use Rattle.unix_calls.specs.declared.Start.{Start}
use Rattle.unix_calls.specs.declared.Work.{Work}
use Rattle.unix_calls.specs.declared.Statement.{Statement}
use Rattle.unix_calls.specs.Valid.{IsStatement}
use Rattle.unix_calls.specs.Work.{work, together, work_of, total_work, is_little}
use Rattle.script_reader.specs.declared.names.Names.{Names}
use Rattle.script_reader.specs.declared.places.Place.{Place}
use Rattle.script_reader.specs.declared.lines.Item.{Item}
use Rattle.script_reader.specs.declared.lines.Item.TheVariants as item
use Rattle.script_words.specs.Words.{Word, Row}
use Rattle.script_reader.specs.Lines.{read_row, read_line, place_after}
use Rattle.script_reader.specs.Files.{begins_with, Told, tells, place_behind, said, with_said, body, scripts_of, judged}
use Rattle.script_laws.specs.Grammar.{Naming, IsCalled}
use Rattle.script_laws.proofs.Walks.{starts_now, IsLittle}
use Rattle.script_laws.proofs.Scripts.{is_beginning, body_is, scripts_are}
use Rattle.unix_calls.specs.declared.limits.TheConstants.{MOST_STATEMENTS, MOST_PROCESSES, MOST_WORK, WORK_STOP}

-- ---- rows in the place of lines
abbrev pub row_tells : Names → Place → List Row → List Told
row_tells names place [] = []
row_tells names place (row ∷ rows) = (row, read_row names place row) ∷ row_tells names (place_after place row (read_row names place row)) rows

pub tells_rows : (names : Names) (place : Place) (lines : List (List ℕ)) → All (λ line. is_utf8 line ≡ true) lines → tells names place lines ≡ row_tells names place (map words lines)
unfolding tells read_line
tells_rows names place [] t = refl
tells_rows names place (line ∷ lines) t =
    rw (All-head (λ line. is_utf8 line ≡ true) line lines t)
    (ap (λ (ts : List Told). (words line, read_row names place (words line)) ∷ ts) (tells_rows names (place_after place (words line) (read_row names place (words line))) lines (All-tail (λ line. is_utf8 line ≡ true) line lines t)))

pub row_told : (names : Names) (place : Place) (row : Row) (rows : List Row) (i : Item) (now : Place) → read_row names place row ≡ Ok i → place_after place row (Ok i) ≡ now → row_tells names place (row ∷ rows) ≡ (row, Ok i) ∷ row_tells names now rows
row_told names place row rows i now e p = rw (e, p) refl

-- ---- what lines mean
-- the statements of the open script, the scripts behind it, and all starts
pub record Means (ws : List Work) (place : Place) (told : List Told) (ss : List Statement) (scs : List Script) (earlier all : List Start) : Type 0 where
  pub body : body told ≡ ss
  pub scripts : scripts_of told ≡ scs
  pub closed : (place_behind place told).is_open ≡ false
  pub begun : (place_behind place told).begun ≡ true
  pub nodes : (place_behind place told).nodes ≡ place.nodes
  pub count : (place_behind place told).starts ≡ length all
  pub judged : (line : ℕ) → judged ws earlier line told ≡ Ok all

pub judged_with : (ws : List Work) (earlier : List Start) (line : ℕ) (row : Row) (i : Item) (rest : List Told) (all : List Start) → IsLittle ws earlier i → judged ws (starts_now earlier i) (line + 1) rest ≡ Ok all → judged ws earlier line ((row, Ok i) ∷ rest) ≡ Ok all
unfolding judged
judged_with ws earlier line row (item.Starts s) rest all l e = rw l e
judged_with ws earlier line row item.Nothing rest all l e = e
judged_with ws earlier line row (item.Nodes n) rest all l e = e
judged_with ws earlier line row item.ScriptBegins rest all l e = e
judged_with ws earlier line row item.ScriptEnds rest all l e = e
judged_with ws earlier line row (item.Says s) rest all l e = e

-- a line more
pub more : (ws : List Work) (place : Place) (row : Row) (i : Item) (now : Place) (told : List Told) (ss : List Statement) (scripts : List Script) (earlier all : List Start)
    → place_after place row (Ok i) ≡ now → now.nodes ≡ place.nodes → begins_with (codes "script") row ≡ is_beginning i → IsLittle ws earlier i → Means ws now told ss scripts (starts_now earlier i) all
    → Means ws place ((row, Ok i) ∷ told) (cond (is_beginning i) [] (with_said (said (Ok i)) ss)) (cond (is_beginning i) (record { statements = ss } ∷ scripts) scripts) earlier all
unfolding place_behind
more ws place row i now told ss scripts earlier all p n b l m = record {
  body = body_is (row, Ok i) told i refl b ∙ ap (λ (x : List Statement). cond (is_beginning i) [] (with_said (said (Ok i)) x)) m.body;
  scripts = scripts_are (row, Ok i) told (is_beginning i) b ∙ rw (m.body, m.scripts) refl;
  closed = ap (λ q. (place_behind q told).is_open) p ∙ m.closed;
  begun = ap (λ q. (place_behind q told).begun) p ∙ m.begun;
  nodes = ap (λ q. (place_behind q told).nodes) p ∙ m.nodes ∙ n;
  count = ap (λ q. (place_behind q told).starts) p ∙ m.count;
  judged = λ line. judged_with ws earlier line row i told all l (m.judged (line + 1));
}

-- ---- work
fold_together : (ws : List Work) (w : Work) (xs ys : List Start) → fold (λ total start. together total (work_of ws start.script)) w (xs ++ ys) ≡ fold (λ total start. together total (work_of ws start.script)) (fold (λ total start. together total (work_of ws start.script)) w xs) ys
fold_together ws w [] ys = refl
fold_together ws w (x ∷ xs) ys = fold_together ws (together w (work_of ws x.script)) xs ys

little_before : (a b : Work) → is_little (together a b) ≡ true → is_little a ≡ true
little_before a b l =
    let p = and_parts (nat_le (together a b).processes MOST_PROCESSES) (nat_le (together a b).statements MOST_WORK) l in
    let processes = leb-true (together a b).processes MOST_PROCESSES p.0 in
    let statements = leb-true (together a b).statements MOST_WORK p.1 in
    rw (le-leb a.processes MOST_PROCESSES (less a.processes b.processes WORK_STOP MOST_PROCESSES (omega arith) processes), le-leb a.statements MOST_WORK (less a.statements b.statements WORK_STOP MOST_WORK (omega arith) statements)) refl
  where
    less : (n m stop most : ℕ) → most < stop → min (n + m) stop ≤ most → n ≤ most
    less n m stop most lt le = omega (arith, lt, le)

little_at_first : (ws : List Work) (w : Work) (ys : List Start) → is_little (fold (λ total start. together total (work_of ws start.script)) w ys) ≡ true → is_little w ≡ true
little_at_first ws w [] l = l
little_at_first ws w (y ∷ ys) l = little_before w (work_of ws y.script) (little_at_first ws (together w (work_of ws y.script)) ys l)

pub little_first : (ws : List Work) (xs ys : List Start) → is_little (total_work ws (xs ++ ys)) ≡ true → is_little (total_work ws xs) ≡ true
little_first ws xs ys l = little_at_first ws (total_work ws xs) ys (ap is_little (sym (fold_together ws (work 0 0) xs ys)) ∙ l)

-- ---- where lines stand
-- the statements of the open script
abbrev pub statements_of : Option (List Statement) → List Statement
statements_of None = []
statements_of (Some ss) = ss

-- what a script may still say where it is open
abbrev pub Fits : World → Place → Option (List Statement) → Type 0
Fits world place None = Unit {0}
Fits world place (Some ss) = All (IsStatement world (place.scripts - 1)) ss × (place.statements + length ss ≤ MOST_STATEMENTS)

pub record Stands (naming : Naming) (world : World) (place : Place) (open' : Option (List Statement)) (words : List Word) (scs : List Script) (later earlier : List Start) : Type 0 where
  pub begun : place.begun ≡ true
  pub nodes : place.nodes ≡ world.nodes
  pub is_open : place.is_open ≡ is_some open'
  pub fits : Fits world place open'
  pub each : (j : ℕ) (script : Script) → slice_get scs j ≡ Some script → slice_get world.scripts (place.scripts + j) ≡ Some script
  pub names : (j : ℕ) (word : Word) → slice_get words j ≡ Some word → IsCalled naming.scripts word (place.scripts + j)
  pub count : length earlier ≡ place.starts
  pub all : earlier ++ later ≡ world.starts
