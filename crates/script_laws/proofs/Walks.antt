-- the lines of a part without a fault, one after the other
use Rattle.std.proofs.Common.{◌≡◌, ℕ, ◌+◌, ◌≤◌, Bool, true, false, cond, List, [], ◌∷◌, refl, sym, ap, ◌∙◌, subst, Result, Ok, Err}
use Rattle.std.specs.Str.{is_utf8}
use Rattle.byte_ends.specs.Text.{words}
use Rattle.unix_calls.specs.declared.Start.{Start}
use Rattle.unix_calls.specs.declared.Work.{Work}
use Rattle.unix_calls.specs.Work.{total_work, is_little}
use Rattle.script_words.specs.declared.faults.Kind.{Kind}
use Rattle.script_words.specs.declared.faults.Kind.TheVariants.{NotUtf8, TooMuchWork}
use Rattle.script_words.specs.declared.faults.Fault.{Fault}
use Rattle.script_reader.specs.declared.names.Names.{Names}
use Rattle.script_reader.specs.declared.places.Place.{Place}
use Rattle.script_reader.specs.declared.lines.Item.{Item}
use Rattle.script_reader.specs.declared.lines.Item.TheVariants as item
use Rattle.script_words.specs.Words.{Row}
use Rattle.script_reader.specs.Lines.{read_row, read_line, place_after}
use Rattle.script_words.specs.Kinds.{fault_at}
use Rattle.script_reader.specs.Files.{Told, tells, place_behind, with_start, judged}
use Rattle.script_laws.proofs.Results.{then_ok}
use Rattle.script_laws.proofs.Lines.{Step, silent, opens, begins, ends, says, starts, step}
use Rattle.unix_calls.specs.declared.limits.TheConstants.{MOST_NODES}

-- ---- lines that were judged
abbrev pub AllRead : List Told → Type 0
AllRead [] = Unit {0}
AllRead (told ∷ rest) = ((i : Item) × (told.1 ≡ Ok i)) × AllRead rest

-- the starts behind a line
abbrev pub starts_now : List Start → Item → List Start
starts_now earlier (item.Starts s) = with_start earlier s
starts_now earlier _ = earlier

abbrev pub IsLittle : List Work → List Start → Item → Type 0
IsLittle works earlier (item.Starts s) = is_little (total_work works (with_start earlier s)) ≡ true
IsLittle works earlier _ = Unit {0}

-- the first of some lines without a fault, and the others
pub record Judged (works : List Work) (earlier : List Start) (line : ℕ) (r : Result Item Kind) (rest : List Told) (all : List Start) : Type 0 where
  pub i : Item
  pub read : r ≡ Ok i
  pub little : IsLittle works earlier i
  pub later : judged works (starts_now earlier i) (line + 1) rest ≡ Ok all

little_then : (b : Bool) (r : Result (List Start) Fault) (f : Fault) (all : List Start) → cond b r (Err f) ≡ Ok all → (b ≡ true) × (r ≡ Ok all)
little_then true r f all e = (refl, e)
little_then false r f all e = cc

pub judged_next : (works : List Work) (earlier : List Start) (line : ℕ) (row : Row) (r : Result Item Kind) (rest : List Told) (all : List Start) → judged works earlier line ((row, r) ∷ rest) ≡ Ok all → Judged works earlier line r rest all
unfolding judged
judged_next works earlier line row (Err kind) rest all e = cc
judged_next works earlier line row (Ok (item.Starts s)) rest all e =
    let t = little_then (is_little (total_work works (with_start earlier s))) (judged works (with_start earlier s) (line + 1) rest) (fault_at line TooMuchWork) all e in
    record { i = item.Starts s; read = refl; little = t.0; later = t.1 }
judged_next works earlier line row (Ok item.Nothing) rest all e = record { i = item.Nothing; read = refl; little = tt; later = e }
judged_next works earlier line row (Ok (item.Nodes n)) rest all e = record { i = item.Nodes n; read = refl; little = tt; later = e }
judged_next works earlier line row (Ok item.ScriptBegins) rest all e = record { i = item.ScriptBegins; read = refl; little = tt; later = e }
judged_next works earlier line row (Ok item.ScriptEnds) rest all e = record { i = item.ScriptEnds; read = refl; little = tt; later = e }
judged_next works earlier line row (Ok (item.Says s)) rest all e = record { i = item.Says s; read = refl; little = tt; later = e }

pub all_read : (works : List Work) (earlier : List Start) (line : ℕ) (told : List Told) (all : List Start) → judged works earlier line told ≡ Ok all → AllRead told
all_read works earlier line [] all e = tt
all_read works earlier line (t ∷ rest) all e = let j = judged_next works earlier line t.0 t.1 rest all e in ((j.i, j.read), all_read works (starts_now earlier j.i) (line + 1) rest all j.later)

-- ---- a walk over lines without a fault
abbrev pub Walk : Names → Place → List Told → Type 0
Walk names place [] = Unit {0}
Walk names place (told ∷ rest) = (i : Item) × (told.1 ≡ Ok i) × Step names place told.0 i (place_after place told.0 told.1) × Walk names (place_after place told.0 told.1) rest

row_read : (names : Names) (place : Place) (line : List ℕ) (i : Item) → read_line names place line ≡ Ok i → read_row names place (words line) ≡ Ok i
unfolding read_line
row_read names place line i e = (then_ok (is_utf8 line) (read_row names place (words line)) NotUtf8 i e).1

pub walked : (names : Names) (place : Place) (lines : List (List ℕ)) → AllRead (tells names place lines) → Walk names place (tells names place lines)
unfolding tells
walked names place [] all = tt
walked names place (line ∷ lines) all =
    let r = read_line names place line in
    let here : Step names place (words line) all.0.0 (place_after place (words line) (Ok all.0.0)) = step names place (words line) all.0.0 (row_read names place line all.0.0 all.0.1) in
    (all.0.0, all.0.1, subst (λ (x : Result Item Kind). Step names place (words line) all.0.0 (place_after place (words line) x)) (sym all.0.1) here, walked names (place_after place (words line) (read_line names place line)) lines all.1)

-- ---- nodes
begun_step : (names : Names) (place : Place) (row : Row) (i : Item) (now : Place) → Step names place row i now → place.begun ≡ true → (now.nodes ≡ place.nodes) × (now.begun ≡ true)
begun_step names place row i now (silent k e n) b = (ap (λ p. p.nodes) n, ap (λ p. p.begun) n ∙ b)
begun_step names place row i now (opens m k b' w nu l lo hi e n) b = cc
begun_step names place row i now (begins k b' w a o nm d l e n) b = (ap (λ p. p.nodes) n, ap (λ p. p.begun) n)
begun_step names place row i now (ends k b' w o l e n) b = (ap (λ p. p.nodes) n, ap (λ p. p.begun) n)
begun_step names place row i now (says v s k b' w o c st e n) b = (ap (λ p. p.nodes) n, ap (λ p. p.begun) n)
begun_step names place row i now (starts s k b' w c o st e n) b = (ap (λ p. p.nodes) n, ap (λ p. p.begun) n)

-- behind the first line that says something, the cluster stays
pub nodes_stay : (names : Names) (place : Place) (told : List Told) → Walk names place told → place.begun ≡ true → ((place_behind place told).nodes ≡ place.nodes) × ((place_behind place told).begun ≡ true)
unfolding place_behind
nodes_stay names place [] w b = (refl, b)
nodes_stay names place (t ∷ rest) w b =
    let s = begun_step names place t.0 w.0 (place_after place t.0 t.1) w.2 b in
    let l = nodes_stay names (place_after place t.0 t.1) rest w.3 s.1 in
    (l.0 ∙ s.0, l.1)

abbrev pub IsCluster : ℕ → Type 0
IsCluster n = (1 ≤ n) × (n ≤ MOST_NODES)

first_step : (names : Names) (place : Place) (row : Row) (i : Item) (now : Place) → Step names place row i now → place.begun ≡ false → now.begun ≡ true → IsCluster now.nodes
first_step names place row i now (silent k e n) b b'' = let h : place.begun ≡ true = ap (λ p. p.begun) (sym n) ∙ b'' in cc
first_step names place row i now (opens m k b' w nu l lo hi e n) b b'' = rw n (lo, hi)
first_step names place row i now (begins k b' w a o nm d l e n) b b'' = cc
first_step names place row i now (ends k b' w o l e n) b b'' = cc
first_step names place row i now (says v s k b' w o c st e n) b b'' = cc
first_step names place row i now (starts s k b' w c o st e n) b b'' = cc

-- the first line that says something says how many nodes there are
pub cluster_fits : (names : Names) (place : Place) (told : List Told) → Walk names place told → place.begun ≡ false → (place_behind place told).begun ≡ true → IsCluster (place_behind place told).nodes
unfolding place_behind
cluster_fits names place [] w b e = cc
cluster_fits names place (t ∷ rest) w b e = go (place_after place t.0 t.1).begun refl (cluster_fits names (place_after place t.0 t.1) rest w.3)
  where
    go : (c : Bool) → (place_after place t.0 t.1).begun ≡ c → ((place_after place t.0 t.1).begun ≡ false → (place_behind (place_after place t.0 t.1) rest).begun ≡ true → IsCluster (place_behind (place_after place t.0 t.1) rest).nodes)
        → IsCluster (place_behind (place_after place t.0 t.1) rest).nodes
    go true h ih = subst IsCluster (sym ((nodes_stay names (place_after place t.0 t.1) rest w.3 h).0)) (first_step names place t.0 w.0 (place_after place t.0 t.1) w.2 b h)
    go false h ih = ih h e
