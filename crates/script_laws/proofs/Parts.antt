-- a whole part without a fault
use Rattle.std.proofs.Common.{◌≡◌, ℕ, suc, ◌+◌, ◌-◌, Bool, true, false, cond, List, [], ◌∷◌, length, refl, sym, ap, subst, arith, Option, Some, None, Result, Ok, Err, All}
use Rattle.std.specs.Prelude.{codes, map, filter}
use Rattle.std.proofs.lemmas.List.Elements.{All-nil, All-weaker}
use Rattle.byte_ends.specs.Text.{words}
use Rattle.unix_calls.specs.declared.World.{World}
use Rattle.unix_calls.specs.declared.Script.{Script}
use Rattle.unix_calls.specs.declared.Start.{Start}
use Rattle.unix_calls.specs.Valid.{IsStatement, IsScript, IsValid}
use Rattle.unix_calls.specs.Work.{works}
use Rattle.script_words.specs.declared.faults.Kind.{Kind}
use Rattle.script_words.specs.declared.faults.Fault.{Fault}
use Rattle.script_reader.specs.declared.names.Names.{Names}
use Rattle.script_reader.specs.declared.places.Place.{Place}
use Rattle.script_words.specs.Words.{word_at}
use Rattle.script_reader.specs.Lines.{read_line, place_after}
use Rattle.script_words.specs.Kinds.{fault_at}
use Rattle.script_reader.specs.Files.{begins_with, words_behind, gather, Told, first_place, tells, place_behind, body, scripts_of, judged, end_kind, silent_kind, ended_world, whole_world, told_part, read_part}
use Rattle.script_laws.specs.Worlds.{ReadIsValid}
use Rattle.script_laws.proofs.Statements.{AreVariables, IsRead}
use Rattle.script_laws.proofs.Tables.{AreBelow, variables_listed, scripts_below}
use Rattle.script_laws.proofs.Walks.{all_read, Walk, walked, cluster_fits}
use Rattle.script_laws.proofs.Scripts.{scripts_fit, scripts_few, IsReadScript, AreReadScripts, at_scripts}
use Rattle.script_laws.proofs.Starts.{AreStarted, starts_fit}

-- the names of a part, and what its lines say
abbrev pub names_of : List (List ℕ) → Names
names_of lines = gather (map words lines)

abbrev pub told_of : List (List ℕ) → List Told
told_of lines = tells (names_of lines) first_place lines

-- where the line behind a part would stand
abbrev pub last_place : List (List ℕ) → Place
last_place lines = place_behind first_place (told_of lines)

abbrev pub world_of : List (List ℕ) → List Start → World
world_of lines starts = record { nodes = (last_place lines).nodes; vars = length (names_of lines).variables; scripts = scripts_of (told_of lines); starts = starts }

-- a part without a fault
pub record IsWhole (first : ℕ) (lines : List (List ℕ)) (world : World) : Type 0 where
  pub starts : List Start
  pub begun : (last_place lines).begun ≡ true
  pub judged : judged (works (scripts_of (told_of lines))) [] first (told_of lines) ≡ Ok starts
  pub ended : end_kind (last_place lines) ≡ None
  pub is : world ≡ world_of lines starts

pub whole : (first : ℕ) (lines : List (List ℕ)) (world : World) → read_part first lines ≡ Ok world → IsWhole first lines world
unfolding read_part told_part
whole first lines world e = go (last_place lines).begun (judged (works (scripts_of (told_of lines))) [] first (told_of lines)) (end_kind (last_place lines)) refl refl refl e
  where
    last : ℕ
    last = first + length lines - 1

    go : (b : Bool) (r : Result (List Start) Fault) (o : Option Kind) → (last_place lines).begun ≡ b → judged (works (scripts_of (told_of lines))) [] first (told_of lines) ≡ r → end_kind (last_place lines) ≡ o
        → cond b (whole_world (names_of lines) last (told_of lines) (last_place lines) r) (Err (fault_at first (silent_kind lines))) ≡ Ok world → IsWhole first lines world
    go false r o eb er eo h = cc
    go true (Err f) o eb er eo h = cc
    go true (Ok starts) o eb er eo h = at_end o eo (rw eo at h)
      where
        at_end : (o : Option Kind) → end_kind (last_place lines) ≡ o → ended_world last o (world_of lines starts) ≡ Ok world → IsWhole first lines world
        at_end (Some k) eo h = cc
        at_end None eo h = let is : world_of lines starts ≡ world = cc in record { starts = starts; begun = eb; judged = er; ended = eo; is = sym is }

-- a script for each line that begins one
one_more : {X Y Z : Type 0} (f : X → Y) (b : Bool) (x : X) (xs : List X) (z : Z) (zs : List Z) → length (map f xs) ≡ length zs → length (map f (cond b (x ∷ xs) xs)) ≡ length (cond b (z ∷ zs) zs)
one_more f true x xs z zs e = ap (λ n. suc n) e
one_more f false x xs z zs e = e

scripts_counted : (names : Names) (place : Place) (lines : List (List ℕ)) → length (words_behind (codes "script") 1 (map words lines)) ≡ length (scripts_of (tells names place lines))
unfolding words_behind scripts_of tells
scripts_counted names place [] = refl
scripts_counted names place (line ∷ lines) =
    let now = place_after place (words line) (read_line names place line) in
    one_more (λ row. word_at row 1) (begins_with (codes "script") (words line)) (words line) (filter (begins_with (codes "script")) (map words lines)) (record { statements = body (tells names now lines) }) (scripts_of (tells names now lines))
    (scripts_counted names (place_after place (words line) (read_line names place line)) lines)

-- ---- the world of a part without a fault
module _ (first : ℕ) (lines : List (List ℕ)) (world : World) (w : IsWhole first lines world) where
  pub walk : Walk (names_of lines) first_place (told_of lines)
  walk = walked (names_of lines) first_place lines (all_read (works (scripts_of (told_of lines))) [] first (told_of lines) w.starts w.judged)

  pub variables_known : AreVariables (names_of lines).variables (world_of lines w.starts)
  variables_known = record { each = λ word n e. (variables_listed (map words lines)).below.each word n e }

  pub scripts_known : AreBelow (names_of lines).scripts (length (scripts_of (told_of lines)))
  scripts_known = subst (AreBelow (names_of lines).scripts) (scripts_counted (names_of lines) first_place lines) (scripts_below (map words lines))

  none_started : AreStarted (names_of lines) (world_of lines w.starts) (works (scripts_of (told_of lines))) (variables_listed (map words lines)) refl scripts_known [] first_place
  none_started = record { count = refl; few = omega arith; each = λ k x e. cc; named = λ k x e. cc; users = All-nil _; work = refl }

  pub started : AreStarted (names_of lines) (world_of lines w.starts) (works (scripts_of (told_of lines))) (variables_listed (map words lines)) refl scripts_known w.starts (last_place lines)
  started = starts_fit (names_of lines) (world_of lines w.starts) (works (scripts_of (told_of lines))) (variables_listed (map words lines)) refl scripts_known first_place (told_of lines) [] first w.starts walk refl w.judged none_started

  pub scripted : AreReadScripts (names_of lines) (world_of lines w.starts) variables_known 0 (scripts_of (told_of lines))
  scripted = scripts_fit (names_of lines) (world_of lines w.starts) variables_known first_place (told_of lines) walk refl

  script_valid : (k : ℕ) (script : Script) → IsReadScript (names_of lines) (world_of lines w.starts) variables_known (0 + k) script → IsScript (world_of lines w.starts) k script
  script_valid k script r =
      let z : 0 + k ≡ k = omega arith in
      (r.0, All-weaker (IsRead (world_of lines w.starts) k) (IsStatement (world_of lines w.starts) k) (λ s h. h.0) script.statements (subst (λ j. All (IsRead (world_of lines w.starts) j) script.statements) z r.1))

  pub world_valid : IsValid (world_of lines w.starts)
  world_valid =
      let c = cluster_fits (names_of lines) first_place (told_of lines) walk refl w.begun in
      let few = scripts_few (names_of lines) first_place (told_of lines) walk (omega arith) in
      record {
        limits = record { some_node = c.0; nodes = c.1; scripts = omega arith; starts = omega (arith, started.count, started.few) };
        scripts = λ k script e. script_valid k script (at_scripts (names_of lines) (world_of lines w.starts) variables_known 0 (scripts_of (told_of lines)) k script scripted e);
        starts = started.each;
        work = started.work;
      }

pub read_valid : ReadIsValid
read_valid first lines world e = let w = whole first lines world e in subst IsValid (sym w.is) (world_valid first lines world w)
