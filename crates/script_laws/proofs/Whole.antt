-- a part of the grammar is read as the world that it spells
use Rattle.std.proofs.Common.{◌≡◌, ℕ, ◌+◌, ◌≤◌, true, false, List, [], ◌∷◌, length, refl, sym, ap, ◌∙◌, subst, arith, Some, None, Ok}
use Rattle.std.specs.Prelude.{codes, slice_get, map}
use Rattle.std.proofs.lemmas.Bool.{le-leb, lt-ltb}
use Rattle.byte_ends.specs.Text.{words}
use Rattle.unix_calls.specs.declared.World.{World}
use Rattle.unix_calls.specs.declared.Script.{Script}
use Rattle.unix_calls.specs.Valid.{IsValid}
use Rattle.unix_calls.specs.Work.{works}
use Rattle.script_reader.specs.declared.names.Names.{Names}
use Rattle.script_reader.specs.declared.places.Place.{Place}
use Rattle.script_reader.specs.declared.lines.Head.TheVariants as head
use Rattle.script_reader.specs.declared.lines.Item.TheVariants as item
use Rattle.script_words.specs.Words.{Word, Row, word_at, is_same, is_skipped, ended}
use Rattle.script_reader.specs.Lines.{cluster_line, read_row, place_after, placed_after}
use Rattle.script_reader.specs.Files.{Told, tells, first_place, place_behind, scripts_of, judged, gather, end_kind, told_part, read_part}
use Rattle.script_laws.specs.Grammar.{Naming, IsCalled, IsFor, Part, silent, opens, IsFile}
use Rattle.script_laws.specs.Worlds.{FileIsRead}
use Rattle.script_laws.proofs.Words.{skipped_script, begins_so, script_word}
use Rattle.script_laws.proofs.Scripts.{scripts_are}
use Rattle.script_laws.proofs.Reading.{number_read, not_equal}
use Rattle.script_laws.proofs.Spoken.{HasNaming, HasStarts}
use Rattle.script_laws.proofs.Heads.{cluster_head, row_place}
use Rattle.script_laws.proofs.Told.{row_tells, tells_rows, row_told, Means, judged_with}
use Rattle.script_laws.proofs.Sense.{skip_read, read_lines}
use Rattle.script_laws.proofs.Named.{part_names}
use Rattle.script_laws.proofs.Numbering.{has_naming, has_starts, vars_counted}
use Rattle.unix_calls.specs.declared.limits.TheConstants.{MOST_NODES}

-- what the lines of a whole part mean
record IsMeant (world : World) (told : List Told) : Type 0 where
  scripts : scripts_of told ≡ world.scripts
  closed : (place_behind first_place told).is_open ≡ false
  begun : (place_behind first_place told).begun ≡ true
  nodes : (place_behind first_place told).nodes ≡ world.nodes
  count : (place_behind first_place told).starts ≡ length world.starts
  judged : (line : ℕ) → judged (works world.scripts) [] line told ≡ Ok world.starts

module _ (names : Names) (naming : Naming) (world : World) (has : HasNaming names naming) (known : HasStarts names naming world.starts) (valid : IsValid world) where
  cluster_said : (word : Word) → IsFor word world.nodes → read_row names first_place (codes "cluster" ∷ word ∷ []) ≡ Ok (item.Nodes world.nodes)
  unfolding read_row cluster_line is_skipped word_at is_same ended
  cluster_said word n = rw (number_read word world.nodes n, lt-ltb 0 world.nodes valid.limits.some_node, le-leb world.nodes MOST_NODES valid.limits.nodes) refl

  silent_case : (row : Row) (rows : List Row) → is_skipped row ≡ true → IsMeant world (row_tells names first_place rows) → IsMeant world (row_tells names first_place (row ∷ rows))
  unfolding place_behind
  silent_case row rows s m =
      let r = skip_read names first_place row s in
      subst (IsMeant world) (sym (row_told names first_place row rows item.Nothing first_place r.0 r.1)) (record {
        scripts = scripts_are (row, Ok item.Nothing) (row_tells names first_place rows) false (skipped_script row s) ∙ m.scripts;
        closed = ap (λ q. (place_behind q (row_tells names first_place rows)).is_open) r.1 ∙ m.closed;
        begun = ap (λ q. (place_behind q (row_tells names first_place rows)).begun) r.1 ∙ m.begun;
        nodes = ap (λ q. (place_behind q (row_tells names first_place rows)).nodes) r.1 ∙ m.nodes;
        count = ap (λ q. (place_behind q (row_tells names first_place rows)).starts) r.1 ∙ m.count;
        judged = λ line. judged_with (works world.scripts) [] line row item.Nothing (row_tells names first_place rows) world.starts tt (m.judged (line + 1));
      })

  abbrev Opened : Place
  Opened = placed_after first_place world.nodes head.Unknown

  cluster_case : (word : Word) (rows : List Row) → IsFor word world.nodes → Means (works world.scripts) Opened (row_tells names Opened rows) [] world.scripts [] world.starts → IsMeant world (row_tells names first_place ((codes "cluster" ∷ word ∷ []) ∷ rows))
  unfolding place_behind word_at
  cluster_case word rows n m =
      let row : Row = codes "cluster" ∷ word ∷ [] in
      let p : place_after first_place (codes "cluster" ∷ word ∷ []) (Ok (item.Nodes world.nodes)) ≡ Opened = row_place first_place (codes "cluster" ∷ word ∷ []) (codes "cluster") head.Unknown (item.Nodes world.nodes) refl (λ e. cc) cluster_head in
      subst (IsMeant world) (sym (row_told names first_place (codes "cluster" ∷ word ∷ []) rows (item.Nodes world.nodes) Opened (cluster_said word n) p)) (record {
        scripts = scripts_are (codes "cluster" ∷ word ∷ [], Ok (item.Nodes world.nodes)) (row_tells names Opened rows) false (begins_so (codes "cluster" ∷ word ∷ []) (codes "script") (codes "cluster") false refl script_word.3) ∙ m.scripts;
        closed = ap (λ q. (place_behind q (row_tells names Opened rows)).is_open) p ∙ m.closed;
        begun = ap (λ q. (place_behind q (row_tells names Opened rows)).begun) p ∙ m.begun;
        nodes = ap (λ q. (place_behind q (row_tells names Opened rows)).nodes) p ∙ m.nodes;
        count = ap (λ q. (place_behind q (row_tells names Opened rows)).starts) p ∙ m.count;
        judged = λ line. judged_with (works world.scripts) [] line (codes "cluster" ∷ word ∷ []) (item.Nodes world.nodes) (row_tells names Opened rows) world.starts tt (m.judged (line + 1));
      })

  none_before : (n : ℕ) → n ≡ 0 + n
  none_before n = omega arith

  read_rows : (rows : List Row) → Part naming world rows → IsMeant world (row_tells names first_place rows)
  read_rows rows' (silent row {rows = rows} s p) = silent_case row rows s (read_rows rows p)
  read_rows rows' (opens word {rows = rows} n d) = cluster_case word rows n (read_lines names naming world has known valid None naming.scripts world.scripts world.starts rows d Opened [] (record {
    begun = refl;
    nodes = refl;
    is_open = refl;
    fits = tt;
    each = λ j script h. subst (λ k. slice_get world.scripts k ≡ Some script) (none_before j) h;
    names = λ j word h. subst (λ k. IsCalled naming.scripts word k) (none_before j) h;
    count = refl;
    all = refl;
  }))

-- ---- the world of a part
module _ (lines : List (List ℕ)) (world : World) (file : IsFile lines world) where
  abbrev Told' : List Told
  Told' = tells (gather (map words lines)) first_place lines

  meant : IsMeant world Told'
  meant =
      let given = part_names file.naming world (map words lines) file.part in
      let has = has_naming file.naming world (map words lines) given file.scripts file.variables file.total file.in_order file.valid in
      let known = has_starts file.naming world (map words lines) given file.scripts file.variables file.total file.in_order file.valid in
      subst (IsMeant world) (sym (tells_rows (gather (map words lines)) first_place lines file.texts)) (read_rows (gather (map words lines)) file.naming world has known file.valid (map words lines) file.part)

  vars : length (gather (map words lines)).variables ≡ world.vars
  vars = vars_counted file.naming world (map words lines) (part_names file.naming world (map words lines) file.part) file.scripts file.variables file.total file.in_order file.valid

  ended_well : (place : Place) → place.is_open ≡ false → place.starts ≡ length world.starts → end_kind place ≡ None
  ended_well place c n = rw (c, not_equal place.starts 0 (some place.starts (length world.starts) n file.some_start)) refl
    where
      some : (a b : ℕ) → a ≡ b → 1 ≤ b → a ≡ 0 → ⊥
      some a b e le z = omega arith

  pub file_means : (first : ℕ) → read_part first lines ≡ Ok world
  unfolding read_part told_part
  file_means first =
      let m = meant in
      let j : judged (works (scripts_of Told')) [] first Told' ≡ Ok world.starts = subst (λ (ss : List Script). judged (works ss) [] first Told' ≡ Ok world.starts) (sym m.scripts) (m.judged first) in
      rw (m.begun, j, ended_well (place_behind first_place Told') m.closed m.count, m.nodes, vars, m.scripts) refl

pub file_read : FileIsRead
file_read first lines world file = file_means lines world file first
