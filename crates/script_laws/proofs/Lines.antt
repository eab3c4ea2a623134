-- what a line without a fault says, and where the next line stands
use Rattle.std.proofs.Common.{◌≡◌, ◌==◌, ◌&&◌, ℕ, ◌≤◌, Bool, true, false, cond, length, refl, sym, ap, Ok}
use Rattle.std.specs.Prelude.{codes, nat_le, nat_lt}
use Rattle.std.proofs.lemmas.Bool.{ltb-true, leb-true, and_parts}
use Rattle.unix_calls.specs.declared.world.Statement.{Statement}
use Rattle.script_words.specs.declared.faults.Kind.TheVariants.{NoClusterLine, UnknownWord, TooManyNodes, TooManyScripts, TooManyStatements, TooManyStarts, DoubleName}
use Rattle.script_reader.specs.declared.names.Names.{Names}
use Rattle.script_reader.specs.declared.places.Place.{Place}
use Rattle.script_words.specs.declared.table.Verb.{Verb}
use Rattle.script_reader.specs.declared.lines.Head.{Head}
use Rattle.script_reader.specs.declared.lines.Head.TheVariants as head
use Rattle.script_reader.specs.declared.lines.Item.{Item}
use Rattle.script_reader.specs.declared.lines.Item.TheVariants as item
use Rattle.script_reader.specs.declared.lines.StartLine.{StartLine}
use Rattle.script_words.specs.Words.{Row, is_same, word_at, name, number, ended, node, is_skipped}
use Rattle.script_words.specs.Table.{verb_word, verb_named}
use Rattle.script_reader.specs.Statements.{script, statement_of}
use Rattle.script_reader.specs.Lines.{head_of, is_numbered, cluster_line, script_line, end_line, statement_line, start_variable, user, joined, start_words, start_line, later_line, read_row, nodes_after, placed_after, place_after}
use Rattle.script_laws.proofs.Results.{next_ok, then_ok, else_ok, ended_ok}
use Rattle.script_laws.proofs.Words.{same_words, BeginsSo, head_word}
use Rattle.unix_calls.specs.declared.limits.TheConstants.{MOST_NODES, MOST_SCRIPTS, MOST_STATEMENTS, MOST_STARTS}

-- the words of a start, read where it stands
pub record IsStartLine (names : Names) (place : Place) (row : Row) (s : StartLine) : Type 0 where
  pub node : node place.nodes (word_at row 1) ≡ Ok s.node
  pub script : script names.scripts (word_at row 2) ≡ Ok s.script
  pub var : start_variable names place (word_at row 3) ≡ Ok s.var
  pub count : ℕ
  pub uid : user row ≡ Ok (s.uid, count)
  pub joined : joined names place count row ≡ Ok s.joined

-- a line without a fault
pub data Step (names : Names) (place : Place) (row : Row) (i : Item) (now : Place) : Type 0 where
  silent : is_skipped row ≡ true → i ≡ item.Nothing → now ≡ place → Step names place row i now
  opens : (n : ℕ) → is_skipped row ≡ false → place.begun ≡ false → word_at row 0 ≡ codes "cluster" → number (word_at row 1) ≡ Ok n → nat_le (length row) 2 ≡ true → 1 ≤ n → n ≤ 64
      → i ≡ item.Nodes n → now ≡ placed_after place n head.Unknown → Step names place row i now
  begins : is_skipped row ≡ false → place.begun ≡ true → word_at row 0 ≡ codes "script" → (place.scripts == MOST_SCRIPTS) ≡ false → place.is_open ≡ false
      → name (word_at row 1) ≡ Ok tt → is_numbered names.scripts (word_at row 1) place.scripts ≡ true → nat_le (length row) 2 ≡ true
      → i ≡ item.ScriptBegins → now ≡ placed_after place place.nodes head.Script → Step names place row i now
  ends : is_skipped row ≡ false → place.begun ≡ true → word_at row 0 ≡ codes "end" → place.is_open ≡ true → nat_le (length row) 1 ≡ true
      → i ≡ item.ScriptEnds → now ≡ placed_after place place.nodes head.End → Step names place row i now
  says : (v : Verb) (s : Statement) → is_skipped row ≡ false → place.begun ≡ true → word_at row 0 ≡ verb_word v → place.is_open ≡ true → (place.statements == MOST_STATEMENTS) ≡ false
      → statement_of names place v row ≡ Ok s → i ≡ item.Says s → now ≡ placed_after place place.nodes (head.Says v) → Step names place row i now
  starts : (s : StartLine) → is_skipped row ≡ false → place.begun ≡ true → word_at row 0 ≡ codes "start" → (place.starts == MOST_STARTS) ≡ false → place.is_open ≡ false
      → IsStartLine names place row s → i ≡ item.Starts s → now ≡ placed_after place place.nodes head.Start → Step names place row i now

module _ (names : Names) (place : Place) (row : Row) (i : Item) where
  abbrev Now : Place
  Now = place_after place row (Ok i)

  abbrev Here : Type 0
  Here = Step names place row i Now

  silent_now : is_skipped row ≡ true → i ≡ item.Nothing → Here
  unfolding place_after
  silent_now skip e = silent skip e (rw skip)

  -- behind a line that isn't skipped
  place_now : (h : Head) (n : ℕ) → is_skipped row ≡ false → head_of (word_at row 0) ≡ h → nodes_after place.nodes (Ok i) ≡ n → Now ≡ placed_after place n h
  unfolding place_after
  place_now h n skip e m = rw (skip, e, m)

  opens_now : is_skipped row ≡ false → place.begun ≡ false → cluster_line row ≡ Ok i → Here
  unfolding cluster_line head_of verb_named is_same
  opens_now skip begun e =
      let c = then_ok (is_same (word_at row 0) (codes "cluster")) _ NoClusterLine i e in
      let w : word_at row 0 ≡ codes "cluster" = same_words _ _ c.0 in
      let m = next_ok (number (word_at row 1)) _ i c.1 in
      let t = then_ok (nat_lt 0 m.0 && nat_le m.0 MOST_NODES) _ TooManyNodes i m.2 in
      let p = and_parts (nat_lt 0 m.0) (nat_le m.0 MOST_NODES) t.0 in
      let d = next_ok (ended {A = Unit {0}} row 2 tt) _ i t.1 in
      let is : item.Nodes m.0 ≡ i = cc in
      opens m.0 skip begun w m.1 ((ended_ok row 2 tt d.0 d.1).0) (ltb-true 0 m.0 p.0) (leb-true m.0 MOST_NODES p.1) (sym is) (place_now head.Unknown m.0 skip (ap head_of w) (ap (λ z. nodes_after place.nodes (Ok z)) (sym is)))

  begins_now : is_skipped row ≡ false → place.begun ≡ true → head_of (word_at row 0) ≡ head.Script → word_at row 0 ≡ codes "script" → script_line names place row ≡ Ok i → Here
  unfolding script_line
  begins_now skip begun h w e =
      let a = else_ok (place.scripts == MOST_SCRIPTS) _ TooManyScripts i e in
      let b = else_ok place.is_open _ UnknownWord i a.1 in
      let n = next_ok (name (word_at row 1)) _ i b.1 in
      let t = then_ok (is_numbered names.scripts (word_at row 1) place.scripts) _ DoubleName i n.2 in
      let d = next_ok (ended {A = Unit {0}} row 2 tt) _ i t.1 in
      let is : item.ScriptBegins ≡ i = cc in
      begins skip begun w a.0 b.0 n.1 t.0 ((ended_ok row 2 tt d.0 d.1).0) (sym is) (place_now head.Script place.nodes skip h (ap (λ z. nodes_after place.nodes (Ok z)) (sym is)))

  ends_now : is_skipped row ≡ false → place.begun ≡ true → head_of (word_at row 0) ≡ head.End → word_at row 0 ≡ codes "end" → end_line place row ≡ Ok i → Here
  unfolding end_line
  ends_now skip begun h w e =
      let a = then_ok place.is_open _ UnknownWord i e in
      let d = next_ok (ended {A = Unit {0}} row 1 tt) _ i a.1 in
      let is : item.ScriptEnds ≡ i = cc in
      ends skip begun w a.0 ((ended_ok row 1 tt d.0 d.1).0) (sym is) (place_now head.End place.nodes skip h (ap (λ z. nodes_after place.nodes (Ok z)) (sym is)))

  says_now : (v : Verb) → is_skipped row ≡ false → place.begun ≡ true → head_of (word_at row 0) ≡ head.Says v → word_at row 0 ≡ verb_word v → statement_line names place v row ≡ Ok i → Here
  unfolding statement_line
  says_now v skip begun h w e =
      let a = then_ok place.is_open _ UnknownWord i e in
      let b = else_ok (place.statements == MOST_STATEMENTS) _ TooManyStatements i a.1 in
      let s = next_ok (statement_of names place v row) _ i b.1 in
      let is : item.Says s.0 ≡ i = cc in
      says v s.0 skip begun w a.0 b.0 s.1 (sym is) (place_now (head.Says v) place.nodes skip h (ap (λ z. nodes_after place.nodes (Ok z)) (sym is)))

  started_now : (s : StartLine) → is_skipped row ≡ false → place.begun ≡ true → head_of (word_at row 0) ≡ head.Start → word_at row 0 ≡ codes "start" → (place.starts == MOST_STARTS) ≡ false → place.is_open ≡ false → IsStartLine names place row s → i ≡ item.Starts s → Here
  started_now s skip begun h w few closed l is = starts s skip begun w few closed l is (place_now head.Start place.nodes skip h (ap (λ z. nodes_after place.nodes (Ok z)) is))

  starts_now : is_skipped row ≡ false → place.begun ≡ true → head_of (word_at row 0) ≡ head.Start → word_at row 0 ≡ codes "start" → start_line names place row ≡ Ok i → Here
  unfolding start_line start_words
  starts_now skip begun h w e =
      let a = else_ok (place.starts == MOST_STARTS) _ TooManyStarts i e in
      let b = else_ok place.is_open _ UnknownWord i a.1 in
      let site = next_ok (node place.nodes (word_at row 1)) _ i b.1 in
      let runs = next_ok (script names.scripts (word_at row 2)) _ i site.2 in
      let variable = next_ok (start_variable names place (word_at row 3)) _ i runs.2 in
      let uid = next_ok (user row) _ i variable.2 in
      let other = next_ok (joined names place uid.0.1 row) _ i uid.2 in
      let is : i ≡ item.Starts (record { node = site.0; script = runs.0; var = variable.0; uid = uid.0.0; joined = other.0 }) = cc in
      started_now _ skip begun h w a.0 b.0 (record { node = site.1; script = runs.1; var = variable.1; count = uid.0.1; uid = uid.1; joined = other.1 }) is

  later_now : (h : Head) → is_skipped row ≡ false → place.begun ≡ true → head_of (word_at row 0) ≡ h → BeginsSo (word_at row 0) h → later_line names place h row ≡ Ok i → Here
  unfolding later_line
  later_now head.Script skip begun h w e = begins_now skip begun h w e
  later_now head.End skip begun h w e = ends_now skip begun h w e
  later_now head.Start skip begun h w e = starts_now skip begun h w e
  later_now (head.Says v) skip begun h w e = says_now v skip begun h w e
  later_now head.Unknown skip begun h w e = cc

  pub step : read_row names place row ≡ Ok i → Here
  unfolding read_row
  step e = go (is_skipped row) place.begun refl refl e
    where
      go : (a b : Bool) → is_skipped row ≡ a → place.begun ≡ b → cond a (Ok item.Nothing) (cond b (later_line names place (head_of (word_at row 0)) row) (cluster_line row)) ≡ Ok i → Here
      go true b skip begun h = let is : item.Nothing ≡ i = cc in silent_now skip (sym is)
      go false true skip begun h = later_now (head_of (word_at row 0)) skip begun refl (head_word (word_at row 0)) h
      go false false skip begun h = opens_now skip begun h
