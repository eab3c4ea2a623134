-- a written world is read back
use Rattle.std.proofs.Common.{◌≡◌, ◌==◌, ◌++◌, inl, inr, ℕ, suc, ◌+◌, ◌*◌, ◌<◌, ◌≤◌, ◌^◌, Bool, true, false, cond, List, [], ◌∷◌, length, length-append, refl, sym, ap, ◌∙◌, subst, arith, Option, Some, None, All}
use Rattle.std.specs.Prelude.{codes, slice_get, map, filter, IfSome}
use Rattle.std.specs.List.{list_all, flat_map, filter_map, cons_option}
use Rattle.std.specs.Fmt.{decimal}
use Rattle.std.proofs.lemmas.Bool.{and_parts}
use Rattle.std.proofs.lemmas.Option.{slice_get_within}
use Rattle.std.proofs.lemmas.List.{length-map}
use Rattle.std.proofs.lemmas.List.Elements.{All-head, All-tail}
use Rattle.byte_ends.specs.Text.{lines}
use Rattle.unix_names.specs.declared.NodeId.{NodeId}
use Rattle.unix_names.specs.declared.Signal.{Signal}
use Rattle.unix_names.specs.declared.Signal.TheVariants.{Hup}
use Rattle.unix_names.specs.declared.Act.{Act}
use Rattle.unix_names.specs.declared.Act.TheVariants.{Default, Ignore, Catch}
use Rattle.unix_names.specs.Signals.{word_of, signal_of, all_signals}
use Rattle.unix_names.specs.Sets.{has}
use Rattle.unix_calls.specs.declared.Arg.{Arg}
use Rattle.unix_calls.specs.declared.Arg.TheVariants.{Zero, One, Nobody, Own, Maker, Var}
use Rattle.unix_calls.specs.declared.Script.{Script}
use Rattle.unix_calls.specs.declared.Start.{Start}
use Rattle.unix_calls.specs.declared.Statement.{Statement}
use Rattle.unix_calls.specs.declared.Statement.TheVariants as statement
use Rattle.unix_calls.specs.declared.World.{World}
use Rattle.unix_calls.specs.Valid.{IsNode, IsArgument, IsStatement}
use Rattle.script_words.specs.Words.{Row}
use Rattle.script_writer.specs.Written.{script_name, variable_name, arg_word, target_word, selector_word, site_words, wait_word, statement_words, script_rows, scripts_rows, uid_words, with_words, joined_words, start_row, file_rows, spelled, file_text}
use Rattle.script_words.specs.Table.{change_words, act_word}
use Rattle.script_words.specs.Writing.{word_or_number}
use Rattle.script_laws.specs.Writable.{IsWrittenStatement, assigned, assigned_by, variables_of, AreInOrder, IsWritable}
use Rattle.script_laws.specs.Grammar.{Part, IsFile}
use Rattle.script_laws.specs.Worlds.{WrittenIsRead}
use Rattle.script_laws.proofs.Chosen.{names_long, chosen}
use Rattle.script_laws.proofs.Spelled.{naming_of}
use Rattle.script_laws.proofs.Rows.{at_place, FitsStart, start_fits, exists_at, rows_spelled}
use Rattle.script_laws.proofs.Solid.{is_solid, is_solid_row, AreSolid, solid-append, solid_fine, decimal_fine, decimal_solid, rows_words, rows_texts, text_lines}
use Rattle.script_laws.proofs.Whole.{file_read}
use Rattle.unix_calls.specs.declared.limits.TheConstants.{MOST_STATEMENTS}

-- ---- how many variables there are
in_order_few : (n : ℕ) (vs : List ℕ) (total : ℕ) → AreInOrder n vs total → total ≤ n + length vs
in_order_few n [] total o = omega arith
in_order_few n (v ∷ vs) total (inl o) = let h = in_order_few n vs total o.1 in omega arith
in_order_few n (v ∷ vs) total (inr o) = let h = in_order_few (n + 1) vs total o.1 in omega arith

cons_few : (o : Option ℕ) (ns : List ℕ) → length (cons_option o ns) ≤ suc (length ns)
cons_few None ns = omega arith
cons_few (Some n) ns = omega arith

assigned_few : (ss : List Statement) → length (filter_map assigned ss) ≤ length ss
assigned_few [] = omega arith
assigned_few (s ∷ ss) = let h = assigned_few ss in let c = cons_few (assigned s) (filter_map assigned ss) in omega arith

scripts_few : (scs : List Script) → ((j : ℕ) (s : Script) → slice_get scs j ≡ Some s → length s.statements ≤ MOST_STATEMENTS) → length (flat_map assigned_by scs) ≤ MOST_STATEMENTS * length scs
scripts_few [] few = omega arith
scripts_few (s ∷ scs) few =
    let h = scripts_few scs (λ j x e. few (suc j) x e) in
    let a = assigned_few s.statements in
    let f = few 0 s refl in
    let l : length (flat_map assigned_by (s ∷ scs)) ≡ length (assigned_by s) + length (flat_map assigned_by scs) = length-append (assigned_by s) (flat_map assigned_by scs) in
    omega arith

-- ---- words
act_solid : (a : Act) → is_solid (act_word a) ≡ true
act_solid Default = refl
act_solid Ignore = refl
act_solid Catch = refl

word_solid : (s : Signal) → is_solid (word_of s) ≡ true
word_solid Hup = refl
word_solid _ = refl

signals_solid : (ss : List Signal) → list_all is_solid (map word_of ss) ≡ true
signals_solid [] = refl
signals_solid (s ∷ ss) = rw (word_solid s, signals_solid ss) refl

signal_solid : (n : ℕ) (o : Option Signal) → n < 2 ^ 32 → is_solid (word_or_number n o) ≡ true
signal_solid n None lt = decimal_solid n lt
signal_solid n (Some s) lt = word_solid s

change_solid : (a b : Bool) → list_all is_solid (change_words a b) ≡ true
change_solid false false = refl
change_solid true false = refl
change_solid false true = refl
change_solid true true = refl

wait_solid : (b : Bool) → is_solid (wait_word b) ≡ true
wait_solid true = refl
wait_solid false = refl

script_solid : (n : ℕ) → n < 2 ^ 32 → is_solid (script_name n) ≡ true
script_solid n lt = decimal_fine n lt

variable_solid : (n : ℕ) → n < 2 ^ 32 → is_solid (variable_name n) ≡ true
variable_solid n lt = decimal_fine n lt

both_solid : (a b : Row) → list_all is_solid a ≡ true → list_all is_solid b ≡ true → list_all is_solid (a ++ b) ≡ true
both_solid [] b x y = y
both_solid (r ∷ a) b x y = let p = and_parts (is_solid r) (list_all is_solid a) x in rw (p.0, both_solid a b p.1 y) refl

within : (xs : List Script) (j : ℕ) (s : Script) → slice_get xs j ≡ Some s → 0 + j < length xs
within xs j s e = let lt = slice_get_within xs j s e in omega arith

module _ (world : World) (w : IsWritable world) where
  few_vars : world.vars < 2 ^ 32
  few_vars =
      let o = in_order_few 0 (variables_of world) world.vars w.variables in
      let l : length (variables_of world) ≡ length (flat_map assigned_by world.scripts) + length (map (λ s. s.var) world.starts) = length-append (flat_map assigned_by world.scripts) (map (λ s. s.var) world.starts) in
      let m : length (map (λ s. s.var) world.starts) ≡ length world.starts = length-map world.starts (λ s. s.var) in
      let s = scripts_few world.scripts (λ j x e. (w.valid.scripts j x e).0) in
      omega (arith, w.valid.limits.scripts, w.valid.limits.starts)

  small_var : (v : ℕ) → v < world.vars → v < 2 ^ 32
  small_var v lt = omega (arith, few_vars)

  small_script : (k : ℕ) → k < length world.scripts → k < 2 ^ 32
  small_script k lt = omega (arith, w.valid.limits.scripts)

  small_node : (n : ℕ) → n < world.nodes → n < 2 ^ 32
  small_node n lt = omega (arith, w.valid.limits.nodes)

  arg_solid : (arg : Arg) → IsArgument world arg → is_solid (arg_word arg) ≡ true
  arg_solid Zero a = refl
  arg_solid One a = refl
  arg_solid Nobody a = refl
  arg_solid Own a = refl
  arg_solid Maker a = refl
  arg_solid (Var v) a = variable_solid v (small_var v a)

  target_solid : (minus : Bool) (arg : Arg) → IsArgument world arg → is_solid (target_word minus arg) ≡ true
  target_solid false arg a = arg_solid arg a
  target_solid true arg a = solid_fine (arg_word arg) (arg_solid arg a)

  selector_solid : (any minus : Bool) (arg : Arg) → IsArgument world arg → is_solid (selector_word any minus arg) ≡ true
  selector_solid true minus arg a = refl
  selector_solid false minus arg a = target_solid minus arg a

  site_solid : (at : Option NodeId) → IfSome at (IsNode world) → list_all is_solid (site_words at) ≡ true
  site_solid None a = refl
  site_solid (Some node) a = rw (decimal_solid node.0 (small_node node.0 a)) refl

  statement_solid : (k : ℕ) (s : Statement) → k ≤ length world.scripts → IsStatement world k s → IsWrittenStatement s → is_solid_row (statement_words s) ≡ true
  statement_solid k statement.Getpid le v x = refl
  statement_solid k statement.Getppid le v x = refl
  statement_solid k (statement.Getpgid arg) le v x = rw (arg_solid arg v) refl
  statement_solid k (statement.Getsid arg) le v x = rw (arg_solid arg v) refl
  statement_solid k (statement.Fork var script at) le v x = rw (decimal_fine var (small_var var v.0), decimal_fine script (small_script script (omega (arith, v.1))), site_solid at v.2) refl
  statement_solid k (statement.Exec script) le v x = rw (decimal_fine script (small_script script (omega arith))) refl
  statement_solid k (statement.Exit n) le v x = rw (decimal_solid n x) refl
  statement_solid k (statement.Wait sleeps any minus arg stopped continued) le v x = rw (wait_solid sleeps, selector_solid any minus arg v, change_solid stopped continued) refl
  statement_solid k (statement.Kill minus arg sig) le v x = rw (target_solid minus arg v, signal_solid sig (signal_of sig) x.1) refl
  statement_solid k (statement.Setpgid pid minus pgid) le v x = rw (arg_solid pid v.0, target_solid minus pgid v.1) refl
  statement_solid k statement.Setsid le v x = refl
  statement_solid k (statement.Action sig act) le v x = rw (signal_solid sig (signal_of sig) x, act_solid act) refl
  statement_solid k (statement.Mask set) le v x = rw (signals_solid (filter (has set) all_signals)) refl
  statement_solid k statement.Pending le v x = refl
  statement_solid k (statement.Migrate node) le v x = rw (decimal_solid node.0 (small_node node.0 v)) refl

  -- ---- rows
  body_solid : (k : ℕ) (ss : List Statement) → k ≤ length world.scripts → All (IsStatement world k) ss → All IsWrittenStatement ss → AreSolid (map statement_words ss)
  body_solid k [] le v a = tt
  body_solid k (s ∷ ss) le v a = (statement_solid k s le (All-head (IsStatement world k) s ss v) (All-head IsWrittenStatement s ss a), body_solid k ss le (All-tail (IsStatement world k) s ss v) (All-tail IsWrittenStatement s ss a))

  scripts_solid : (n : ℕ) (scs : List Script) → ((j : ℕ) (s : Script) → slice_get scs j ≡ Some s → (n + j < length world.scripts) × (length s.statements ≤ MOST_STATEMENTS) × All (IsStatement world (n + j)) s.statements × All IsWrittenStatement s.statements) → AreSolid (scripts_rows n scs)
  scripts_solid n [] each = tt
  scripts_solid n (s ∷ scs) each =
      let z : n + 0 ≡ n = omega arith in
      let f = each 0 s refl in
      let lt : n < length world.scripts = subst (λ m. m < length world.scripts) z f.0 in
      let v : All (IsStatement world n) s.statements = subst (λ m. All (IsStatement world m) s.statements) z f.2 in
      let next : (j : ℕ) → n + suc j ≡ n + 1 + j = λ j. omega arith in
      let head : is_solid_row (codes "script" ∷ script_name n ∷ []) ≡ true = rw (decimal_fine n (small_script n lt)) refl in
      solid-append (script_rows n s) (scripts_rows (n + 1) scs)
      (head, solid-append (map statement_words s.statements) ((codes "end" ∷ []) ∷ []) (body_solid n s.statements (omega arith) v f.3) (refl, tt))
      (scripts_solid (n + 1) scs (λ j x e. let g = each (suc j) x e in (subst (λ m. m < length world.scripts) (next j) g.0, g.1, subst (λ m. All (IsStatement world m) x.statements) (next j) g.2, g.3)))

  user_solid : (uid : ℕ) → uid < 2 ^ 32 → list_all is_solid (uid_words uid) ≡ true
  user_solid uid lt = go (uid == 0)
    where
      go : (b : Bool) → list_all is_solid (cond b [] (codes "uid" ∷ decimal uid ∷ [])) ≡ true
      go true = refl
      go false = rw (decimal_solid uid lt) refl

  joined_solid : (o : Option ℕ) → IfSome o (λ j. j < length world.starts) → list_all is_solid (joined_words world.starts o) ≡ true
  joined_solid None lt = refl
  joined_solid (Some j) lt =
      let x = exists_at world.starts j lt in
      ap (λ (s : Option Start). list_all is_solid (with_words s)) x.1 ∙ rw (decimal_fine x.0.var (small_var x.0.var (start_fits world w j x.0 x.1).var)) refl

  start_solid : (s : Start) → FitsStart world w s → is_solid_row (start_row world.starts s) ≡ true
  start_solid s f =
      rw (decimal_solid s.node.0 (small_node s.node.0 f.node), decimal_fine s.script (small_script s.script f.script), decimal_fine s.var (small_var s.var f.var))
      (both_solid (uid_words s.uid) (joined_words world.starts s.joined) (user_solid s.uid f.uid) (joined_solid s.joined f.joined))

  starts_solid : (later : List Start) → ((k : ℕ) (s : Start) → slice_get later k ≡ Some s → FitsStart world w s) → AreSolid (map (start_row world.starts) later)
  starts_solid [] fits = tt
  starts_solid (s ∷ later) fits = (start_solid s (fits 0 s refl), starts_solid later (λ k x e. fits (suc k) x e))

  none_before : (n : ℕ) → n ≡ 0 + n
  none_before n = omega arith

  file_solid : AreSolid (file_rows world)
  file_solid = (
    rw (decimal_solid world.nodes (omega (arith, w.valid.limits.nodes))) refl,
    solid-append (scripts_rows 0 world.scripts) (map (start_row world.starts) world.starts)
        (scripts_solid 0 world.scripts (λ j s e. let v = w.valid.scripts j s e in (within world.scripts j s e, v.0, subst (λ m. All (IsStatement world m) s.statements) (none_before j) v.1, at_place (λ x. All IsWrittenStatement x.statements) world.scripts j s w.statements e)))
        (starts_solid world.starts (start_fits world w)),
  )

  text_is : lines (file_text world) ≡ map spelled (file_rows world)
  text_is = text_lines (file_rows world) file_solid

  pub written_file : IsFile (lines (file_text world)) world
  written_file = subst (λ (ls : List (List ℕ)). IsFile ls world) (sym text_is) (record {
    naming = naming_of world;
    texts = rows_texts (file_rows world) file_solid;
    part = subst (Part (naming_of world) world) (sym (rows_words (file_rows world) file_solid)) (rows_spelled world w);
    scripts = chosen 115 (length world.scripts) refl (omega (arith, w.valid.limits.scripts));
    variables = chosen 118 world.vars refl (omega (arith, few_vars));
    total = names_long 118 0 world.vars;
    in_order = w.variables;
    some_start = w.some_start;
    valid = w.valid;
  })

pub written_read : WrittenIsRead
written_read first world w = file_read first (lines (file_text world)) world (written_file world w)
