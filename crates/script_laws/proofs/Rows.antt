-- the rows of a written world are a part of the grammar
use Rattle.std.proofs.Common.{◌≡◌, ◌==◌, ◌++◌, inl, inr, ℕ, zero, suc, ◌+◌, ◌<◌, ◌≤◌, ◌^◌, Bool, true, false, cond, List, [], ◌∷◌, length, take, refl, sym, ap, ◌∙◌, subst, arith, Option, Some, None, All, append_assoc}
use Rattle.std.specs.Prelude.{codes, slice_get, map, IfSome}
use Rattle.std.specs.Fmt.{decimal}
use Rattle.std.proofs.lemmas.Bool.{eqb-true}
use Rattle.std.proofs.lemmas.List.{length-take}
use Rattle.std.proofs.lemmas.List.Elements.{All-head, All-tail}
use Rattle.std.proofs.lemmas.Option.{slice_get_within, get_or_from_slice_get}
use Rattle.unix_calls.specs.declared.Script.{Script}
use Rattle.unix_calls.specs.declared.Start.{Start}
use Rattle.unix_calls.specs.declared.Statement.{Statement}
use Rattle.unix_calls.specs.declared.World.{World}
use Rattle.unix_calls.specs.Valid.{IsStatement}
use Rattle.script_words.specs.Words.{Word, Row}
use Rattle.script_writer.specs.Written.{script_name, variable_name, statement_words, scripts_rows, uid_words, with_words, joined_words, start_row, file_rows}
use Rattle.script_laws.specs.Writable.{IsWrittenStatement, IsWritable}
use Rattle.script_laws.specs.Grammar.{Naming, IsUser, Joins, SpellsStart, Lines, Part, ends, starts, begins, says, closes, opens}
use Rattle.script_laws.proofs.Chosen.{for_decimal, names_from}
use Rattle.script_laws.proofs.Spelled.{naming_of, variable_called, script_called, statement_spelled}

user_spelled : (uid : ℕ) → uid < 2 ^ 32 → IsUser (uid_words uid) uid
user_spelled uid lt = go (uid == 0) refl
  where
    go : (b : Bool) → (uid == 0) ≡ b → IsUser (cond b [] (codes "uid" ∷ decimal uid ∷ [])) uid
    go true e = inl (refl, eqb-true uid 0 e)
    go false e = inr (decimal uid, refl, for_decimal uid lt)

pub exists_at : (xs : List Start) (j : ℕ) → j < length xs → (s : Start) × (slice_get xs j ≡ Some s)
exists_at [] j lt = absurd (omega arith)
exists_at (x ∷ xs) zero lt = (x, refl)
exists_at (x ∷ xs) (suc j) lt = exists_at xs j (omega arith)

pub at_place : {X : Type 0} (P : X → Type 0) (xs : List X) (k : ℕ) (x : X) → All P xs → slice_get xs k ≡ Some x → P x
at_place P xs k x all e = subst P (get_or_from_slice_get xs k x x e) (all k x (slice_get_within xs k x e))

shape : (h : Row) (a : List Row) (e : Row) (r t : List Row) → ((h ∷ a ++ e ∷ []) ++ r) ++ t ≡ h ∷ a ++ e ∷ (r ++ t)
shape h a e r t = ap (λ (x : List Row). h ∷ x) (append_assoc (a ++ e ∷ []) r t ∙ append_assoc a (e ∷ []) (r ++ t))

module _ (world : World) (w : IsWritable world) where
  abbrev Own : Naming
  Own = naming_of world

  -- what a start of the world is
  pub record FitsStart (s : Start) : Type 0 where
    pub node : s.node.0 < world.nodes
    pub script : s.script < length world.scripts
    pub var : s.var < world.vars
    pub uid : s.uid < 2 ^ 32
    pub joined : IfSome s.joined (λ j. j < length world.starts)

  earlier_all : (o : Option ℕ) (k : ℕ) → IfSome o (λ j. j < length (take k world.starts)) → IfSome o (λ j. j < length world.starts)
  earlier_all None k lt = lt
  earlier_all (Some j) k lt = omega (arith, length-take k world.starts)

  pub start_fits : (k : ℕ) (s : Start) → slice_get world.starts k ≡ Some s → FitsStart s
  start_fits k s e = let v = w.valid.starts k s e in record { node = v.node; script = v.script; var = v.var; uid = at_place (λ x. x.uid < 2 ^ 32) world.starts k s w.users e; joined = earlier_all s.joined k v.joined }

  joined_spelled : (o : Option ℕ) → IfSome o (λ j. j < length world.starts) → ((s : Start) (k : ℕ) → slice_get world.starts k ≡ Some s → s.var < world.vars) → Joins Own world.starts (joined_words world.starts o) o
  joined_spelled None lt vars = refl
  joined_spelled (Some j) lt vars =
      let x = exists_at world.starts j lt in
      (variable_name x.0.var, x.0, ap with_words x.1, x.1, variable_called world w.valid x.0.var (vars x.0 j x.1))

  start_spelled : (s : Start) → FitsStart s → SpellsStart Own world.starts (start_row world.starts s) s
  start_spelled s f = record {
    site = decimal s.node.0;
    name = script_name s.script;
    variable = variable_name s.var;
    user = uid_words s.uid;
    other = joined_words world.starts s.joined;
    is = refl;
    node = for_decimal s.node.0 (omega (arith, f.node, w.valid.limits.nodes));
    script = script_called world w.valid s.script f.script;
    var = variable_called world w.valid s.var f.var;
    uid = user_spelled s.uid f.uid;
    joined = joined_spelled s.joined f.joined (λ x k e. (start_fits k x e).var);
  }

  start_lines : (later : List Start) → ((k : ℕ) (s : Start) → slice_get later k ≡ Some s → FitsStart s) → Lines Own world.starts None [] [] later (map (start_row world.starts) later)
  start_lines [] fits = ends
  start_lines (s ∷ later) fits = starts s (start_row world.starts s) (start_spelled s (fits 0 s refl)) (start_lines later (λ k x e. fits (suc k) x e))

  body_lines : (k : ℕ) (ss : List Statement) (names : List Word) (scs : List Script) (later : List Start) (rows : List Row) → k ≤ length world.scripts → All (IsStatement world k) ss → All IsWrittenStatement ss → Lines Own world.starts (Some []) names scs later rows → Lines Own world.starts (Some ss) names scs later (map statement_words ss ++ rows)
  body_lines k [] names scs later rows le v a d = d
  body_lines k (s ∷ ss) names scs later rows le v a d =
      says s (statement_words s) (statement_spelled world w.valid k s le (All-head (IsStatement world k) s ss v) (All-head IsWrittenStatement s ss a))
      (body_lines k ss names scs later rows le (All-tail (IsStatement world k) s ss v) (All-tail IsWrittenStatement s ss a) d)

  script_lines : (n : ℕ) (scs : List Script) (rows : List Row) → ((j : ℕ) (script : Script) → slice_get scs j ≡ Some script → slice_get world.scripts (n + j) ≡ Some script) → Lines Own world.starts None [] [] world.starts rows
      → Lines Own world.starts None (names_from 115 n (length scs)) scs world.starts (scripts_rows n scs ++ rows)
  unfolding names_from
  script_lines n [] rows each d = d
  script_lines n (s ∷ ss) rows each d =
      let zero_more : n + 0 ≡ n = omega arith in
      let e : slice_get world.scripts n ≡ Some s = subst (λ m. slice_get world.scripts m ≡ Some s) zero_more (each 0 s refl) in
      let next : (j : ℕ) → n + suc j ≡ n + 1 + j = λ j. omega arith in
      let one_more : n + 1 ≡ suc n = omega arith in
      let lt : n < length world.scripts = slice_get_within world.scripts n s e in
      let further = script_lines (n + 1) ss rows (λ j x h. subst (λ m. slice_get world.scripts m ≡ Some x) (next j) (each (suc j) x h)) d in
      let later : Lines Own world.starts None (names_from 115 (suc n) (length ss)) ss world.starts (scripts_rows (n + 1) ss ++ rows) = subst (λ m. Lines Own world.starts None (names_from 115 m (length ss)) ss world.starts (scripts_rows (n + 1) ss ++ rows)) one_more further in
      let v = w.valid.scripts n s e in
      subst (Lines Own world.starts None ((115 ∷ decimal n) ∷ names_from 115 (suc n) (length ss)) (s ∷ ss) world.starts) (sym (shape (codes "script" ∷ script_name n ∷ []) (map statement_words s.statements) (codes "end" ∷ []) (scripts_rows (n + 1) ss) rows))
      (begins (script_name n) s (body_lines n s.statements (names_from 115 (suc n) (length ss)) ss world.starts ((codes "end" ∷ []) ∷ (scripts_rows (n + 1) ss ++ rows)) (omega arith) v.1 (at_place (λ x. All IsWrittenStatement x.statements) world.scripts n s w.statements e) (closes later)))

  none_before : (n : ℕ) → n ≡ 0 + n
  none_before n = omega arith

  pub rows_spelled : Part Own world (file_rows world)
  rows_spelled =
      opens (decimal world.nodes) (for_decimal world.nodes (omega (arith, w.valid.limits.nodes)))
      (script_lines 0 world.scripts (map (start_row world.starts) world.starts) (λ j x h. subst (λ m. slice_get world.scripts m ≡ Some x) (none_before j) h) (start_lines world.starts start_fits))
