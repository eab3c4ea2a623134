-- a statement that is read makes as much work as its line says, and the scripts that are read are those of the part
use Rattle.std.proofs.Common.{◌≡◌, inl, inr, ℕ, zero, suc, ◌+◌, Bool, true, false, cond, List, [], ◌∷◌, refl, sym, ap, ◌∙◌, subst, arith, Some, Ok, Err}
use Rattle.std.specs.Prelude.{codes, slice_get, map, is_some, nat_lt}
use Rattle.std.specs.Str.{is_utf8}
use Rattle.std.proofs.lemmas.Bool.{eqb-true}
use Rattle.byte_ends.specs.Text.{words}
use Rattle.unix_calls.specs.declared.world.Statement.{Statement}
use Rattle.unix_calls.specs.declared.world.Statement.TheVariants as statement
use Rattle.script_words.specs.declared.faults.Kind.{Kind}
use Rattle.script_words.specs.declared.faults.Kind.TheVariants.{NotUtf8, LaterScript}
use Rattle.script_words.specs.Words.{Word, Row, is_same, word_at, is_skipped}
use Rattle.script_reader.specs.declared.places.Place.{Place}
use Rattle.script_words.specs.declared.table.Verb.{Verb}
use Rattle.script_words.specs.declared.table.Verb.TheVariants as verb
use Rattle.script_reader.specs.declared.lines.Item.{Item}
use Rattle.script_words.specs.Table.{verb_word, verb_named}
use Rattle.script_reader.specs.Statements.{own_variable, script, earlier_script, site, fork_statement, exec_statement, statement_of}
use Rattle.script_reader.specs.Lines.{read_row, read_line, place_after}
use Rattle.script_reader.specs.Files.{begins_with, Told, first_place, said, with_said, body, scripts_of}
use Rattle.script_laws.proofs.Results.{next_ok, then_ok, ended_ok}
use Rattle.script_laws.proofs.Words.{begins_so}
use Rattle.script_laws.proofs.Verbs.{verb_of, verb_said}
use Rattle.script_laws.proofs.Lines.{Step, silent, opens, begins, ends, says, starts, step}
use Rattle.script_laws.proofs.Starts.{script_there}
use Rattle.script_laws.proofs.Parts.{names_of, told_of}
use Rattle.script_laws.proofs.Numbered.{rows_of, rows_told}
use Rattle.fault_laws.specs.Context.{is_statement, script_names}
use Rattle.fault_laws.specs.Faults.{Aspect, OwnFault, IsFirst, Weighs, Adds, Bodies, HaveBodies}
use Rattle.fault_laws.proofs.Around.{place_at, HasCluster, line_told}
use Rattle.fault_laws.proofs.Own.{own_clean, own_fault}
use Rattle.fault_laws.proofs.Weights.{one, charge, ChargesSo, so_weighs, StepsSo}
use Rattle.fault_laws.proofs.Firsts.{script_first}

-- ---- what a line weighs
verb_is : (v : Verb) → is_some (verb_named (verb_word v)) ≡ true
unfolding verb_named is_same
verb_is verb.Getpid = refl
verb_is _ = refl

fork_word : is_same (verb_word verb.Fork) (codes "fork") ≡ true
unfolding is_same
fork_word = refl

exec_word : is_same (verb_word verb.Exec) (codes "exec") ≡ true
unfolding is_same
exec_word = refl

-- a statement other than a fork and an exec
no_script : (s : Statement) → is_same (verb_word (verb_of s)) (codes "fork") ≡ false → is_same (verb_word (verb_of s)) (codes "exec") ≡ false → charge s ≡ one
no_script (statement.Fork var script at) f x = let is = fork_word in cc
no_script (statement.Exec script) f x = let is = exec_word in cc
no_script _ f x = refl

-- a verb other than these
plain_weighs : (lines : List (List ℕ)) (place : Place) (row : Row) (v : Verb) (s : Statement) → statement_of (names_of lines) place v row ≡ Ok s → word_at row 0 ≡ verb_word v → is_same (verb_word v) (codes "fork") ≡ false → is_same (verb_word v) (codes "exec") ≡ false → Weighs (map words lines) row s
plain_weighs lines place row v s e w f x =
    let is = (verb_said (names_of lines) place row v).fact s e in
    let other = no_script s (ap (λ (u : Verb). is_same (verb_word u) (codes "fork")) is ∙ f) (ap (λ (u : Verb). is_same (verb_word u) (codes "exec")) is ∙ x) in
    so_weighs (map words lines) row s (subst (ChargesSo (map words lines) row) (sym other) (
      ap (λ (z : Word). is_some (verb_named z)) w ∙ verb_is v,
      begins_so row (codes "fork") (verb_word v) false w f,
      begins_so row (codes "exec") (verb_word v) false w x,
    ))

-- the number of a script on an earlier line is that of the first line of its name
earlier_first : (lines : List (List ℕ)) (place : Place) (word : Word) (n : ℕ) → earlier_script (names_of lines) place word ≡ Ok n → IsFirst (script_names (map words lines)) word n
unfolding earlier_script
earlier_first lines place word n e =
    let s = next_ok (script (names_of lines).scripts word) _ n e in
    let t = then_ok (nat_lt s.0 _) (Ok s.0) LaterScript n s.2 in
    let is : s.0 ≡ n = cc in
    subst (IsFirst (script_names (map words lines)) word) is (script_first lines word s.0 (script_there (names_of lines).scripts word s.0 s.1))

fork_weighs : (lines : List (List ℕ)) (place : Place) (row : Row) (s : Statement) → fork_statement (names_of lines) place row ≡ Ok s → word_at row 0 ≡ codes "fork" → Weighs (map words lines) row s
unfolding fork_statement
fork_weighs lines place row s e w =
    let a = next_ok (own_variable (names_of lines).variables (word_at row 1)) _ s e in
    let b = next_ok (earlier_script (names_of lines) place (word_at row 2)) _ s a.2 in
    let c = next_ok (site place.nodes row) _ s b.2 in
    let is : statement.Fork a.0 b.0 c.0 ≡ s = cc in
    subst (Weighs (map words lines) row) is (begins_so row (codes "fork") (codes "fork") true w fork_word, earlier_first lines place (word_at row 2) b.0 b.1)

exec_weighs : (lines : List (List ℕ)) (place : Place) (row : Row) (s : Statement) → exec_statement (names_of lines) place row ≡ Ok s → word_at row 0 ≡ codes "exec" → Weighs (map words lines) row s
unfolding exec_statement
exec_weighs lines place row s e w =
    let b = next_ok (earlier_script (names_of lines) place (word_at row 1)) _ s e in
    let is : statement.Exec b.0 ≡ s = (ended_ok row 2 (statement.Exec b.0) s b.2).1 in
    subst (Weighs (map words lines) row) is (begins_so row (codes "exec") (codes "exec") true w exec_word, earlier_first lines place (word_at row 1) b.0 b.1)

said_weighs : (lines : List (List ℕ)) (place : Place) (row : Row) (v : Verb) (s : Statement) → statement_of (names_of lines) place v row ≡ Ok s → word_at row 0 ≡ verb_word v → Weighs (map words lines) row s
unfolding statement_of is_same
said_weighs lines place row verb.Fork s e w = fork_weighs lines place row s e w
said_weighs lines place row verb.Exec s e w = exec_weighs lines place row s e w
said_weighs lines place row v s e w = plain_weighs lines place row v s e w refl refl

-- ---- what a line adds
hash_statement : (bs : List ℕ) → is_some (verb_named (35 ∷ bs)) ≡ false
unfolding verb_named is_same
hash_statement bs = refl

none_statement : is_some (verb_named []) ≡ false
unfolding verb_named is_same
none_statement = refl

skipped_statement : (row : Row) → is_skipped row ≡ true → is_statement row ≡ false
unfolding is_skipped word_at
skipped_statement [] e = none_statement
skipped_statement ([] ∷ ws) e = cc
skipped_statement ((c ∷ cs) ∷ ws) e = ap (λ (b : ℕ). is_some (verb_named (b ∷ cs))) (eqb-true c 35 e) ∙ hash_statement cs

word_statement : (row : Row) (word : Word) → word_at row 0 ≡ word → is_some (verb_named word) ≡ false → is_statement row ≡ false
word_statement row word w n = ap (λ (z : Word). is_some (verb_named z)) w ∙ n

-- lines that begin with no statement's word
not_statements : (is_some (verb_named (codes "cluster")) ≡ false) × (is_some (verb_named (codes "script")) ≡ false) × (is_some (verb_named (codes "end")) ≡ false) × (is_some (verb_named (codes "start")) ≡ false)
unfolding verb_named is_same
not_statements = (refl, refl, refl, refl)

module _ (lines : List (List ℕ)) where
  step_adds : (place : Place) (k : ℕ) (row : Row) (i : Item) (now : Place) → Step (names_of lines) place row i now → ((aspect : Aspect) (kind : Kind) → OwnFault lines k aspect kind → ⊥) → Adds lines k row (said (Ok i))
  step_adds place k row i now (silent s e n) clean = rw e (inl (skipped_statement row s))
  step_adds place k row i now (opens m s b w nu l lo hi e n) clean = rw e (inl (word_statement row _ w not_statements.0))
  step_adds place k row i now (begins s b w a o nm d l e n) clean = rw e (inl (word_statement row _ w not_statements.1))
  step_adds place k row i now (ends s b w o l e n) clean = rw e (inl (word_statement row _ w not_statements.2))
  step_adds place k row i now (says v s k' b w o c st e n) clean = rw e (said_weighs lines place row v s st w, clean)
  step_adds place k row i now (starts s k' b w c o st e n) clean = rw e (inl (word_statement row _ w not_statements.3))

  line_step : (place : Place) (line : List ℕ) (i : Item) → read_line (names_of lines) place line ≡ Ok i → Step (names_of lines) place (words line) i (place_after place (words line) (Ok i))
  unfolding read_line
  line_step place line i e = step (names_of lines) place (words line) i ((then_ok (is_utf8 line) (read_row (names_of lines) place (words line)) NotUtf8 i e).1)

  pub told_step : (k : ℕ) (row : Row) (i : Item) → slice_get (told_of lines) k ≡ Some (row, Ok i) → Step (names_of lines) (place_at lines k) row i (place_after (place_at lines k) row (Ok i))
  told_step k row i e =
      let l = line_told lines k (row, Ok i) e in
      let is : row ≡ words l.0 = ap (λ (x : Told). x.0) l.2 in
      subst (λ (r : Row). Step (names_of lines) (place_at lines k) r i (place_after (place_at lines k) r (Ok i))) (sym is) (line_step (place_at lines k) l.0 i (ap (λ (x : Told). x.1) (sym l.2)))

  line_adds : HasCluster lines → (k : ℕ) (t : Told) → slice_get (told_of lines) k ≡ Some t → Adds lines k t.0 (said t.1)
  line_adds cluster k (row, Err kind) e = let f = own_fault lines k (row, Err kind) e (λ b. cluster) kind refl in inr (f.0, kind, f.1)
  line_adds cluster k (row, Ok i) e = step_adds (place_at lines k) k row i _ (told_step k row i e) (own_clean lines k (row, Ok i) e (λ b. cluster) refl)

  -- ---- the scripts
  -- lines that stand behind so many others
  abbrev pub StandAt : ℕ → List Told → Type 0
  StandAt k rest = (j : ℕ) (t : Told) → slice_get rest j ≡ Some t → slice_get (told_of lines) (k + j) ≡ Some t

  pub stand_next : (k : ℕ) (t : Told) (rest : List Told) → StandAt k (t ∷ rest) → StandAt (k + 1) rest
  stand_next k t rest stand = λ j u e. let is : k + suc j ≡ k + 1 + j = omega arith in subst (λ (m : ℕ). slice_get (told_of lines) m ≡ Some u) is (stand (suc j) u e)

  pub stand_here : (k : ℕ) (t : Told) (rest : List Told) → StandAt k (t ∷ rest) → slice_get (told_of lines) k ≡ Some t
  stand_here k t rest stand = let is : k + zero ≡ k = omega arith in subst (λ (m : ℕ). slice_get (told_of lines) m ≡ Some t) is (stand zero t refl)

  step_bodies : (k : ℕ) (t : Told) (rest : List Told) (b : Bool) → begins_with (codes "script") t.0 ≡ b → Adds lines k t.0 (said t.1)
      → StepsSo lines k t.0 (body rest) (scripts_of rest) (cond b [] (with_said (said t.1) (body rest))) (cond b (record { statements = body rest } ∷ scripts_of rest) (scripts_of rest))
  step_bodies k t rest true e a = inl (e, refl, refl)
  step_bodies k t rest false e a = inr (e, said t.1, a, refl, refl)

  told_bodies : HasCluster lines → (k : ℕ) (rest : List Told) → StandAt k rest → Bodies lines k (rows_of rest) (body rest) (scripts_of rest)
  unfolding body scripts_of
  told_bodies cluster k [] stand = (refl, refl)
  told_bodies cluster k (t ∷ rest) stand = (
    body rest,
    scripts_of rest,
    told_bodies cluster (k + 1) rest (stand_next k t rest stand),
    step_bodies k t rest (begins_with (codes "script") t.0) refl (line_adds cluster k t (stand_here k t rest stand)),
  )

  pub have_bodies : HasCluster lines → HaveBodies lines (scripts_of (told_of lines))
  have_bodies cluster =
      (body (told_of lines), subst (λ (rows : List Row). Bodies lines 0 rows (body (told_of lines)) (scripts_of (told_of lines))) (rows_told (names_of lines) first_place lines) (told_bodies cluster 0 (told_of lines) all_stand))
    where
      all_stand : StandAt 0 (told_of lines)
      all_stand = λ j t e. let is : j ≡ 0 + j = omega arith in subst (λ (m : ℕ). slice_get (told_of lines) m ≡ Some t) is e
