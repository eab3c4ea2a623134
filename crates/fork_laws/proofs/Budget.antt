-- a history that follows the scripts makes no more processes than the world's work
use Rattle.std.proofs.Common.{◌≡◌, ◌≢◌, ◌⊎◌, inl, inr, ◌<◌, ◌≤◌, ◌+◌, ◌-◌, ◌==◌, nat_lt, ℕ, zero, suc, Bool, true, false, cond, List, [], ◌∷◌, ◌++◌, length, refl, sym, ap, ◌∙◌, subst, arith, Option, None, Some, All, if◌then◌else◌}
use Rattle.std.specs.Prelude.{option_and_then, nat_le, min, fold, unwrap_or, slice_get, get_or, find}
use Rattle.std.specs.Option.{option_map}
use Rattle.std.proofs.Math.Nat.{min-eq_left, min_comm}
use Rattle.std.proofs.lemmas.Bool.{and_parts, leb-true, ltb-true, ltb-false, eqb-true, eqb-false, eq-eqb, ne_eqb}
use Rattle.std.proofs.lemmas.Option.{slice_get_within, slice_get-get_or}
use Rattle.std.proofs.lemmas.List.Elements.{All-head, All-tail}
use Rattle.list_laws.proofs.Filters.{some_same}
use Rattle.unix_names.specs.declared.Pid.{Pid}
use Rattle.unix_calls.specs.declared.Call.{Call}
use Rattle.unix_calls.specs.declared.Call.TheVariants.{Fork}
use Rattle.unix_calls.specs.declared.Reply.{Reply}
use Rattle.unix_calls.specs.declared.Reply.TheVariants.{Number, Again}
use Rattle.unix_calls.specs.declared.Entry.{Entry}
use Rattle.unix_calls.specs.declared.Entry.TheVariants.{Called, Happened}
use Rattle.unix_calls.specs.declared.Script.{Script}
use Rattle.unix_calls.specs.declared.Start.{Start}
use Rattle.unix_calls.specs.declared.Statement.{Statement}
use Rattle.unix_calls.specs.declared.Statement.TheVariants as statements
use Rattle.unix_calls.specs.declared.Work.{Work}
use Rattle.unix_calls.specs.declared.World.{World}
use Rattle.unix_calls.specs.Valid.{IsValid, IsStatement}
use Rattle.unix_calls.specs.declared.limits.TheConstants.{MOST_PROCESSES, MOST_WORK}
use Rattle.unix_calls.specs.Work.{work, together, work_of, with_statement, script_work, with_script, works, total_work}
use Rattle.proc_image.specs.Scripts.{Progress, passed, next_statement, next_call, call_or_exit, after_reply, after_wait, after_reply_or_exit, moved_on, forked_by, next_child, child_of}
use Rattle.proc_image.specs.Follows.{Running, first_running, started, put, with_child, after_call, AsksNext, FollowsFrom, Follows}
use Rattle.proc_image.proofs.Fits.{next_statement-valid}
use Rattle.fork_laws.specs.Made.{made_by, made_from}
use Rattle.fork_laws.specs.Laws.{ForksAreFew}
use Rattle.fork_laws.proofs.Made.{made-plus}

-- ---- sums that stop at a million
under : (a : ℕ) → min a 1000000 < 1000000 → min a 1000000 ≡ a
under a lt = go (nat_lt a 1000000) refl
  where
    go : (b : Bool) → nat_lt a 1000000 ≡ b → min a 1000000 ≡ a
    go true e = let h = ltb-true a 1000000 e in min-eq_left (omega (arith, h))
    go false e =
        let h = ltb-false a 1000000 e in
        let top : min a 1000000 ≡ 1000000 = min_comm a 1000000 ∙ min-eq_left (omega (arith, h)) in
        absurd (omega (arith, top, lt))

abbrev pub processes : List Work → ℕ → ℕ
processes V s = (work_of V s).processes

-- the processes that a statement may make, itself counted no more
abbrev pub cost : List Work → Statement → ℕ
cost V (statements.Fork var s on) = processes V s
cost V (statements.Exec s) = processes V s - 1
cost V _ = 0

-- and those that the statements from the i-th on may make
abbrev pub left : List Work → List Statement → ℕ → ℕ
left V [] i = 0
left V (st ∷ sts) zero = cost V st + left V sts zero
left V (st ∷ sts) (suc i) = left V sts i

little_first : (p : ℕ) → min (p + 0) 1000000 < 1000000 → min (p + 0) 1000000 ≡ p
little_first p lt = let e = under (p + 0) lt in omega (arith, e)

both : (p c : ℕ) → min (min (p + 0) 1000000 + c) 1000000 < 1000000 → min (min (p + 0) 1000000 + c) 1000000 ≡ p + c
both p c lt =
    let e = under (min (p + 0) 1000000 + c) lt in
    let less : min (p + 0) 1000000 < 1000000 = omega (arith, e, lt) in
    let f = little_first p less in
    e ∙ ap (λ n. n + c) f

with_cost : (E : List Work) (w : Work) (st : Statement) → (with_statement E w st).processes < 1000000 → (with_statement E w st).processes ≡ w.processes + cost E st
with_cost E w (statements.Fork var s on) lt = both w.processes (processes E s) lt
with_cost E w (statements.Exec s) lt = both w.processes (processes E s - 1) lt
with_cost E w _ lt = let e = little_first w.processes lt in omega (arith, e)

fold_cost : (E : List Work) (w : Work) (sts : List Statement) → (fold (with_statement E) w sts).processes < 1000000 → w.processes + left E sts zero ≤ (fold (with_statement E) w sts).processes
fold_cost E w [] lt = omega arith
fold_cost E w (st ∷ sts) lt =
    let ih = fold_cost E (with_statement E w st) sts lt in
    let e = with_cost E w st (omega (arith, ih, lt)) in
    omega (arith, ih, e)

-- ---- the work of each script
get_left : {X : Type 0} (xs ys : List X) (j : ℕ) → j < length xs → slice_get (xs ++ ys) j ≡ slice_get xs j
get_left [] ys j lt = absurd (omega arith)
get_left (x ∷ xs) ys zero lt = refl
get_left (x ∷ xs) ys (suc j) lt = get_left xs ys j (omega (arith, lt))

get_seam : {X : Type 0} (xs : List X) (y : X) (ys : List X) → slice_get (xs ++ y ∷ ys) (length xs) ≡ Some y
get_seam [] y ys = refl
get_seam (x ∷ xs) y ys = get_seam xs y ys

length-one : {X : Type 0} (xs : List X) (y : X) → length (xs ++ y ∷ []) ≡ suc (length xs)
length-one [] y = refl
length-one (x ∷ xs) y = ap suc (length-one xs y)

kept : (acc : List Work) (scripts : List Script) (j : ℕ) → j < length acc → slice_get (fold with_script acc scripts) j ≡ slice_get acc j
kept acc [] j lt = refl
kept acc (s ∷ ss) j lt =
    let l = length-one acc (script_work acc s.statements) in
    kept (with_script acc s) ss j (omega (arith, l, lt)) ∙ get_left acc (script_work acc s.statements ∷ []) j lt

record Worked (V : List Work) (k : ℕ) (script : Script) : Type 0 where
  earlier : List Work
  is : slice_get V k ≡ Some (script_work earlier script.statements)
  same : (j : ℕ) → j < k → slice_get V j ≡ slice_get earlier j

worked : (acc : List Work) (scripts : List Script) (i : ℕ) (script : Script) → slice_get scripts i ≡ Some script → Worked (fold with_script acc scripts) (length acc + i) script
worked acc [] i script e = absurd (none i e)
  where
    none : (i : ℕ) → slice_get {X = Script} [] i ≡ Some script → ⊥
    none zero e = cc
    none (suc i) e = cc
worked acc (s ∷ ss) zero script e =
    let l = length-one acc (script_work acc s.statements) in
    let is : s ≡ script = some_same s script e in
    subst (λ n. Worked (fold with_script (with_script acc s) ss) n script) (omega arith) (subst (λ x. Worked (fold with_script (with_script acc s) ss) (length acc) x) is (record {
      earlier = acc;
      is = kept (with_script acc s) ss (length acc) (omega (arith, l)) ∙ get_seam acc (script_work acc s.statements) [];
      same = λ j lt. kept (with_script acc s) ss j (omega (arith, l, lt)) ∙ get_left acc (script_work acc s.statements ∷ []) j lt;
    }))
worked acc (s ∷ ss) (suc i) script e =
    let l = length-one acc (script_work acc s.statements) in
    subst (λ n. Worked (fold with_script (with_script acc s) ss) n script) (omega (arith, l)) (worked (with_script acc s) ss i script e)

module _ (world : World) (valid : IsValid world) where
  abbrev V : List Work
  V = works world.scripts

  cost_same : (k : ℕ) (E : List Work) (st : Statement) → ((j : ℕ) → j < k → slice_get (works world.scripts) j ≡ slice_get E j) → IsStatement world k st → cost (works world.scripts) st ≡ cost E st
  cost_same k E (statements.Fork var s on) same f = ap (λ o. (unwrap_or o (work 0 0)).processes) (same s f.1)
  cost_same k E (statements.Exec s) same f = ap (λ o. (unwrap_or o (work 0 0)).processes - 1) (same s f)
  cost_same k E _ same f = refl

  left_same : (k : ℕ) (E : List Work) (sts : List Statement) → ((j : ℕ) → j < k → slice_get (works world.scripts) j ≡ slice_get E j) → All (IsStatement world k) sts → left (works world.scripts) sts zero ≡ left E sts zero
  left_same k E [] same a = refl
  left_same k E (st ∷ sts) same a =
      let one = cost_same k E st same (All-head (IsStatement world k) st sts a) in
      let rest = left_same k E sts same (All-tail (IsStatement world k) st sts a) in
      ap (λ n. n + left (works world.scripts) sts zero) one ∙ ap (λ n. cost E st + n) rest

  -- what a process may still make
  abbrev pub rest_of : Option Script → ℕ → ℕ
  rest_of None i = 0
  rest_of (Some script) i = left (works world.scripts) script.statements i

  abbrev pub rest : Progress → ℕ
  rest at = rest_of (slice_get world.scripts at.script) at.position

  -- a script makes one less than its work says
  full : (s : ℕ) (script : Script) → slice_get world.scripts s ≡ Some script → processes (works world.scripts) s < 1000000 → 1 + left (works world.scripts) script.statements zero ≤ processes (works world.scripts) s
  full s script e lt =
      let w : Worked (works world.scripts) s script = subst (λ n. Worked (works world.scripts) n script) (omega arith) (worked [] world.scripts s script e) in
      let is : processes (works world.scripts) s ≡ (script_work w.earlier script.statements).processes = ap (λ o. (unwrap_or o (work 0 0)).processes) w.is in
      let sum = fold_cost w.earlier (work 1 1) script.statements (omega (arith, is, lt)) in
      let same = left_same s w.earlier script.statements w.same (valid.scripts s script e).1 in
      omega (arith, is, sum, same)

  full_rest : (s : ℕ) (o : Option Script) → slice_get world.scripts s ≡ o → processes (works world.scripts) s < 1000000 → rest_of o zero + 1 ≤ processes (works world.scripts) s ⊎ (o ≡ None)
  full_rest s None e lt = inr refl
  full_rest s (Some script) e lt = let f = full s script e lt in inl (omega (arith, f))

  left_step : (sts : List Statement) (i : ℕ) (st : Statement) → slice_get sts i ≡ Some st → left (works world.scripts) sts i ≡ cost (works world.scripts) st + left (works world.scripts) sts (suc i)
  left_step [] zero st e = cc
  left_step [] (suc i) st e = cc
  left_step (x ∷ xs) zero st e = ap (λ y. cost (works world.scripts) y + left (works world.scripts) xs zero) (some_same x st e)
  left_step (x ∷ xs) (suc i) st e = left_step xs i st e

  -- the next statement
  record IsNext (at : Progress) (st : Statement) : Type 0 where
    script : Script
    there : slice_get world.scripts at.script ≡ Some script
    here : slice_get script.statements at.position ≡ Some st

  next_is : (at : Progress) (st : Statement) → next_statement world at ≡ Some st → IsNext at st
  next_is at st e = go (slice_get world.scripts at.script) refl e
    where
      go : (o : Option Script) → slice_get world.scripts at.script ≡ o → option_and_then (λ (script : Script). slice_get script.statements at.position) o ≡ Some st → IsNext at st
      go None is e = cc
      go (Some script) is e = record { script = script; there = is; here = e }

  step_rest : (at : Progress) (st : Statement) → next_statement world at ≡ Some st → rest at ≡ cost (works world.scripts) st + rest (passed at)
  step_rest at st e =
      let n = next_is at st e in
      ap (λ o. rest_of o at.position) n.there ∙ left_step n.script.statements at.position st n.here ∙ ap (λ m. cost (works world.scripts) st + m) (sym (ap (λ o. rest_of o (suc at.position)) n.there))

  less_one : (a : ℕ) → a ≤ (a - 1) + 1
  less_one zero = omega arith
  less_one (suc n) = go
    where
      go : suc n ≤ (suc n - 1) + 1
      go = omega arith

  exec_rest : (s : ℕ) (m n : ℕ) → n ≡ (processes (works world.scripts) s - 1) + m → n < 999999 → rest_of (slice_get world.scripts s) zero ≤ n
  exec_rest s m n e lt = go (slice_get world.scripts s) refl
    where
      go : (o : Option Script) → slice_get world.scripts s ≡ o → rest_of o zero ≤ n
      go None is = omega arith
      go (Some script) is =
          let a = less_one (processes (works world.scripts) s) in
          let f = full s script is (omega (arith, a, e, lt)) in
          omega (arith, a, e, f)

  -- who moves on may make no more than before
  moved_rest : (at : Progress) (reply : Reply) (st : Statement) → rest at ≡ cost (works world.scripts) st + rest (passed at) → rest at < 999999 → rest (after_reply reply at st) ≤ rest at
  moved_rest at reply (statements.Fork var s on) e lt = omega (arith, e)
  moved_rest at reply (statements.Exec s) e lt = exec_rest s (rest (passed at)) (rest at) e lt
  moved_rest at Again (statements.Wait true any minus arg stopped continued) e lt = omega arith
  moved_rest at reply (statements.Wait true any minus arg stopped continued) e lt = waits reply
    where
      waits : (reply : Reply) → rest (after_wait true reply at) ≤ rest at
      waits Again = omega arith
      waits _ = omega (arith, e)
  moved_rest at reply (statements.Wait false any minus arg stopped continued) e lt = omega (arith, e)
  moved_rest at reply _ e lt = omega (arith, e)

  moves : (at : Progress) (reply : Reply) → rest at < 999999 → rest (moved_on world at reply) ≤ rest at
  moves at reply lt = go (next_statement world at) refl
    where
      go : (o : Option Statement) → next_statement world at ≡ o → rest (after_reply_or_exit reply at o) ≤ rest at
      go None e = omega arith
      go (Some st) e = moved_rest at reply st (step_rest at st e) lt

  -- a fork that succeeds
  record IsForking (own : Pid) (at : Progress) (reply : Reply) : Type 0 where
    child : Progress
    is : next_child world own at ≡ Some child
    less : suc (rest child + rest (moved_on world at reply)) ≤ rest at

  forking : (own : Pid) (at : Progress) (reply : Reply) → rest at < 999999 → next_call world own at ≡ Fork → IsForking own at reply
  forking own at reply lt asks = go (next_statement world at) refl asks
    where
      go : (o : Option Statement) → next_statement world at ≡ o → call_or_exit own at o ≡ Fork → IsForking own at reply
      go None e f = absurd (cc f)
      go (Some (statements.Fork var s on)) e f =
          let n = next_is at (statements.Fork var s on) e in
          let fits = next_statement-valid world at (statements.Fork var s on) valid e in
          let earlier : s < at.script = fits.1 in
          let within = slice_get_within world.scripts at.script n.script n.there in
          let there = slice_get-get_or world.scripts s n.script (omega (arith, earlier, within)) in
          let step = step_rest at (statements.Fork var s on) e in
          let f = full s (get_or world.scripts s n.script) there (omega (arith, step, lt)) in
          let child : rest (forked_by own at s) ≡ left (works world.scripts) (get_or world.scripts s n.script).statements zero = ap (λ o. rest_of o zero) there in
          let on_rest : rest (moved_on world at reply) ≡ rest (passed at) = ap (λ o. rest (after_reply_or_exit reply at o)) e in
          record { child = forked_by own at s; is = ap (option_and_then (child_of own at)) e; less = omega (arith, step, f, child, on_rest) }
      go (Some _) e f = absurd (cc f)

  -- ---- purses: what each process may still make, by its pid
  abbrev Purses : Type 0
  Purses = List (ℕ × ℕ)

  abbrev purse : List (ℕ × ℕ) → ℕ → Option ℕ
  purse [] q = None
  purse (e ∷ es) q = if q == e.0 then Some e.1 else purse es q

  abbrev spent : List (ℕ × ℕ) → ℕ → ℕ → List (ℕ × ℕ)
  spent [] q b = []
  spent (e ∷ es) q b = if q == e.0 then (e.0, b) ∷ es else e ∷ spent es q b

  abbrev whole : List (ℕ × ℕ) → ℕ
  whole [] = 0
  whole (e ∷ es) = e.1 + whole es

  purse_least : (es : List (ℕ × ℕ)) (q a : ℕ) → purse es q ≡ Some a → a ≤ whole es
  purse_least [] q a e = absurd (cc e)
  purse_least (x ∷ es) q a e = go (q == x.0) e (purse_least es q a)
    where
      go : (b : Bool) → cond b (Some x.1) (purse es q) ≡ Some a → (purse es q ≡ Some a → a ≤ whole es) → a ≤ x.1 + whole es
      go true e r = let is : x.1 ≡ a = some_same x.1 a e in omega (arith, is)
      go false e r = let h = r e in omega (arith, h)

  spent_own : (es : List (ℕ × ℕ)) (q a b : ℕ) → purse es q ≡ Some a → purse (spent es q b) q ≡ Some b
  spent_own [] q a b e = cc
  spent_own (x ∷ es) q a b e = go (q == x.0) refl e (spent_own es q a b)
    where
      go : (t : Bool) → (q == x.0) ≡ t → cond t (Some x.1) (purse es q) ≡ Some a → (purse es q ≡ Some a → purse (spent es q b) q ≡ Some b) → purse (cond t ((x.0, b) ∷ es) (x ∷ spent es q b)) q ≡ Some b
      go true t e r = ap (λ c. cond c (Some b) (purse es q)) t
      go false t e r = ap (λ c. cond c (Some x.1) (purse (spent es q b) q)) t ∙ r e

  spent_other : (es : List (ℕ × ℕ)) (q b r : ℕ) → r ≢ q → purse (spent es q b) r ≡ purse es r
  spent_other [] q b r ne = refl
  spent_other (x ∷ es) q b r ne = go (q == x.0) refl (spent_other es q b r ne)
    where
      go : (t : Bool) → (q == x.0) ≡ t → purse (spent es q b) r ≡ purse es r → purse (cond t ((x.0, b) ∷ es) (x ∷ spent es q b)) r ≡ cond (r == x.0) (Some x.1) (purse es r)
      go true t h =
          let no : (r == x.0) ≡ false = ne_eqb r x.0 (λ s. ne (s ∙ sym (eqb-true _ _ t))) in
          ap (λ c. cond c (Some b) (purse es r)) no ∙ sym (ap (λ c. cond c (Some x.1) (purse es r)) no)
      go false t h = ap (λ o. cond (r == x.0) (Some x.1) o) h

  spent_whole : (es : List (ℕ × ℕ)) (q a b : ℕ) → purse es q ≡ Some a → whole (spent es q b) + a ≡ whole es + b
  spent_whole [] q a b e = cc
  spent_whole (x ∷ es) q a b e = go (q == x.0) e (spent_whole es q a b)
    where
      go : (t : Bool) → cond t (Some x.1) (purse es q) ≡ Some a → (purse es q ≡ Some a → whole (spent es q b) + a ≡ whole es + b) → whole (cond t ((x.0, b) ∷ es) (x ∷ spent es q b)) + a ≡ x.1 + whole es + b
      go true e r = let is : x.1 ≡ a = some_same x.1 a e in omega (arith, is)
      go false e r = let h = r e in omega (arith, h)

  -- each process's purse has what it may still make
  abbrev Covered : Running → List (ℕ × ℕ) → Type 0
  Covered running es = (q : ℕ) (at : Progress) → running q ≡ Some at → (a : ℕ) × (purse es q ≡ Some a) × (rest at ≤ a)

  -- a process moves on
  covered_moved : (running : Running) (es : List (ℕ × ℕ)) (p b : ℕ) (at' : Progress) (a : ℕ) → purse es p ≡ Some a → rest at' ≤ b → Covered running es → Covered (put p (Some at') running) (spent es p b)
  covered_moved running es p b at' a has le cover q x e = go (q == p) refl e
    where
      go : (t : Bool) → (q == p) ≡ t → cond t (Some at') (running q) ≡ Some x → (c : ℕ) × (purse (spent es p b) q ≡ Some c) × (rest x ≤ c)
      go true t e = let is : at' ≡ x = some_same at' x e in (b, ap (purse (spent es p b)) (eqb-true _ _ t) ∙ spent_own es p a b has, subst (λ y. rest y ≤ b) is le)
      go false t e = let c = cover q x e in (c.0, spent_other es p b q (eqb-false _ _ t) ∙ c.1, c.2)

  -- a child begins
  covered_born : (running : Running) (es : List (ℕ × ℕ)) (n : ℕ) (child : Progress) → Covered running es → Covered (put n (Some child) running) ((n, rest child) ∷ es)
  covered_born running es n child cover q x e = go (q == n) refl e
    where
      go : (t : Bool) → (q == n) ≡ t → cond t (Some child) (running q) ≡ Some x → (c : ℕ) × (cond (q == n) (Some (rest child)) (purse es q) ≡ Some c) × (rest x ≤ c)
      go true t e = let is : child ≡ x = some_same child x e in (rest child, ap (λ b. cond b (Some (rest child)) (purse es q)) t, subst (λ y. rest y ≤ rest child) is (omega arith))
      go false t e = let c = cover q x e in (c.0, ap (λ b. cond b (Some (rest child)) (purse es q)) t ∙ c.1, c.2)

  -- a call that makes no process
  record IsPlain (caller : Pid) (call : Call) (reply : Reply) : Type 0 where
    same : (at : Progress) (running : Running) → with_child world caller at call reply running ≡ running
    none : (m : ℕ) → made_by (Called caller call reply) m ≡ m

  fork_or : (caller : Pid) (call : Call) (reply : Reply) → ((n : ℕ) × (call ≡ Fork) × (reply ≡ Number n)) ⊎ IsPlain caller call reply
  fork_or caller Fork (Number n) = inl (n, refl, refl)
  fork_or caller Fork _ = inr (record { same = λ at running. refl; none = λ m. refl })
  fork_or caller _ reply = inr (record { same = λ at running. refl; none = λ m. refl })

  abbrev Bounds : List Entry → Type 0
  Bounds history = (running : Running) (es : List (ℕ × ℕ)) (m : ℕ) → whole es < 999999 → Covered running es → FollowsFrom world running history → made_from m history ≤ m + whole es

  called_bound : (history : List Entry) → Bounds history → (caller : Pid) (call : Call) (reply : Reply) (running : Running) (es : List (ℕ × ℕ)) (m : ℕ) → whole es < 999999 → Covered running es → FollowsFrom world running (Called caller call reply ∷ history) →
      made_from m (Called caller call reply ∷ history) ≤ m + whole es
  called_bound history ih caller call reply running es m little cover (asks, follows) = go (running caller.0) refl asks follows
    where
      go : (o : Option Progress) → running caller.0 ≡ o → AsksNext world caller call o → FollowsFrom world (after_call world caller call reply running o) history → made_from (made_by (Called caller call reply) m) history ≤ m + whole es
      go None e asks follows = absurd asks
      go (Some at) e asks follows = by (fork_or caller call reply)
        where
          mine : (a : ℕ) × (purse es caller.0 ≡ Some a) × (rest at ≤ a)
          mine = cover caller.0 at e

          by : ((n : ℕ) × (call ≡ Fork) × (reply ≡ Number n)) ⊎ IsPlain caller call reply → made_from (made_by (Called caller call reply) m) history ≤ m + whole es
          by (inr plain) =
              let c = cover caller.0 at e in
              let top = purse_least es caller.0 c.0 c.1 in
              let le = moves at reply (omega (arith, top, little, c.2)) in
              let next : Covered (put caller.0 (Some (moved_on world at reply)) running) (spent es caller.0 c.0) = covered_moved running es caller.0 c.0 (moved_on world at reply) c.0 c.1 (omega (arith, le, c.2)) cover in
              let total = spent_whole es caller.0 c.0 c.0 c.1 in
              let bound = ih (put caller.0 (Some (moved_on world at reply)) running) (spent es caller.0 c.0) m (omega (arith, total, little)) next (subst (λ r. FollowsFrom world r history) (plain.same at (put caller.0 (Some (moved_on world at reply)) running)) follows) in
              let made : made_from (made_by (Called caller call reply) m) history ≡ made_from m history = ap (λ k. made_from k history) (plain.none m) in
              omega (arith, bound, total, made)
          by (inl (n, is_fork, is_number)) =
              let c = cover caller.0 at e in
              let top = purse_least es caller.0 c.0 c.1 in
              let f = forking caller at reply (omega (arith, top, little, c.2)) (sym asks ∙ is_fork) in
              let r = rest (moved_on world at reply) in
              let moved : Covered (put caller.0 (Some (moved_on world at reply)) running) (spent es caller.0 r) = covered_moved running es caller.0 r (moved_on world at reply) c.0 c.1 (omega arith) cover in
              let born = covered_born (put caller.0 (Some (moved_on world at reply)) running) (spent es caller.0 r) n f.child moved in
              let total = spent_whole es caller.0 c.0 r c.1 in
              let less = f.less in
              let same : with_child world caller at call reply (put caller.0 (Some (moved_on world at reply)) running) ≡ put n (Some f.child) (put caller.0 (Some (moved_on world at reply)) running) =
              ap (λ k. with_child world caller at k reply (put caller.0 (Some (moved_on world at reply)) running)) is_fork
              ∙ ap (λ y. with_child world caller at Fork y (put caller.0 (Some (moved_on world at reply)) running)) is_number
              ∙ ap (λ o. put n o (put caller.0 (Some (moved_on world at reply)) running)) f.is in
              let bound = ih (put n (Some f.child) (put caller.0 (Some (moved_on world at reply)) running)) ((n, rest f.child) ∷ spent es caller.0 r) (suc m) (omega (arith, total, little, less, c.2)) born (subst (λ x. FollowsFrom world x history) same follows) in
              let made : made_from (made_by (Called caller call reply) m) history ≡ made_from (suc m) history = ap (λ k. made_from (made_by (Called caller k reply) m) history) is_fork ∙ ap (λ y. made_from (made_by (Called caller Fork y) m) history) is_number in
              omega (arith, bound, total, made, less, c.2)

  bounds : (history : List Entry) → Bounds history
  bounds [] running es m little cover follows = omega arith
  bounds (Happened p event ∷ history) running es m little cover follows = bounds history running es m little cover follows.1
  bounds (Called caller call reply ∷ history) running es m little cover follows = called_bound history (bounds history) caller call reply running es m little cover follows

  -- ---- the starts
  abbrev first_purses : List Start → List (ℕ × ℕ)
  first_purses [] = []
  first_purses (s ∷ ss) = (s.pid.0, rest_of (slice_get world.scripts s.script) zero) ∷ first_purses ss

  first_covered : (starts : List Start) (q : ℕ) (at : Progress) → option_map (started world) (find (λ start. start.pid.0 == q) starts) ≡ Some at → (a : ℕ) × (purse (first_purses starts) q ≡ Some a) × (rest at ≤ a)
  first_covered [] q at e = absurd (cc e)
  first_covered (s ∷ ss) q at e = go (s.pid.0 == q) refl e (first_covered ss q at)
    where
      go : (b : Bool) → (s.pid.0 == q) ≡ b → option_map (started world) (cond b (Some s) (find (λ start. start.pid.0 == q) ss)) ≡ Some at →
          (option_map (started world) (find (λ start. start.pid.0 == q) ss) ≡ Some at → (a : ℕ) × (purse (first_purses ss) q ≡ Some a) × (rest at ≤ a)) →
          (a : ℕ) × (cond (q == s.pid.0) (Some (rest_of (slice_get world.scripts s.script) zero)) (purse (first_purses ss) q) ≡ Some a) × (rest at ≤ a)
      go true t e r =
          let is : started world s ≡ at = some_same (started world s) at e in
          (rest_of (slice_get world.scripts s.script) zero, ap (λ b. cond b (Some (rest_of (slice_get world.scripts s.script) zero)) (purse (first_purses ss) q)) (eq-eqb q s.pid.0 (sym (eqb-true _ _ t))), subst (λ x. rest x ≤ rest_of (slice_get world.scripts s.script) zero) is (omega arith))
      go false t e r =
          let c = r e in
          (c.0, ap (λ b. cond b (Some (rest_of (slice_get world.scripts s.script) zero)) (purse (first_purses ss) q)) (ne_eqb q s.pid.0 (λ h. eqb-false _ _ t (sym h))) ∙ c.1, c.2)

  rest_least : (s : ℕ) → processes (works world.scripts) s < 1000000 → rest_of (slice_get world.scripts s) zero ≤ processes (works world.scripts) s
  rest_least s lt = go (slice_get world.scripts s) refl
    where
      go : (o : Option Script) → slice_get world.scripts s ≡ o → rest_of o zero ≤ processes (works world.scripts) s
      go None e = omega arith
      go (Some script) e = let f = full s script e lt in omega (arith, f)

  fold_starts : (w : Work) (starts : List Start) → (fold (λ total start. together total (work_of (works world.scripts) start.script)) w starts).processes < 1000000 →
      w.processes + whole (first_purses starts) ≤ (fold (λ total start. together total (work_of (works world.scripts) start.script)) w starts).processes
  fold_starts w [] lt = omega arith
  fold_starts w (s ∷ ss) lt =
      let ih = fold_starts (together w (work_of (works world.scripts) s.script)) ss lt in
      let e = under (w.processes + processes (works world.scripts) s.script) (omega (arith, ih, lt)) in
      let r = rest_least s.script (omega (arith, ih, lt, e)) in
      omega (arith, ih, e, r)

  -- a history that follows the scripts makes at most 1,024 processes
  pub made-few : (history : List Entry) → Follows world history → made_from 66 history ≤ 66 + 1024
  made-few history follows =
      let limit : (total_work (works world.scripts) world.starts).processes ≤ 1024 = leb-true (total_work (works world.scripts) world.starts).processes MOST_PROCESSES (and_parts (nat_le (total_work (works world.scripts) world.starts).processes MOST_PROCESSES) (nat_le (total_work (works world.scripts) world.starts).statements MOST_WORK) valid.work).0 in
      let total = fold_starts (work 0 0) world.starts (omega (arith, limit)) in
      let b = bounds history (first_running world) (first_purses world.starts) 66 (omega (arith, total, limit)) (λ q at e. first_covered world.starts q at e) follows in
      omega (arith, b, total, limit)

  pub little : (history : List Entry) → Follows world history → made_from 66 history < 999999
  little history follows = let b = made-few history follows in omega (arith, b)

pub forks_are_few : ForksAreFew
forks_are_few world history valid follows = let a = made-few world valid history follows in let b = made-plus 66 0 history in omega (arith, a, b)
