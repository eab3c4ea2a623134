-- tables of few rows, all of one session, and the bags that agree with them
use Rattle.std.proofs.Common.{◌≡◌, ◌≢◌, ◌==◌, ◌≤◌, ◌<◌, ◌^◌, All, is_some, ◌⊎◌, inl, inr, ℕ, suc, Bool, true, false, cond, nat_lt, List, [], ◌∷◌, length, filter, refl, sym, ◌∙◌, subst, arith, Option, None, Some}
use Rattle.std.proofs.lemmas.Bool.{eqb-true}
use Rattle.std.proofs.lemmas.List.Elements.{All-nil, All-cons}
use Rattle.unix_names.specs.declared.Pid.{Pid}
use Rattle.unix_names.specs.States.{is_living}
use Rattle.ordered_table.specs.declared.Entry.{Entry}
use Rattle.ordered_table.specs.Entries.{value_at}
use Rattle.list_laws.proofs.Filters.{some_same}
use Rattle.process_table.specs.declared.Row.{Row}
use Rattle.process_table.specs.Rows.{pid, row_of, is_parent, is_stopped, AreDistinct}
use Rattle.signal_state.specs.Signals.{IsKept}
use Rattle.signal_state.specs.Sig.{fresh}
use Rattle.kernel_laws.proofs.Boot.{kept-fresh}
use Rattle.kernel_laws.specs.Effects.{IsUnused}
use Rattle.unix_names.specs.Sets.{IsSignals}
use Rattle.vproc_record.specs.declared.Vproc.{Vproc}
use Rattle.group_record.specs.declared.Group.{Group}
use Rattle.record_bag.specs.declared.bag.Bag.{Bag}
use Rattle.decide_law.specs.Agrees.{Agrees, vproc_at, group_at}
use Rattle.decide_law.specs.Law.{IsOwn}
use Rattle.decide_law.specs.Needs.{IsNamed, IsOfRow, Itself, OfJob, OfRow}
use Rattle.decide_law.specs.Vector.{Fits, IsFitting}
use Rattle.decide_tests.specs.Families.{fresh_own, getpid_job, free_site}
use Rattle.kernel_model.specs.Sound.{IsAlive, IsSound}

-- each element of a list
abbrev pub Every : {X : Type 0} → (X → Type 0) → List X → Type 0
Every P [] = Unit {0}
Every P (x ∷ xs) = P x × Every P xs

-- ---- what is found
row_step : (P : Row → Type 0) (r : Row) (b : Bool) (m : Option Row) → P r → ((c : Row) → m ≡ Some c → P c) → (c : Row) → cond b (Some r) m ≡ Some c → P c
row_step P r true m p rest c e = subst P (some_same r c e) p
row_step P r false m p rest c e = rest c e

-- what is so of each row is so of the one that is found
pub each_row : (P : Row → Type 0) (rows : List Row) → Every P rows → (q : Pid) (c : Row) → row_of rows q ≡ Some c → P c
each_row P [] all q c e = absurd (cc e)
each_row P (r ∷ rows) all q c e = row_step P r (r.pid.0 == q.0) (row_of rows q) all.0 (each_row P rows all.1 q) c e

value_step : {T : Type 0} (P : Pid → T → Type 0) (e : Entry T) (es : List (Entry T)) (q : Pid) (b c : Bool) → (e.pid.0 == q.0) ≡ c → P e.pid e.value → ((h : T) → value_at es q ≡ Some h → P q h) → (h : T) → cond b (value_at es q) (cond c (Some e.value) None) ≡ Some h → P q h
value_step P e es q true c k p rest h there = rest h there
value_step P e es q false true k p rest h there = subst (λ z. P q z) (some_same e.value h there) (subst (λ (n : ℕ). P (record { 0 = n }) e.value) (eqb-true _ _ k) p)
value_step P e es q false false k p rest h there = absurd (cc there)

-- what is so of each entry is so of what is held
pub each_value : {T : Type 0} (P : Pid → T → Type 0) (es : List (Entry T)) → Every (λ e. P e.pid e.value) es → (q : Pid) (h : T) → value_at es q ≡ Some h → P q h
each_value P [] all q h there = absurd (cc there)
each_value P (e ∷ es) all q h there = value_step P e es q (nat_lt e.pid.0 q.0) (e.pid.0 == q.0) refl all.0 (each_value P es all.1 q) h there

-- ---- of each pid
pid_step : (P : Pid → Type 0) (n : ℕ) (q : Pid) (b : Bool) → (n == q.0) ≡ b → P (pid n) → ((n == q.0) ≡ false → P q) → P q
pid_step P n q true e at other = subst (λ (m : ℕ). P (record { 0 = m })) (eqb-true _ _ e) at
pid_step P n q false e at other = other e

-- one, or another
pub of_one : (P : Pid → Type 0) (n : ℕ) → P (pid n) → ((q : Pid) → (n == q.0) ≡ false → P q) → (q : Pid) → P q
of_one P n here others q = pid_step P n q (n == q.0) refl here (others q)

-- one of two, or neither
pub of_two : (P : Pid → Type 0) (m n : ℕ) → P (pid m) → P (pid n) → ((q : Pid) → (m == q.0) ≡ false → (n == q.0) ≡ false → P q) → (q : Pid) → P q
of_two P m n first second others q = pid_step P m q (m == q.0) refl first (λ a. pid_step P n q (n == q.0) refl second (λ b. others q a b))

-- one of three, or none
pub of_three : (P : Pid → Type 0) (l m n : ℕ) → P (pid l) → P (pid m) → P (pid n) → ((q : Pid) → (l == q.0) ≡ false → (m == q.0) ≡ false → (n == q.0) ≡ false → P q) → (q : Pid) → P q
of_three P l m n first second third others q = pid_step P l q (l == q.0) refl first (λ a. of_two (λ z. (l == z.0) ≡ false → P z) m n (λ _. second) (λ _. third) (λ z b c d. others z d b c) q a)

-- ---- sound tables
-- the signals of a process that has none, stopped or not
pub kept_stopped : (s : Bool) → IsKept (record fresh { stopped = s })
kept_stopped s = record {
  not_ignored = kept-fresh.not_ignored;
  one_action = kept-fresh.one_action;
  mask_allowed = kept-fresh.mask_allowed;
  ignored_allowed = kept-fresh.ignored_allowed;
  caught_allowed = kept-fresh.caught_allowed;
  due_stopped = λ e. absurd (cc e);
}

filter_step : (t : Row → Bool) (r : Row) (rows : List Row) (b : Bool) → length (filter t rows) ≤ length rows → length (cond b (r ∷ filter t rows) (filter t rows)) ≤ suc (length rows)
filter_step t r rows true h = omega (arith, h)
filter_step t r rows false h = omega (arith, h)

at_most : (t : Row → Bool) (rows : List Row) → length (filter t rows) ≤ length rows
at_most t [] = omega arith
at_most t (r ∷ rows) = filter_step t r rows (t r) (at_most t rows)

-- no more rows than a process has children at most, all of one session
pub few_sound : (rows : List Row) (s : Pid) → AreDistinct rows → length rows ≤ 64 → Every (λ r. r.session ≡ s) rows →
    Every (λ r. (r.pid.0 ≢ 1) × (r.pid.0 ≢ 999999) × (r.parent.0 ≢ r.pid.0)) rows →
    Every (λ r. (r.parent.0 ≡ 1) ⊎ IsAlive (row_of rows r.parent)) rows →
    Every (λ r. (is_living r.life ≡ true → is_stopped r.life ≡ r.sig.stopped) × IsKept r.sig × (is_living r.life ≡ false → r.change ≡ None)) rows → IsSound rows
few_sound rows s distinct few sessions names parents states = record {
  distinct = distinct;
  each = λ q r e.
      let name = each_row _ rows names q r e in
      let state = each_row _ rows states q r e in
      let of_s : (z : Pid) (c : Row) → row_of rows z ≡ Some c → c.session ≡ r.session = λ z c f. each_row _ rows sessions z c f ∙ sym (each_row _ rows sessions q r e) in
      record {
        not_system = name.0;
        not_nobody = name.1;
        parent_lives = each_row _ rows parents q r e;
        not_own_parent = name.2;
        group_session = λ z c f _. of_s z c f;
        led_session = λ z c f _. of_s z c f;
        stopped_alike = state.0;
        signals_kept = state.1;
        ended_unchanged = state.2;
      };
  few_children = λ p _. let h = at_most (is_parent p) rows in omega (arith, h, few);
}

-- as a statement of all elements
pub every_all : {X : Type 0} (P : X → Type 0) (xs : List X) → Every P xs → All P xs
every_all P [] e = All-nil P
every_all P (x ∷ xs) e = All-cons P x xs e.0 (every_all P xs e.1)

-- ---- questions about process 2, where pid 4 is free
-- each number of a row is small
abbrev pub IsLittleRow : Row → Type 0
IsLittleRow r = (r.pid.0 < 2 ^ 32) × (r.parent.0 < 2 ^ 32) × (r.group.0 < 2 ^ 32) × (r.session.0 < 2 ^ 32)

of_row : (r : Row) (n : ℕ) → IsLittleRow r → IsOfRow r n → n < 2 ^ 32
of_row r n l (inl a) = rw a l.0
of_row r n l (inr (inl a)) = rw a l.1
of_row r n l (inr (inr (inl a))) = rw a l.2
of_row r n l (inr (inr (inr a))) = rw a l.3

numbers : (rows : List Row) → Every IsLittleRow rows → (n : ℕ) → IsNamed rows (pid 2) getpid_job n → n < 2 ^ 32
numbers rows little n (Itself e) = rw e (omega arith)
numbers rows little n (OfJob e) = absurd e
numbers rows little n (OfRow q r e named) = of_row r n (each_row IsLittleRow rows little q r e) named

-- what is asked where what is held tells what its image carries, and that it is at node 0
pub asked : (rows : List Row) (bag : Bag) (r : Row) → IsSound rows → Agrees bag rows → length rows < 1000000 → row_of rows (pid 2) ≡ Some r → is_living r.life ≡ true → is_stopped r.life ≡ false → IsSignals r.sig.pending →
    ((v : Vproc) (g : Group) → vproc_at bag (pid 2) ≡ Some (Some v) → group_at bag v.group ≡ Some (Some g) → IsOwn fresh_own v g r) →
    ((v : Vproc) → vproc_at bag (pid 2) ≡ Some (Some v) → v.loc.0 < 1) →
    IsUnused rows 4 → row_of rows (pid 4) ≡ None → is_some (vproc_at bag (pid 4)) ≡ false → Every IsLittleRow rows → Fits (pid 2) getpid_job fresh_own bag free_site
asked rows bag r sound agrees few there living runs pending own_is placed unused fresh free little = record {
  nodes = 1;
  rows = rows;
  asks = record {
    sound = sound;
    agrees = agrees;
    few = few;
    row = r;
    there = there;
    living = living;
    pending = pending;
    looks = λ e. absurd (cc (e, runs));
    calls = λ _ e. absurd (cc e);
    own_is = own_is;
    fresh = fresh;
    unused = unused;
    fresh_held = free;
    here = omega arith;
    goes = tt;
    placed = placed;
    numbers = numbers rows little;
  };
}

-- the same where its record and its group are held
pub few_fits : (rows : List Row) (bag : Bag) (v : Vproc) (g : Group) (r : Row) → IsSound rows → Agrees bag rows → length rows < 1000000 → row_of rows (pid 2) ≡ Some r → is_living r.life ≡ true → is_stopped r.life ≡ false → IsSignals r.sig.pending →
    vproc_at bag (pid 2) ≡ Some (Some v) → group_at bag v.group ≡ Some (Some g) → IsOwn fresh_own v g r → v.loc.0 < 1 →
    IsUnused rows 4 → row_of rows (pid 4) ≡ None → is_some (vproc_at bag (pid 4)) ≡ false → Every IsLittleRow rows → Fits (pid 2) getpid_job fresh_own bag free_site
few_fits rows bag v g r sound agrees few there living runs pending v_at g_at own placed unused fresh free little =
    asked rows bag r sound agrees few there living runs pending
    (λ w k w_at k_at. own_is w k (some_same v w (some_same (Some v) (Some w) (sym v_at ∙ w_at))) k_at)
    (λ w at. subst (λ (z : Vproc). z.loc.0 < 1) (some_same v w (some_same (Some v) (Some w) (sym v_at ∙ at))) placed)
    unused fresh free little
  where
    own_is : (w : Vproc) (k : Group) → v ≡ w → group_at bag w.group ≡ Some (Some k) → IsOwn fresh_own w k r
    own_is w k e k_at = subst (λ z. group_at bag z.group ≡ Some (Some k) → IsOwn fresh_own z k r) e
        (λ f. subst (λ z. IsOwn fresh_own v z r) (some_same g k (some_same (Some g) (Some k) (sym g_at ∙ f))) own) k_at

-- whatever is asked
pub fitting : (bag : Bag) → Fits (pid 2) getpid_job fresh_own bag free_site → IsFitting (pid 2) fresh_own bag
fitting bag fits = record { job = getpid_job; site = free_site; fits = fits }
