-- the first table of a world, and the tables of its legal histories
use Rattle.std.proofs.Common.{◌≡◌, ◌≢◌, ◌==◌, inl, inr, ◌++◌, ℕ, zero, suc, Bool, true, false, cond, List, [], ◌∷◌, length, refl, sym, ap, ◌∙◌, subst, arith, Option, None, Some}
use Rattle.std.specs.Prelude.{slice_get}
use Rattle.std.specs.Option.{option_or}
use Rattle.std.proofs.lemmas.Bool.{eqb-true, ne_eqb}
use Rattle.unix_names.specs.declared.Pid.{Pid}
use Rattle.unix_names.specs.declared.Life.TheVariants.{Runs}
use Rattle.unix_calls.specs.declared.Entry.{Entry}
use Rattle.unix_calls.specs.declared.Start.{Start}
use Rattle.unix_calls.specs.declared.World.{World}
use Rattle.unix_calls.specs.Valid.{IsValid}
use Rattle.signal_state.specs.Signals.{IsKept}
use Rattle.signal_state.specs.Sig.{fresh}
use Rattle.process_table.specs.declared.Row.{Row}
use Rattle.process_table.specs.Rows.{is_parent, is_stopped, row_of, child_count}
use Rattle.kernel_model.specs.Step.{after}
use Rattle.kernel_model.specs.Legal.{joined_row, row_with, first_row, booted, boot, after_entries, IsLegalFrom}
use Rattle.kernel_model.specs.Sound.{IsSoundRow, IsSound}
use Rattle.list_laws.specs.Keyed.{at, Distinct}
use Rattle.list_laws.proofs.Finding.{at-append, comes-append, distinct-append, at-append_none, absent_differs, absent_rest, same_flip, same_number}
use Rattle.list_laws.proofs.Elements.{filter-same}
use Rattle.list_laws.proofs.Filters.{filter-none, some_same}
use Rattle.kernel_laws.specs.Tables.{BootIsSound, LegalTablesAreSound}
use Rattle.kernel_laws.proofs.Starts.{start_number, IsOwnPid, AreOwnPids, valid_pids}
use Rattle.kernel_laws.proofs.Rows.{number, distinct_to, pid_same, row_here}
use Rattle.kernel_laws.proofs.SignalFacts.{none_in_empty}
use Rattle.kernel_laws.proofs.Steps.{step_keeps}

pub kept-fresh : IsKept fresh
kept-fresh = record {
  not_ignored = λ s h. cc (none_in_empty s);
  one_action = λ s h. cc (none_in_empty s);
  mask_allowed = (refl, refl);
  ignored_allowed = (refl, refl);
  caught_allowed = (refl, refl);
  due_stopped = λ e. cc;
}

-- a row of a table in which no process had a step
pub record IsFirstRow (rows : List Row) (c : Row) : Type 0 where
  pub own_pid : (c.pid.0 ≢ 1) × (c.pid.0 ≢ 999999)
  pub system_child : c.parent.0 ≡ 1
  pub runs : c.life ≡ Runs
  pub unchanged : c.change ≡ None
  pub signals : c.sig ≡ fresh
  -- its group is led by a row, and its session has the same id
  pub leader : Row
  pub led : row_of rows c.group ≡ Some leader
  pub leads : leader.group ≡ leader.pid
  pub session : c.session ≡ c.group

pub record IsFirst (rows : List Row) : Type 0 where
  pub distinct : Distinct number rows
  pub each : (c : Row) → row_of rows c.pid ≡ Some c → IsFirstRow rows c

-- ---- a first table is sound
first_row_sound : (rows : List Row) (c : Row) → IsFirst rows → row_of rows c.pid ≡ Some c → IsSoundRow rows c
first_row_sound rows c first here =
    let k = first.each c here in
    record {
      not_system = k.own_pid.0;
      not_nobody = k.own_pid.1;
      parent_lives = inl k.system_child;
      not_own_parent = λ e. k.own_pid.0 (sym e ∙ k.system_child);
      group_session = λ q d e g. (first.each d (row_here rows q d e)).session ∙ pid_same d.group c.group g ∙ sym k.session;
      led_session = λ q d e g.
          let m = first.each d (row_here rows q d e) in
          let is : m.leader ≡ c = some_same m.leader c (sym m.led ∙ ap (λ n. at number n rows) g ∙ here) in
          m.session ∙ pid_same d.group c.pid g ∙ sym (k.session ∙ subst (λ x. x.group ≡ x.pid) is m.leads);
      stopped_alike = λ a. ap is_stopped k.runs ∙ ap (λ x. x.stopped) (sym k.signals);
      signals_kept = subst IsKept (sym k.signals) kept-fresh;
      ended_unchanged = λ e. k.unchanged;
    }

no_children : (rows : List Row) (p : Pid) → IsFirst rows → p.0 ≢ 1 → child_count rows p ≡ 0
no_children rows p first ne =
    ap length (filter-same number (is_parent p) (λ c. false) rows first.distinct (λ c here. ap (λ n. n == p.0) ((first.each c here).system_child) ∙ ne_eqb 1 p.0 (λ h. ne (sym h)))
    ∙ filter-none rows)

pub first_sound : (rows : List Row) → IsFirst rows → IsSound rows
first_sound rows first = record {
  distinct = distinct_to rows first.distinct;
  each = λ q c e. first_row_sound rows c first (row_here rows q c e);
  few_children = λ p ne. let none = no_children rows p first ne in omega (arith, none);
}

-- ---- one start more
slice_found : (rows : List Row) (k : ℕ) (c : Row) → Distinct number rows → slice_get rows k ≡ Some c → row_of rows c.pid ≡ Some c
slice_found [] k c d e = cc
slice_found (r ∷ rows) zero c d e = subst (λ x. row_of (r ∷ rows) x.pid ≡ Some x) (some_same r c e) (rw (same_number r.pid.0))
slice_found (r ∷ rows) (suc k) c d e = later r rows c (r.pid.0 == c.pid.0) refl d.0 (slice_found rows k c d.1 e)
  where
    later : (r : Row) (rows : List Row) (c : Row) (b : Bool) → (r.pid.0 == c.pid.0) ≡ b → row_of rows r.pid ≡ None → row_of rows c.pid ≡ Some c → cond b (Some r) (row_of rows c.pid) ≡ Some c
    later r rows c true s n h = let m : row_of rows c.pid ≡ None = subst (λ z. at number z rows ≡ None) (eqb-true _ _ s) n in cc
    later r rows c false s n h = h

found_still : (rows : List Row) (x : Row) (q : Pid) (c : Row) → row_of rows q ≡ Some c → row_of (rows ++ x ∷ []) q ≡ Some c
found_still rows x q c e = at-append number q.0 rows (x ∷ []) ∙ ap (λ o. option_or o (row_of (x ∷ []) q)) e

found_new : (rows : List Row) (x : Row) → row_of rows x.pid ≡ None → row_of (rows ++ x ∷ []) x.pid ≡ Some x
found_new rows x e = at-append number x.pid.0 rows (x ∷ []) ∙ ap (λ o. option_or o (row_of (x ∷ []) x.pid)) e ∙ rw (same_number x.pid.0)

module _ (rows : List Row) (start : Start) (first : IsFirst rows) (own : IsOwnPid start) (free : row_of rows start.pid ≡ None) where
  joined_first : (o : Option Row) → ((j : Row) → o ≡ Some j → row_of rows j.pid ≡ Some j) → IsFirstRow (rows ++ row_with start o ∷ []) (row_with start o)
  joined_first None there = record {
    own_pid = own;
    system_child = refl;
    runs = refl;
    unchanged = refl;
    signals = refl;
    leader = row_with start None;
    led = found_new rows (row_with start None) free;
    leads = refl;
    session = refl;
  }
  joined_first (Some j) there =
      let k = first.each j (there j refl) in
      record {
        own_pid = own;
        system_child = refl;
        runs = refl;
        unchanged = refl;
        signals = refl;
        leader = k.leader;
        led = found_still rows (row_with start (Some j)) j.group k.leader k.led;
        leads = k.leads;
        session = k.session;
      }

  still_first : (x c : Row) → row_of rows c.pid ≡ Some c → IsFirstRow (rows ++ x ∷ []) c
  still_first x c here =
      let k = first.each c here in
      record {
        own_pid = k.own_pid;
        system_child = k.system_child;
        runs = k.runs;
        unchanged = k.unchanged;
        signals = k.signals;
        leader = k.leader;
        led = found_still rows x c.group k.leader k.led;
        leads = k.leads;
        session = k.session;
      }

  joined_there : (o : Option ℕ) (j : Row) → joined_row rows o ≡ Some j → row_of rows j.pid ≡ Some j
  joined_there None j e = cc
  joined_there (Some k) j e = slice_found rows k j first.distinct e

  started : IsFirst (rows ++ first_row rows start ∷ [])
  started =
      let x = first_row rows start in
      let new = joined_first (joined_row rows start.joined) (joined_there start.joined) in
      record {
        distinct = distinct-append number rows x free first.distinct;
        each = λ c here. elim (comes-append number c.pid.0 rows c x here) [ inl h ↦ still_first x c h | inr s ↦ subst (IsFirstRow (rows ++ x ∷ [])) (sym s.0) new ];
      }

-- ---- all starts
-- no row has the pid of one of these starts
abbrev AreFree : List Row → List Start → Type 0
AreFree rows [] = Unit {0}
AreFree rows (start ∷ starts) = (row_of rows start.pid ≡ None) × AreFree rows starts

still_free : (rows : List Row) (x : Row) (q : ℕ) (starts : List Start) → x.pid.0 ≡ q → at start_number q starts ≡ None → AreFree rows starts → AreFree (rows ++ x ∷ []) starts
still_free rows x q [] is absent free = tt
still_free rows x q (start ∷ starts) is absent free = (
  at-append_none number start.pid.0 rows x (ap (λ n. n == start.pid.0) is ∙ same_flip _ _ (absent_differs start_number q start starts absent)) free.0,
  still_free rows x q starts is (absent_rest start_number q start starts absent) free.1,
)

pub booted_first : (rows : List Row) (starts : List Start) → IsFirst rows → Distinct start_number starts → AreOwnPids starts → AreFree rows starts → IsFirst (booted rows starts)
booted_first rows [] first d own free = first
booted_first rows (start ∷ starts) first d own free =
    booted_first (rows ++ first_row rows start ∷ []) starts (started rows start first own.0 free.0) d.1 own.1 (still_free rows (first_row rows start) start.pid.0 starts refl d.0 free.1)

pub all_free : (starts : List Start) → AreFree [] starts
all_free [] = tt
all_free (start ∷ starts) = (refl, all_free starts)

pub empty_first : IsFirst []
empty_first = record { distinct = tt; each = λ c e. cc }

pub boot_first : (world : World) → IsValid world → IsFirst (boot world)
boot_first world valid = let own = valid_pids world valid in booted_first [] world.starts empty_first own.differ own.allowed (all_free world.starts)

pub boot_sound : BootIsSound
boot_sound world valid = first_sound (boot world) (boot_first world valid)

-- ---- legal histories
after_sound : (rows : List Row) (before later : List Entry) → IsSound rows → IsLegalFrom rows (before ++ later) → IsSound (after_entries rows before)
after_sound rows [] later sound legal = sound
after_sound rows (entry ∷ before) later sound legal = after_sound (after rows entry) before later (step_keeps rows entry sound legal.0) legal.1

pub legal_sound : LegalTablesAreSound
legal_sound world before later valid legal = after_sound (boot world) before later (boot_sound world valid) legal
