-- a fork adds a row whose pid was no row's pid, group or session
use Rattle.std.proofs.Common.{◌≡◌, ◌≢◌, ◌==◌, ◌&&◌, ◌||◌, ◌≤◌, ◌<◌, ◌⊎◌, inl, inr, ◌++◌, ℕ, Bool, true, false, not, List, [], ◌∷◌, length, refl, sym, ap, ◌∙◌, subst, arith, Option, None, Some}
use Rattle.std.specs.Prelude.{filter, nat_le}
use Rattle.std.specs.List.{list_any}
use Rattle.std.specs.Option.{option_or}
use Rattle.std.proofs.lemmas.Bool.{eqb-true, eq-eqb, and_parts, or_parts, leb-true}
use Rattle.unix_names.specs.declared.Pid.{Pid}
use Rattle.unix_names.specs.States.{is_living}
use Rattle.process_table.specs.declared.Row.{Row}
use Rattle.process_table.specs.Rows.{pid, is_parent, row_of, child_count}
use Rattle.kernel_rules.specs.Fork.{uses_number, is_fresh, newborn}
use Rattle.kernel_model.specs.Sound.{IsAlive, IsSoundRow, IsSound}
use Rattle.list_laws.specs.Keyed.{one_if}
use Rattle.list_laws.proofs.Finding.{at-append, comes-append, distinct-append}
use Rattle.list_laws.proofs.Elements.{any_no}
use Rattle.list_laws.proofs.Counts.{count-append}
use Rattle.kernel_laws.specs.Effects.{IsUnused}
use Rattle.kernel_laws.proofs.Rows.{number, distinct_from, distinct_to, row_pid, row_here}
use Rattle.kernel_laws.proofs.SignalFacts.{kept-child}
use Rattle.kernel_laws.proofs.Legal.{not_true}

-- ---- a fresh number
differs : (a b : ℕ) → (a == b) ≡ false → a ≢ b
differs a b f = λ e. let t : (a == b) ≡ true = eq-eqb a b e in cc

pub fresh_number : (rows : List Row) (n : ℕ) → is_fresh rows n ≡ true → IsUnused rows n
fresh_number rows n e =
    let a = and_parts (nat_le 2 n) (not (n == 999999) && not (list_any (uses_number n) rows)) e in
    let b = and_parts (not (n == 999999)) (not (list_any (uses_number n) rows)) a.1 in
    let unused : list_any (uses_number n) rows ≡ false = not_true _ b.1 in
    record {
      least = leb-true 2 n a.0;
      somebody = differs n 999999 (not_true _ b.0);
      no_pid = λ c h. differs c.pid.0 n ((parts rows n unused c h).0);
      no_group = λ c h. differs c.group.0 n ((parts rows n unused c h).1);
      no_session = λ c h. differs c.session.0 n ((parts rows n unused c h).2);
    }
  where
    parts : (rows : List Row) (n : ℕ) → list_any (uses_number n) rows ≡ false → (c : Row) → row_of rows c.pid ≡ Some c → ((c.pid.0 == n) ≡ false) × ((c.group.0 == n) ≡ false) × ((c.session.0 == n) ≡ false)
    parts rows n unused c h =
        let no = any_no number (uses_number n) c.pid.0 rows c unused h in
        let a = or_parts (c.pid.0 == n) ((c.group.0 == n) || (c.session.0 == n)) no in
        let b = or_parts (c.group.0 == n) (c.session.0 == n) a.1 in
        (a.0, b.0, b.1)

-- no row has the number
no_row : (rows : List Row) (n : ℕ) → IsUnused rows n → row_of rows (pid n) ≡ None
no_row rows n fresh = go (row_of rows (pid n)) refl
  where
    go : (o : Option Row) → row_of rows (pid n) ≡ o → o ≡ None
    go None e = refl
    go (Some c) e = absurd (fresh.no_pid c (row_here rows (pid n) c e) (ap (λ p. p.0) (row_pid rows (pid n) c e)))

alive_append : (o later : Option Row) → IsAlive o → IsAlive (option_or o later)
alive_append None later a = absurd a
alive_append (Some c) later a = a

module _ (rows : List Row) (r : Row) (n : ℕ) (sound : IsSound rows) (there : row_of rows r.pid ≡ Some r) (lives : is_living r.life ≡ true) (room : child_count rows r.pid < 64) (fresh : IsUnused rows n) where
  abbrev now : List Row
  now = rows ++ newborn r n ∷ []

  abbrev caller_sound : IsSoundRow rows r
  caller_sound = sound.each r.pid r there

  alive_now : (p : Pid) → IsAlive (row_of rows p) → IsAlive (row_of now p)
  alive_now p a = subst IsAlive (sym (at-append number p.0 rows (newborn r n ∷ []))) (alive_append (row_of rows p) (row_of (newborn r n ∷ []) p) a)

  came : (q : Pid) (c : Row) → row_of now q ≡ Some c → (row_of rows q ≡ Some c) ⊎ (c ≡ newborn r n)
  came q c e = elim (comes-append number q.0 rows c (newborn r n) e) [ inl h ↦ inl h | inr s ↦ inr s.0 ]

  old_row : (c : Row) → row_of rows c.pid ≡ Some c → IsSoundRow now c
  old_row c here =
      let k = sound.each c.pid c here in
      record {
        not_system = k.not_system;
        not_nobody = k.not_nobody;
        parent_lives = elim k.parent_lives [ inl one ↦ inl one | inr a ↦ inr (alive_now c.parent a) ];
        not_own_parent = k.not_own_parent;
        group_session = λ q d e g. elim (came q d e) [
          | inl h ↦ k.group_session q d h g
          | inr new ↦ ap (λ x. x.session) new ∙ k.group_session r.pid r there (ap (λ x. x.group.0) (sym new) ∙ g)
        ];
        led_session = λ q d e g. elim (came q d e) [
          | inl h ↦ k.led_session q d h g
          | inr new ↦ ap (λ x. x.session) new ∙ k.led_session r.pid r there (ap (λ x. x.group.0) (sym new) ∙ g)
        ];
        stopped_alike = k.stopped_alike;
        signals_kept = k.signals_kept;
        ended_unchanged = k.ended_unchanged;
      }

  new_row : IsSoundRow now (newborn r n)
  new_row = record {
    not_system = λ e. let least = fresh.least in absurd (omega arith);
    not_nobody = fresh.somebody;
    parent_lives = inr (alive_now r.pid (subst IsAlive (sym there) lives));
    not_own_parent = fresh.no_pid r there;
    group_session = λ q d e g. elim (came q d e) [
      | inl h ↦ caller_sound.group_session q d h g
      | inr new ↦ ap (λ x. x.session) new
    ];
    led_session = λ q d e g. elim (came q d e) [
      | inl h ↦ absurd (fresh.no_group d (row_here rows q d h) g)
      | inr new ↦ absurd (fresh.no_group r there (ap (λ x. x.group.0) (sym new) ∙ g))
    ];
    stopped_alike = λ a. refl;
    signals_kept = kept-child r.sig caller_sound.signals_kept;
    ended_unchanged = λ e. refl;
  }

  few : (p : Pid) (b : Bool) → is_parent p (newborn r n) ≡ b → p.0 ≢ 1 → child_count now p ≤ 64
  few p true e ne =
      let same : r.pid.0 ≡ p.0 = eqb-true _ _ e in
      let count = count-append (is_parent p) rows (newborn r n) in
      let one : one_if (is_parent p (newborn r n)) ≡ 1 = ap one_if e in
      let many : child_count rows p ≡ child_count rows r.pid = ap (λ m. length (filter (λ c. c.parent.0 == m) rows)) (sym same) in
      omega (arith, count, one, many, room)
  few p false e ne =
      let count = count-append (is_parent p) rows (newborn r n) in
      let none : one_if (is_parent p (newborn r n)) ≡ 0 = ap one_if e in
      let old = sound.few_children p ne in
      omega (arith, count, none, old)

  pub fork_sound : IsSound now
  fork_sound = record {
    distinct = distinct_to now (distinct-append number rows (newborn r n) (no_row rows n fresh) (distinct_from rows sound.distinct));
    each = λ q c e. elim (came q c e) [ inl h ↦ old_row c (row_here rows q c h) | inr new ↦ subst (IsSoundRow now) (sym new) new_row ];
    few_children = λ p ne. few p (is_parent p (newborn r n)) refl ne;
  }
