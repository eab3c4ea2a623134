-- a step that leaves groups and sessions as they are, and gives no process to a new parent but to the system process, keeps a table sound
use Rattle.std.proofs.Common.{◌≡◌, ◌≢◌, ◌==◌, ◌&&◌, ◌≤◌, ◌⊎◌, inl, inr, Bool, true, false, List, length, refl, sym, ap, ◌∙◌, subst, arith, Option, None, Some}
use Rattle.std.specs.Prelude.{map, filter}
use Rattle.std.specs.Option.{option_map}
use Rattle.std.proofs.lemmas.Bool.{eqb-true, and_parts}
use Rattle.unix_names.specs.declared.Pid.{Pid}
use Rattle.unix_names.specs.States.{is_living}
use Rattle.signal_state.specs.Signals.{IsKept}
use Rattle.process_table.specs.declared.Row.{Row}
use Rattle.process_table.specs.Rows.{is_parent, is_stopped, row_of, child_count}
use Rattle.kernel_model.specs.Sound.{IsAlive, IsSoundRow, IsSound}
use Rattle.list_laws.specs.Keyed.{option_filter}
use Rattle.list_laws.proofs.Filters.{filter-filter, filter-all, length-filter-map}
use Rattle.list_laws.proofs.Finding.{distinct-map, distinct-filter}
use Rattle.list_laws.proofs.Counts.{count_at_most}
use Rattle.kernel_laws.proofs.Rows.{number, distinct_from, distinct_to, row_here, row_moved, comes}

-- the parent stays, and where it lives it stays and lives on
pub record KeepsParent (rows : List Row) (keep : Row → Bool) (f : Row → Row) (c : Row) : Type 0 where
  pub same : (f c).parent ≡ c.parent
  pub stays : (d : Row) → row_of rows c.parent ≡ Some d → is_living d.life ≡ true → keep d ≡ true
  pub lives : (d : Row) → row_of rows c.parent ≡ Some d → is_living d.life ≡ true → is_living (f d).life ≡ true

-- what a row is to keep of itself
pub record IsRowKept (c : Row) : Type 0 where
  pub stopped_alike : is_living c.life ≡ true → is_stopped c.life ≡ c.sig.stopped
  pub signals_kept : IsKept c.sig
  pub ended_unchanged : is_living c.life ≡ false → c.change ≡ None

pub record IsPlain (rows : List Row) (keep : Row → Bool) (f : Row → Row) : Type 0 where
  pub pid : (c : Row) → (f c).pid ≡ c.pid
  pub group : (c : Row) → (f c).group ≡ c.group
  pub session : (c : Row) → (f c).session ≡ c.session
  pub parent : (c : Row) → row_of rows c.pid ≡ Some c → ((f c).parent.0 ≡ 1) ⊎ KeepsParent rows keep f c
  pub row : (c : Row) → IsRowKept c → IsRowKept (f c)

alive_moved : (rows : List Row) (keep : Row → Bool) (f : Row → Row) (p : Pid) (o : Option Row) →
    ((d : Row) → o ≡ Some d → is_living d.life ≡ true → keep d ≡ true) → ((d : Row) → o ≡ Some d → is_living d.life ≡ true → is_living (f d).life ≡ true) →
    IsAlive o → IsAlive (option_map f (option_filter keep o))
alive_moved rows keep f p None stays lives a = absurd a
alive_moved rows keep f p (Some d) stays lives a = rw (stays d refl a) (lives d refl a)

module _ (rows : List Row) (keep : Row → Bool) (f : Row → Row) (sound : IsSound rows) (plain : IsPlain rows keep f) where
  abbrev now : List Row
  now = map f (filter keep rows)

  parent_now : (c : Row) → row_of rows c.pid ≡ Some c → ((f c).parent.0 ≡ 1) ⊎ IsAlive (row_of now (f c).parent)
  parent_now c here = elim (plain.parent c here) [
    | inl one ↦ inl one
    | inr k ↦ elim ((sound.each c.pid c here).parent_lives) [
      | inl one ↦ inl (ap (λ p. p.0) k.same ∙ one)
      | inr alive ↦ inr (subst (λ p. IsAlive (row_of now p)) (sym k.same)
          (subst IsAlive (sym (row_moved rows keep f plain.pid sound.distinct c.parent)) (alive_moved rows keep f c.parent (row_of rows c.parent) k.stays k.lives alive)))
    ]
  ]

  not_own_now : (c : Row) → row_of rows c.pid ≡ Some c → (f c).parent.0 ≢ (f c).pid.0
  not_own_now c here = λ e. elim (plain.parent c here) [
    | inl one ↦ (sound.each c.pid c here).not_system (ap (λ p. p.0) (sym (plain.pid c)) ∙ sym e ∙ one)
    | inr k ↦ (sound.each c.pid c here).not_own_parent (ap (λ p. p.0) (sym k.same) ∙ e ∙ ap (λ p. p.0) (plain.pid c))
  ]

  row_now : (c : Row) → row_of rows c.pid ≡ Some c → IsSoundRow now (f c)
  row_now c here =
      let k = sound.each c.pid c here in
      let kept = plain.row c (record { stopped_alike = k.stopped_alike; signals_kept = k.signals_kept; ended_unchanged = k.ended_unchanged }) in
      record {
        not_system = λ e. k.not_system (ap (λ p. p.0) (sym (plain.pid c)) ∙ e);
        not_nobody = λ e. k.not_nobody (ap (λ p. p.0) (sym (plain.pid c)) ∙ e);
        parent_lives = parent_now c here;
        not_own_parent = not_own_now c here;
        group_session = λ q d' e g.
            let d = comes rows keep f plain.pid sound.distinct q d' e in
            ap (λ x. x.session) d.is ∙ plain.session d.from ∙ k.group_session q d.from d.there (ap (λ p. p.0) (sym (plain.group d.from)) ∙ ap (λ x. x.group.0) (sym d.is) ∙ g ∙ ap (λ p. p.0) (plain.group c)) ∙ sym (plain.session c);
        led_session = λ q d' e g.
            let d = comes rows keep f plain.pid sound.distinct q d' e in
            ap (λ x. x.session) d.is ∙ plain.session d.from ∙ k.led_session q d.from d.there (ap (λ p. p.0) (sym (plain.group d.from)) ∙ ap (λ x. x.group.0) (sym d.is) ∙ g ∙ ap (λ p. p.0) (plain.pid c)) ∙ sym (plain.session c);
        stopped_alike = kept.stopped_alike;
        signals_kept = kept.signals_kept;
        ended_unchanged = kept.ended_unchanged;
      }

  was_parent : (p : Pid) → p.0 ≢ 1 → (c : Row) → row_of rows c.pid ≡ Some c → (keep c && is_parent p (f c)) ≡ true → is_parent p c ≡ true
  was_parent p n c here e =
      let is : is_parent p (f c) ≡ true = (and_parts (keep c) (is_parent p (f c)) e).1 in
      elim (plain.parent c here) [
        | inl one ↦ (let m : (f c).parent.0 ≡ p.0 = eqb-true _ _ is in absurd (n (sym m ∙ one)))
        | inr k ↦ ap (λ q. q.0 == p.0) (sym k.same) ∙ is
      ]

  few_now : (p : Pid) → p.0 ≢ 1 → child_count now p ≤ 64
  few_now p n =
      let count : child_count now p ≡ length (filter (λ c. keep c && is_parent p (f c)) rows) =
      length-filter-map (is_parent p) f (filter keep rows) ∙ ap length (filter-filter (λ c. is_parent p (f c)) keep rows) in
      let most = count_at_most number (λ c. keep c && is_parent p (f c)) (is_parent p) rows (distinct_from rows sound.distinct) (was_parent p n) in
      let few = sound.few_children p n in
      omega (arith, count, most, few)

  pub plain_sound : IsSound now
  plain_sound = record {
    distinct = distinct_to now (distinct-map number number f (λ c. ap (λ p. p.0) (plain.pid c)) (filter keep rows) (distinct-filter number keep rows (distinct_from rows sound.distinct)));
    each = λ q c' e. let c = comes rows keep f plain.pid sound.distinct q c' e in subst (IsSoundRow now) (sym c.is) (row_now c.from (row_here rows q c.from c.there));
    few_children = few_now;
  }

-- every row stays
abbrev pub all_stay : Row → Bool
all_stay c = true

pub map_sound : (rows : List Row) (f : Row → Row) → IsSound rows → IsPlain rows all_stay f → IsSound (map f rows)
map_sound rows f sound plain = subst (λ t. IsSound (map f t)) (filter-all rows) (plain_sound rows all_stay f sound plain)

-- a change of rows that keeps names and parents, and lets the living live
pub record IsLocal (f : Row → Row) : Type 0 where
  pub pid : (c : Row) → (f c).pid ≡ c.pid
  pub parent : (c : Row) → (f c).parent ≡ c.parent
  pub group : (c : Row) → (f c).group ≡ c.group
  pub session : (c : Row) → (f c).session ≡ c.session
  pub lives : (c : Row) → is_living c.life ≡ true → is_living (f c).life ≡ true
  pub row : (c : Row) → IsRowKept c → IsRowKept (f c)

pub local_sound : (rows : List Row) (f : Row → Row) → IsSound rows → IsLocal f → IsSound (map f rows)
local_sound rows f sound local = map_sound rows f sound (record {
  pid = local.pid;
  group = local.group;
  session = local.session;
  parent = λ c here. inr (record { same = local.parent c; stays = λ d e a. refl; lives = λ d e a. local.lives d a });
  row = local.row;
})
