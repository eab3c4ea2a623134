-- a process goes to another group, or leads a new session
use Rattle.std.proofs.Common.{◌≡◌, ◌≢◌, ◌==◌, ◌&&◌, ◌≤◌, ◌⊎◌, inl, inr, Bool, true, false, cond, List, refl, sym, ap, ◌∙◌, subst, arith, Option, None, Some}
use Rattle.std.specs.Prelude.{map}
use Rattle.std.specs.List.{list_any}
use Rattle.std.specs.Option.{option_map}
use Rattle.std.proofs.lemmas.Bool.{eqb-true, eq-eqb, and_parts}
use Rattle.unix_names.specs.declared.Pid.{Pid}
use Rattle.unix_names.specs.States.{is_living}
use Rattle.signal_state.specs.Signals.{IsKept}
use Rattle.process_table.specs.declared.Row.{Row}
use Rattle.process_table.specs.Rows.{is_same, is_pid, is_parent, in_group, in_session, is_stopped, row_of, child_count}
use Rattle.process_table.specs.Changes.{regrouped_at, leading_at}
use Rattle.kernel_model.specs.Sound.{IsAlive, IsSoundRow, IsSound}
use Rattle.list_laws.proofs.Filters.{length-filter-map}
use Rattle.list_laws.proofs.Finding.{at-map, distinct-map, comes-map}
use Rattle.list_laws.proofs.Elements.{any_found, any_no}
use Rattle.list_laws.proofs.Counts.{count_at_most}
use Rattle.kernel_laws.proofs.Rows.{number, distinct_from, distinct_to, pid_same, row_here, one_row}

-- ---- maps that change groups and sessions alone
pub record IsRegrouping (f : Row → Row) : Type 0 where
  pub pid : (c : Row) → (f c).pid ≡ c.pid
  pub parent : (c : Row) → (f c).parent ≡ c.parent
  pub life : (c : Row) → (f c).life ≡ c.life
  pub change : (c : Row) → (f c).change ≡ c.change
  pub sig : (c : Row) → (f c).sig ≡ c.sig

alive_map : (f : Row → Row) → ((c : Row) → (f c).life ≡ c.life) → (o : Option Row) → IsAlive o → IsAlive (option_map f o)
alive_map f same None a = a
alive_map f same (Some c) a = ap is_living (same c) ∙ a

module _ (rows : List Row) (f : Row → Row) (sound : IsSound rows) (keeps : IsRegrouping f)
    (groups : (c d : Row) → row_of rows c.pid ≡ Some c → row_of rows d.pid ≡ Some d → (f d).group.0 ≡ (f c).group.0 → (f d).session ≡ (f c).session)
    (leads : (c d : Row) → row_of rows c.pid ≡ Some c → row_of rows d.pid ≡ Some d → (f d).group.0 ≡ c.pid.0 → (f d).session ≡ (f c).session) where
  came : (q : Pid) (c' : Row) → row_of (map f rows) q ≡ Some c' → (c : Row) × (row_of rows q ≡ Some c) × (c' ≡ f c)
  came q c' e = comes-map number number f (λ c. ap (λ p. p.0) (keeps.pid c)) q.0 rows c' e

  row_regrouped : (c : Row) → row_of rows c.pid ≡ Some c → IsSoundRow (map f rows) (f c)
  row_regrouped c here =
      let k = sound.each c.pid c here in
      record {
        not_system = λ e. k.not_system (ap (λ p. p.0) (sym (keeps.pid c)) ∙ e);
        not_nobody = λ e. k.not_nobody (ap (λ p. p.0) (sym (keeps.pid c)) ∙ e);
        parent_lives = elim k.parent_lives [
          | inl one ↦ inl (ap (λ p. p.0) (keeps.parent c) ∙ one)
          | inr alive ↦ inr (subst (λ p. IsAlive (row_of (map f rows) p)) (sym (keeps.parent c))
              (subst IsAlive (sym (at-map number number f (λ d. ap (λ p. p.0) (keeps.pid d)) c.parent.0 rows)) (alive_map f keeps.life (row_of rows c.parent) alive)))
        ];
        not_own_parent = λ e. k.not_own_parent (ap (λ p. p.0) (sym (keeps.parent c)) ∙ e ∙ ap (λ p. p.0) (keeps.pid c));
        group_session = λ q d' e g. let d = came q d' e in ap (λ x. x.session) d.2 ∙ groups c d.0 here (row_here rows q d.0 d.1) (ap (λ x. x.group.0) (sym d.2) ∙ g);
        led_session = λ q d' e g. let d = came q d' e in ap (λ x. x.session) d.2 ∙ leads c d.0 here (row_here rows q d.0 d.1) (ap (λ x. x.group.0) (sym d.2) ∙ g ∙ ap (λ p. p.0) (keeps.pid c));
        stopped_alike = λ a. ap is_stopped (keeps.life c) ∙ k.stopped_alike (ap is_living (sym (keeps.life c)) ∙ a) ∙ ap (λ x. x.stopped) (sym (keeps.sig c));
        signals_kept = subst IsKept (sym (keeps.sig c)) k.signals_kept;
        ended_unchanged = λ e. keeps.change c ∙ k.ended_unchanged (ap is_living (sym (keeps.life c)) ∙ e);
      }

  few_regrouped : (p : Pid) → p.0 ≢ 1 → child_count (map f rows) p ≤ 64
  few_regrouped p n =
      let same = length-filter-map (is_parent p) f rows in
      let most = count_at_most number (λ c. is_parent p (f c)) (is_parent p) rows (distinct_from rows sound.distinct) (λ c here e. ap (λ q. q.0 == p.0) (sym (keeps.parent c)) ∙ e) in
      let few = sound.few_children p n in
      omega (arith, same, most, few)

  pub regrouping_sound : IsSound (map f rows)
  regrouping_sound = record {
    distinct = distinct_to (map f rows) (distinct-map number number f (λ c. ap (λ p. p.0) (keeps.pid c)) rows (distinct_from rows sound.distinct));
    each = λ q c' e. let c = came q c' e in subst (IsSoundRow (map f rows)) (sym c.2) (row_regrouped c.0 (row_here rows q c.0 c.1));
    few_children = few_regrouped;
  }

-- ---- a new session
leading_keeps : (p : Pid) → IsRegrouping (leading_at p)
leading_keeps p = record { pid = λ c. refl; parent = λ c. refl; life = λ c. refl; change = λ c. refl; sig = λ c. refl }

-- where no row has the group p, its process may lead it, and a session
pub leading_sound : (p : Pid) (rows : List Row) → list_any (in_group p) rows ≡ false → IsSound rows → IsSound (map (leading_at p) rows)
leading_sound p rows free sound = regrouping_sound rows (leading_at p) sound (leading_keeps p)
    (λ c d hc hd e. together (is_pid p c) (is_pid p d) c d hc hd e)
    (λ c d hc hd e. led (is_pid p c) (is_pid p d) c d refl hc hd e)
  where
    no_member : (c : Row) → row_of rows c.pid ≡ Some c → c.group.0 ≡ p.0 → ⊥
    no_member c h e = let n : in_group p c ≡ false = any_no number (in_group p) c.pid.0 rows c free h in
        let y : in_group p c ≡ true = eq-eqb _ _ e in cc

    together : (b a : Bool) (c d : Row) → row_of rows c.pid ≡ Some c → row_of rows d.pid ≡ Some d → (cond a p d.group).0 ≡ (cond b p c.group).0 → cond a p d.session ≡ cond b p c.session
    together true true c d hc hd e = refl
    together true false c d hc hd e = absurd (no_member d hd e)
    together false true c d hc hd e = absurd (no_member c hc (sym e))
    together false false c d hc hd e = (sound.each c.pid c hc).group_session d.pid d hd e

    led : (b a : Bool) (c d : Row) → is_pid p c ≡ b → row_of rows c.pid ≡ Some c → row_of rows d.pid ≡ Some d → (cond a p d.group).0 ≡ c.pid.0 → cond a p d.session ≡ cond b p c.session
    led true true c d s hc hd e = refl
    led false true c d s hc hd e = let y : is_pid p c ≡ true = eq-eqb _ _ (sym e) in cc
    led true false c d s hc hd e = let n : c.pid.0 ≡ p.0 = eqb-true _ _ s in absurd (no_member d hd (e ∙ n))
    led false false c d s hc hd e = (sound.each c.pid c hc).led_session d.pid d hd e

-- ---- another group
regrouping_keeps : (p g : Pid) → IsRegrouping (regrouped_at p g)
regrouping_keeps p g = record { pid = λ c. refl; parent = λ c. refl; life = λ c. refl; change = λ c. refl; sig = λ c. refl }

-- a process may go to a group of its own session, or to the one of its own pid
pub regrouped_sound : (rows : List Row) (t : Row) (g : Pid) → row_of rows t.pid ≡ Some t →
    (is_same g t.pid ≡ true) ⊎ (list_any (λ c. in_group g c && in_session t.session c) rows ≡ true) →
    IsSound rows → IsSound (map (regrouped_at t.pid g) rows)
regrouped_sound rows t g there fits sound = regrouping_sound rows (regrouped_at t.pid g) sound (regrouping_keeps t.pid g)
    (λ c d hc hd e. together (is_pid t.pid c) (is_pid t.pid d) c d refl refl hc hd e)
    (λ c d hc hd e. led (is_pid t.pid d) c d refl hc hd e)
  where
    is_target : (c : Row) → row_of rows c.pid ≡ Some c → is_pid t.pid c ≡ true → c ≡ t
    is_target c h e = one_row rows t.pid c t there h e

    -- the members of the group that it goes to have its session
    joins : (c : Row) → row_of rows c.pid ≡ Some c → c.group.0 ≡ g.0 → c.session ≡ t.session
    joins c h e = elim fits [
      | inl own ↦ (let n : g.0 ≡ t.pid.0 = eqb-true _ _ own in (sound.each t.pid t there).led_session c.pid c h (e ∙ n))
      | inr some ↦
          (let m = any_found number (λ x. in_group g x && in_session t.session x) rows (distinct_from rows sound.distinct) some in
          let parts = and_parts (in_group g m.0) (in_session t.session m.0) m.2 in
          let n : m.0.group.0 ≡ g.0 = eqb-true _ _ parts.0 in
          let s : m.0.session.0 ≡ t.session.0 = eqb-true _ _ parts.1 in
          (sound.each m.0.pid m.0 m.1).group_session c.pid c h (e ∙ sym n) ∙ pid_same m.0.session t.session s)
    ]

    -- a row whose pid names the group that it goes to has its session
    leads : (c : Row) → row_of rows c.pid ≡ Some c → g.0 ≡ c.pid.0 → t.session ≡ c.session
    leads c h e = elim fits [
      | inl own ↦ (let n : g.0 ≡ t.pid.0 = eqb-true _ _ own in ap (λ x. x.session) (sym (is_target c h (eq-eqb _ _ (sym e ∙ n)))))
      | inr some ↦
          (let m = any_found number (λ x. in_group g x && in_session t.session x) rows (distinct_from rows sound.distinct) some in
          let parts = and_parts (in_group g m.0) (in_session t.session m.0) m.2 in
          let n : m.0.group.0 ≡ g.0 = eqb-true _ _ parts.0 in
          let s : m.0.session.0 ≡ t.session.0 = eqb-true _ _ parts.1 in
          sym (pid_same m.0.session t.session s) ∙ (sound.each c.pid c h).led_session m.0.pid m.0 m.1 (n ∙ e))
    ]

    together : (b a : Bool) (c d : Row) → is_pid t.pid c ≡ b → is_pid t.pid d ≡ a → row_of rows c.pid ≡ Some c → row_of rows d.pid ≡ Some d → (cond a g d.group).0 ≡ (cond b g c.group).0 → d.session ≡ c.session
    together true true c d sc sd hc hd e = ap (λ x. x.session) (is_target d hd sd) ∙ ap (λ x. x.session) (sym (is_target c hc sc))
    together true false c d sc sd hc hd e = joins d hd e ∙ ap (λ x. x.session) (sym (is_target c hc sc))
    together false true c d sc sd hc hd e = ap (λ x. x.session) (is_target d hd sd) ∙ sym (joins c hc (sym e))
    together false false c d sc sd hc hd e = (sound.each c.pid c hc).group_session d.pid d hd e

    led : (a : Bool) (c d : Row) → is_pid t.pid d ≡ a → row_of rows c.pid ≡ Some c → row_of rows d.pid ≡ Some d → (cond a g d.group).0 ≡ c.pid.0 → d.session ≡ c.session
    led true c d sd hc hd e = ap (λ x. x.session) (is_target d hd sd) ∙ leads c hc e
    led false c d sd hc hd e = (sound.each c.pid c hc).led_session d.pid d hd e
