-- sessions are led
use Rattle.std.proofs.Common.{◌≡◌, ◌==◌, ◌⊎◌, inl, inr, ◌++◌, ℕ, Bool, true, false, cond, List, [], ◌∷◌, refl, sym, ap, ◌∙◌, subst, Some}
use Rattle.std.specs.Prelude.{map, filter}
use Rattle.std.specs.List.{list_any}
use Rattle.std.proofs.lemmas.Bool.{eqb-true, eq-eqb, or_parts}
use Rattle.unix_names.specs.declared.Pid.{Pid}
use Rattle.unix_calls.specs.declared.Entry.{Entry}
use Rattle.process_table.specs.declared.Row.{Row}
use Rattle.kernel_model.specs.declared.verdict.Verdict.TheVariants.{Legal}
use Rattle.process_table.specs.Rows.{is_pid, in_group, is_session_leader, row_of, AreDistinct}
use Rattle.kernel_rules.specs.Setpgid.{is_fixed_in_group}
use Rattle.kernel_model.specs.Step.{process_of, verdict, after}
use Rattle.kernel_rules.specs.Fork.{newborn}
use Rattle.process_table.specs.Changes.{regrouped_at, leading_at}
use Rattle.kernel_model.specs.Legal.{boot, after_entries, IsLegalFrom}
use Rattle.kernel_model.specs.Sound.{IsSound}
use Rattle.list_laws.proofs.Filters.{some_same}
use Rattle.list_laws.proofs.Finding.{comes-append, comes-map}
use Rattle.list_laws.proofs.Elements.{any_no}
use Rattle.kernel_laws.specs.Effects.{IsUnused}
use Rattle.kernel_laws.specs.Groups.{HaveLeaders, SessionsAreLed}
use Rattle.kernel_laws.proofs.Rows.{number, pid_same, row_pid, row_here, one_row, comes}
use Rattle.kernel_laws.proofs.Legal.{actor, after_is}
use Rattle.kernel_laws.proofs.Steps.{Regroups, step_keeps}
use Rattle.kernel_laws.proofs.Forms.{IsQuiet, Form, quiet, forked, regrouped, leading, step_form}
use Rattle.kernel_laws.proofs.Boot.{IsFirst, boot_first, boot_sound}

-- where pids, groups and sessions stay
quiet_leads : (rows : List Row) (keep : Row → Bool) (f : Row → Row) → AreDistinct rows → IsQuiet rows f → HaveLeaders rows → HaveLeaders (map f (filter keep rows))
quiet_leads rows keep f distinct q leads c' l' hc hl =
    let c = comes rows keep f q.pid distinct c'.pid c' hc in
    let l = comes rows keep f q.pid distinct c'.session l' hl in
    let same : c'.session ≡ c.from.session = ap (λ x. x.session) c.is ∙ q.session c.from in
    let was = leads c.from l.from (row_here rows c'.pid c.from c.there) (ap (row_of rows) (sym same) ∙ l.there) in (
      ap (λ x. x.session) l.is ∙ q.session l.from ∙ was.0 ∙ sym same,
      ap (λ x. x.group) l.is ∙ q.group l.from ∙ was.1 ∙ sym (q.pid l.from) ∙ ap (λ x. x.pid) (sym l.is),
    )

-- after a fork
forked_leads : (rows : List Row) (r : Row) (n : ℕ) → row_of rows r.pid ≡ Some r → IsUnused rows n → HaveLeaders rows → HaveLeaders (rows ++ newborn r n ∷ [])
forked_leads rows r n there unused leads c l hc hl = go (comes-append number c.pid.0 rows c (newborn r n) hc) (comes-append number c.session.0 rows l (newborn r n) hl)
  where
    go : (row_of rows c.pid ≡ Some c) ⊎ ((c ≡ newborn r n) × (n ≡ c.pid.0)) → (row_of rows c.session ≡ Some l) ⊎ ((l ≡ newborn r n) × (n ≡ c.session.0)) → (l.session ≡ c.session) × (l.group ≡ l.pid)
    go (inl h) (inl k) = leads c l h k
    go (inl h) (inr k) = absurd (unused.no_session c h (sym k.1))
    go (inr h) (inl k) =
        let was = leads r l there (ap (λ x. row_of rows x.session) (sym h.0) ∙ k) in
        (was.0 ∙ ap (λ x. x.session) (sym h.0), was.1)
    go (inr h) (inr k) = absurd (unused.no_session r there (ap (λ x. x.session.0) (sym h.0) ∙ sym k.1))

-- after a setpgid: a session's leader is not its target
no_leader : (rows : List Row) (r c : Row) (g : Pid) → is_fixed_in_group rows r c g ≡ false → is_session_leader c ≡ false
no_leader rows r c g e = (or_parts (is_session_leader c) _ e).0

regrouped_leads : (rows : List Row) (r : Row) (p g : Pid) → Regroups rows r p g → HaveLeaders rows → HaveLeaders (map (regrouped_at p g) rows)
regrouped_leads rows r p g t leads c' l' hc hl =
    let c = comes-map number number (regrouped_at p g) (λ x. refl) c'.pid.0 rows c' hc in
    let l = comes-map number number (regrouped_at p g) (λ x. refl) c'.session.0 rows l' hl in
    let same : c'.session ≡ c.0.session = ap (λ x. x.session) c.2 in
    let there : row_of rows c.0.session ≡ Some l.0 = ap (row_of rows) (sym same) ∙ l.1 in
    let was = leads c.0 l.0 (row_here rows c'.pid c.0 c.1) there in (
      ap (λ x. x.session) l.2 ∙ was.0 ∙ sym same,
      ap (λ x. x.group) l.2 ∙ stays (is_pid p l.0) c.0 l.0 refl was.0 was.1 there ∙ ap (λ x. x.pid) (sym l.2),
    )
  where
    stays : (b : Bool) (c l : Row) → is_pid p l ≡ b → l.session ≡ c.session → l.group ≡ l.pid → row_of rows c.session ≡ Some l → cond b g l.group ≡ l.pid
    stays false c l e s h there = h
    stays true c l e s h there =
        let is : l ≡ t.target = one_row rows t.target.pid l t.target t.there (row_here rows c.session l there) (ap (λ q. l.pid.0 == q.0) t.is ∙ e) in
        let leader : is_session_leader l ≡ true = eq-eqb _ _ (ap (λ q. q.0) (s ∙ sym (row_pid rows c.session l there))) in
        let no : is_session_leader l ≡ false = ap is_session_leader is ∙ no_leader rows r t.target g t.fits in
        cc

-- after a setsid
leading_leads : (rows : List Row) (r : Row) → row_of rows r.pid ≡ Some r → list_any (in_group r.pid) rows ≡ false → HaveLeaders rows → HaveLeaders (map (leading_at r.pid) rows)
leading_leads rows r there free leads c' l' hc hl =
    let c = comes-map number number (leading_at r.pid) (λ x. refl) c'.pid.0 rows c' hc in
    let l = comes-map number number (leading_at r.pid) (λ x. refl) c'.session.0 rows l' hl in
    let is = go (is_pid r.pid c.0) (is_pid r.pid l.0) c.0 l.0 refl refl (row_here rows c'.pid c.0 c.1) (ap (λ x. row_of rows x.session) (sym c.2) ∙ l.1) in
    (ap (λ x. x.session) l.2 ∙ is.0 ∙ ap (λ x. x.session) (sym c.2), ap (λ x. x.group) l.2 ∙ is.1 ∙ ap (λ x. x.pid) (sym l.2))
  where
    go : (b a : Bool) (c l : Row) → is_pid r.pid c ≡ b → is_pid r.pid l ≡ a → row_of rows c.pid ≡ Some c → row_of rows (cond b r.pid c.session) ≡ Some l →
        (cond a r.pid l.session ≡ cond b r.pid c.session) × (cond a r.pid l.group ≡ l.pid)
    go true true c l eb ea hc hl = let n : l.pid.0 ≡ r.pid.0 = eqb-true _ _ ea in (refl, sym (pid_same l.pid r.pid n))
    go true false c l eb ea hc hl = let y : is_pid r.pid l ≡ true = eq-eqb _ _ (ap (λ q. q.0) (row_pid rows r.pid l hl)) in cc
    go false true c l eb ea hc hl =
        let n : l.pid.0 ≡ r.pid.0 = eqb-true _ _ ea in
        let was = leads c l hc hl in
        let no : in_group r.pid l ≡ false = any_no number (in_group r.pid) c.session.0 rows l free hl in
        let y : in_group r.pid l ≡ true = eq-eqb _ _ (ap (λ q. q.0) was.1 ∙ n) in
        cc
    go false false c l eb ea hc hl = leads c l hc hl

form_leads : (rows : List Row) (r : Row) (entry : Entry) (now : List Row) → AreDistinct rows → row_of rows r.pid ≡ Some r → HaveLeaders rows → Form rows r entry now → HaveLeaders now
form_leads rows r entry now distinct there leads (quiet keep f q stays e) = subst HaveLeaders (sym e) (quiet_leads rows keep f distinct q leads)
form_leads rows r entry now distinct there leads (forked n is unused e) = subst HaveLeaders (sym e) (forked_leads rows r n there unused leads)
form_leads rows r entry now distinct there leads (regrouped p g is t e) = subst HaveLeaders (sym e) (regrouped_leads rows r p g t leads)
form_leads rows r entry now distinct there leads (leading free e) = subst HaveLeaders (sym e) (leading_leads rows r there free leads)

pub step_leads : (rows : List Row) (entry : Entry) → IsSound rows → HaveLeaders rows → verdict rows entry ≡ Legal → HaveLeaders (after rows entry)
step_leads rows entry sound leads e =
    let a = actor rows entry e in
    let here = row_here rows (process_of entry) a.row a.there in
    subst HaveLeaders (sym (after_is rows entry a.row a.there)) (form_leads rows a.row entry _ sound.distinct here leads (step_form rows a.row entry here a.lives a.legal))

-- at first
first_leads : (rows : List Row) → IsFirst rows → HaveLeaders rows
first_leads rows first c l hc hl =
    let k = first.each c hc in
    let is : k.leader ≡ l = some_same k.leader l (sym k.led ∙ ap (row_of rows) (sym k.session) ∙ hl) in
    let n : l.pid ≡ c.session = row_pid rows c.session l hl in
    let own : l.group ≡ l.pid = subst (λ x. x.group ≡ x.pid) is k.leads in
    ((first.each l (row_here rows c.session l hl)).session ∙ own ∙ n, own)

later_leads : (rows : List Row) (before later : List Entry) → IsSound rows → HaveLeaders rows → IsLegalFrom rows (before ++ later) → HaveLeaders (after_entries rows before)
later_leads rows [] later sound leads legal = leads
later_leads rows (entry ∷ before) later sound leads legal = later_leads (after rows entry) before later (step_keeps rows entry sound legal.0) (step_leads rows entry sound leads legal.0) legal.1

pub sessions_led : SessionsAreLed
sessions_led world before later valid legal = later_leads (boot world) before later (boot_sound world valid) (first_leads (boot world) (boot_first world valid)) legal
