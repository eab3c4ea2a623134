-- a legal step names nobody new but a child
use Rattle.std.proofs.Common.{◌≡◌, ◌&&◌, ◌⊎◌, inl, inr, ℕ, Bool, true, false, cond, List, refl, sym, ap, ◌∙◌, subst, Some}
use Rattle.std.specs.List.{list_any}
use Rattle.std.proofs.lemmas.Bool.{eqb-true, and_parts}
use Rattle.unix_names.specs.declared.Pid.{Pid}
use Rattle.unix_calls.specs.declared.Entry.{Entry}
use Rattle.list_laws.proofs.Elements.{any_found}
use Rattle.list_laws.proofs.Finding.{comes-append, comes-map}
use Rattle.process_table.specs.declared.Row.{Row}
use Rattle.process_table.specs.Rows.{is_pid, is_same, in_group, in_session, row_of, AreDistinct}
use Rattle.kernel_model.specs.Step.{verdict, after, process_of, row_after}
use Rattle.kernel_rules.specs.Fork.{newborn}
use Rattle.process_table.specs.Changes.{regrouped_at, leading_at}
use Rattle.kernel_laws.proofs.Rows.{number, distinct_from, row_here, comes}
use Rattle.kernel_laws.proofs.Legal.{actor, after_is}
use Rattle.kernel_laws.proofs.Steps.{Regroups, free_target}
use Rattle.kernel_laws.proofs.Forms.{ForksAs, Form, quiet, forked, regrouped, leading, step_form}
use Rattle.cluster_contents.specs.Numbers.{RowNames, RowsName}
use Rattle.kernel_model.specs.declared.Verdict.TheVariants.{Legal}
use Rattle.kernel_model.specs.Sound.{IsSound}

-- a legal step names nobody new but a child
abbrev pub NamesKept : Type 1
NamesKept = (Given : ℕ → Type 0) (rows : List Row) (e : Entry) → IsSound rows → verdict rows e ≡ Legal → Given 1 → ((n : ℕ) → ForksAs e n → Given n) → RowsName Given rows → RowsName Given (after rows e)

module _ (Given : ℕ → Type 0) where
  parent_named : (now before : Pid) → Given 1 → Given before.0 → (now.0 ≡ 1) ⊎ (now ≡ before) → Given now.0
  parent_named now before one given (inl e) = subst Given (sym e) one
  parent_named now before one given (inr e) = subst (λ (p : Pid). Given p.0) (sym e) given

  given_group : (rows : List Row) (r : Row) (p g : Pid) → AreDistinct rows → RowsName Given rows → Regroups rows r p g → Given g.0
  given_group rows r p g distinct given t = go (free_target rows r t.target g t.fits)
    where
      go : (is_same g t.target.pid ≡ true) ⊎ (list_any (λ d. in_group g d && in_session t.target.session d) rows ≡ true) → Given g.0
      go (inl same) = subst Given (sym (eqb-true _ _ same)) (given t.target.pid t.target t.there).0
      go (inr some) =
          let member = any_found number (λ d. in_group g d && in_session t.target.session d) rows (distinct_from rows distinct) some in
          let same : (member.0).group.0 ≡ g.0 = eqb-true _ _ ((and_parts (in_group g member.0) (in_session t.target.session member.0) member.2).0) in
          subst Given same (given (member.0).pid member.0 member.1).2

  chosen : (b : Bool) (p q : Pid) → Given p.0 → Given q.0 → Given (cond b p q).0
  chosen true p q hp hq = hp
  chosen false p q hp hq = hq

  form_named : (rows : List Row) (r : Row) (entry : Entry) (now : List Row) → AreDistinct rows → row_of rows r.pid ≡ Some r → Given 1 → ((n : ℕ) → ForksAs entry n → Given n) → RowsName Given rows → Form rows r entry now → RowsName Given now
  form_named rows r entry now distinct there one room given (quiet keep f k stays is) q c e =
      let m = comes rows keep f k.pid distinct q c (ap (λ t. row_of t q) (sym is) ∙ e) in
      let old = given q m.from m.there in
      subst (RowNames Given) (sym m.is) (
        subst (λ (p : Pid). Given p.0) (sym (k.pid m.from)) old.0,
        parent_named (f m.from).parent m.from.parent one old.1 (k.parent m.from),
        subst (λ (p : Pid). Given p.0) (sym (k.group m.from)) old.2,
        subst (λ (p : Pid). Given p.0) (sym (k.session m.from)) old.3,
      )
  form_named rows r entry now distinct there one room given (forked n forks unused is) q c e =
      elim (comes-append number q.0 rows c (newborn r n) (ap (λ t. row_of t q) (sym is) ∙ e)) [
        | inl h ↦ given q c h
        | inr s ↦ let mine = given r.pid r there in subst (RowNames Given) (sym s.0) (room n forks, mine.0, mine.2, mine.3)
      ]
  form_named rows r entry now distinct there one room given (regrouped p g to t is) q c e =
      let m = comes-map number number (regrouped_at p g) (λ x. refl) q.0 rows c (ap (λ t. row_of t q) (sym is) ∙ e) in
      let old = given q m.0 m.1 in
      subst (RowNames Given) (sym m.2) (old.0, old.1, chosen (is_pid p m.0) g (m.0).group (given_group rows r p g distinct given t) old.2, old.3)
  form_named rows r entry now distinct there one room given (leading free is) q c e =
      let m = comes-map number number (leading_at r.pid) (λ x. refl) q.0 rows c (ap (λ t. row_of t q) (sym is) ∙ e) in
      let old = given q m.0 m.1 in
      let mine = given r.pid r there in
      subst (RowNames Given) (sym m.2) (old.0, old.1, chosen (is_pid r.pid m.0) r.pid (m.0).group mine.0 old.2, chosen (is_pid r.pid m.0) r.pid (m.0).session mine.0 old.3)

pub names_kept : NamesKept
names_kept Given rows entry sound legal one forks given q c e =
    let a = actor rows entry legal in
    let here = row_here rows (process_of entry) a.row a.there in
    let form = step_form rows a.row entry here a.lives a.legal in
    form_named Given rows a.row entry (row_after rows a.row entry) sound.distinct here one forks given form q c (ap (λ t. row_of t q) (sym (after_is rows entry a.row a.there)) ∙ e)
