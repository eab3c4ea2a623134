-- what is pending for each process stays a set of signals
use Rattle.std.proofs.Common.{◌≡◌, ◌==◌, ◌∙◌, inl, inr, ℕ, Bool, true, false, cond, List, [], refl, sym, ap, subst, Option, None, Some}
use Rattle.std.proofs.lemmas.Bool.{eqb-true}
use Rattle.unix_names.specs.declared.Pid.{Pid}
use Rattle.unix_names.specs.Sets.{IsSignals}
use Rattle.unix_names.specs.States.{is_living}
use Rattle.unix_names.proofs.SetLaws.{IsSignals-none}
use Rattle.unix_calls.specs.declared.Entry.{Entry}
use Rattle.list_laws.proofs.Finding.{comes-append, comes-map}
use Rattle.process_table.specs.declared.Row.{Row}
use Rattle.process_table.specs.Rows.{row_of, AreDistinct}
use Rattle.process_table.specs.Changes.{regrouped_at, leading_at}
use Rattle.kernel_rules.specs.Fork.{newborn}
use Rattle.kernel_model.specs.declared.Verdict.TheVariants.{Legal}
use Rattle.kernel_model.specs.Sound.{IsSound}
use Rattle.kernel_model.specs.Step.{process_of, verdict, after, sent, row_after}
use Rattle.kernel_laws.specs.Effects.{own_signals}
use Rattle.kernel_laws.proofs.Rows.{number, row_pid, row_here, comes}
use Rattle.kernel_laws.proofs.Legal.{actor, after_is}
use Rattle.kernel_laws.proofs.Forms.{Form, quiet, forked, regrouped, leading, step_form}
use Rattle.kernel_laws.proofs.Others.{others_signalled}
use Rattle.kernel_laws.proofs.Own.{own_signalled}
use Rattle.history_laws.proofs.Pending.{pending-generated_all, pending-own}
use Rattle.cluster_contents.specs.Standing.{ArePending}

-- the row that a fork adds has nothing pending
form_born : (rows : List Row) (r : Row) (entry : Entry) (now : List Row) (q : Pid) (c : Row) → AreDistinct rows → row_of rows q ≡ None → row_of now q ≡ Some c → Form rows r entry now → c.sig.pending ≡ 0
form_born rows r entry now q c distinct n e (quiet keep f k stays is) =
    let m = comes rows keep f k.pid distinct q c (ap (λ t. row_of t q) (sym is) ∙ e) in absurd (cc (n, m.there))
form_born rows r entry now q c distinct n e (forked m forks unused is) =
    elim (comes-append number q.0 rows c (newborn r m) (ap (λ t. row_of t q) (sym is) ∙ e)) [ inl h ↦ absurd (cc (n, h)) | inr s ↦ ap (λ x. x.sig.pending) s.0 ]
form_born rows r entry now q c distinct n e (regrouped p g to t is) =
    let m = comes-map number number (regrouped_at p g) (λ x. refl) q.0 rows c (ap (λ t. row_of t q) (sym is) ∙ e) in absurd (cc (n, m.1))
form_born rows r entry now q c distinct n e (leading free is) =
    let m = comes-map number number (leading_at r.pid) (λ x. refl) q.0 rows c (ap (λ t. row_of t q) (sym is) ∙ e) in absurd (cc (n, m.1))

module _ (rows : List Row) (entry : Entry) (sound : IsSound rows) (legal : verdict rows entry ≡ Legal) (pending : ArePending rows) where
  pending_other : (q : Pid) (before now : Row) → row_of rows q ≡ Some before → (before.pid.0 == (process_of entry).0) ≡ false → row_of (after rows entry) q ≡ Some now → IsSignals now.sig.pending
  pending_other q before now e ne e' =
      let s = others_signalled rows entry sound legal before now (row_here rows q before e) ne (ap (λ p. row_of (after rows entry) p) (row_pid rows q before e) ∙ e') in
      subst (λ x. IsSignals x.pending) (sym s.sig) (pending-generated_all before.sig (cond (is_living before.life) (sent rows entry before) []) (pending q before e))

  pending_own : (q : Pid) (before now : Row) → row_of rows q ≡ Some before → q ≡ process_of entry → row_of (after rows entry) q ≡ Some now → IsSignals now.sig.pending
  pending_own q before now e same e' =
      let s = own_signalled rows entry sound legal before now (ap (λ p. row_of rows p) (sym same) ∙ e) (ap (λ p. row_of (after rows entry) p) (sym same) ∙ e') in
      subst (λ x. IsSignals x.pending) (sym s)
      (pending-generated_all (own_signals entry before.sig) (cond (is_living now.life) (sent rows entry before) []) (pending-own entry before.sig (pending q before e)))

  pending_was : (q : Pid) (before now : Row) (b : Bool) → (before.pid.0 == (process_of entry).0) ≡ b → row_of rows q ≡ Some before → row_of (after rows entry) q ≡ Some now → IsSignals now.sig.pending
  pending_was q before now true is e e' = pending_own q before now e (sym (row_pid rows q before e) ∙ ap (λ (n : ℕ). record { 0 = n }) (eqb-true _ _ is)) e'
  pending_was q before now false is e e' = pending_other q before now e is e'

  -- a legal step leaves it so
  pub pending_kept : ArePending (after rows entry)
  pending_kept q now e' = go (row_of rows q) refl
    where
      go : (o : Option Row) → row_of rows q ≡ o → IsSignals now.sig.pending
      go (Some before) e = pending_was q before now (before.pid.0 == (process_of entry).0) refl e e'
      go None e =
          let a = actor rows entry legal in
          let form = step_form rows a.row entry (row_here rows (process_of entry) a.row a.there) a.lives a.legal in
          subst IsSignals (sym (form_born rows a.row entry (row_after rows a.row entry) q now sound.distinct e (ap (λ t. row_of t q) (sym (after_is rows entry a.row a.there)) ∙ e') form)) IsSignals-none
