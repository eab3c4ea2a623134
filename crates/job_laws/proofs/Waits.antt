-- the shell's waits
use Rattle.std.proofs.Common.{◌≡◌, ◌≢◌, ◌==◌, ◌&&◌, ◌⊎◌, inl, inr, ◌<◌, ℕ, zero, suc, pos, Bool, true, false, cond, not, List, refl, sym, ap, ◌∙◌, subst, arith, Option, None, Some}
use Rattle.std.specs.Option.{option_map}
use Rattle.std.proofs.lemmas.Bool.{and_parts, eqb-true}
use Rattle.unix_names.specs.declared.Pid.{Pid}
use Rattle.unix_names.specs.declared.Errno.TheVariants.{ECHILD}
use Rattle.unix_names.specs.declared.Life.{Life}
use Rattle.unix_names.specs.declared.Life.TheVariants.{Runs, Stopped, Ended}
use Rattle.unix_names.proofs.SignalLaws.{number_of-distinct}
use Rattle.unix_names.specs.declared.WaitStatus.{WaitStatus}
use Rattle.unix_names.specs.declared.WaitStatus.TheVariants as status
use Rattle.unix_names.specs.States.{is_living}
use Rattle.unix_calls.specs.declared.Reply.{Reply}
use Rattle.unix_calls.specs.declared.Reply.TheVariants.{Child, Again}
use Rattle.unix_calls.specs.declared.Call.TheVariants.{Waitpid}
use Rattle.unix_calls.specs.declared.Selector.TheVariants as selector
use Rattle.unix_calls.specs.Calls.{selector_of}
use Rattle.process_table.specs.declared.Row.{Row}
use Rattle.process_table.specs.Rows.{is_pid, is_parent, row_of, AreDistinct, is_ended_at}
use Rattle.kernel_rules.specs.Wait.{is_match, wait_refusal, report_of, asked_change, is_report, is_same_status, reports, is_wait_answer, after_wait}
use Rattle.kernel_rules.specs.Calls.{allows}
use Rattle.kernel_rules.specs.Replies.{is_first}
use Rattle.process_table.specs.Changes.{reported_at}
use Rattle.list_laws.specs.Keyed.{option_filter}
use Rattle.list_laws.proofs.Filters.{some_same, and_false}
use Rattle.list_laws.proofs.Finding.{same_number}
use Rattle.list_laws.proofs.Elements.{any_some}
use Rattle.kernel_laws.proofs.Rows.{number, row_pid, row_moved}
use Rattle.job_laws.specs.Forks.{shell, pid}
use Rattle.job_laws.proofs.Family.{shell_row, IsChild}
use Rattle.job_laws.proofs.Lookups.{other_pid}

pub selects_one : (n : ℕ) → 0 < n → selector_of (pos n) ≡ selector.One (pid n)
selects_one zero h = let no : ⊥ = omega (arith, h) in absurd no
selects_one (suc n) h = refl

module _ (rows : List Row) (distinct : AreDistinct rows) (q : ℕ) (low : 0 < q) (r : Row) (there : row_of rows (pid q) ≡ Some r) (child : IsChild r) where
  mine : is_pid (pid q) r ≡ true
  mine = ap (λ (p : Pid). p.0 == q) (row_pid rows (pid q) r there) ∙ same_number q

  matches : is_match shell_row (selector.One (pid q)) r ≡ true
  matches = rw (child.parent, mine) refl

  -- the shell is told again, or what this child has to report
  abbrev pub Told : Bool → Bool → Reply → Type 0
  Told stopped continued reply = (reply ≡ Again) ⊎ ((w : WaitStatus) × (reply ≡ Child (pid q) w) × (is_report (report_of r.life r.change stopped continued) w ≡ true))

  pub told : (stopped continued : Bool) (reply : Reply) → allows rows shell_row (Waitpid (pos q) stopped continued) reply ≡ true → Told stopped continued reply
  told stopped continued reply e = go reply (ap (λ o. is_first o reply (answer reply)) (sym none) ∙ ap (λ s. is_first (wait_refusal rows shell_row s) reply (is_wait_answer rows shell_row s stopped continued reply)) (sym (selects_one q low)) ∙ e)
    where
      answer : Reply → Bool
      answer reply = is_wait_answer rows shell_row (selector.One (pid q)) stopped continued reply

      none : wait_refusal rows shell_row (selector.One (pid q)) ≡ None
      none = ap (λ b. cond b None (Some ECHILD)) (any_some number (is_match shell_row (selector.One (pid q))) q rows r there matches)

      of_row : (c : Pid) (w : WaitStatus) (o : Option Row) → row_of rows c ≡ o → reports shell_row (selector.One (pid q)) stopped continued w o ≡ true → Told stopped continued (Child c w)
      of_row c w None h e = cc
      of_row c w (Some d) h e =
          let a = and_parts (is_match shell_row (selector.One (pid q)) d) (is_report (report_of d.life d.change stopped continued) w) e in
          let b = and_parts (is_parent shell d) (is_pid (pid q) d) a.0 in
          let number : d.pid.0 ≡ q = eqb-true _ _ b.1 in
          let c_is : c ≡ pid q = sym (row_pid rows c d h) ∙ ap pid number in
          let d_is : d ≡ r = some_same d r (sym h ∙ ap (row_of rows) c_is ∙ there) in
          inr (w, ap (λ c. Child c w) c_is, subst (λ d. is_report (report_of d.life d.change stopped continued) w ≡ true) d_is a.1)

      go : (reply : Reply) → answer reply ≡ true → Told stopped continued reply
      go (Child c w) e = of_row c w (row_of rows c) refl e
      go Again e = inl refl
      go _ e = cc

  -- ---- the table after a report of this child
  pub wait_elsewhere : (w : WaitStatus) (x : Pid) → x.0 ≢ q → row_of (after_wait rows (Child (pid q) w)) x ≡ row_of rows x
  wait_elsewhere w x ne = row_moved rows (λ c. not (is_ended_at (pid q) c)) (reported_at (pid q)) (λ c. refl) distinct x ∙ go (row_of rows x) refl
    where
      go : (o : Option Row) → row_of rows x ≡ o → option_map (reported_at (pid q)) (option_filter (λ c. not (is_ended_at (pid q) c)) o) ≡ o
      go None e = refl
      go (Some c) e =
          let other = other_pid rows q x c ne e in
          ap (λ b. option_map (reported_at (pid q)) (cond (not (b && not (is_living c.life))) (Some c) None)) other
          ∙ ap (λ (b : Bool). Some (record c { change = cond b None c.change })) other

  pub wait_own : (w : WaitStatus) → is_living r.life ≡ true → row_of (after_wait rows (Child (pid q) w)) (pid q) ≡ Some (record r { change = None })
  wait_own w alive = row_moved rows (λ c. not (is_ended_at (pid q) c)) (reported_at (pid q)) (λ c. refl) distinct (pid q)
      ∙ ap (λ o. option_map (reported_at (pid q)) (option_filter (λ c. not (is_ended_at (pid q) c)) o)) there
      ∙ ap (λ b. option_map (reported_at (pid q)) (cond (not (is_pid (pid q) r && not b)) (Some r) None)) alive
      ∙ ap (λ b. option_map (reported_at (pid q)) (cond (not b) (Some r) None)) (and_false (is_pid (pid q) r))
      ∙ ap (λ (b : Bool). Some (record r { change = cond b None r.change })) mine

  pub wait_gone : (w : WaitStatus) → is_living r.life ≡ false → row_of (after_wait rows (Child (pid q) w)) (pid q) ≡ None
  wait_gone w over = row_moved rows (λ c. not (is_ended_at (pid q) c)) (reported_at (pid q)) (λ c. refl) distinct (pid q)
      ∙ ap (λ o. option_map (reported_at (pid q)) (option_filter (λ c. not (is_ended_at (pid q) c)) o)) there
      ∙ ap (λ b. option_map (reported_at (pid q)) (cond (not (is_pid (pid q) r && not b)) (Some r) None)) over
      ∙ ap (λ b. option_map (reported_at (pid q)) (cond (not (b && true)) (Some r) None)) mine

-- ---- what is reported
pub same_status : (v w : WaitStatus) → is_same_status v w ≡ true → w ≡ v
same_status (status.Exited m) (status.Exited n) e = ap status.Exited (sym (eqb-true _ _ e))
same_status (status.Killed s) (status.Killed t) e = ap status.Killed (sym (number_of-distinct s t (eqb-true _ _ e)))
same_status (status.Stopped s) (status.Stopped t) e = ap status.Stopped (sym (number_of-distinct s t (eqb-true _ _ e)))
same_status status.Continued status.Continued e = refl
same_status _ _ e = cc

-- where neither stops nor continuings are asked for, an end alone is reported
pub only_ends : (l : Life) (change : Option WaitStatus) (w : WaitStatus) → is_report (report_of l change false false) w ≡ true → l ≡ Ended w
only_ends (Ended v) change w e = ap Ended (sym (same_status v w e))
only_ends Runs change w e = absurd (nothing change w e)
  where
    nothing : (change : Option WaitStatus) (w : WaitStatus) → is_report (asked_change change false false) w ≡ true → ⊥
    nothing (Some (status.Stopped s)) w e = cc
    nothing (Some status.Continued) w e = cc
    nothing _ w e = cc
only_ends Stopped change w e = absurd (nothing change w e)
  where
    nothing : (change : Option WaitStatus) (w : WaitStatus) → is_report (asked_change change false false) w ≡ true → ⊥
    nothing (Some (status.Stopped s)) w e = cc
    nothing (Some status.Continued) w e = cc
    nothing _ w e = cc
