-- what is found in a table after a change of one row, and after a signal for the parent
use Rattle.std.proofs.Common.{◌≡◌, ◌≢◌, ◌==◌, ◌&&◌, ◌||◌, ◌⊎◌, inl, inr, ◌<◌, ℕ, zero, suc, pos, neg_ℤ, Bool, true, false, cond, not, List, refl, sym, ap, ◌∙◌, arith, Option, None, Some}
use Rattle.std.specs.Prelude.{map, is_some}
use Rattle.std.specs.Option.{option_map}
use Rattle.std.specs.List.{list_any}
use Rattle.unix_names.specs.declared.Pid.{Pid}
use Rattle.unix_names.specs.declared.Signal.{Signal}
use Rattle.unix_names.specs.Signals.{number_of}
use Rattle.unix_names.proofs.SignalLaws.{signal_of-number_of}
use Rattle.unix_names.specs.declared.Errno.TheVariants.{EPERM}
use Rattle.unix_calls.specs.declared.Target.{Target}
use Rattle.unix_calls.specs.declared.Target.TheVariants.{OwnGroup, One, InGroup}
use Rattle.unix_calls.specs.declared.Reply.{Reply}
use Rattle.unix_calls.specs.declared.Reply.TheVariants.{Fine}
use Rattle.unix_calls.specs.Calls.{target_of}
use Rattle.process_table.specs.declared.Row.{Row}
use Rattle.process_table.specs.Rows.{is_pid, row_of}
use Rattle.kernel_rules.specs.Kill.{is_named, is_permitted, is_system, is_nobody, is_sendable, kill_refusal}
use Rattle.kernel_rules.specs.Replies.{is_fine}
use Rattle.process_table.specs.Changes.{receives, received}
use Rattle.kernel_rules.specs.Ending.{sent_to_parent}
use Rattle.list_laws.proofs.Filters.{or_true}
use Rattle.list_laws.proofs.Elements.{any_some}
use Rattle.kernel_laws.proofs.Rows.{number, row_pid, row_map}
use Rattle.kernel_laws.proofs.Ends.{row_received}
use Rattle.job_laws.specs.Forks.{shell, pid}
use Rattle.job_laws.proofs.Family.{shell_row, IsChild, IsFamily, receives_same, not_same}

-- a change that leaves what is found as it is
pub found_same : (f : Row → Row) (o : Option Row) → ((c : Row) → o ≡ Some c → f c ≡ c) → option_map f o ≡ o
found_same f None h = refl
found_same f (Some c) h = ap Some (h c refl)

pub other_pid : (rows : List Row) (q : ℕ) (x : Pid) (c : Row) → x.0 ≢ q → row_of rows x ≡ Some c → is_pid (pid q) c ≡ false
other_pid rows q x c ne e = not_same c.pid.0 q (λ i. ne (sym (ap (λ p. p.0) (row_pid rows x c e)) ∙ i))

module _ (rows : List Row) (family : IsFamily rows) where
  -- a change of one row alone
  pub map_elsewhere : (f : Row → Row) (q : ℕ) → ((c : Row) → (f c).pid ≡ c.pid) → ((c : Row) → is_pid (pid q) c ≡ false → f c ≡ c) → (x : Pid) → x.0 ≢ q → row_of (map f rows) x ≡ row_of rows x
  map_elsewhere f q keeps same x ne = row_map rows f keeps x ∙ found_same f (row_of rows x) (λ c e. same c (other_pid rows q x c ne e))

  pub map_own : (f : Row → Row) (q : Pid) (r : Row) → ((c : Row) → (f c).pid ≡ c.pid) → row_of rows q ≡ Some r → row_of (map f rows) q ≡ Some (f r)
  map_own f q r keeps e = row_map rows f keeps q ∙ ap (option_map f) e

  -- a change of one row, and a signal for its parent, the shell
  told_nothing : (r : Row) → r.parent ≡ shell → (c : Row) → (c ≡ shell_row) ⊎ IsChild c → receives (sent_to_parent r) c ≡ c
  told_nothing r par c (inl is) = receives_same (sent_to_parent r) c (inl (is, inr (rw par refl)))
  told_nothing r par c (inr k) = receives_same (sent_to_parent r) c (inr (rw (par, not_same c.pid.0 2 k.other) refl))

  pub told_elsewhere : (r : Row) → r.parent ≡ shell → (f : Row → Row) (q : ℕ) → ((c : Row) → (f c).pid ≡ c.pid) → ((c : Row) → is_pid (pid q) c ≡ false → f c ≡ c) → (x : Pid) → x.0 ≢ q →
      row_of (received (sent_to_parent r) (map f rows)) x ≡ row_of rows x
  told_elsewhere r par f q keeps same x ne =
      row_received (sent_to_parent r) (map f rows) x ∙ ap (option_map (receives (sent_to_parent r))) (map_elsewhere f q keeps same x ne)
      ∙ found_same (receives (sent_to_parent r)) (row_of rows x) (λ c e. told_nothing r par c (family.children x c e))

  pub told_own : (r : Row) → r.parent ≡ shell → (f : Row → Row) (q : Pid) → ((c : Row) → (f c).pid ≡ c.pid) → row_of rows q ≡ Some r → IsChild (f r) →
      row_of (received (sent_to_parent r) (map f rows)) q ≡ Some (f r)
  told_own r par f q keeps e child =
      row_received (sent_to_parent r) (map f rows) q ∙ ap (option_map (receives (sent_to_parent r))) (map_own f q r keeps e) ∙ ap Some (told_nothing r par (f r) (inr child))

-- ---- kills
pub target_one : (n : ℕ) → 0 < n → target_of (pos n) ≡ One (pid n)
target_one zero h = let no : ⊥ = omega (arith, h) in absurd no
target_one (suc n) h = refl

pub target_group : (n : ℕ) → 0 < n → target_of (neg_ℤ (pos n)) ≡ InGroup (pid n)
target_group zero h = let no : ⊥ = omega (arith, h) in absurd no
target_group (suc n) h = refl

-- the superuser may kill whoever is named, where anybody is
pub kill_allowed : (rows : List Row) (r c : Row) (target : Target) (s : ℕ) → r.uid ≡ 0 → is_sendable s ≡ true → is_system target ≡ false → row_of rows c.pid ≡ Some c → is_named r target c ≡ true → kill_refusal rows r target s ≡ None
kill_allowed rows r c target s root sendable system there named =
    let p : is_permitted r target s c ≡ true = rw (named, root) refl in
    rw (sendable, system, some target named, any_some number (is_permitted r target s) c.pid.0 rows c there p) (last (list_any (is_named r target) rows))
  where
    last : (b : Bool) → cond (b && false) (Some EPERM) None ≡ None
    last true = refl
    last false = refl

    some : (t : Target) → is_named r t c ≡ true → is_nobody rows r t ≡ false
    some OwnGroup n = refl
    some (One p) n = ap not (any_some number (is_named r (One p)) c.pid.0 rows c there n)
    some (InGroup g) n = ap not (any_some number (is_named r (InGroup g)) c.pid.0 rows c there n)

pub fine_is : (reply : Reply) → is_fine reply ≡ true → reply ≡ Fine
fine_is Fine e = refl
fine_is _ e = cc

pub sendable : (s : Signal) → is_sendable (number_of s) ≡ true
sendable s = ap (λ o. (number_of s == 0) || is_some o) (signal_of-number_of s) ∙ or_true (number_of s == 0)
