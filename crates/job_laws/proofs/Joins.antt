-- the shell's setpgids
use Rattle.std.proofs.Common.{◌≡◌, ◌≢◌, ◌==◌, ◌&&◌, ◌||◌, ◌⊎◌, inl, inr, ◌<◌, ℕ, pos, Bool, true, false, cond, not, List, refl, sym, ap, ◌∙◌, arith, None, Some}
use Rattle.std.specs.Prelude.{map}
use Rattle.std.specs.List.{list_any}
use Rattle.unix_names.specs.declared.Errno.TheVariants.{EPERM, ESRCH, EACCES}
use Rattle.unix_names.specs.declared.Pid.{Pid}
use Rattle.unix_names.specs.States.{is_living}
use Rattle.unix_calls.specs.declared.Call.TheVariants.{Setpgid}
use Rattle.unix_calls.specs.declared.Reply.{Reply}
use Rattle.unix_calls.specs.declared.Reply.TheVariants.{Fine}
use Rattle.process_table.specs.declared.Row.{Row}
use Rattle.process_table.specs.Rows.{is_same, is_pid, row_of, row_named, is_session_leader, in_group, in_session}
use Rattle.kernel_rules.specs.Setpgid.{target_pid, wanted_group, is_own, is_execed_child, is_fixed_in_group, is_in_session_group, regroup_refusal, after_setpgid}
use Rattle.kernel_rules.specs.Calls.{allows}
use Rattle.kernel_rules.specs.Replies.{is_first, is_fine}
use Rattle.process_table.specs.Changes.{regrouped_at}
use Rattle.list_laws.proofs.Elements.{any_some}
use Rattle.list_laws.proofs.Filters.{and_false}
use Rattle.list_laws.proofs.Finding.{same_number}
use Rattle.kernel_laws.proofs.Rows.{number, row_pid}
use Rattle.job_laws.specs.Forks.{shell, pid}
use Rattle.job_laws.proofs.Family.{shell_row, IsChild, IsFamily, not_same}
use Rattle.job_laws.proofs.Lookups.{fine_is, map_elsewhere, map_own}

module _ (rows : List Row) (family : IsFamily rows) (q g : ℕ) (low : 2 < q) (low_group : 2 < g) (r : Row) (there : row_of rows (pid q) ≡ Some r) (child : IsChild r) (alive : is_living r.life ≡ true) where
  zero_not : (m : ℕ) → 2 < m → (m == 0) ≡ false
  zero_not m h = not_same m 0 (omega (arith, h))

  named_is : row_named rows shell_row q ≡ Some r
  named_is = ap (λ b. cond b (Some shell_row) (row_of rows (pid q))) (zero_not q low) ∙ there

  wanted_is : wanted_group shell_row q g ≡ pid g
  wanted_is = ap (λ b. cond b (target_pid shell_row q) (pid g)) (zero_not g low_group)

  target_is : target_pid shell_row q ≡ pid q
  target_is = ap (λ b. cond b shell (pid q)) (zero_not q low)

  pid_is : r.pid ≡ pid q
  pid_is = row_pid rows (pid q) r there

  owns : is_own shell_row r ≡ true
  owns = rw (child.parent, alive, ap (λ (p : Pid). p.0 == 2) pid_is, not_same q 2 (omega (arith, low))) refl

  not_execed : is_execed_child shell_row r ≡ false
  not_execed = ap (λ b. (r.parent.0 == 2) && b) child.execed ∙ and_false (r.parent.0 == 2)

  -- it is the group's first member, or the group has one in the session
  abbrev pub MayJoin : Type 0
  MayJoin = (g ≡ q) ⊎ ((c : Row) × (row_of rows c.pid ≡ Some c) × (in_group (pid g) c ≡ true) × (in_session shell c ≡ true))

  free : MayJoin → is_fixed_in_group rows shell_row r (pid g) ≡ false
  free may =
      let leads : is_session_leader r ≡ false = ap (λ (s : Pid). s.0 == r.pid.0) child.session ∙ not_same 2 r.pid.0 (λ e. child.other (sym e)) in
      let inside : in_session shell r ≡ true = ap (λ (s : Pid). s.0 == 2) child.session in
      ap (λ b. b || (not (in_session shell r) || (not (is_same (pid g) r.pid) && not (list_any (is_in_session_group shell_row (pid g)) rows)))) leads
      ∙ ap (λ b. not b || (not (is_same (pid g) r.pid) && not (list_any (is_in_session_group shell_row (pid g)) rows))) inside
      ∙ go may
    where
      go : MayJoin → (not (is_same (pid g) r.pid) && not (list_any (is_in_session_group shell_row (pid g)) rows)) ≡ false
      go (inl e) = ap (λ b. not b && not (list_any (is_in_session_group shell_row (pid g)) rows)) (ap (λ (x : Pid). g == x.0) pid_is ∙ ap (λ m. m == q) e ∙ same_number q)
      go (inr (c, here, member, session)) =
          let some : list_any (is_in_session_group shell_row (pid g)) rows ≡ true = any_some number (is_in_session_group shell_row (pid g)) c.pid.0 rows c here (rw (member, session) refl) in
          ap (λ b. not (is_same (pid g) r.pid) && not b) some ∙ and_false (not (is_same (pid g) r.pid))

  pub join_fine : MayJoin → (reply : Reply) → allows rows shell_row (Setpgid q (pos g)) reply ≡ true → reply ≡ Fine
  join_fine may reply e = fine_is reply (ap (λ o. is_first o reply (is_fine reply)) (sym none) ∙ e)
    where
      none : regroup_refusal rows shell_row (row_named rows shell_row q) (wanted_group shell_row q g) ≡ None
      none = ap (λ o. regroup_refusal rows shell_row o (wanted_group shell_row q g)) named_is
          ∙ ap (λ w. regroup_refusal rows shell_row (Some r) w) wanted_is
          ∙ ap (λ b. cond (not b) (Some ESRCH) (cond (is_execed_child shell_row r) (Some EACCES) (cond (is_fixed_in_group rows shell_row r (pid g)) (Some EPERM) None))) owns
          ∙ ap (λ b. cond b (Some EACCES) (cond (is_fixed_in_group rows shell_row r (pid g)) (Some EPERM) None)) not_execed
          ∙ ap (λ b. cond b (Some EPERM) None) (free may)

  join_is : after_setpgid rows shell_row q (pos g) Fine ≡ map (regrouped_at (pid q) (pid g)) rows
  join_is = ap (λ t. map (regrouped_at t (wanted_group shell_row q g)) rows) target_is ∙ ap (λ w. map (regrouped_at (pid q) w) rows) wanted_is

  pub join_elsewhere : (x : Pid) → x.0 ≢ q → row_of (after_setpgid rows shell_row q (pos g) Fine) x ≡ row_of rows x
  join_elsewhere x ne = ap (λ t. row_of t x) join_is ∙ map_elsewhere rows family (regrouped_at (pid q) (pid g)) q (λ c. refl) (λ c o. ap (λ (b : Bool). record c { group = cond b (pid g) c.group }) o) x ne

  pub join_own : row_of (after_setpgid rows shell_row q (pos g) Fine) (pid q) ≡ Some (record r { group = pid g })
  join_own =
      let mine : is_pid (pid q) r ≡ true = ap (λ (p : Pid). p.0 == q) pid_is ∙ same_number q in
      ap (λ t. row_of t (pid q)) join_is ∙ map_own rows family (regrouped_at (pid q) (pid g)) (pid q) r (λ c. refl) there ∙ ap (λ (b : Bool). Some (record r { group = cond b (pid g) r.group })) mine
