-- while the shell lives, the end of a stage leaves no group orphaned with a stopped member
use Rattle.std.proofs.Common.{◌≡◌, ◌≢◌, ◌==◌, ◌&&◌, ◌⊎◌, inl, inr, ℕ, Bool, true, false, cond, not, List, [], ◌∷◌, ◌++◌, refl, sym, ap, ◌∙◌, subst, arith, append-nil, Option, None, Some}
use Rattle.std.specs.Option.{option_map}
use Rattle.std.specs.List.{list_any}
use Rattle.std.proofs.lemmas.Bool.{eqb-true, and_parts}
use Rattle.unix_names.specs.declared.Pid.{Pid}
use Rattle.unix_names.specs.declared.Signal.{Signal}
use Rattle.unix_names.specs.declared.Signal.TheVariants.{Hup, Chld, Cont}
use Rattle.unix_names.specs.declared.Life.{Life}
use Rattle.unix_names.specs.declared.Life.TheVariants.{Runs, Stopped, Ended}
use Rattle.unix_names.specs.declared.WaitStatus.{WaitStatus}
use Rattle.unix_names.specs.States.{is_living}
use Rattle.unix_names.specs.Sets.{has}
use Rattle.signal_state.specs.Signals.{Signals}
use Rattle.signal_state.specs.Sig.{fresh, generated, generated_all}
use Rattle.process_table.specs.declared.Row.{Row}
use Rattle.process_table.specs.Rows.{is_pid, is_parent, row_of, in_group, is_stopped}
use Rattle.process_table.specs.Orphans.{is_outside_parent, is_link_of, is_orphaned, is_stopped_in}
use Rattle.kernel_rules.specs.Orphans.{is_newly_orphaned}
use Rattle.process_table.specs.Changes.{receives}
use Rattle.kernel_rules.specs.Ending.{sent_to_parent, vanishes, rows_left, sent_by_end, after_end}
use Rattle.kernel_model.specs.Sound.{IsSound}
use Rattle.list_laws.specs.Keyed.{option_filter}
use Rattle.list_laws.proofs.Filters.{mapped_some, and_false}
use Rattle.list_laws.proofs.Finding.{filtered_some, same_number}
use Rattle.list_laws.proofs.Elements.{any_found, any_none_found, any_some}
use Rattle.kernel_laws.proofs.Rows.{number, distinct_from, row_pid}
use Rattle.kernel_laws.proofs.Others.{nothing_sent, second}
use Rattle.kernel_laws.proofs.Ends.{left, is_left, other_left, row_left, left_sound, after_end_of, row_after_end}
use Rattle.job_laws.specs.Forks.{shell, pid}

-- the row of the shell, which never changes while it lives
abbrev pub shell_row : Row
shell_row = record { pid = shell; parent = pid 1; group = shell; session = shell; uid = 0; life = Runs; change = None; execed = false; sig = fresh }

-- a child of the shell, of its session and user
pub record IsChild (c : Row) : Type 0 where
  pub parent : c.parent ≡ shell
  pub session : c.session ≡ shell
  pub uid : c.uid ≡ 0
  pub execed : c.execed ≡ false
  pub other : c.pid.0 ≢ 2

pub record IsFamily (rows : List Row) : Type 0 where
  pub shell_there : row_of rows shell ≡ Some shell_row
  pub no_system : row_of rows (pid 1) ≡ None
  pub children : (q : Pid) (c : Row) → row_of rows q ≡ Some c → (c ≡ shell_row) ⊎ IsChild c

-- ---- a signal for a child's end leaves the shell as it is
pub chld_nothing : generated fresh Chld ≡ fresh
unfolding generated
chld_nothing = refl

receives_none : (send : Row → List Signal) (c : Row) → send c ≡ [] → receives send c ≡ c
receives_none send c e = ap (λ (x : Signals). record c { sig = x }) (ap (λ ss. generated_all c.sig (cond (is_living c.life) ss [])) e ∙ nothing_sent (is_living c.life) c.sig)

-- who is sent nothing, but the shell which may be sent CHLD
pub receives_same : (send : Row → List Signal) (c : Row) → ((c ≡ shell_row) × ((send shell_row ≡ []) ⊎ (send shell_row ≡ Chld ∷ []))) ⊎ (send c ≡ []) → receives send c ≡ c
receives_same send c (inr e) = receives_none send c e
receives_same send c (inl s) = subst (λ x. receives send x ≡ x) (sym s.0) (go s.1)
  where
    go : (send shell_row ≡ []) ⊎ (send shell_row ≡ Chld ∷ []) → receives send shell_row ≡ shell_row
    go (inl e) = receives_none send shell_row e
    go (inr e) = ap (λ (x : Signals). record shell_row { sig = x }) (ap (generated_all fresh) e ∙ chld_nothing)

pub not_same : (a b : ℕ) → a ≢ b → (a == b) ≡ false
not_same a b ne = grind arith

module _ (rows : List Row) (sound : IsSound rows) (family : IsFamily rows) (r : Row) (here : row_of rows r.pid ≡ Some r) (child : IsChild r) (w : WaitStatus) where
  not_shell : is_pid r.pid shell_row ≡ false
  not_shell = not_same 2 r.pid.0 (λ e. child.other (sym e))

  -- no child is a child of r
  no_parent : (c : Row) → IsChild c → is_parent r.pid c ≡ false
  no_parent c k = ap (λ p. p.0 == r.pid.0) k.parent ∙ not_shell

  shell_left : left r w shell_row ≡ shell_row
  shell_left =
      let one : (1 == r.pid.0) ≡ false = not_same 1 r.pid.0 (λ e. (sound.each r.pid r here).not_system (sym e)) in
      rw (not_shell, one) refl

  shell_stays : row_of (rows_left rows r w) shell ≡ Some shell_row
  shell_stays = row_left rows r w sound.distinct shell
      ∙ ap (λ o. option_map (left r w) (option_filter (is_left rows r w) o)) family.shell_there
      ∙ ap (λ b. option_map (left r w) (cond b (Some shell_row) None)) (other_left rows r w shell_row not_shell refl)
      ∙ ap Some shell_left

  -- the shell's own group is orphaned at all times
  no_link : (c : Row) → row_of rows c.pid ≡ Some c → is_link_of rows shell c ≡ false
  no_link c h = elim (family.children c.pid c h) [
    | inl e ↦ subst (λ x. is_link_of rows shell x ≡ false) (sym e) (ap (λ o. is_outside_parent shell_row o) family.no_system)
    | inr k ↦ go k (c.group.0 == 2) refl
  ]
    where
      go : IsChild c → (b : Bool) → (c.group.0 == 2) ≡ b → is_link_of rows shell c ≡ false
      go k false e = rw e refl
      go k true e =
          let two : c.group.0 ≡ 2 = eqb-true _ _ e in
          let o : row_of rows c.parent ≡ Some shell_row = ap (row_of rows) k.parent ∙ family.shell_there in
          let within : (2 == c.group.0) ≡ true = rw two refl in
          rw (e, o, within) (last (is_living c.life))
        where
          last : (b : Bool) → (b && false) ≡ false
          last true = refl
          last false = refl

  shell_orphaned : is_orphaned rows shell ≡ true
  shell_orphaned = ap not (any_none_found number (is_link_of rows shell) rows (distinct_from rows sound.distinct) no_link)

  -- a stopped member of another group keeps it from being orphaned
  stopped_links : (g : Pid) → g.0 ≢ 2 → list_any (is_stopped_in g) (rows_left rows r w) ≡ true → is_orphaned (rows_left rows r w) g ≡ false
  stopped_links g ne e =
      let now = rows_left rows r w in
      let left_is_sound = left_sound rows r w sound in
      let d = any_found number (is_stopped_in g) now (distinct_from now left_is_sound.distinct) e in
      let m = mapped_some (left r w) (option_filter (is_left rows r w) (row_of rows d.0.pid)) d.0 (sym (row_left rows r w sound.distinct d.0.pid) ∙ d.1) in
      let k = filtered_some (is_left rows r w) (row_of rows d.0.pid) m.0 m.1 in
      let was : is_stopped_in g (left r w m.0) ≡ true = ap (is_stopped_in g) (sym m.2) ∙ d.2 in
      let parts = and_parts (in_group g m.0) (is_stopped (left r w m.0).life) was in
      ap not (any_some number (is_link_of now g) d.0.pid.0 now d.0 d.1 (subst (λ x. is_link_of now g x ≡ true) (sym m.2) (go m.0 (family.children d.0.pid m.0 k.0) parts.0 parts.1)))
    where
      group_not : (g.0 == 2) ≡ false
      group_not = not_same g.0 2 ne

      lives : (l : Life) → is_stopped l ≡ true → is_living l ≡ true
      lives Stopped e = refl
      lives Runs e = cc
      lives (Ended w) e = cc

      go : (c : Row) → (c ≡ shell_row) ⊎ IsChild c → in_group g c ≡ true → is_stopped (left r w c).life ≡ true → is_link_of (rows_left rows r w) g (left r w c) ≡ true
      go c (inl is) member stopped =
          let halts : is_stopped (left r w shell_row).life ≡ true = subst (λ x. is_stopped (left r w x).life ≡ true) is stopped in
          let no : is_stopped shell_row.life ≡ true = ap (λ x. is_stopped x.life) (sym shell_left) ∙ halts in
          cc
      go c (inr child) member stopped =
          let same : c.group.0 ≡ g.0 = eqb-true _ _ member in
          let not_two : (2 == c.group.0) ≡ false = not_same 2 c.group.0 (λ e. ne (sym same ∙ sym e)) in
          let o : row_of (rows_left rows r w) (left r w c).parent ≡ Some shell_row =
          ap (row_of (rows_left rows r w)) (second (is_parent r.pid c) (pid 1) c.parent (no_parent c child) ∙ child.parent) ∙ shell_stays in
          let alive = lives (left r w c).life stopped in
          let in_it : (2 == c.session.0) ≡ true = rw (child.session) refl in
          rw (member, alive, o, not_two, in_it) refl

  -- so no group is newly orphaned
  pub none_orphaned : (g : Pid) → is_newly_orphaned rows (rows_left rows r w) g ≡ false
  none_orphaned g = go (g.0 == 2) refl
    where
      go : (b : Bool) → (g.0 == 2) ≡ b → is_newly_orphaned rows (rows_left rows r w) g ≡ false
      go true e =
          let same : is_orphaned rows g ≡ true = ap (λ n. is_orphaned rows (pid n)) (eqb-true _ _ e) ∙ shell_orphaned in
          rw same refl
      go false e = at_last (list_any (is_stopped_in g) (rows_left rows r w)) refl
        where
          none : (a b : Bool) → (a && (b && false)) ≡ false
          none true true = refl
          none true false = refl
          none false b = refl

          none_else : (a : Bool) → (a && false) ≡ false
          none_else true = refl
          none_else false = refl

          true_not : (b : Bool) → b ≡ true → b ≡ false → ⊥
          true_not true p q = cc
          true_not false p q = cc

          at_last : (b : Bool) → list_any (is_stopped_in g) (rows_left rows r w) ≡ b → is_newly_orphaned rows (rows_left rows r w) g ≡ false
          at_last true s = rw (stopped_links g (λ q. true_not (g.0 == 2) (rw q refl) e) s) (none_else (not (is_orphaned rows g)))
          at_last false s = rw s (none (not (is_orphaned rows g)) (is_orphaned (rows_left rows r w) g))

  -- who is sent something: the shell its CHLD, and nobody else
  pub end_sends : (c : Row) → sent_by_end rows r w c ≡ sent_to_parent r c
  end_sends c = ap (λ b. sent_to_parent r c ++ cond b (Hup ∷ Cont ∷ []) []) (none_orphaned c.group) ∙ append-nil (sent_to_parent r c)

  -- another process's row is as it was
  pub end_elsewhere : (q : Pid) → q.0 ≢ r.pid.0 → row_of (after_end rows r w) q ≡ row_of rows q
  end_elsewhere q ne = row_after_end rows r w sound.distinct q ∙ go (row_of rows q) refl
    where
      not_it : (c : Row) → row_of rows q ≡ Some c → is_pid r.pid c ≡ false
      not_it c e = not_same c.pid.0 r.pid.0 (λ x. ne (sym (ap (λ p. p.0) (row_pid rows q c e)) ∙ x))

      same_left : (c : Row) → row_of rows q ≡ Some c → (c ≡ shell_row) ⊎ IsChild c → left r w c ≡ c
      same_left c e (inl is) = subst (λ x. left r w x ≡ x) (sym is) shell_left
      same_left c e (inr k) = rw (not_it c e, no_parent c k) refl

      sends : (c : Row) → (c ≡ shell_row) ⊎ IsChild c → receives (sent_by_end rows r w) c ≡ c
      sends c (inl is) = receives_same (sent_by_end rows r w) c (inl (is, at_shell (is_pid r.parent shell_row) refl))
        where
          at_shell : (b : Bool) → is_pid r.parent shell_row ≡ b → (sent_by_end rows r w shell_row ≡ []) ⊎ (sent_by_end rows r w shell_row ≡ Chld ∷ [])
          at_shell true e = inr (end_sends shell_row ∙ rw e refl)
          at_shell false e = inl (end_sends shell_row ∙ rw e refl)
      sends c (inr k) = receives_same (sent_by_end rows r w) c (inr (end_sends c ∙ rw (child.parent, not_same c.pid.0 2 k.other) refl))

      stays : (c : Row) → row_of rows q ≡ Some c → (c ≡ shell_row) ⊎ IsChild c → is_left rows r w c ≡ true
      stays c e (inl is) = rw (not_it c e, is, not_same 1 r.pid.0 (λ x. (sound.each r.pid r here).not_system (sym x))) refl
      stays c e (inr k) = rw (not_it c e, no_parent c k) refl

      go : (o : Option Row) → row_of rows q ≡ o → option_map (after_end_of rows r w) (option_filter (is_left rows r w) o) ≡ o
      go None e = refl
      go (Some c) e =
          let f = family.children q c e in
          ap (λ b. option_map (after_end_of rows r w) (cond b (Some c) None)) (stays c e f)
          ∙ ap Some (ap (receives (sent_by_end rows r w)) (same_left c e f) ∙ sends c f)

  -- its own row has ended, and stays to be waited for
  pub end_own : row_of (after_end rows r w) r.pid ≡ Some (record r { life = Ended w; change = None })
  end_own =
      let waits : vanishes rows r ≡ false = rw (child.parent, family.shell_there) none_ignored in
      let me : is_pid r.pid r ≡ true = same_number r.pid.0 in
      let stays : is_left rows r w r ≡ true = rw (waits, and_false (is_pid r.pid r), no_parent r child) refl in
      row_after_end rows r w sound.distinct r.pid
      ∙ ap (λ o. option_map (after_end_of rows r w) (option_filter (is_left rows r w) o)) here
      ∙ ap (λ b. option_map (after_end_of rows r w) (cond b (Some r) None)) stays
      ∙ ap Some (rw (me, no_parent r child) refl)
    where
      none_ignored : has 0 Chld ≡ false
      none_ignored = refl
