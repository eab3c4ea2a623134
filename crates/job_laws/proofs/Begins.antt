-- the shell's forks
use Rattle.std.proofs.Common.{◌≡◌, ◌≢◌, ◌⊎◌, inl, inr, ◌<◌, ◌≤◌, ℕ, suc, true, false, cond, List, [], ◌∷◌, ◌++◌, refl, sym, ap, ◌∙◌, subst, arith, Option, None, Some, slice_get}
use Rattle.std.specs.Prelude.{nat_le}
use Rattle.std.specs.Option.{option_or}
use Rattle.std.proofs.lemmas.Bool.{cases_lt}
use Rattle.unix_names.specs.declared.Errno.TheVariants.{EAGAIN}
use Rattle.unix_names.specs.declared.Pid.{Pid}
use Rattle.unix_calls.specs.declared.Call.TheVariants.{Fork}
use Rattle.unix_calls.specs.declared.Reply.{Reply}
use Rattle.unix_calls.specs.declared.Reply.TheVariants.{Number}
use Rattle.unix_calls.specs.declared.World.{World}
use Rattle.process_table.specs.declared.Row.{Row}
use Rattle.process_table.specs.Rows.{is_parent, row_of, child_count}
use Rattle.kernel_rules.specs.Calls.{allows}
use Rattle.kernel_rules.specs.Replies.{is_first}
use Rattle.kernel_rules.specs.Fork.{is_fresh, is_fresh_number, newborn}
use Rattle.kernel_model.specs.Sound.{IsSound}
use Rattle.proc_image.specs.Scripts.{Progress}
use Rattle.proc_image.specs.Follows.{Running}
use Rattle.list_laws.proofs.Finding.{at-append, comes-append, same_number}
use Rattle.list_laws.proofs.Counts.{count-append}
use Rattle.kernel_laws.specs.Effects.{IsUnused}
use Rattle.kernel_laws.proofs.Rows.{number, row_pid, row_here}
use Rattle.job_laws.specs.Orders.{Absent, Born, Marks, is_held, MayBegin}
use Rattle.job_plans.specs.Files.{put_at}
use Rattle.job_plans.specs.Plans.{Plan}
use Rattle.job_plans.specs.Acts.{stage_statements}
use Rattle.job_plans.specs.Worlds.{script_with}
use Rattle.job_laws.specs.Forks.{shell, pid}
use Rattle.job_laws.proofs.Family.{shell_row}
use Rattle.job_laws.proofs.Core.{first, HasStage, Core, group_at}
use Rattle.job_laws.proofs.Kept.{held_below}
use Rattle.job_laws.proofs.Shell.{put_same, put_other, cases_same, not_absent}

-- the fork's answer is a number that is fresh
pub fork_answer : (rows : List Row) (reply : Reply) → child_count rows shell < 64 → allows rows shell_row Fork reply ≡ true → (k : ℕ) × (reply ≡ Number k) × (is_fresh rows k ≡ true)
fork_answer rows reply few e = go reply (ap (λ b. is_first (cond b (Some EAGAIN) None) reply (is_fresh_number rows reply)) (sym small) ∙ e)
  where
    small : nat_le 64 (child_count rows shell) ≡ false
    small = grind (arith, few)

    go : (reply : Reply) → is_fresh_number rows reply ≡ true → (k : ℕ) × (reply ≡ Number k) × (is_fresh rows k ≡ true)
    go (Number k) e = (k, refl, e)
    go _ e = cc

module _ (world : World) (plan : Plan) (marks : Marks) (p : ℕ → ℕ) (n : ℕ) (rows : List Row) (running : Running) (sound : IsSound rows) (core : Core world plan marks p n rows running)
    (v : ℕ) (may : MayBegin plan marks v) where
  -- it is the next stage's
  pub count_is : n ≡ v
  count_is = go (cases_lt v n) (cases_lt n v)
    where
      go : (v < n) ⊎ (n ≤ v) → (n < v) ⊎ (v ≤ n) → n ≡ v
      go (inl l) h = absurd (core.forked v l (may.later v (omega arith)))
      go (inr g) (inl l) = absurd (may.earlier n l (core.later n (omega arith)))
      go (inr g) (inr h) = omega (arith, g, h)

  module _ (k : ℕ) (unused : IsUnused rows k) (at : Progress) (running' : Running) (runs : running' k ≡ Some at) (script : slice_get world.scripts at.script ≡ Some (script_with (stage_statements (plan.status v)))) (position : at.position ≡ 0)
      (others : (x : ℕ) → x ≢ 2 → x ≢ k → running' x ≡ running x) where
    abbrev pub born_rows : List Row
    born_rows = rows ++ newborn shell_row k ∷ []

    abbrev pub pids_then : ℕ → ℕ
    pids_then = put_at v k p

    abbrev marks_then : Marks
    marks_then = put_at v Born marks

    old_found : (x : Pid) (c : Row) → row_of rows x ≡ Some c → row_of born_rows x ≡ Some c
    old_found x c e = at-append number x.0 rows (newborn shell_row k ∷ []) ∙ ap (λ o. option_or o (row_of (newborn shell_row k ∷ []) x)) e

    free : row_of rows (pid k) ≡ None
    free = go (row_of rows (pid k)) refl
      where
        go : (o : Option Row) → row_of rows (pid k) ≡ o → o ≡ None
        go None e = refl
        go (Some c) e = absurd (unused.no_pid c (row_here rows (pid k) c e) (ap (λ q. q.0) (row_pid rows (pid k) c e)))

    new_found : row_of born_rows (pid k) ≡ Some (newborn shell_row k)
    new_found = at-append number k rows (newborn shell_row k ∷ []) ∙ ap (λ o. option_or o (row_of (newborn shell_row k ∷ []) (pid k))) free
        ∙ ap (λ b. cond b (Some (newborn shell_row k)) None) (same_number k)

    -- nobody had the number
    pub new_pid : (u : ℕ) → is_held (marks u) ≡ true → p u ≢ k
    new_pid u h e = let there = (core.held u h).there in let none : row_of rows (pid (p u)) ≡ None = ap (λ m. row_of rows (pid m)) e ∙ free in cc

    shell_differs : 2 ≢ k
    shell_differs e = let none : row_of rows shell ≡ None = ap (λ m. row_of rows (pid m)) e ∙ free in let there = core.shell_there in cc

    absent : marks v ≡ Absent
    absent = may.later v (omega arith)

    was_other : (u : ℕ) → is_held (marks u) ≡ true → u ≢ v
    was_other u h e = not_absent (marks u) h (ap marks e ∙ absent)

    old_stage : (u : ℕ) → is_held (marks u) ≡ true → HasStage world (pids_then u) (marks_then u) (plan.status u) (group_at (marks_then u) (pids_then (plan.first u))) born_rows running'
    old_stage u h =
        let s = core.held u h in
        let low = core.numbers u (held_below world plan marks p n rows running sound core u h) in
        subst (λ m. HasStage world (pids_then u) m (plan.status u) (group_at m (pids_then (plan.first u))) born_rows running') (sym (put_other v u Born marks (was_other u h)))
        (subst (λ q. HasStage world q (marks u) (plan.status u) (group_at (marks u) (pids_then (plan.first u))) born_rows running') (sym (put_other v u k p (was_other u h)))
        (subst (λ g. HasStage world (p u) (marks u) (plan.status u) (group_at (marks u) g) born_rows running') (sym (put_other v (plan.first u) k p (was_other (plan.first u) (may.whole u h)))) (record {
          row = s.row;
          there = old_found (pid (p u)) s.row s.there;
          child = s.child;
          group = s.group;
          at = s.at;
          runs = others (p u) (omega (arith, low)) (new_pid u h) ∙ s.runs;
          script = s.script;
          state = s.state;
        })))

    new_stage : HasStage world (pids_then v) (marks_then v) (plan.status v) (group_at (marks_then v) (pids_then (plan.first v))) born_rows running'
    new_stage =
        subst (λ m. HasStage world (pids_then v) m (plan.status v) (group_at m (pids_then (plan.first v))) born_rows running') (sym (put_same v Born marks))
        (subst (λ q. HasStage world q Born (plan.status v) shell born_rows running') (sym (put_same v k p)) (record {
          row = newborn shell_row k;
          there = new_found;
          child = record { parent = refl; session = refl; uid = refl; execed = refl; other = λ e. shell_differs (sym e) };
          group = refl;
          at = at;
          runs = runs;
          script = script;
          state = first position refl refl refl;
        }))

    was_held : (u : ℕ) → is_held (marks_then u) ≡ true → u ≢ v → is_held (marks u) ≡ true
    was_held u h ne = ap is_held (sym (put_other v u Born marks ne)) ∙ h

    pub core_begin : Core world plan marks_then pids_then (suc n) born_rows running'
    core_begin = record {
      shell_there = old_found shell shell_row core.shell_there;
      held = λ u h. stands u h (cases_same u v);
      nobody = known;
      later = λ u l. let is = count_is in let ne : u ≢ v = omega (arith, l, is) in put_other v u Born marks ne ∙ core.later u (omega (arith, l));
      forked = λ u l. there u l (cases_same u v);
      numbers = λ u l. high u l (cases_same u v);
      apart = λ u w h l below. far u w h l below (cases_same w v);
      few = (let few = core.few in let more = count-append (is_parent shell) rows (newborn shell_row k) in omega (arith, few, more));
    }
      where
        stands : (u : ℕ) → is_held (marks_then u) ≡ true → (u ≡ v) ⊎ (u ≢ v) → HasStage world (pids_then u) (marks_then u) (plan.status u) (group_at (marks_then u) (pids_then (plan.first u))) born_rows running'
        stands u h (inl e) = subst (λ u. HasStage world (pids_then u) (marks_then u) (plan.status u) (group_at (marks_then u) (pids_then (plan.first u))) born_rows running') (sym e) new_stage
        stands u h (inr ne) = old_stage u (was_held u h ne)

        known : (q : Pid) (r : Row) → row_of born_rows q ≡ Some r → (q.0 ≡ 2) ⊎ ((u : ℕ) × (is_held (marks_then u) ≡ true) × (pids_then u ≡ q.0))
        known q r e = elim (comes-append number q.0 rows r (newborn shell_row k) e) [
          | inl old ↦ elim (core.nobody q r old) [
            | inl two ↦ inl two
            | inr c ↦ inr (c.0, ap is_held (put_other v c.0 Born marks (was_other c.0 c.1)) ∙ c.1, put_other v c.0 k p (was_other c.0 c.1) ∙ c.2)
          ]
          | inr new ↦ inr (v, ap is_held (put_same v Born marks), put_same v k p ∙ new.1)
        ]

        there : (u : ℕ) → u < suc n → (u ≡ v) ⊎ (u ≢ v) → marks_then u ≢ Absent
        there u l (inl e) = λ is. let no : Born ≡ Absent = sym (put_same v Born marks) ∙ ap marks_then (sym e) ∙ is in cc
        there u l (inr ne) = λ is. let v_is = count_is in core.forked u (omega (arith, l, ne, v_is)) (sym (put_other v u Born marks ne) ∙ is)

        high : (u : ℕ) → u < suc n → (u ≡ v) ⊎ (u ≢ v) → 2 < pids_then u
        high u l (inl e) = let is : pids_then u ≡ k = ap pids_then e ∙ put_same v k p in let least = unused.least in let ne = shell_differs in omega (arith, is, least, ne)
        high u l (inr ne) = let is : pids_then u ≡ p u = put_other v u k p ne in let v_is = count_is in let old = core.numbers u (omega (arith, l, ne, v_is)) in omega (arith, is, old)

        far : (u w : ℕ) → is_held (marks_then u) ≡ true → u < w → w < suc n → (w ≡ v) ⊎ (w ≢ v) → pids_then u ≢ pids_then w
        far u w h l below (inl e) = λ same. let ne : u ≢ v = omega (arith, l, e) in new_pid u (was_held u h ne) (sym (put_other v u k p ne) ∙ same ∙ ap pids_then e ∙ put_same v k p)
        far u w h l below (inr ne) = λ same.
            let v_is = count_is in
            let un : u ≢ v = omega (arith, l, below, v_is) in
            core.apart u w (was_held u h un) l (omega (arith, below, ne, v_is)) (sym (put_other v u k p un) ∙ same ∙ put_other v w k p ne)
