-- where the shell is in its script, and what its steps do to its stages
use Rattle.std.proofs.Common.{◌≡◌, ◌≢◌, ◌==◌, ◌⊎◌, inl, inr, ◌<◌, ◌≤◌, ◌+◌, ℕ, Bool, true, false, cond, List, ◌++◌, length, refl, sym, ap, ◌∙◌, subst, arith, None, Some, slice_get}
use Rattle.std.specs.Prelude.{map}
use Rattle.std.proofs.lemmas.Bool.{eq-eqb, cases_order}
use Rattle.unix_names.specs.declared.Pid.{Pid}
use Rattle.unix_names.specs.declared.NodeId.{NodeId}
use Rattle.unix_calls.specs.declared.World.{World}
use Rattle.process_table.specs.declared.Row.{Row}
use Rattle.process_table.specs.Rows.{row_of, child_count}
use Rattle.kernel_model.specs.Sound.{IsSound}
use Rattle.proc_image.specs.Scripts.{Progress}
use Rattle.proc_image.specs.Follows.{Running}
use Rattle.job_plans.specs.Acts.{Act, Begin, statement_of, stage_statements}
use Rattle.job_laws.specs.Orders.{Mark, Absent, Reaped, Marks, is_held}
use Rattle.job_plans.specs.Files.{put_at}
use Rattle.job_plans.specs.Plans.{Plan}
use Rattle.job_plans.specs.Worlds.{script_with}
use Rattle.job_laws.specs.Forks.{shell, pid}
use Rattle.job_laws.proofs.Family.{shell_row, not_same}
use Rattle.job_laws.proofs.Core.{HasStage, Core, group_at}
use Rattle.job_laws.proofs.Kept.{has_same, one_stage, held_below}

-- the world has the shell's script, and for each stage that is forked its script
pub record IsWorldOf (world : World) (plan : Plan) : Type 0 where
  pub top : ℕ
  pub shell_script : slice_get world.scripts top ≡ Some (script_with (map statement_of plan.acts))
  pub stage_script : (k v script : ℕ) (node : NodeId) → slice_get plan.acts k ≡ Some (Begin v script node) → slice_get world.scripts script ≡ Some (script_with (stage_statements (plan.status v)))

-- the shell has done some of its steps, and its variables hold the pids of the stages
pub record ShellAt (world : World) (plan : Plan) (p : ℕ → ℕ) (n : ℕ) (done left : List Act) (running : Running) : Type 0 where
  pub at : Progress
  pub runs : running 2 ≡ Some at
  pub script : slice_get world.scripts at.script ≡ Some (script_with (map statement_of plan.acts))
  pub split : plan.acts ≡ done ++ left
  pub position : at.position ≡ length done
  pub vars : (v : ℕ) → v < n → slice_get at.vars v ≡ Some (p v)
  pub room : length at.vars ≡ plan.count + 1

pub put_same : {X : Type 0} (v : ℕ) (x : X) (f : ℕ → X) → put_at v x f v ≡ x
put_same v x f = go (v == v) (eq-eqb v v refl)
  where
    go : (b : Bool) → b ≡ true → cond b x (f v) ≡ x
    go true e = refl
    go false e = cc

pub put_other : {X : Type 0} (v u : ℕ) (x : X) (f : ℕ → X) → u ≢ v → put_at v x f u ≡ f u
put_other v u x f ne = go (u == v) (not_same u v ne)
  where
    go : (b : Bool) → b ≡ false → cond b x (f u) ≡ f u
    go true e = cc
    go false e = refl

pub cases_same : (u v : ℕ) → (u ≡ v) ⊎ (u ≢ v)
cases_same u v = elim (cases_order u v) [ inl e ↦ inl e | inr d ↦ elim d [ inl l ↦ inr (omega (arith, l)) | inr g ↦ inr (omega (arith, g)) ] ]

pub not_absent : (m : Mark) → is_held m ≡ true → m ≢ Absent
not_absent m h e = let no = ap is_held e in cc

module _ (world : World) (plan : Plan) (marks : Marks) (p : ℕ → ℕ) (n : ℕ) (rows : List Row) (running : Running) (sound : IsSound rows) (core : Core world plan marks p n rows running) where
  abbrev pub Stands : Marks → List Row → Running → ℕ → Type 0
  Stands marks rows running u = HasStage world (p u) (marks u) (plan.status u) (group_at (marks u) (p (plan.first u))) rows running

  -- a step of the shell that keeps who is held, or less, and forks nobody
  pub core_after : (marks' : Marks) (now : List Row) (running' : Running) → row_of now shell ≡ Some shell_row →
      ((u : ℕ) → is_held (marks' u) ≡ true → is_held (marks u) ≡ true) → ((u : ℕ) → is_held (marks' u) ≡ true → Stands marks' now running' u) →
      ((q : Pid) (r : Row) → row_of now q ≡ Some r → (q.0 ≡ 2) ⊎ ((u : ℕ) × (is_held (marks' u) ≡ true) × (p u ≡ q.0))) →
      ((u : ℕ) → marks u ≡ Absent → marks' u ≡ Absent) → ((u : ℕ) → marks u ≢ Absent → marks' u ≢ Absent) → child_count now shell ≤ child_count rows shell →
      Core world plan marks' p n now running'
  core_after marks' now running' shell_there fewer stands known absent present few_now = record {
    shell_there = shell_there;
    held = stands;
    nobody = known;
    later = λ u l. absent u (core.later u l);
    forked = λ u l. present u (core.forked u l);
    numbers = core.numbers;
    apart = λ u v h. core.apart u v (fewer u h);
    few = (let few = core.few in omega (arith, few_now, few));
  }

  -- one stage gets another mark, with a new row, and all other rows stay
  pub core_put : (v : ℕ) (m : Mark) (now : List Row) (running' : Running) → is_held (marks v) ≡ true → is_held m ≡ true → child_count now shell ≤ child_count rows shell →
      HasStage world (p v) m (plan.status v) (group_at m (p (plan.first v))) now running' →
      ((x : Pid) → x.0 ≢ p v → row_of now x ≡ row_of rows x) → ((x : ℕ) → x ≢ 2 → running' x ≡ running x) →
      Core world plan (put_at v m marks) p n now running'
  core_put v m now running' held holds few stage elsewhere others =
      let low = core.numbers v (held_below world plan marks p n rows running sound core v held) in
      core_after (put_at v m marks) now running' (elsewhere shell (omega (arith, low)) ∙ core.shell_there) (λ u h. was u h (cases_same u v)) (λ u h. stands u h (cases_same u v)) known
      (λ u e. gone u e (cases_same u v)) (λ u e. there u e (cases_same u v)) few
    where
      was : (u : ℕ) → is_held (put_at v m marks u) ≡ true → (u ≡ v) ⊎ (u ≢ v) → is_held (marks u) ≡ true
      was u h (inl e) = subst (λ u. is_held (marks u) ≡ true) (sym e) held
      was u h (inr ne) = ap is_held (sym (put_other v u m marks ne)) ∙ h

      stands : (u : ℕ) → is_held (put_at v m marks u) ≡ true → (u ≡ v) ⊎ (u ≢ v) → Stands (put_at v m marks) now running' u
      stands u h (inl e) = subst (λ u. Stands (put_at v m marks) now running' u) (sym e) (subst (λ k. HasStage world (p v) k (plan.status v) (group_at k (p (plan.first v))) now running') (sym (put_same v m marks)) stage)
      stands u h (inr ne) =
          let held_u = was u h (inr ne) in
          let differ : p u ≢ p v = λ e. ne (one_stage world plan marks p n rows running sound core u v held_u held e) in
          let low = core.numbers u (held_below world plan marks p n rows running sound core u held_u) in
          subst (λ k. HasStage world (p u) k (plan.status u) (group_at k (p (plan.first u))) now running') (sym (put_other v u m marks ne))
          (has_same world (p u) (marks u) (plan.status u) (group_at (marks u) (p (plan.first u))) rows now running running' (elsewhere (pid (p u)) differ) (others (p u) (omega (arith, low))) (core.held u held_u))

      keeps : (u : ℕ) → is_held (marks u) ≡ true → (u ≡ v) ⊎ (u ≢ v) → is_held (put_at v m marks u) ≡ true
      keeps u h (inl e) = subst (λ u. is_held (put_at v m marks u) ≡ true) (sym e) (ap is_held (put_same v m marks) ∙ holds)
      keeps u h (inr ne) = ap is_held (put_other v u m marks ne) ∙ h

      known : (q : Pid) (r : Row) → row_of now q ≡ Some r → (q.0 ≡ 2) ⊎ ((u : ℕ) × (is_held (put_at v m marks u) ≡ true) × (p u ≡ q.0))
      known q r e = go (cases_same q.0 (p v))
        where
          old : (q.0 ≡ 2) ⊎ ((u : ℕ) × (is_held (marks u) ≡ true) × (p u ≡ q.0)) → (q.0 ≡ 2) ⊎ ((u : ℕ) × (is_held (put_at v m marks u) ≡ true) × (p u ≡ q.0))
          old (inl two) = inl two
          old (inr (u, h, is)) = inr (u, keeps u h (cases_same u v), is)

          go : (q.0 ≡ p v) ⊎ (q.0 ≢ p v) → (q.0 ≡ 2) ⊎ ((u : ℕ) × (is_held (put_at v m marks u) ≡ true) × (p u ≡ q.0))
          go (inl is) = inr (v, keeps v held (inl refl), sym is)
          go (inr ne) = old (core.nobody q r (sym (elsewhere q ne) ∙ e))

      gone : (u : ℕ) → marks u ≡ Absent → (u ≡ v) ⊎ (u ≢ v) → put_at v m marks u ≡ Absent
      gone u a (inl e) = absurd (not_absent (marks v) held (ap marks (sym e) ∙ a))
      gone u a (inr ne) = put_other v u m marks ne ∙ a

      there : (u : ℕ) → marks u ≢ Absent → (u ≡ v) ⊎ (u ≢ v) → put_at v m marks u ≢ Absent
      there u a (inl e) = λ is. not_absent m holds (sym (put_same v m marks) ∙ ap (put_at v m marks) (sym e) ∙ is)
      there u a (inr ne) = λ is. a (sym (put_other v u m marks ne) ∙ is)

  -- one stage is waited for, and its row is gone
  pub core_reap : (v : ℕ) (now : List Row) (running' : Running) → is_held (marks v) ≡ true → child_count now shell ≤ child_count rows shell → row_of now (pid (p v)) ≡ None →
      ((x : Pid) → x.0 ≢ p v → row_of now x ≡ row_of rows x) → ((x : ℕ) → x ≢ 2 → running' x ≡ running x) →
      Core world plan (put_at v Reaped marks) p n now running'
  core_reap v now running' held few none elsewhere others =
      let low = core.numbers v (held_below world plan marks p n rows running sound core v held) in
      core_after (put_at v Reaped marks) now running' (elsewhere shell (omega (arith, low)) ∙ core.shell_there) (λ u h. (was u h (cases_same u v)).0) (λ u h. stands u h) known
      (λ u e. gone u e (cases_same u v)) (λ u e. there u e (cases_same u v)) few
    where
      was : (u : ℕ) → is_held (put_at v Reaped marks u) ≡ true → (u ≡ v) ⊎ (u ≢ v) → (is_held (marks u) ≡ true) × (u ≢ v)
      was u h (inl e) = let no : is_held Reaped ≡ true = ap is_held (sym (put_same v Reaped marks) ∙ ap (put_at v Reaped marks) (sym e)) ∙ h in cc
      was u h (inr ne) = (ap is_held (sym (put_other v u Reaped marks ne)) ∙ h, ne)

      stands : (u : ℕ) → is_held (put_at v Reaped marks u) ≡ true → Stands (put_at v Reaped marks) now running' u
      stands u h =
          let k = was u h (cases_same u v) in
          let differ : p u ≢ p v = λ e. k.1 (one_stage world plan marks p n rows running sound core u v k.0 held e) in
          let low = core.numbers u (held_below world plan marks p n rows running sound core u k.0) in
          subst (λ k. HasStage world (p u) k (plan.status u) (group_at k (p (plan.first u))) now running') (sym (put_other v u Reaped marks k.1))
          (has_same world (p u) (marks u) (plan.status u) (group_at (marks u) (p (plan.first u))) rows now running running' (elsewhere (pid (p u)) differ) (others (p u) (omega (arith, low))) (core.held u k.0))

      known : (q : Pid) (r : Row) → row_of now q ≡ Some r → (q.0 ≡ 2) ⊎ ((u : ℕ) × (is_held (put_at v Reaped marks u) ≡ true) × (p u ≡ q.0))
      known q r e = go (cases_same q.0 (p v))
        where
          go : (q.0 ≡ p v) ⊎ (q.0 ≢ p v) → (q.0 ≡ 2) ⊎ ((u : ℕ) × (is_held (put_at v Reaped marks u) ≡ true) × (p u ≡ q.0))
          go (inl is) = let no : row_of now q ≡ None = ap (λ k. row_of now (pid k)) is ∙ none in cc
          go (inr ne) = elim (core.nobody q r (sym (elsewhere q ne) ∙ e)) [
            | inl two ↦ inl two
            | inr k ↦ inr (k.0, ap is_held (put_other v k.0 Reaped marks (λ is. ne (sym k.2 ∙ ap p is))) ∙ k.1, k.2)
          ]

      gone : (u : ℕ) → marks u ≡ Absent → (u ≡ v) ⊎ (u ≢ v) → put_at v Reaped marks u ≡ Absent
      gone u a (inl e) = absurd (not_absent (marks v) held (ap marks (sym e) ∙ a))
      gone u a (inr ne) = put_other v u Reaped marks ne ∙ a

      there : (u : ℕ) → marks u ≢ Absent → (u ≡ v) ⊎ (u ≢ v) → put_at v Reaped marks u ≢ Absent
      there u a (inl e) = λ is. let no : Reaped ≡ Absent = sym (put_same v Reaped marks) ∙ ap (put_at v Reaped marks) (sym e) ∙ is in cc
      there u a (inr ne) = λ is. a (sym (put_other v u Reaped marks ne) ∙ is)
