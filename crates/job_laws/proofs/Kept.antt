-- what stands after a step of a stage
use Rattle.std.proofs.Common.{◌≡◌, ◌≢◌, ◌==◌, ◌&&◌, ◌⊎◌, inl, inr, ◌<◌, ◌≤◌, ℕ, Bool, true, false, List, length, refl, sym, ap, ◌∙◌, subst, arith, Option, None, Some}
use Rattle.std.specs.Prelude.{map, filter}
use Rattle.std.proofs.lemmas.Bool.{and_parts, eqb-true, cases_lt, cases_order}
use Rattle.unix_names.specs.declared.Pid.{Pid}
use Rattle.unix_calls.specs.declared.Entry.{Entry}
use Rattle.unix_calls.specs.declared.World.{World}
use Rattle.process_table.specs.declared.Row.{Row}
use Rattle.process_table.specs.Rows.{is_parent, row_of, child_count}
use Rattle.kernel_model.specs.declared.verdict.Verdict.TheVariants.{Legal}
use Rattle.kernel_model.specs.Sound.{IsSound}
use Rattle.kernel_model.specs.Step.{process_of, verdict, after}
use Rattle.process_table.specs.Changes.{regrouped_at, leading_at}
use Rattle.proc_image.specs.Follows.{Running, after_entry}
use Rattle.list_laws.proofs.Filters.{filter-filter, filter-all, length-filter-map, some_same}
use Rattle.list_laws.proofs.Counts.{count_at_most}
use Rattle.kernel_laws.proofs.Rows.{number, distinct_from, row_pid, row_here}
use Rattle.kernel_laws.proofs.Plain.{all_stay}
use Rattle.kernel_laws.proofs.Legal.{actor, after_is}
use Rattle.kernel_laws.proofs.Forms.{Form, ForksAs, quiet, forked, regrouped, leading, step_form}
use Rattle.job_laws.specs.Orders.{Mark, Marks, is_held}
use Rattle.job_plans.specs.Plans.{Plan}
use Rattle.job_laws.specs.Forks.{shell, pid}
use Rattle.job_laws.proofs.Family.{shell_row, IsChild, IsFamily}
use Rattle.job_laws.proofs.Core.{HasStage, Core, group_at}

-- ---- children of the shell
fewer_map : (rows : List Row) (keep : Row → Bool) (f : Row → Row) → IsSound rows → ((c : Row) → is_parent shell (f c) ≡ true → is_parent shell c ≡ true) → child_count (map f (filter keep rows)) shell ≤ child_count rows shell
fewer_map rows keep f sound was =
    let count : child_count (map f (filter keep rows)) shell ≡ length (filter (λ c. keep c && is_parent shell (f c)) rows) =
    length-filter-map (is_parent shell) f (filter keep rows) ∙ ap length (filter-filter (λ c. is_parent shell (f c)) keep rows) in
    let most = count_at_most number (λ c. keep c && is_parent shell (f c)) (is_parent shell) rows (distinct_from rows sound.distinct) (λ c h e. was c (and_parts (keep c) (is_parent shell (f c)) e).1) in
    omega (arith, count, most)

-- no step but a fork gives the shell a child more
pub children_fewer : (rows : List Row) (entry : Entry) → IsSound rows → verdict rows entry ≡ Legal → ((n : ℕ) → ForksAs entry n → ⊥) → child_count (after rows entry) shell ≤ child_count rows shell
children_fewer rows entry sound legal none =
    let a = actor rows entry legal in
    subst (λ t. child_count t shell ≤ child_count rows shell) (sym (after_is rows entry a.row a.there)) (go _ (step_form rows a.row entry (row_here rows (process_of entry) a.row a.there) a.lives a.legal))
  where
    all : (f : Row → Row) → ((c : Row) → is_parent shell (f c) ≡ true → is_parent shell c ≡ true) → child_count (map f rows) shell ≤ child_count rows shell
    all f was = subst (λ t. child_count (map f t) shell ≤ child_count rows shell) (filter-all rows) (fewer_map rows all_stay f sound was)

    kept : (p c : Pid) → (p.0 ≡ 1) ⊎ (p ≡ c) → (p.0 == 2) ≡ true → (c.0 == 2) ≡ true
    kept p c (inl one) e = let two : p.0 ≡ 2 = eqb-true _ _ e in let no : ⊥ = omega (arith, one, two) in absurd no
    kept p c (inr same) e = ap (λ x. x.0 == 2) (sym same) ∙ e

    go : {r : Row} (now : List Row) → Form rows r entry now → child_count now shell ≤ child_count rows shell
    go now (quiet keep f q k e) = subst (λ t. child_count t shell ≤ child_count rows shell) (sym e) (fewer_map rows keep f sound (λ c h. kept (f c).parent c.parent (q.parent c) h))
    go now (forked n is u e) = absurd (none n is)
    go now (regrouped p g is k e) = subst (λ t. child_count t shell ≤ child_count rows shell) (sym e) (all (regrouped_at p g) (λ c h. h))
    go {r} now (leading n e) = subst (λ t. child_count t shell ≤ child_count rows shell) (sym e) (all (leading_at r.pid) (λ c h. h))

-- ---- a stage that nothing happens to
pub has_same : (world : World) (q : ℕ) (m : Mark) (e : ℕ) (g : Pid) (rows now : List Row) (running then_running : Running) → row_of now (pid q) ≡ row_of rows (pid q) → then_running q ≡ running q → HasStage world q m e g rows running → HasStage world q m e g now then_running
has_same world q m e g rows now running then_running same runs h = record {
  row = h.row;
  there = same ∙ h.there;
  child = h.child;
  group = h.group;
  at = h.at;
  runs = runs ∙ h.runs;
  script = h.script;
  state = h.state;
}

module _ (world : World) (plan : Plan) (marks : Marks) (p : ℕ → ℕ) (n : ℕ) (rows : List Row) (running : Running) (sound : IsSound rows) (core : Core world plan marks p n rows running) where
  no_system : row_of rows (pid 1) ≡ None
  no_system = go (row_of rows (pid 1)) refl
    where
      go : (o : Option Row) → row_of rows (pid 1) ≡ o → o ≡ None
      go None h = refl
      go (Some c) h = absurd ((sound.each (pid 1) c h).not_system (ap (λ q. q.0) (row_pid rows (pid 1) c h)))

  -- the shell and its children are all that there is
  pub family : IsFamily rows
  family = record {
    shell_there = core.shell_there;
    no_system = no_system;
    children = λ q c e. go q c e (core.nobody q c e);
  }
    where
      go : (q : Pid) (c : Row) → row_of rows q ≡ Some c → (q.0 ≡ 2) ⊎ ((v : ℕ) × (is_held (marks v) ≡ true) × (p v ≡ q.0)) → (c ≡ shell_row) ⊎ IsChild c
      go q c e (inl two) = inl (some_same c shell_row (sym e ∙ ap (λ m. row_of rows (pid m)) two ∙ core.shell_there))
      go q c e (inr (v, held, is)) =
          let h = core.held v held in
          inr (subst IsChild (some_same h.row c (sym h.there ∙ ap (λ m. row_of rows (pid m)) is ∙ e)) h.child)

  -- a held stage is forked
  pub held_below : (v : ℕ) → is_held (marks v) ≡ true → v < n
  held_below v held = go (cases_lt v n)
    where
      go : (v < n) ⊎ (n ≤ v) → v < n
      go (inl l) = l
      go (inr g) = let no : is_held (marks v) ≡ false = ap is_held (core.later v g) in cc

  -- held stages of one pid are one
  pub one_stage : (u v : ℕ) → is_held (marks u) ≡ true → is_held (marks v) ≡ true → p u ≡ p v → u ≡ v
  one_stage u v hu hv same = go (cases_order u v)
    where
      go : (u ≡ v) ⊎ ((u < v) ⊎ (v < u)) → u ≡ v
      go (inl e) = e
      go (inr (inl l)) = absurd (core.apart u v hu l (held_below v hv) same)
      go (inr (inr g)) = absurd (core.apart v u hv g (held_below u hu) (sym same))

  -- after an entry of the stage v
  pub core_stage : (v : ℕ) (entry : Entry) → is_held (marks v) ≡ true → verdict rows entry ≡ Legal → ((m : ℕ) → ForksAs entry m → ⊥) →
      HasStage world (p v) (marks v) (plan.status v) (group_at (marks v) (p (plan.first v))) (after rows entry) (after_entry world running entry) →
      ((x : Pid) → x.0 ≢ p v → row_of (after rows entry) x ≡ row_of rows x) → ((x : ℕ) → x ≢ p v → after_entry world running entry x ≡ running x) →
      Core world plan marks p n (after rows entry) (after_entry world running entry)
  core_stage v entry held legal no_fork stage elsewhere others =
      let low = core.numbers v (held_below v held) in
      record {
        shell_there = elsewhere shell (omega (arith, low)) ∙ core.shell_there;
        held = λ u h. at u h (cases_order u v);
        nobody = λ q r e. known q r e (cases_order q.0 (p v));
        later = core.later;
        forked = core.forked;
        numbers = core.numbers;
        apart = core.apart;
        few = (let fewer = children_fewer rows entry sound legal no_fork in let few = core.few in omega (arith, fewer, few));
      }
    where
      other : (u : ℕ) → is_held (marks u) ≡ true → u ≢ v → HasStage world (p u) (marks u) (plan.status u) (group_at (marks u) (p (plan.first u))) (after rows entry) (after_entry world running entry)
      other u h ne =
          let differ : p u ≢ p v = λ e. ne (one_stage u v h held e) in
          has_same world (p u) (marks u) (plan.status u) (group_at (marks u) (p (plan.first u))) rows (after rows entry) running (after_entry world running entry) (elsewhere (pid (p u)) differ) (others (p u) differ) (core.held u h)

      at : (u : ℕ) → is_held (marks u) ≡ true → (u ≡ v) ⊎ ((u < v) ⊎ (v < u)) → HasStage world (p u) (marks u) (plan.status u) (group_at (marks u) (p (plan.first u))) (after rows entry) (after_entry world running entry)
      at u h (inl e) = subst (λ u. HasStage world (p u) (marks u) (plan.status u) (group_at (marks u) (p (plan.first u))) (after rows entry) (after_entry world running entry)) (sym e) stage
      at u h (inr (inl l)) = other u h (omega (arith, l))
      at u h (inr (inr g)) = other u h (omega (arith, g))

      known : (q : Pid) (r : Row) → row_of (after rows entry) q ≡ Some r → (q.0 ≡ p v) ⊎ ((q.0 < p v) ⊎ (p v < q.0)) → (q.0 ≡ 2) ⊎ ((u : ℕ) × (is_held (marks u) ≡ true) × (p u ≡ q.0))
      known q r e (inl is) = inr (v, held, sym is)
      known q r e (inr (inl l)) = core.nobody q r (sym (elsewhere q (omega (arith, l))) ∙ e)
      known q r e (inr (inr g)) = core.nobody q r (sym (elsewhere q (omega (arith, g))) ∙ e)
