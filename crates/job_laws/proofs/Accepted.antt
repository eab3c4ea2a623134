-- The plan of each accepted file keeps the order of a shell.
use Rattle.std.proofs.Common.{◌≡◌, ◌≢◌, ◌==◌, ◌⊎◌, inl, inr, ◌<◌, ◌≤◌, ◌+◌, ℕ, zero, suc, true, false, List, [], ◌∷◌, ◌++◌, length, refl, sym, ap, ◌∙◌, subst, arith, length-append, Option, None, Some, slice_get}
use Rattle.std.specs.List.{flat_map}
use Rattle.std.proofs.lemmas.Bool.{eq-eqb}
use Rattle.proc_image.proofs.Fits.{All-slice_get}
use Rattle.job_laws.proofs.Family.{not_same}
use Rattle.unix_names.specs.declared.NodeId.{NodeId}
use Rattle.unix_names.specs.declared.Signal.TheVariants as signal
use Rattle.job_plans.specs.declared.Stage.{Stage}
use Rattle.job_plans.specs.declared.Job.{Job}
use Rattle.job_plans.specs.declared.JobLine.{JobLine}
use Rattle.job_plans.specs.declared.JobLine.TheVariants.{Run, Start, Stop, End, Bring}
use Rattle.job_plans.specs.declared.JobFile.{JobFile}
use Rattle.job_plans.specs.Acts.{Act, Begin, Send}
use Rattle.job_plans.specs.declared.Phase.{Phase}
use Rattle.job_plans.specs.declared.Phase.TheVariants.{Idle, Background, Done}
use Rattle.job_plans.specs.Files.{put_at, stages_in, stages_of, all_idle, AreLines, IsStage, IsJob}
use Rattle.job_plans.specs.Plans.{IsAccepted, plan_of, statuses, status_in, stages_in_all, all_stages, stages_started, begun, joined, reaped, line_acts}
use Rattle.job_laws.specs.Orders.{Marks, none_yet, marks_after, IsOrderly, IsPlan, is_held}
use Rattle.job_laws.specs.Theorem.{HasScripts, AcceptedArePlans, FilesMean}
use Rattle.job_laws.proofs.Beginning.{plans_mean}
use Rattle.job_laws.proofs.Lists.{get_append, there}
use Rattle.job_laws.proofs.Blocks.{orderly_append, done_append, marks_append, AreDone}
use Rattle.job_laws.proofs.Statuses.{is_in, placed, all_in}
use Rattle.job_laws.proofs.Firsts.{Stands, stands_first, stands_next, status_here}
use Rattle.job_laws.proofs.Lines.{plan, first, size, Between}
use Rattle.job_laws.proofs.Steps.{es, acts_for, start_done, started_is, after_start, waits_done, after_run, signal_done, after_signal, reap_done, after_reap, moved_on, is_next}
use Rattle.job_laws.proofs.Totals.{few_started}

-- ---- each stage is forked with the script of its status
module _ (file : JobFile) where
  abbrev IsScripted : Act → Type 0
  IsScripted (Begin v script node) = slice_get (es file) script ≡ Some ((plan file).status v)
  IsScripted _ = Unit {0}

  abbrev AreScripted : List Act → Type 0
  AreScripted [] = Unit {0}
  AreScripted (a ∷ acts) = IsScripted a × AreScripted acts

  scripted_append : (xs ys : List Act) → AreScripted xs → AreScripted ys → AreScripted (xs ++ ys)
  scripted_append [] ys a b = b
  scripted_append (x ∷ xs) ys a b = (a.0, scripted_append xs ys a.1 b)

  joins_scripted : (f v : ℕ) (stages : List Stage) → AreScripted (joined f v stages)
  joins_scripted f v [] = tt
  joins_scripted f v (s ∷ stages) = (tt, joins_scripted f (v + 1) stages)

  reaps_scripted : (v : ℕ) (stages : List Stage) → AreScripted (reaped v stages)
  reaps_scripted v [] = tt
  reaps_scripted v (s ∷ stages) = (tt, reaps_scripted (v + 1) stages)

  begins_scripted : (v : ℕ) (stages : List Stage) → ((i : ℕ) (stage : Stage) → slice_get stages i ≡ Some stage → (is_in stage.status (es file) ≡ true) × ((plan file).status (v + i) ≡ stage.status))
      → AreScripted (begun (es file) v stages)
  begins_scripted v [] has = tt
  begins_scripted v (s ∷ stages) has =
      let k = has 0 s refl in
      let place : v + 0 ≡ v = omega arith in (
        placed s.status (es file) k.0 ∙ ap Some (sym (sym (ap (plan file).status place) ∙ k.1)),
        (
          tt,
          begins_scripted (v + 1) stages (λ i stage e.
              let k = has (suc i) stage e in
              let place : v + suc i ≡ v + 1 + i = omega arith in
              (k.0, sym (ap (plan file).status place) ∙ k.1)),
        ),
      )

  starts_scripted : (n : ℕ) (line : JobLine) (rest : List JobLine) (j : ℕ) → Stands file n (line ∷ rest) → stages_started file.jobs line ≡ stages_of file.jobs j → first file j ≡ n → AreScripted (acts_for file j)
  starts_scripted n line rest j s is at =
      scripted_append (begun (es file) (first file j) (stages_of file.jobs j)) (joined (first file j) (first file j) (stages_of file.jobs j) ++ Send (first file j) signal.Cont ∷ [])
      (begins_scripted (first file j) (stages_of file.jobs j) has)
      (scripted_append (joined (first file j) (first file j) (stages_of file.jobs j)) (Send (first file j) signal.Cont ∷ []) (joins_scripted (first file j) (first file j) (stages_of file.jobs j)) (tt, tt))
    where
      within : (i : ℕ) (stage : Stage) (xs : List Stage) → slice_get xs i ≡ Some stage → i < length xs
      within i stage [] e = cc
      within zero stage (x ∷ xs) e = omega arith
      within (suc i) stage (x ∷ xs) e = omega (arith, within i stage xs e)

      has : (i : ℕ) (stage : Stage) → slice_get (stages_of file.jobs j) i ≡ Some stage → (is_in stage.status (es file) ≡ true) × ((plan file).status (first file j + i) ≡ stage.status)
      has i stage e =
          let e' : slice_get (stages_started file.jobs line) i ≡ Some stage = ap (λ (xs : List Stage). slice_get xs i) is ∙ e in
          let k = status_here file n line rest s i stage e' (within i stage (stages_started file.jobs line) e') in
          (all_in (stages_in_all file) [] (n + i) stage k.0, ap (λ x. (plan file).status (x + i)) at ∙ k.1)

  scripted_at : (acts : List Act) → AreScripted acts → (k v script : ℕ) (node : NodeId) → slice_get acts k ≡ Some (Begin v script node) → slice_get (es file) script ≡ Some ((plan file).status v)
  scripted_at [] all k v script node e = cc
  scripted_at (a ∷ acts) all zero v script node e = let same : a ≡ Begin v script node = cc in subst IsScripted same all.0
  scripted_at (a ∷ acts) all (suc k) v script node e = scripted_at acts all.1 k v script node e

  -- ---- line by line
  other : (i j : ℕ) → i ≢ j → (j == i) ≡ false
  other i j ne = not_same j i (λ e. ne (sym e))

  abbrev acts_from : List JobLine → List Act
  acts_from lines = flat_map (line_acts file.jobs (es file) (first file)) lines

  module _ (some : (j : ℕ) → j < length file.jobs → 1 ≤ size file j) where
    go : (lines : List JobLine) (phase : ℕ → Phase) (n : ℕ) (marks : Marks) → AreLines (length file.jobs) phase lines → Between file phase n lines marks → Stands file n lines
        → IsOrderly (plan file) (acts_from lines) marks × AreScripted (acts_from lines)
    go [] phase n marks are b s =
        let all = ap length s.stages ∙ length-append s.ahead [] ∙ ap (λ k. k + 0) s.ahead_is in
        (λ u l. b.loosed u (omega (arith, l, all)), tt)
    go (Run j ∷ lines) phase n marks are b s =
        let line = Run j in
        let own = eq-eqb j j refl in
        let foreign = λ (i : ℕ) (ne : i ≢ j). other i j ne in
        let f = first file j in
        let stages = stages_of file.jobs j in
        let is = started_is file phase n line lines marks j b s refl are.1 own foreign (some j are.0) in
        let waits = waits_done file phase n line lines marks j b s refl are.1 own foreign (some j are.0) in
        let after = after_run file phase n line lines marks j b s refl are.1 own foreign (some j are.0) in
        let same = marks_append (plan file) (acts_for file j) (reaped f stages) marks ∙ ap (marks_after (plan file) (reaped f stages)) is in
        let rest = go lines (put_at j Done phase) (n + length (stages_started file.jobs line)) _ are.2 after (stands_next file n line lines s) in (
          orderly_append (plan file) (acts_for file j ++ reaped f stages) (acts_from lines) marks
              (done_append (plan file) (acts_for file j) (reaped f stages) marks (start_done file phase n line lines marks j b s refl are.1 own foreign (some j are.0)) (subst (AreDone (plan file) (reaped f stages)) (sym is) waits))
              (subst (IsOrderly (plan file) (acts_from lines)) (sym same) rest.0),
          scripted_append (acts_for file j ++ reaped f stages) (acts_from lines)
              (scripted_append (acts_for file j) (reaped f stages) (starts_scripted n line lines j s refl (is_next file phase n line lines marks j b s refl are.1 own foreign (some j are.0))) (reaps_scripted f stages))
              rest.1,
        )
    go (Start j ∷ lines) phase n marks are b s =
        let line = Start j in
        let own = eq-eqb j j refl in
        let foreign = λ (i : ℕ) (ne : i ≢ j). other i j ne in
        let is = started_is file phase n line lines marks j b s refl are.1 own foreign (some j are.0) in
        let after = after_start file phase n line lines marks j b s refl are.1 own foreign (some j are.0) in
        let rest = go lines (put_at j Background phase) (n + length (stages_started file.jobs line)) _ are.2 after (stands_next file n line lines s) in (
          orderly_append (plan file) (acts_for file j) (acts_from lines) marks (start_done file phase n line lines marks j b s refl are.1 own foreign (some j are.0)) (subst (IsOrderly (plan file) (acts_from lines)) (sym is) rest.0),
          scripted_append (acts_for file j) (acts_from lines) (starts_scripted n line lines j s refl (is_next file phase n line lines marks j b s refl are.1 own foreign (some j are.0))) rest.1,
        )
    go (Stop j ∷ lines) phase n marks are b s =
        let line = Stop j in
        let k = after_signal file phase n (line ∷ lines) marks j b are.1 signal.Stop (inl refl) in
        let rest = go lines phase (n + length (stages_started file.jobs line)) _ are.2 (moved_on file phase n line lines _ refl (λ i. refl) k) (stands_next file n line lines s) in
        ((signal_done file phase n (line ∷ lines) marks j b are.1 signal.Stop (inl refl), rest.0), (tt, rest.1))
    go (End j ∷ lines) phase n marks are b s =
        let line = End j in
        let k = after_signal file phase n (line ∷ lines) marks j b are.1 signal.Term (inr (inr refl)) in
        let l = after_signal file phase n (line ∷ lines) _ j k are.1 signal.Cont (inr (inl refl)) in
        let rest = go lines phase (n + length (stages_started file.jobs line)) _ are.2 (moved_on file phase n line lines _ refl (λ i. refl) l) (stands_next file n line lines s) in
        ((signal_done file phase n (line ∷ lines) marks j b are.1 signal.Term (inr (inr refl)), (signal_done file phase n (line ∷ lines) _ j k are.1 signal.Cont (inr (inl refl)), rest.0)), (tt, (tt, rest.1)))
    go (Bring j ∷ lines) phase n marks are b s =
        let line = Bring j in
        let f = first file j in
        let stages = stages_of file.jobs j in
        let k = after_signal file phase n (line ∷ lines) marks j b are.1 signal.Cont (inr (inl refl)) in
        let l = after_reap file phase n (line ∷ lines) _ j k are.1 in
        let rest = go lines (put_at j Done phase) (n + length (stages_started file.jobs line)) _ are.2 (moved_on file (put_at j Done phase) n line lines _ refl (λ i. refl) l) (stands_next file n line lines s) in (
          (
            signal_done file phase n (line ∷ lines) marks j b are.1 signal.Cont (inr (inl refl)),
            orderly_append (plan file) (reaped f stages) (acts_from lines) _ (reap_done file phase n (line ∷ lines) _ j k are.1) rest.0,
          ),
          (tt, scripted_append (reaped f stages) (acts_from lines) (reaps_scripted f stages) rest.1),
        )

  none_held : (u : ℕ) → is_held (none_yet u) ≡ true → ⊥
  none_held u h = cc

  begins : Between file all_idle 0 file.lines none_yet
  begins = record {
    fresh = λ j e. refl;
    few = omega arith;
    absent = λ u l. refl;
    loosed = λ u l. let no : ⊥ = omega (arith, l) in absurd no;
    block = λ j e. let no : Idle ≡ Background = e in cc;
    going = λ j e. let no : Idle ≡ Background = e in cc;
    held = λ u h. absurd (none_held u h);
    apart = λ i j e f. let no : Idle ≡ Background = e in cc;
  }

  -- ---- the whole
  module _ (accepted : IsAccepted file) where
    is_job : (j : ℕ) (job : Job) → slice_get file.jobs j ≡ Some job → IsJob file.nodes job
    is_job j job e = All-slice_get (IsJob file.nodes) file.jobs j job accepted.jobs e

    has_some : (j : ℕ) → j < length file.jobs → 1 ≤ size file j
    has_some j l =
        let k = there file.jobs j l in
        subst (λ (o : Option Job). 1 ≤ length (stages_in o)) (sym k.1) (is_job j k.0 k.1).some

    is_stage : (j i : ℕ) (stage : Stage) → slice_get (stages_of file.jobs j) i ≡ Some stage → IsStage file.nodes stage
    is_stage j i stage e = in_job (slice_get file.jobs j) refl e
      where
        in_job : (o : Option Job) → slice_get file.jobs j ≡ o → slice_get (stages_in o) i ≡ Some stage → IsStage file.nodes stage
        in_job None h e = cc
        in_job (Some job) h e = All-slice_get (IsStage file.nodes) job.stages i stage (is_job j job h).stages e

    in_line : (line : JobLine) (i : ℕ) (stage : Stage) → slice_get (stages_started file.jobs line) i ≡ Some stage → IsStage file.nodes stage
    in_line (Run j) i stage e = is_stage j i stage e
    in_line (Start j) i stage e = is_stage j i stage e
    in_line (Stop j) i stage e = cc
    in_line (End j) i stage e = cc
    in_line (Bring j) i stage e = cc

    -- each stage that is started ends with a status below 256, at a node of the cluster
    pub are_stages : (lines : List JobLine) (i : ℕ) (stage : Stage) → slice_get (all_stages file.jobs lines) i ≡ Some stage → IsStage file.nodes stage
    are_stages [] i stage e = cc
    are_stages (line ∷ lines) i stage e = part (λ k h. are_stages lines k stage h) (get_append (stages_started file.jobs line) (all_stages file.jobs lines) i stage e)
      where
        part : ((k : ℕ) → slice_get (all_stages file.jobs lines) k ≡ Some stage → IsStage file.nodes stage)
            → ((i < length (stages_started file.jobs line)) × (slice_get (stages_started file.jobs line) i ≡ Some stage)) ⊎ ((k : ℕ) × (i ≡ length (stages_started file.jobs line) + k) × (slice_get (all_stages file.jobs lines) k ≡ Some stage)) → IsStage file.nodes stage
        part more (inl h) = in_line line i stage h.1
        part more (inr h) = more h.0 h.2

    pub few_stages : length (stages_in_all file) ≤ 63
    few_stages = omega (arith, few_started file.jobs file.lines accepted.lines, accepted.few)

    pub is_plan : IsPlan (plan_of file)
    is_plan = record {
      few = few_stages;
      statuses = λ v l.
          let k = there (stages_in_all file) v l in
          subst (λ n. n < 256) (sym (ap status_in k.1)) (are_stages file.lines v k.0 k.1).0;
      orderly = (go has_some file.lines all_idle 0 none_yet accepted.lines begins (stands_first file)).0;
    }

    pub has_scripts : HasScripts (statuses file) (plan_of file)
    has_scripts = scripted_at (acts_from file.lines) (go has_some file.lines all_idle 0 none_yet accepted.lines begins (stands_first file)).1

pub accepted_are_plans : AcceptedArePlans
accepted_are_plans file accepted = (is_plan file accepted, has_scripts file accepted)

pub files_mean : FilesMean
files_mean file history accepted valid legal follows =
    plans_mean file.nodes (statuses file) (plan_of file) history (is_plan file accepted) (has_scripts file accepted) valid legal follows
