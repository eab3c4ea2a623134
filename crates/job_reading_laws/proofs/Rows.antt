-- What a line says behind lines that were read without a fault, or what is wrong with it.
use Rattle.std.proofs.Common.{◌≡◌, ◌≢◌, ◌⊎◌, inl, inr, ◌<◌, ◌≤◌, ◌+◌, ℕ, true, false, List, [], ◌∷◌, ◌++◌, length, refl, sym, ap, ◌∙◌, subst, arith, Option, None, Some, Result, codes, ltb, leb, All, Contains, ◌==◌, ◌||◌, ◌&&◌}
use Rattle.std.specs.List.{AllZip}
use Rattle.std.proofs.lemmas.Bool.{cond_both, cond-true, ltb-true, ltb-false, leb-true, leb-false, eqb-true, or_parts, or_cases, and_parts, and_cases}
use Rattle.std.proofs.lemmas.List.Elements.{All-nil, All-cons}
use Rattle.byte_ends.specs.Text.{IsNumber}
use Rattle.unix_calls.specs.declared.limits.TheConstants.{MOST_NODES, MOST_STATEMENTS}
use Rattle.script_words.specs.Words.{Word, Row, is_same, is_skipped}
use Rattle.script_laws.specs.Grammar.{IsName, IsFor, IsCalled, AreNames}
use Rattle.script_laws.proofs.Words.{same_words}
use Rattle.fault_laws.proofs.Words.{differ}
use Rattle.job_plans.specs.declared.Stage.{Stage}
use Rattle.job_plans.specs.declared.Job.{Job}
use Rattle.job_plans.specs.declared.JobLine.{JobLine}
use Rattle.job_plans.specs.declared.JobLine.TheVariants.{Run, Start, Stop, End, Bring}
use Rattle.job_plans.specs.declared.limits.TheConstants.{MOST_STAGES, MOST_STAGES_IN_ALL}
use Rattle.job_plans.specs.Files.{total, job_of, all_idle, IsInPhase, AreLines, IsStage, IsJob}
use Rattle.job_plans.specs.Plans.{statuses, first_of}
use Rattle.job_files.specs.declared.faults.JobKind.{JobKind}
use Rattle.job_files.specs.declared.faults.JobKind.TheVariants.{NoClusterLine, BadNumber, TooManyNodes, UnknownWord, DoubleName, TooManyStages, UnknownJob, TooManyStatements}
use Rattle.job_files.specs.declared.drafts.Item.{Item}
use Rattle.job_files.specs.declared.drafts.Item.TheVariants as item
use Rattle.job_files.specs.declared.drafts.Draft.{Draft}
use Rattle.job_files.specs.MethodReading.{◌>>=◌, number_in, cluster_row, name, number_of, new_name, fresh_name, job_stages, job_row, stage, stages, line_named, known, phase_of, fits, step_count, told, told_line, told_row, is_named, words_row, row_says, file_of, first_draft}
use Rattle.job_reading_laws.specs.Grammar.{SpellsStage, verb_of}
use Rattle.job_reading_laws.specs.Faults.{IsNoName, IsStageWord, IsNoStage, HasNoStage, IsTotal, IsNoCluster, IsWrongFirst, AreTooMany, IsNoPipeline, IsNoJob, after_lines, IsUntimely, IsTooLong, IsNoLine, IsNoTelling, IsVerb, IsWrong}
use Rattle.fault_laws.proofs.Tells.{Tells, tells_ok, tells_err, tells_choice, tells_weaker}
use Rattle.job_reading_laws.proofs.Results.{tells_next}
use Rattle.job_reading_laws.proofs.Words.{number_told, stage_told, name_told, called, uncalled, contained}
use Rattle.job_reading_laws.proofs.Phases.{line_fits}
use Rattle.job_reading_laws.proofs.Steps.{step_total, steps_push, acts_many}

-- what the lines so far say, where the first has told the nodes
pub record IsSound (draft : Draft) : Type 0 where
  pub begun : draft.begun ≡ true
  pub some_node : 1 ≤ draft.nodes
  pub nodes : draft.nodes ≤ MOST_NODES
  pub jobs : All (IsJob draft.nodes) draft.jobs
  pub are_names : AreNames draft.names
  pub names : length draft.names ≡ length draft.jobs
  pub stages : draft.stages ≡ total draft.jobs
  pub few : draft.stages ≤ MOST_STAGES_IN_ALL
  pub lines : AreLines (length draft.jobs) all_idle draft.lines
  pub steps : draft.steps ≡ step_total draft.jobs draft.lines
  pub short : draft.steps ≤ MOST_STATEMENTS

-- a line of a new job, within the limits
pub record MayAdd (draft : Draft) (row : Row) (job : Job) : Type 0 where
  pub name : Word
  pub stages : Row
  pub is : row ≡ codes "job" ∷ name ∷ stages
  pub named : IsName name
  pub fresh : ¬ Contains draft.names name
  pub spelled : AllZip SpellsStage stages job.stages
  pub fine : IsJob draft.nodes job
  pub few : draft.stages + length job.stages ≤ MOST_STAGES_IN_ALL

-- a line of a job that is known, which is so far, within the limit
pub record MayTell (draft : Draft) (row : Row) (line : JobLine) : Type 0 where
  pub name : Word
  pub is : row ≡ verb_of line ∷ name ∷ []
  pub known : IsCalled draft.names name (job_of line)
  pub timely : IsInPhase (after_lines draft.lines all_idle) line
  pub short : draft.steps + step_count draft.jobs line ≤ MOST_STATEMENTS

-- what may come behind such lines
abbrev pub MaySay : Draft → Row → Item → Type 0
MaySay draft row item.Nothing = is_skipped row ≡ true
MaySay draft row (item.Nodes n) = ⊥
MaySay draft row (item.Job job) = MayAdd draft row job
MaySay draft row (item.Tells line) = MayTell draft row line

-- ---- stages
stages_told : (nodes : ℕ) (ws : Row) → Tells (stages nodes ws) (λ ss. AllZip SpellsStage ws ss × All (IsStage nodes) ss × All (IsStageWord nodes) ws) (HasNoStage nodes ws)
stages_told nodes [] = tells_ok [] _ _ (tt, All-nil (IsStage nodes), All-nil (IsStageWord nodes))
stages_told nodes (w ∷ ws) =
    tells_next (stage nodes w) _ (λ s. SpellsStage w s × IsStage nodes s) (IsNoStage nodes w) _ _ (stage_told nodes w)
    (λ s _ h. tells_next (stages nodes ws) _ (λ ss. AllZip SpellsStage ws ss × All (IsStage nodes) ss × All (IsStageWord nodes) ws) (HasNoStage nodes ws) _ _ (stages_told nodes ws)
    (λ ss _ g. tells_ok (s ∷ ss) _ _ ((h.0, g.0), All-cons (IsStage nodes) s ss h.1 g.1, All-cons (IsStageWord nodes) w ws (s, h.0, h.1) g.2))
    (λ k g. inr ((s, h.0, h.1), g)))
    (λ k h. inl h)

pub as_many : (ws : Row) (ss : List Stage) → AllZip SpellsStage ws ss → length ws ≡ length ss
as_many [] [] z = refl
as_many [] (s ∷ ss) z = absurd z
as_many (w ∷ ws) [] z = absurd z
as_many (w ∷ ws) (s ∷ ss) z = let rest = as_many ws ss z.1 in omega (arith, rest)

-- ---- whether there are words more
no_more : (r : Row) → (length r == 0) ≡ true → r ≡ []
no_more [] e = refl
no_more (x ∷ r) e = let no : ◌≡◌ {A = ℕ} (length (x ∷ r)) 0 = eqb-true (length (x ∷ r)) 0 e in let never : ⊥ = omega (arith, no) in absurd never

pub not_none : (w : Word) (ws : Row) → (length (w ∷ ws) == 0) ≡ true → ⊥
not_none w ws e = let no : ◌≡◌ {A = ℕ} (length (w ∷ ws)) 0 = eqb-true (length (w ∷ ws)) 0 e in omega (arith, no)

some_more : (r : Row) → (length r == 0) ≡ false → r ≢ []
some_more r e z = let no : (length r == 0) ≡ true = ap (λ (x : Row). length x == 0) z in cc

-- ---- the line of the cluster
cluster_told : (row : Row) → Tells (cluster_row row) (λ it. (n : ℕ) × (word : Word) × (row ≡ word ∷ []) × IsFor word n × IsTotal n × (it ≡ item.Nodes n)) (IsNoCluster row)
cluster_told [] = tells_err UnknownWord _ _ refl
cluster_told (w ∷ more) =
    tells_next (number_in w) _ (λ n. IsFor w n) (λ k. (k ≡ BadNumber) × ¬ IsNumber w) _ _ (number_told w)
    (λ n _ f. tells_choice (leb 1 n && leb n MOST_NODES) _ _ _ _
    (λ e. let p = and_parts (leb 1 n) (leb n MOST_NODES) e in
    let total : IsTotal n = (leb-true 1 n p.0, leb-true n MOST_NODES p.1) in
    tells_choice (length more == 0) _ _ _ _
    (λ z. tells_ok (item.Nodes n) _ _ (n, w, ap (λ (r : Row). w ∷ r) (no_more more z), f, total, refl))
    (λ z. tells_err UnknownWord _ _ (inr (inr (refl, f.0, subst IsTotal (sym f.1) total, some_more more z)))))
    (λ e. tells_err TooManyNodes _ _ (inr (inl (refl, f.0, λ t. out n (subst IsTotal f.1 t) e)))))
    (λ k h. inl h)
  where
    out : (n : ℕ) → IsTotal n → (leb 1 n && leb n MOST_NODES) ≡ false → ⊥
    out n t e = elim (and_cases (leb 1 n) (leb n MOST_NODES) e) [ inl x ↦ (let l = leb-false 1 n x in let m = t.0 in omega (arith, l, m)) | inr x ↦ (let l = leb-false n MOST_NODES x in let m = t.1 in omega (arith, l, m)) ]

-- ---- the line of a job, and a line of the shell
-- the line of a word and a job
abbrev pub IsOf : Word → ℕ → Option JobLine → Type 0
IsOf w j None = ¬ IsVerb w
IsOf w j (Some line) = (w ≡ verb_of line) × (job_of line ≡ j)

pub named_of : (w : Word) (j : ℕ) → IsOf w j (line_named w j)
named_of w j =
    cond_both (is_same w (codes "run")) _ _ (IsOf w j) (λ e. (same_words w (codes "run") e, refl)) (λ a.
    cond_both (is_same w (codes "start")) _ _ (IsOf w j) (λ e. (same_words w (codes "start") e, refl)) (λ b.
    cond_both (is_same w (codes "stop")) _ _ (IsOf w j) (λ e. (same_words w (codes "stop") e, refl)) (λ c.
    cond_both (is_same w (codes "end")) _ _ (IsOf w j) (λ e. (same_words w (codes "end") e, refl)) (λ d.
    cond_both (is_same w (codes "bring")) _ _ (IsOf w j) (λ e. (same_words w (codes "bring") e, refl)) (λ f. none a b c d f)))))
  where
    none : is_same w (codes "run") ≡ false → is_same w (codes "start") ≡ false → is_same w (codes "stop") ≡ false → is_same w (codes "end") ≡ false → is_same w (codes "bring") ≡ false → ¬ IsVerb w
    none a b c d f (Run i, e) = differ w (codes "run") a e
    none a b c d f (Start i, e) = differ w (codes "start") b e
    none a b c d f (Stop i, e) = differ w (codes "stop") c e
    none a b c d f (End i, e) = differ w (codes "end") d e
    none a b c d f (Bring i, e) = differ w (codes "bring") f e

module _ (draft : Draft) (sound : IsSound draft) where
  pipeline_told : (ws : Row) → Tells (job_stages draft ws)
      (λ it. (job : Job) × (it ≡ item.Job job) × AllZip SpellsStage ws job.stages × IsJob draft.nodes job × (draft.stages + length job.stages ≤ MOST_STAGES_IN_ALL)) (IsNoPipeline (file_of draft) ws)
  pipeline_told [] = tells_err UnknownWord _ _ refl
  pipeline_told (w ∷ ws) =
      tells_choice (length (w ∷ ws) == 0) _ _ _ _ (λ z. absurd (not_none w ws z)) (λ z.
      tells_next (stages draft.nodes (w ∷ ws)) _ (λ ss. AllZip SpellsStage (w ∷ ws) ss × All (IsStage draft.nodes) ss × All (IsStageWord draft.nodes) (w ∷ ws)) (HasNoStage draft.nodes (w ∷ ws)) _ _ (stages_told draft.nodes (w ∷ ws))
      (λ ss _ h.
      let many = as_many (w ∷ ws) ss h.0 in
      tells_choice (ltb MOST_STAGES (length ss) || ltb MOST_STAGES_IN_ALL (draft.stages + length ss)) _ _ _ _
      (λ e. tells_err TooManyStages _ _ (inr (refl, h.2, too_many ss many (or_cases (ltb MOST_STAGES (length ss)) (ltb MOST_STAGES_IN_ALL (draft.stages + length ss)) e))))
      (λ e. let few = or_parts (ltb MOST_STAGES (length ss)) (ltb MOST_STAGES_IN_ALL (draft.stages + length ss)) e in
      tells_ok _ _ _ (record { stages = ss }, refl, h.0, record { some = omega (arith, many); few = ltb-false MOST_STAGES (length ss) few.0; stages = h.1 }, ltb-false MOST_STAGES_IN_ALL (draft.stages + length ss) few.1)))
      (λ k h. inl h))
    where
      too_many : (ss : List Stage) → length (w ∷ ws) ≡ length ss → (ltb MOST_STAGES (length ss) ≡ true) ⊎ (ltb MOST_STAGES_IN_ALL (draft.stages + length ss) ≡ true) → AreTooMany (file_of draft) (length (w ∷ ws))
      too_many ss many (inl e) = let l = ltb-true MOST_STAGES (length ss) e in inl (omega (arith, l, many))
      too_many ss many (inr e) = let l = ltb-true MOST_STAGES_IN_ALL (draft.stages + length ss) e in let t = sound.stages in inr (omega (arith, l, many, t))

  abbrev JobItem : Row → Item → Type 0
  JobItem rest it = (job : Job) × (it ≡ item.Job job) × MayAdd draft (codes "job" ∷ rest) job

  fresh_told : (w : Word) → Tells (fresh_name draft.names w) (λ u. IsName w × ¬ Contains draft.names w) (λ k. IsNoName w k ⊎ ((k ≡ DoubleName) × IsName w × Contains draft.names w))
  fresh_told w =
      tells_next (name w) _ (λ u. IsName w) (IsNoName w) _ _ (name_told w) (λ u _ n. go n (number_of draft.names w) refl) (λ k h. inl h)
    where
      go : IsName w → (o : Option ℕ) → number_of draft.names w ≡ o → Tells (new_name o) (λ u. IsName w × ¬ Contains draft.names w) (λ k. IsNoName w k ⊎ ((k ≡ DoubleName) × IsName w × Contains draft.names w))
      go n None e = tells_ok tt _ _ (n, uncalled draft.names w e)
      go n (Some j) e = tells_err DoubleName _ _ (inr (refl, n, contained draft.names w j (called draft.names w j e)))

  job_told : (rest : Row) → Tells (job_row draft rest) (JobItem rest) (IsNoJob draft.names (file_of draft) rest)
  job_told [] = tells_err UnknownWord _ _ refl
  job_told (w ∷ ws) =
      tells_next (fresh_name draft.names w) _ (λ u. IsName w × ¬ Contains draft.names w) (λ k. IsNoName w k ⊎ ((k ≡ DoubleName) × IsName w × Contains draft.names w)) _ _ (fresh_told w)
      (λ u _ n. tells_weaker (job_stages draft ws) _ _ _ _ (pipeline_told ws)
      (λ it h. (h.0, h.1, record { name = w; stages = ws; is = refl; named = n.0; fresh = n.1; spelled = h.2; fine = h.3; few = h.4 }))
      (λ k h. inr (inr (n.0, n.1, h))))
      (λ k h. elim h [ inl x ↦ inl x | inr x ↦ inr (inl x) ])

  -- ---- a line of the shell
  abbrev LineItem : Word → Row → Item → Type 0
  LineItem verb rest it = (line : JobLine) × (it ≡ item.Tells line) × MayTell draft (verb ∷ rest) line

  line_told : (verb w : Word) (line : JobLine) (more : Row) → verb ≡ verb_of line → IsCalled draft.names w (job_of line)
      → Tells (told draft line (length more)) (LineItem verb (w ∷ more)) (IsNoLine (file_of draft) line more)
  line_told verb w line more is known =
      tells_next (fits (phase_of (job_of line) draft.lines) line) _ (λ u. IsInPhase (after_lines draft.lines all_idle) line) (IsUntimely (after_lines draft.lines all_idle) line) _ _ (line_fits draft.lines line)
      (λ u _ timely. tells_choice (length more == 0) _ _ _ _
      (λ z. tells_choice (ltb MOST_STATEMENTS (draft.steps + step_count draft.jobs line)) _ _ _ _
      (λ e. tells_err TooManyStatements _ _ (inr (timely, inr (refl, no_more more z, too_long (ltb-true MOST_STATEMENTS (draft.steps + step_count draft.jobs line) e)))))
      (λ e. tells_ok (item.Tells line) _ _ (
        line,
        refl,
        record {
          name = w;
          is = ap (λ (v : Word). v ∷ w ∷ more) is ∙ ap (λ (r : Row). verb_of line ∷ w ∷ r) (no_more more z);
          known = known;
          timely = timely;
          short = ltb-false MOST_STATEMENTS (draft.steps + step_count draft.jobs line) e;
        },
      )))
      (λ z. tells_err UnknownWord _ _ (inr (timely, inl (refl, some_more more z)))))
      (λ k h. inl h)
    where
      too_long : MOST_STATEMENTS < draft.steps + step_count draft.jobs line → IsTooLong (file_of draft) line
      too_long l =
          let many = acts_many draft.jobs (statuses (record (file_of draft) { lines = draft.lines ++ line ∷ [] })) (first_of (record (file_of draft) { lines = draft.lines ++ line ∷ [] })) (draft.lines ++ line ∷ []) in
          let push = steps_push draft.jobs draft.lines line in
          let steps = sound.steps in
          omega (arith, l, many, push, steps)

  tell_told : (verb : Word) (rest : Row) → IsVerb verb → Tells (told_row draft verb rest) (LineItem verb rest) (IsNoTelling draft.names (file_of draft) verb rest)
  tell_told verb [] v = tells_err UnknownWord _ _ refl
  tell_told verb (w ∷ more) v =
      tells_next (name w) _ (λ u. IsName w) (IsNoName w) _ _ (name_told w) (λ u _ n. go n (number_of draft.names w) refl) (λ k h. inl h)
    where
      of_line : IsName w → (j : ℕ) → IsCalled draft.names w j → (o : Option JobLine) → IsOf verb j o → Tells (told_line draft o (length more)) (LineItem verb (w ∷ more)) (IsNoTelling draft.names (file_of draft) verb (w ∷ more))
      of_line n j known None is = absurd (is v)
      of_line n j known (Some line) is =
          let called : IsCalled draft.names w (job_of line) = subst (IsCalled draft.names w) (sym is.1) known in
          tells_weaker (told draft line (length more)) _ _ _ _ (line_told verb w line more is.0 called) (λ it h. h) (λ k h. inr (inr (line, is.0, n, called, h)))

      go : IsName w → (o : Option ℕ) → number_of draft.names w ≡ o
          → Tells (known o >>= λ j. told_line draft (line_named verb j) (length more)) (LineItem verb (w ∷ more)) (IsNoTelling draft.names (file_of draft) verb (w ∷ more))
      go n None e = tells_err UnknownJob _ _ (inr (inl (refl, n, uncalled draft.names w e)))
      go n (Some j) e = of_line n j (called draft.names w j e) (line_named verb j) (named_of verb j)

  -- ---- any line
  said_job : (first : Word) (rest : Row) (it : Item) → first ≡ codes "job" → JobItem rest it → MaySay draft (first ∷ rest) it
  said_job first rest it is h = subst (MaySay draft (first ∷ rest)) (sym h.1) (subst (λ (f : Word). MayAdd draft (f ∷ rest) h.0) (sym is) h.2)

  said_line : (first : Word) (rest : Row) (it : Item) → LineItem first rest it → MaySay draft (first ∷ rest) it
  said_line first rest it h = subst (MaySay draft (first ∷ rest)) (sym h.1) h.2

  pub verb_or : (first : Word) → (is_named (line_named first 0) ≡ true → IsVerb first) × (is_named (line_named first 0) ≡ false → ¬ IsVerb first)
  verb_or first = go (line_named first 0) (named_of first 0)
    where
      go : (o : Option JobLine) → IsOf first 0 o → (is_named o ≡ true → IsVerb first) × (is_named o ≡ false → ¬ IsVerb first)
      go None is = (λ e. cc, λ e. is)
      go (Some line) is = (λ e. (line, is.0), λ e. cc)

  words_told : (first : Word) (rest : Row) → is_skipped (first ∷ rest) ≡ false → Tells (words_row draft first rest) (MaySay draft (first ∷ rest)) (IsWrong draft.names (file_of draft) (first ∷ rest))
  words_told first rest says =
      subst (λ (r : Result Item JobKind). Tells r (MaySay draft (first ∷ rest)) (IsWrong draft.names (file_of draft) (first ∷ rest))) (sym (cond-true draft.begun _ _ sound.begun))
      (tells_choice (is_same first (codes "job")) _ _ _ _
      (λ e. tells_weaker (job_row draft rest) _ _ _ _ (job_told rest) (λ it h. said_job first rest it (same_words first (codes "job") e) h) (λ k h. (says, inr (inl (same_words first (codes "job") e, h)))))
      (λ e. tells_choice (is_named (line_named first 0)) _ _ _ _
      (λ v. tells_weaker (told_row draft first rest) _ _ _ _ (tell_told first rest ((verb_or first).0 v)) (λ it h. said_line first rest it h) (λ k h. (says, inr (inr ((verb_or first).0 v, h)))))
      (λ v. tells_err UnknownWord _ _ (says, inl (refl, differ first (codes "job") e, (verb_or first).1 v)))))

  pub row_told : (row : Row) → Tells (row_says draft row) (MaySay draft row) (IsWrong draft.names (file_of draft) row)
  unfolding is_skipped
  row_told [] = tells_ok item.Nothing _ _ refl
  row_told (first ∷ rest) = tells_choice (is_skipped (first ∷ rest)) _ _ _ _ (λ e. tells_ok item.Nothing _ _ e) (λ e. words_told first rest e)

-- ---- the first line that says something
abbrev pub FirstItem : Row → Item → Type 0
FirstItem row it = ((is_skipped row ≡ true) × (it ≡ item.Nothing)) ⊎ ((n : ℕ) × (word : Word) × (row ≡ codes "cluster" ∷ word ∷ []) × IsFor word n × IsTotal n × (it ≡ item.Nodes n))

cluster_first : (first : Word) (rest : Row) → is_skipped (first ∷ rest) ≡ false → Tells (words_row first_draft first rest) (FirstItem (first ∷ rest)) (IsWrongFirst (first ∷ rest))
cluster_first first rest says =
    tells_choice (is_same first (codes "cluster")) _ _ _ _
    (λ e. tells_weaker (cluster_row rest) _ _ _ _ (cluster_told rest)
    (λ it h. inr (h.0, h.1, ap (λ (f : Word). f ∷ rest) (same_words first (codes "cluster") e) ∙ ap (λ (r : Row). codes "cluster" ∷ r) h.2, h.3, h.4, h.5))
    (λ k h. (says, inr (same_words first (codes "cluster") e, h))))
    (λ e. tells_err NoClusterLine _ _ (says, inl (refl, differ first (codes "cluster") e)))

pub first_told : (row : Row) → Tells (row_says first_draft row) (FirstItem row) (IsWrongFirst row)
unfolding is_skipped
first_told [] = tells_ok item.Nothing _ _ (inl (refl, refl))
first_told (first ∷ rest) = tells_choice (is_skipped (first ∷ rest)) _ _ _ _ (λ e. tells_ok item.Nothing _ _ (inl (e, refl))) (λ e. cluster_first first rest e)
