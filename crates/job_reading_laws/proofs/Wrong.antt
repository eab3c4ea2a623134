-- A wrong line is refused, for what is wrong with it.
use Rattle.std.proofs.Common.{◌≡◌, ◌≢◌, ◌⊎◌, inl, inr, ◌<◌, ◌≤◌, ◌+◌, ℕ, suc, true, false, cond, not, List, [], ◌∷◌, ◌++◌, length, refl, sym, ap, ◌∙◌, arith, Some, Result, Ok, Err, codes, ltb, leb, All, ◌==◌, ◌||◌, ◌&&◌, get_or, nat_le}
use Rattle.std.specs.Str.Parse.{digits_value}
use Rattle.std.proofs.lemmas.Bool.{cases_Bool, cond-true, lt-ltb, le-ltb, le-leb, lt-leb, ne_eqb, or_left, or_right, and_left, and_right, leb-true}
use Rattle.std.proofs.lemmas.Option.{slice_get-get_or}
use Rattle.std.proofs.lemmas.List.Elements.{All-head, All-tail}
use Rattle.byte_ends.specs.Text.{IsNumber}
use Rattle.unix_calls.specs.declared.limits.TheConstants.{MOST_NODES, MOST_STATEMENTS}
use Rattle.script_words.specs.declared.Kind.TheVariants as script_kind
use Rattle.script_words.specs.Words.{Word, Row, is_same, is_skipped, has_name_form, is_reserved}
use Rattle.script_words.specs.Words as word
use Rattle.script_words.specs.declared.limits.TheConstants.{LONGEST_NAME}
use Rattle.script_laws.specs.Grammar.{HasNameForm, IsCalled}
use Rattle.script_laws.proofs.Reading.{not_same}
use Rattle.fault_laws.proofs.Words.{form_known, form_passes}
use Rattle.job_plans.specs.declared.Stage.{Stage}
use Rattle.job_plans.specs.declared.JobLine.{JobLine}
use Rattle.job_plans.specs.declared.JobLine.TheVariants.{Run, Start, Stop, End, Bring}
use Rattle.job_plans.specs.declared.Phase.{Phase}
use Rattle.job_plans.specs.declared.limits.TheConstants.{MOST_STAGES, MOST_STAGES_IN_ALL}
use Rattle.job_plans.specs.Files.{job_of, all_idle, IsInPhase}
use Rattle.job_plans.specs.Plans.{statuses, first_of}
use Rattle.job_files.specs.declared.faults.JobKind.{JobKind}
use Rattle.job_files.specs.declared.faults.JobKind.TheVariants.{NoClusterLine, BadNumber, NoSuchNode, UnknownWord, TooManyStages, TooManyStatements}
use Rattle.job_files.specs.declared.drafts.Item.TheVariants as item
use Rattle.job_files.specs.declared.drafts.Draft.{Draft}
use Rattle.job_files.specs.MethodReading.{◌>>=◌, as_name, name, status, node, stage_cut, stage, stages, cluster_row, number_of, new_name, counted, job_stages, job_row, line_named, known, phase_of, fits, step_count, told, told_line, told_row, is_named, words_row, row_says, file_of, first_draft}
use Rattle.job_reading_laws.specs.Grammar.{verb_of}
use Rattle.job_reading_laws.specs.Faults.{IsNoName, IsStatus, AreNoHalves, IsNoStage, IsStageWord, HasNoStage, IsNoCluster, IsWrongFirst, AreTooMany, IsNoPipeline, IsNoJob, after_lines, IsUntimely, IsTooLong, IsNoLine, IsNoTelling, IsVerb, IsWrong}
use Rattle.fault_laws.proofs.Tells.{Tells}
use Rattle.job_reading_laws.proofs.Words.{status_told, number_is, number_bad, is_at, none_there, cut_is, stage_is, name_is, no_number, number_called}
use Rattle.job_reading_laws.proofs.Phases.{line_fits, timely}
use Rattle.job_reading_laws.proofs.Steps.{steps_push, acts_many}
use Rattle.job_reading_laws.proofs.Rows.{IsSound, verb_or}
use Rattle.job_reading_laws.proofs.Complete.{fresh_is, line_words, named_is, job_words, cluster_words}

-- what cannot be read has the one fault that there is
only : {A : Type 0} (r : Result A JobKind) (P : A → Type 0) (Q : JobKind → Type 0) (kind : JobKind) → Tells r P Q → ((x : A) → P x → ⊥) → ((k : JobKind) → Q k → k ≡ kind) → r ≡ Err kind
only (Ok x) P Q kind t none one = absurd (none x (t.ok x refl))
only (Err k) P Q kind t none one = ap (λ x. Err x) (one k (t.err k refl))

-- ---- words
unformed : (w : Word) → ¬ HasNameForm w → (has_name_form w && not (is_reserved w)) ≡ false
unformed w bad = elim (cases_Bool (has_name_form w && not (is_reserved w))) [ inl e ↦ absurd (bad (form_known w e)) | inr e ↦ e ]

pub name_wrong : (w : Word) (kind : JobKind) → IsNoName w kind → name w ≡ Err kind
unfolding word.name
name_wrong w kind (inl h) = ap (λ b. as_name (cond b (cond (nat_le (length w) LONGEST_NAME) (Ok tt) (Err script_kind.LongName)) (Err script_kind.UnknownWord))) (unformed w h.1) ∙ ap (λ k. Err k) (sym h.0)
name_wrong w kind (inr h) =
    ap (λ b. as_name (cond b (cond (nat_le (length w) LONGEST_NAME) (Ok tt) (Err script_kind.LongName)) (Err script_kind.UnknownWord))) (form_passes w h.1)
    ∙ ap (λ b. as_name (cond b (Ok tt) (Err script_kind.LongName))) (lt-leb (length w) LONGEST_NAME h.2) ∙ ap (λ k. Err k) (sym h.0)

status_wrong : (w : Word) → ¬ IsStatus w → status w ≡ Err BadNumber
status_wrong w bad = only (status w) _ _ BadNumber (status_told w) (λ e h. bad (h.0.0, let a = h.0.1 in let b = h.1 in omega (arith, a, b))) (λ k h. h.0)

status_is : (w : Word) → IsStatus w → status w ≡ Ok (digits_value 10 w)
status_is w s = rw (number_is w (digits_value 10 w) (s.0, refl), lt-ltb (digits_value 10 w) 256 s.1) refl

node_bad : (nodes : ℕ) (w : Word) → ¬ IsNumber w → node nodes w ≡ Err BadNumber
node_bad nodes w bad = rw (number_bad w bad) refl

node_beyond : (nodes : ℕ) (w : Word) → IsNumber w → nodes ≤ digits_value 10 w → node nodes w ≡ Err NoSuchNode
node_beyond nodes w n far = rw (number_is w (digits_value 10 w) (n, refl), le-ltb (digits_value 10 w) nodes far) refl

abbrev Halves : ℕ → Word → Word → Result Stage JobKind
Halves nodes s n = status s >>= λ e. (node nodes n >>= λ k. Ok (record { status = e; node = record { 0 = k } }))

halves_wrong : (nodes : ℕ) (s n : Word) (kind : JobKind) → AreNoHalves nodes s n kind → Halves nodes s n ≡ Err kind
halves_wrong nodes s n kind (inl h) = rw (status_wrong s h.1, h.0) refl
halves_wrong nodes s n kind (inr (inl h)) = rw (status_is s h.1, node_bad nodes n h.2, h.0) refl
halves_wrong nodes s n kind (inr (inr h)) = rw (status_is s h.1, node_beyond nodes n h.2 h.3, h.0) refl

stage_wrong : (nodes : ℕ) (w : Word) (kind : JobKind) → IsNoStage nodes w kind → stage nodes w ≡ Err kind
stage_wrong nodes w kind (inl h) = ap (stage_cut nodes w) (none_there is_at w 64 (λ k l. ne_eqb (get_or w k 64) 64 (λ e. h.1 (k, l, e)))) ∙ ap (λ k. Err k) (sym h.0)
stage_wrong nodes w kind (inr (s, n, is, free, h)) = ap (stage nodes) is ∙ cut_is nodes s n free ∙ halves_wrong nodes s n kind h

stages_wrong : (nodes : ℕ) (ws : Row) (kind : JobKind) → HasNoStage nodes ws kind → stages nodes ws ≡ Err kind
stages_wrong nodes [] kind h = absurd h
stages_wrong nodes (w ∷ ws) kind (inl h) = rw (stage_wrong nodes w kind h) refl
stages_wrong nodes (w ∷ ws) kind (inr h) = rw (stage_is nodes w h.0.0 h.0.1 h.0.2, stages_wrong nodes ws kind h.1) refl

-- words that are stages are read as so many
read_words : (nodes : ℕ) (xs : Row) → All (IsStageWord nodes) xs → (ss : List Stage) × (stages nodes xs ≡ Ok ss) × (length xs ≡ length ss)
read_words nodes [] all = ([], refl, refl)
read_words nodes (w ∷ ws) all =
    let h = All-head (IsStageWord nodes) w ws all in
    let r = read_words nodes ws (All-tail (IsStageWord nodes) w ws all) in
    (h.0 ∷ r.0, rw (stage_is nodes w h.0 h.1 h.2, r.1) refl, ap suc r.2)

-- ---- the line of the cluster
cluster_wrong : (row : Row) (kind : JobKind) → IsNoCluster row kind → cluster_row row ≡ Err kind
cluster_wrong [] kind h = ap (λ k. Err k) (sym h)
cluster_wrong (w ∷ more) kind (inl h) = rw (number_bad w h.1, h.0) refl
cluster_wrong (w ∷ more) kind (inr (inl h)) = rw (number_is w (digits_value 10 w) (h.1, refl), out (cases_Bool (leb 1 (digits_value 10 w))) (cases_Bool (leb (digits_value 10 w) MOST_NODES)), h.0) refl
  where
    out : (leb 1 (digits_value 10 w) ≡ true) ⊎ (leb 1 (digits_value 10 w) ≡ false) → (leb (digits_value 10 w) MOST_NODES ≡ true) ⊎ (leb (digits_value 10 w) MOST_NODES ≡ false)
        → (leb 1 (digits_value 10 w) && leb (digits_value 10 w) MOST_NODES) ≡ false
    out (inr e) f = and_left _ _ e
    out (inl e) (inr f) = and_right _ _ f
    out (inl e) (inl f) = absurd (h.2 (leb-true 1 (digits_value 10 w) e, leb-true (digits_value 10 w) MOST_NODES f))
cluster_wrong (w ∷ more) kind (inr (inr h)) =
    rw (number_is w (digits_value 10 w) (h.1, refl), le-leb 1 (digits_value 10 w) h.2.0, le-leb (digits_value 10 w) MOST_NODES h.2.1, some more h.3, h.0) refl
  where
    some : (r : Row) → r ≢ [] → (length r == 0) ≡ false
    some [] ne = absurd (ne refl)
    some (x ∷ r) ne = ne_eqb (length (x ∷ r)) 0 (λ e. omega (arith, e))

-- ---- behind the cluster
module _ (d : Draft) (sound : IsSound d) where
  -- the line of a job
  pipeline_wrong : (ws : Row) (kind : JobKind) → IsNoPipeline (file_of d) ws kind → job_stages d ws ≡ Err kind
  pipeline_wrong [] kind h = ap (λ k. Err k) (sym h)
  pipeline_wrong (w ∷ ws) kind (inl h) = rw (some, stages_wrong d.nodes (w ∷ ws) kind h) refl
    where
      some : (length (w ∷ ws) == 0) ≡ false
      some = ne_eqb (length (w ∷ ws)) 0 (λ e. omega (arith, e))
  pipeline_wrong (w ∷ ws) kind (inr h) =
      let r = read_words d.nodes (w ∷ ws) h.1 in
      ap (λ b. cond b (Err UnknownWord) (stages d.nodes (w ∷ ws) >>= λ ss. counted d.stages ss)) some ∙ ap (λ x. x >>= λ ss. counted d.stages ss) r.1
      ∙ ap (λ b. cond b (Err TooManyStages) (Ok (item.Job (record { stages = r.0 })))) (many r.0 r.2 h.2) ∙ ap (λ k. Err k) (sym h.0)
    where
      some : (length (w ∷ ws) == 0) ≡ false
      some = ne_eqb (length (w ∷ ws)) 0 (λ e. omega (arith, e))

      many : (ss : List Stage) → length (w ∷ ws) ≡ length ss → AreTooMany (file_of d) (length (w ∷ ws)) → (ltb MOST_STAGES (length ss) || ltb MOST_STAGES_IN_ALL (d.stages + length ss)) ≡ true
      many ss e (inl l) = or_left _ _ (lt-ltb MOST_STAGES (length ss) (omega (arith, e, l)))
      many ss e (inr l) = or_right _ _ (lt-ltb MOST_STAGES_IN_ALL (d.stages + length ss) (let t = sound.stages in omega (arith, e, l, t)))

  job_wrong : (rest : Row) (kind : JobKind) → IsNoJob d.names (file_of d) rest kind → job_row d rest ≡ Err kind
  job_wrong [] kind h = ap (λ k. Err k) (sym h)
  job_wrong (w ∷ ws) kind (inl h) = ap (λ r. (r >>= λ _. new_name (number_of d.names w)) >>= λ _. job_stages d ws) (name_wrong w kind h)
  job_wrong (w ∷ ws) kind (inr (inl h)) =
      let known : IsCalled d.names w h.2.0 = slice_get-get_or d.names h.2.0 w h.2.1 ∙ ap (λ x. Some x) h.2.2 in
      ap (λ r. (r >>= λ _. new_name (number_of d.names w)) >>= λ _. job_stages d ws) (name_is w h.1)
      ∙ ap (λ o. new_name o >>= λ _. job_stages d ws) (number_called d.names w h.2.0 sound.are_names known) ∙ ap (λ k. Err k) (sym h.0)
  job_wrong (w ∷ ws) kind (inr (inr h)) = ap (λ r. r >>= λ _. job_stages d ws) (fresh_is d.names w h.0 h.1) ∙ pipeline_wrong ws kind h.2

  -- a line of the shell
  line_wrong : (line : JobLine) (more : Row) (kind : JobKind) → IsNoLine (file_of d) line more kind → told d line (length more) ≡ Err kind
  line_wrong line more kind (inl h) =
      ap (λ r. r >>= λ _. cond (length more == 0) (cond (ltb MOST_STATEMENTS (d.steps + step_count d.jobs line)) (Err TooManyStatements) (Ok (item.Tells line))) (Err UnknownWord))
      (only (fits (phase_of (job_of line) d.lines) line) _ _ kind (line_fits d.lines line) (λ u p. apart (after_lines d.lines all_idle) line kind h p) (λ k q. one (after_lines d.lines all_idle) line k kind q h))
    where
      apart : (phase : ℕ → Phase) (line : JobLine) (kind : JobKind) → IsUntimely phase line kind → IsInPhase phase line → ⊥
      apart phase (Run j) kind u p = u.1 p
      apart phase (Start j) kind u p = u.1 p
      apart phase (Stop j) kind u p = u.1 p
      apart phase (End j) kind u p = u.1 p
      apart phase (Bring j) kind u p = u.1 p

      one : (phase : ℕ → Phase) (line : JobLine) (k kind : JobKind) → IsUntimely phase line k → IsUntimely phase line kind → k ≡ kind
      one phase (Run j) k kind u v = u.0 ∙ sym v.0
      one phase (Start j) k kind u v = u.0 ∙ sym v.0
      one phase (Stop j) k kind u v = u.0 ∙ sym v.0
      one phase (End j) k kind u v = u.0 ∙ sym v.0
      one phase (Bring j) k kind u v = u.0 ∙ sym v.0
  line_wrong line more kind (inr (t, inl h)) =
      ap (λ r. r >>= λ _. cond (length more == 0) (cond (ltb MOST_STATEMENTS (d.steps + step_count d.jobs line)) (Err TooManyStatements) (Ok (item.Tells line))) (Err UnknownWord)) (timely d.lines line t)
      ∙ ap (λ b. cond b (cond (ltb MOST_STATEMENTS (d.steps + step_count d.jobs line)) (Err TooManyStatements) (Ok (item.Tells line))) (Err UnknownWord)) (some more h.1) ∙ ap (λ k. Err k) (sym h.0)
    where
      some : (r : Row) → r ≢ [] → (length r == 0) ≡ false
      some [] ne = absurd (ne refl)
      some (x ∷ r) ne = ne_eqb (length (x ∷ r)) 0 (λ e. omega (arith, e))
  line_wrong line more kind (inr (t, inr h)) =
      ap (λ r. r >>= λ _. cond (length more == 0) (cond (ltb MOST_STATEMENTS (d.steps + step_count d.jobs line)) (Err TooManyStatements) (Ok (item.Tells line))) (Err UnknownWord)) (timely d.lines line t)
      ∙ ap (λ (r : Row). cond (length r == 0) (cond (ltb MOST_STATEMENTS (d.steps + step_count d.jobs line)) (Err TooManyStatements) (Ok (item.Tells line))) (Err UnknownWord)) h.1
      ∙ ap (λ b. cond b (Err TooManyStatements) (Ok (item.Tells line))) (lt-ltb MOST_STATEMENTS (d.steps + step_count d.jobs line) (long h.2)) ∙ ap (λ k. Err k) (sym h.0)
    where
      long : IsTooLong (file_of d) line → MOST_STATEMENTS < d.steps + step_count d.jobs line
      long l =
          let many = acts_many d.jobs (statuses (record (file_of d) { lines = d.lines ++ line ∷ [] })) (first_of (record (file_of d) { lines = d.lines ++ line ∷ [] })) (d.lines ++ line ∷ []) in
          let push = steps_push d.jobs d.lines line in
          let steps = sound.steps in
          omega (arith, l, many, push, steps)

  tell_wrong : (first : Word) (rest : Row) (kind : JobKind) → IsVerb first → IsNoTelling d.names (file_of d) first rest kind → row_says d (first ∷ rest) ≡ Err kind
  tell_wrong first [] kind v h = ap (λ (f : Word). row_says d (f ∷ [])) v.1 ∙ line_words d v.0 [] sound.begun ∙ ap (λ k. Err k) (sym h)
  tell_wrong first (w ∷ more) kind v (inl h) =
      ap (λ (f : Word). row_says d (f ∷ w ∷ more)) v.1 ∙ line_words d v.0 (w ∷ more) sound.begun
      ∙ ap (λ r. r >>= λ _. (known (number_of d.names w) >>= λ j. told_line d (line_named (verb_of v.0) j) (length more))) (name_wrong w kind h)
  tell_wrong first (w ∷ more) kind v (inr (inl h)) =
      ap (λ (f : Word). row_says d (f ∷ w ∷ more)) v.1 ∙ line_words d v.0 (w ∷ more) sound.begun
      ∙ ap (λ r. r >>= λ _. (known (number_of d.names w) >>= λ j. told_line d (line_named (verb_of v.0) j) (length more))) (name_is w h.1)
      ∙ ap (λ o. known o >>= λ j. told_line d (line_named (verb_of v.0) j) (length more)) (no_number d.names w h.2) ∙ ap (λ k. Err k) (sym h.0)
  tell_wrong first (w ∷ more) kind v (inr (inr (line, is, n, c, h))) = ap (λ (f : Word). row_says d (f ∷ w ∷ more)) is ∙ named_is d w line more sound c ∙ line_wrong line more kind h

  -- any line
  pub row_wrong : (row : Row) (kind : JobKind) → IsWrong d.names (file_of d) row kind → row_says d row ≡ Err kind
  row_wrong [] kind h = absurd h
  row_wrong (first ∷ rest) kind (says, inl h) =
      ap (λ b. cond b (Ok item.Nothing) (words_row d first rest)) says ∙ cond-true d.begun _ _ sound.begun
      ∙ ap (λ b. cond b (job_row d rest) (cond (is_named (line_named first 0)) (told_row d first rest) (Err UnknownWord))) (not_same first (codes "job") h.1)
      ∙ ap (λ b. cond b (told_row d first rest) (Err UnknownWord)) (unnamed (cases_Bool (is_named (line_named first 0)))) ∙ ap (λ k. Err k) (sym h.0)
    where
      unnamed : (is_named (line_named first 0) ≡ true) ⊎ (is_named (line_named first 0) ≡ false) → is_named (line_named first 0) ≡ false
      unnamed (inl e) = absurd (h.2 ((verb_or d sound first).0 e))
      unnamed (inr e) = e
  row_wrong (first ∷ rest) kind (says, inr (inl h)) = ap (λ (f : Word). row_says d (f ∷ rest)) h.0 ∙ job_words d rest sound.begun ∙ job_wrong rest kind h.1
  row_wrong (first ∷ rest) kind (says, inr (inr h)) = tell_wrong first rest kind h.0 h.1

-- ---- the first line that says something
pub first_wrong : (row : Row) (kind : JobKind) → IsWrongFirst row kind → row_says first_draft row ≡ Err kind
first_wrong [] kind h = absurd h
first_wrong (first ∷ rest) kind (says, inl h) =
    ap (λ b. cond b (Ok item.Nothing) (words_row first_draft first rest)) says ∙ ap (λ b. cond b (cluster_row rest) (Err NoClusterLine)) (not_same first (codes "cluster") h.1) ∙ ap (λ k. Err k) (sym h.0)
first_wrong (first ∷ rest) kind (says, inr h) = ap (λ (f : Word). row_says first_draft (f ∷ rest)) h.0 ∙ cluster_words rest ∙ cluster_wrong rest kind h.1
