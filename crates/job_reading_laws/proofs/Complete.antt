-- A file of the grammar is read.
use Rattle.std.proofs.Common.{◌≡◌, ◌<◌, ◌≤◌, ◌+◌, ℕ, true, false, cond, List, [], ◌∷◌, ◌++◌, length, refl, sym, ap, ◌∙◌, subst, arith, Some, Ok, Err, All, Contains, codes, append_assoc, ltb, ◌==◌}
use Rattle.std.specs.List.{AllZip}
use Rattle.std.proofs.lemmas.List.{append-nil}
use Rattle.std.proofs.lemmas.Bool.{le-ltb, le-leb, cond-true, ne_eqb}
use Rattle.std.proofs.lemmas.Option.{slice_get_within}
use Rattle.std.proofs.lemmas.List.Elements.{All-head, All-tail}
use Rattle.unix_calls.specs.declared.limits.TheConstants.{MOST_NODES, MOST_STATEMENTS}
use Rattle.script_words.specs.Words.{Word, Row, is_same, is_skipped}
use Rattle.script_laws.specs.Grammar.{IsFor, IsName, IsCalled}
use Rattle.proc_image.proofs.Fits.{All-slice_get}
use Rattle.job_plans.specs.declared.Stage.{Stage}
use Rattle.job_plans.specs.declared.Job.{Job}
use Rattle.job_plans.specs.declared.JobLine.{JobLine}
use Rattle.job_plans.specs.declared.JobLine.TheVariants.{Run, Start, Stop, End, Bring}
use Rattle.job_plans.specs.declared.JobFile.{JobFile}
use Rattle.job_plans.specs.declared.Phase.{Phase}
use Rattle.job_plans.specs.declared.limits.TheConstants.{MOST_STAGES, MOST_STAGES_IN_ALL}
use Rattle.job_plans.specs.Files.{total, all_idle, IsStage, IsJob, job_of, IsInPhase, AreLines}
use Rattle.job_plans.specs.Plans.{IsAccepted, statuses, first_of}
use Rattle.job_files.specs.declared.faults.JobKind.TheVariants.{TooManyStatements}
use Rattle.job_files.specs.declared.drafts.Item.TheVariants as item
use Rattle.job_files.specs.declared.drafts.Draft.{Draft}
use Rattle.job_files.specs.MethodReading.{◌>>=◌, cluster_row, number_of, new_name, fresh_name, counted, job_stages, job_row, stages, line_named, known, step_count, told, told_line, told_row, words_row, row_says, with_item, first_draft, file_of}
use Rattle.job_reading_laws.specs.Grammar.{SpellsStage, verb_of, Lines, ends, skips, adds, tells, Part, silent, opens}
use Rattle.job_reading_laws.specs.Faults.{after_lines}
use Rattle.job_reading_laws.proofs.Words.{number_is, stage_is, name_is, no_number, number_called}
use Rattle.job_reading_laws.proofs.Phases.{after_push, timely}
use Rattle.job_reading_laws.proofs.Steps.{step_total, one_step, steps_cons, acts_many}
use Rattle.job_reading_laws.proofs.Rows.{IsSound, as_many, row_told}
use Rattle.job_reading_laws.proofs.Drafts.{After, second, sound_after, opened}

-- ---- lines that say nothing
pub skip_is : (d : Draft) (row : Row) → is_skipped row ≡ true → row_says d row ≡ Ok item.Nothing
skip_is d [] s = refl
skip_is d (w ∷ ws) s = ap (λ b. cond b (Ok item.Nothing) (words_row d w ws)) s

-- ---- the line of a job
pub fresh_is : (names : List Word) (w : Word) → IsName w → ¬ Contains names w → fresh_name names w ≡ Ok tt
fresh_is names w n free = ap (λ r. r >>= λ _. new_name (number_of names w)) (name_is w n) ∙ ap new_name (no_number names w free)

stages_are : (nodes : ℕ) (ws : Row) (ss : List Stage) → AllZip SpellsStage ws ss → All (IsStage nodes) ss → stages nodes ws ≡ Ok ss
stages_are nodes [] [] z all = refl
stages_are nodes [] (s ∷ ss) z all = absurd z
stages_are nodes (w ∷ ws) [] z all = absurd z
stages_are nodes (w ∷ ws) (s ∷ ss) z all = rw (stage_is nodes w s z.0 (All-head (IsStage nodes) s ss all), stages_are nodes ws ss z.1 (All-tail (IsStage nodes) s ss all)) refl

counted_is : (before : ℕ) (ss : List Stage) → length ss ≤ MOST_STAGES → before + length ss ≤ MOST_STAGES_IN_ALL → counted before ss ≡ Ok (item.Job (record { stages = ss }))
counted_is before ss a b = rw (le-ltb MOST_STAGES (length ss) a, le-ltb MOST_STAGES_IN_ALL (before + length ss) b) refl

some_stages : (ws : Row) (ss : List Stage) → AllZip SpellsStage ws ss → 1 ≤ length ss → (length ws == 0) ≡ false
some_stages ws ss z some = let many = as_many ws ss z in ne_eqb (length ws) 0 (λ e. omega (arith, many, some, e))

pub pipeline_is : (d : Draft) (ws : Row) (job : Job) → AllZip SpellsStage ws job.stages → IsJob d.nodes job → d.stages + length job.stages ≤ MOST_STAGES_IN_ALL → job_stages d ws ≡ Ok (item.Job job)
pipeline_is d ws job z is few = rw (some_stages ws job.stages z is.some, stages_are d.nodes ws job.stages z is.stages) (counted_is d.stages job.stages is.few few)

pub job_words : (d : Draft) (rest : Row) → d.begun ≡ true → row_says d (codes "job" ∷ rest) ≡ job_row d rest
unfolding is_skipped is_same
job_words d rest begun = cond-true d.begun _ _ begun

pub job_is : (d : Draft) (w : Word) (ws : Row) (job : Job) → IsSound d → IsName w → ¬ Contains d.names w → AllZip SpellsStage ws job.stages → IsJob d.nodes job → d.stages + length job.stages ≤ MOST_STAGES_IN_ALL
    → row_says d (codes "job" ∷ w ∷ ws) ≡ Ok (item.Job job)
job_is d w ws job s n free z is few =
    job_words d (w ∷ ws) s.begun ∙ ap (λ r. r >>= λ _. job_stages d ws) (fresh_is d.names w n free) ∙ pipeline_is d ws job z is few

-- ---- a line of the shell
pub line_is : (line : JobLine) → line_named (verb_of line) (job_of line) ≡ Some line
unfolding is_same
line_is (Run j) = refl
line_is (Start j) = refl
line_is (Stop j) = refl
line_is (End j) = refl
line_is (Bring j) = refl

pub line_words : (d : Draft) (line : JobLine) (rest : Row) → d.begun ≡ true → row_says d (verb_of line ∷ rest) ≡ told_row d (verb_of line) rest
unfolding is_skipped is_same
line_words d (Run j) rest begun = cond-true d.begun _ _ begun
line_words d (Start j) rest begun = cond-true d.begun _ _ begun
line_words d (Stop j) rest begun = cond-true d.begun _ _ begun
line_words d (End j) rest begun = cond-true d.begun _ _ begun
line_words d (Bring j) rest begun = cond-true d.begun _ _ begun

told_is : (d : Draft) (line : JobLine) → IsInPhase (after_lines d.lines all_idle) line → d.steps + step_count d.jobs line ≤ MOST_STATEMENTS → told d line 0 ≡ Ok (item.Tells line)
told_is d line t few = ap (λ r. r >>= λ _. cond (ltb MOST_STATEMENTS (d.steps + step_count d.jobs line)) (Err TooManyStatements) (Ok (item.Tells line))) (timely d.lines line t) ∙ rw (le-ltb MOST_STATEMENTS (d.steps + step_count d.jobs line) few) refl

-- behind the word of a line and a name that is known
pub named_is : (d : Draft) (w : Word) (line : JobLine) (more : Row) → IsSound d → IsCalled d.names w (job_of line) → row_says d (verb_of line ∷ w ∷ more) ≡ told d line (length more)
named_is d w line more s c =
    line_words d line (w ∷ more) s.begun
    ∙ ap (λ r. r >>= λ _. (known (number_of d.names w) >>= λ j. told_line d (line_named (verb_of line) j) (length more))) (name_is w (All-slice_get IsName d.names (job_of line) w s.are_names.0 c))
    ∙ ap (λ o. known o >>= λ j. told_line d (line_named (verb_of line) j) (length more)) (number_called d.names w (job_of line) s.are_names c)
    ∙ ap (λ o. told_line d o (length more)) (line_is line)

pub tells_is : (d : Draft) (w : Word) (line : JobLine) → IsSound d → IsCalled d.names w (job_of line) → IsInPhase (after_lines d.lines all_idle) line → d.steps + step_count d.jobs line ≤ MOST_STATEMENTS
    → row_says d (verb_of line ∷ w ∷ []) ≡ Ok (item.Tells line)
tells_is d w line s c t few = named_is d w line [] s c ∙ told_is d line t few

-- ---- all lines
-- what is still to come has room
record HasRoom (d : Draft) (jobs : List Job) (lines : List JobLine) : Type 0 where
  are_jobs : All (IsJob d.nodes) jobs
  stages : d.stages + total jobs ≤ MOST_STAGES_IN_ALL
  count : ℕ
  are_lines : AreLines count (after_lines d.lines all_idle) lines
  steps : d.steps + step_total (d.jobs ++ jobs) lines ≤ MOST_STATEMENTS

-- all rows were read
pub record ReadsTo (d : Draft) (rows : List Row) (names : List Word) (jobs : List Job) (lines : List JobLine) : Type 0 where
  pub draft : Draft
  pub after : After d rows draft
  pub called : draft.names ≡ names
  pub nodes : draft.nodes ≡ d.nodes
  pub all_jobs : draft.jobs ≡ d.jobs ++ jobs
  pub all_lines : draft.lines ≡ d.lines ++ lines

walk : (rows : List Row) (known names : List Word) (jobs : List Job) (lines : List JobLine) → Lines known names jobs lines rows → (d : Draft) → IsSound d → d.names ≡ known → HasRoom d jobs lines → ReadsTo d rows names jobs lines
walk rows' known' names' jobs' lines' (ends known) d s e room = record { draft = d; after = refl; called = e; nodes = refl; all_jobs = sym (append-nil d.jobs); all_lines = sym (append-nil d.lines) }
walk rows' known' names' jobs' lines' (skips {known} {names} {jobs} {lines} row {rows} k l) d s e room =
    let r = walk rows known names jobs lines l d s e room in
    record { draft = r.draft; after = (item.Nothing, skip_is d row k, r.after); called = r.called; nodes = r.nodes; all_jobs = r.all_jobs; all_lines = r.all_lines }
walk rows' known' names' jobs' lines' (adds {known} {names} {jobs} {lines} w ws job {rows} n free z l) d s e room =
    let row : Row = codes "job" ∷ w ∷ ws in
    let is = job_is d w ws job s n (subst (λ (ks : List Word). ¬ Contains ks w) (sym e) free) z (All-head (IsJob d.nodes) job jobs room.are_jobs) (let k = room.stages in omega (arith, k)) in
    let next = sound_after d row (item.Job job) s ((row_told d s row).ok (item.Job job) is) in
    let r = walk rows (known ++ w ∷ []) names jobs lines l (with_item d row (item.Job job)) next (ap (λ (v : Word). d.names ++ v ∷ []) (second (codes "job") w ws row refl) ∙ ap (λ (ks : List Word). ks ++ w ∷ []) e) (record {
      are_jobs = All-tail (IsJob d.nodes) job jobs room.are_jobs;
      stages = let k = room.stages in omega (arith, k);
      count = room.count;
      are_lines = room.are_lines;
      steps = subst (λ (js : List Job). d.steps + step_total js lines ≤ MOST_STATEMENTS) (sym (append_assoc d.jobs (job ∷ []) jobs)) room.steps;
    }) in
    record { draft = r.draft; after = (item.Job job, is, r.after); called = r.called; nodes = r.nodes; all_jobs = r.all_jobs ∙ append_assoc d.jobs (job ∷ []) jobs; all_lines = r.all_lines }
walk rows' known' names' jobs' lines' (tells {known} {names} {jobs} {lines} w line {rows} c l) d s e room =
    let row : Row = verb_of line ∷ w ∷ [] in
    let called : IsCalled d.names w (job_of line) = subst (λ (ks : List Word). IsCalled ks w (job_of line)) (sym e) c in
    let below : job_of line < length d.jobs = let k = slice_get_within d.names (job_of line) w called in let n = s.names in omega (arith, k, n) in
    let here = one_step d.jobs jobs line below in
    let cut = steps_cons (d.jobs ++ jobs) line lines in
    let is = tells_is d w line s called room.are_lines.1 (let k = room.steps in omega (arith, k, here, cut)) in
    let next = sound_after d row (item.Tells line) s ((row_told d s row).ok (item.Tells line) is) in
    let r = walk rows known names jobs lines l (with_item d row (item.Tells line)) next e (record {
      are_jobs = room.are_jobs;
      stages = room.stages;
      count = room.count;
      are_lines = subst (λ (f : ℕ → Phase). AreLines room.count f lines) (sym (after_push d.lines line all_idle)) room.are_lines.2;
      steps = let k = room.steps in omega (arith, k, here, cut);
    }) in
    record { draft = r.draft; after = (item.Tells line, is, r.after); called = r.called; nodes = r.nodes; all_jobs = r.all_jobs; all_lines = r.all_lines ∙ append_assoc d.lines (line ∷ []) lines }

-- ---- the line of the cluster
pub cluster_words : (rest : Row) → row_says first_draft (codes "cluster" ∷ rest) ≡ cluster_row rest
unfolding is_skipped is_same
cluster_words rest = refl

pub cluster_is : (w : Word) (n : ℕ) → IsFor w n → 1 ≤ n → n ≤ MOST_NODES → row_says first_draft (codes "cluster" ∷ w ∷ []) ≡ Ok (item.Nodes n)
cluster_is w n f some few = cluster_words (w ∷ []) ∙ rw (number_is w n f, le-leb 1 n some, le-leb n MOST_NODES few) refl

pub record ReadsAll (rows : List Row) (names : List Word) (file : JobFile) : Type 0 where
  pub draft : Draft
  pub after : After first_draft rows draft
  pub called : draft.names ≡ names
  pub is : file_of draft ≡ file

same_file : (a b : JobFile) → a.nodes ≡ b.nodes → a.jobs ≡ b.jobs → a.lines ≡ b.lines → a ≡ b
same_file a b e f g = ap (λ n. record { nodes = n; jobs = a.jobs; lines = a.lines }) e ∙ ap (λ (js : List Job). record { nodes = b.nodes; jobs = js; lines = a.lines }) f ∙ ap (λ (ls : List JobLine). record { nodes = b.nodes; jobs = b.jobs; lines = ls }) g

none_before : (lines : List JobLine) (n : ℕ) → AreLines n all_idle lines → AreLines n (after_lines [] all_idle) lines
unfolding after_lines
none_before lines n are = are

pub part_read : (names : List Word) (file : JobFile) (rows : List Row) → Part names file rows → IsAccepted file → ReadsAll rows names file
part_read names file rows' (silent row {rows} k p) accepted =
    let r = part_read names file rows p accepted in
    record { draft = r.draft; after = (item.Nothing, skip_is first_draft row k, r.after); called = r.called; is = r.is }
part_read names file rows' (opens w {rows} f l) accepted =
    let row : Row = codes "cluster" ∷ w ∷ [] in
    let d = with_item first_draft row (item.Nodes file.nodes) in
    let many = acts_many file.jobs (statuses file) (first_of file) file.lines in
    let r = walk rows [] names file.jobs file.lines l d (opened row file.nodes (accepted.some_node, accepted.nodes)) refl (record {
      are_jobs = accepted.jobs;
      stages = let k = accepted.few in omega (arith, k);
      count = length file.jobs;
      are_lines = none_before file.lines (length file.jobs) accepted.lines;
      steps = let k = accepted.short in omega (arith, k, many);
    }) in
    record { draft = r.draft; after = (item.Nodes file.nodes, cluster_is w file.nodes f accepted.some_node accepted.nodes, r.after); called = r.called; is = same_file (file_of r.draft) file r.nodes r.all_jobs r.all_lines }
