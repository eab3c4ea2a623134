-- The names of a file's jobs are those of its job lines.
use Rattle.std.proofs.Common.{◌≡◌, ◌<◌, ◌+◌, ℕ, Bool, true, false, cond, List, [], ◌∷◌, ◌++◌, length, drop, map, refl, sym, ap, subst, ◌∙◌, arith, codes, append_assoc}
use Rattle.std.proofs.lemmas.List.{append-nil, drop_all}
use Rattle.byte_ends.specs.Text.{lines, words}
use Rattle.script_words.specs.Words.{Word, Row, is_same, is_skipped}
use Rattle.script_laws.proofs.Words.{same_words}
use Rattle.job_plans.specs.declared.Job.{Job}
use Rattle.job_plans.specs.declared.JobLine.{JobLine}
use Rattle.job_plans.specs.declared.JobLine.TheVariants.{Run, Start, Stop, End, Bring}
use Rattle.job_plans.specs.declared.JobFile.{JobFile}
use Rattle.job_reading_laws.specs.Grammar.{verb_of, Lines, ends, skips, adds, tells, Part, silent, opens, Describes}
use Rattle.job_runs.specs.MethodNames.{named_in, names_in}

-- ---- a line at a time
verb_unnamed : (line : JobLine) (name : Word) → named_in (verb_of line ∷ name ∷ []) ≡ []
unfolding named_in is_same
verb_unnamed (Run j) name = refl
verb_unnamed (Start j) name = refl
verb_unnamed (Stop j) name = refl
verb_unnamed (End j) name = refl
verb_unnamed (Bring j) name = refl

cluster_unnamed : (word : Word) → named_in (codes "cluster" ∷ word ∷ []) ≡ []
unfolding named_in is_same
cluster_unnamed word = refl

job_named : (name : Word) (stages : Row) → named_in (codes "job" ∷ name ∷ stages) ≡ name ∷ []
unfolding named_in is_same
job_named name stages = refl

-- a word that begins with `#` is not `job`
job_says : is_skipped (codes "job" ∷ []) ≡ true → ⊥
unfolding is_skipped
job_says s = cc

hashed : (word : Word) → is_skipped (word ∷ []) ≡ true → is_same word (codes "job") ≡ false
hashed word s = by (is_same word (codes "job")) refl
  where
    by : (b : Bool) → is_same word (codes "job") ≡ b → is_same word (codes "job") ≡ false
    by true e = absurd (job_says (subst (λ (w : Word). is_skipped (w ∷ []) ≡ true) (same_words word (codes "job") e) s))
    by false e = e

skipped_unnamed : (row : Row) → is_skipped row ≡ true → named_in row ≡ []
unfolding named_in is_skipped
skipped_unnamed [] s = refl
skipped_unnamed (first ∷ []) s = refl
skipped_unnamed (first ∷ name ∷ stages) s = ap (λ b. cond b (name ∷ []) []) (hashed first s)

-- ---- all lines
names_of_lines : (rows : List Row) (known names : List Word) (jobs : List Job) (lines : List JobLine) → Lines known names jobs lines rows → names ≡ known ++ names_in rows
names_of_lines [] known names jobs lines (ends k) = sym (append-nil known)
names_of_lines (row ∷ rows) known names jobs lines (skips r s more) =
    names_of_lines rows known names jobs lines more ∙ ap (λ xs. known ++ (xs ++ names_in rows)) (sym (skipped_unnamed row s))
names_of_lines (row ∷ rows) known names jobs lines (adds name stages job n free z more) =
    names_of_lines rows (known ++ name ∷ []) names _ lines more ∙ append_assoc known (name ∷ []) (names_in rows) ∙ ap (λ xs. known ++ (xs ++ names_in rows)) (sym (job_named name stages))
names_of_lines (row ∷ rows) known names jobs lines (tells name line called more) =
    names_of_lines rows known names jobs _ more ∙ ap (λ xs. known ++ (xs ++ names_in rows)) (sym (verb_unnamed line name))

names_of_part : (rows : List Row) (names : List Word) (file : JobFile) → Part names file rows → names ≡ names_in rows
names_of_part [] names file p = elim p [ ]
names_of_part (row ∷ rows) names file (silent r s more) = names_of_part rows names file more ∙ ap (λ xs. xs ++ names_in rows) (sym (skipped_unnamed row s))
names_of_part (row ∷ rows) names file (opens word number more) = names_of_lines rows [] names file.jobs file.lines more ∙ ap (λ xs. xs ++ names_in rows) (sym (cluster_unnamed word))

pub names_are : (input : List ℕ) (names : List Word) (file : JobFile) → Describes (lines input) names file → names ≡ names_in (map words (lines input))
names_are input names file d = names_of_part (map words (lines input)) names file d.part

-- ---- the reading of them
-- one line more
pub names_more : (text : List ℕ) (at next : ℕ) (line : List ℕ) (before noted total : List Word) (row : Row) → lines (drop at text) ≡ line ∷ lines (drop next text) → row ≡ words line → noted ≡ before ++ named_in row
    → before ++ names_in (map words (lines (drop at text))) ≡ total → noted ++ names_in (map words (lines (drop next text))) ≡ total
names_more text at next line before noted total row first is one so_far =
    let rest = names_in (map words (lines (drop next text))) in
    ap (λ xs. xs ++ rest) (one ∙ ap (λ r. before ++ named_in r) is) ∙ append_assoc before (named_in (words line)) rest ∙ sym (ap (λ ls. before ++ names_in (map words ls)) first) ∙ so_far

-- behind the last line there is none
pub names_end : (text : List ℕ) (at : ℕ) (before total : List Word) → at ≡ length text → before ++ names_in (map words (lines (drop at text))) ≡ total → before ≡ total
names_end text at before total e so_far = sym (append-nil before) ∙ sym (ap (λ xs. before ++ names_in (map words (lines xs))) (drop_all at text (omega (arith, e)))) ∙ so_far
