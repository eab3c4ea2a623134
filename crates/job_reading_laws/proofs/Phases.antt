-- How far the jobs are behind the lines that were read.
use Rattle.std.proofs.Common.{◌≡◌, ◌≢◌, ◌==◌, ◌<◌, ◌≤◌, ℕ, Bool, true, false, cond, List, [], ◌∷◌, ◌++◌, refl, sym, ap, ◌∙◌, subst, arith, fold, Ok}
use Rattle.std.proofs.lemmas.Bool.{eqb-true, eq-eqb}
use Rattle.list_laws.proofs.Finding.{same_flip}
use Rattle.job_plans.specs.declared.JobLine.{JobLine}
use Rattle.job_plans.specs.declared.JobLine.TheVariants.{Run, Start, Stop, End, Bring}
use Rattle.job_plans.specs.declared.Phase.{Phase}
use Rattle.job_plans.specs.declared.Phase.TheVariants.{Idle, Background, Done}
use Rattle.job_plans.specs.Files.{job_of, IsInPhase, after_line, all_idle, AreLines}
use Rattle.job_files.specs.declared.faults.JobKind.TheVariants.{JobTwice, NotInBackground}
use Rattle.job_files.specs.MethodReading.{phase_with, phase_of, must_be_idle, must_be_back, fits}
use Rattle.job_reading_laws.specs.Faults.{after_lines, IsUntimely}
use Rattle.fault_laws.proofs.Tells.{Tells, tells_ok, tells_err}

flipped : (i j : ℕ) → (i == j) ≡ (j == i)
flipped i j = go (i == j) refl
  where
    go : (b : Bool) → (i == j) ≡ b → b ≡ (j == i)
    go true e = sym (eq-eqb j i (sym (eqb-true i j e)))
    go false e = sym (same_flip i j e)

one_line : (line : JobLine) (phase : ℕ → Phase) (j : ℕ) → after_line line phase j ≡ phase_with j (phase j) line
one_line (Run i) phase j = ap (λ b. cond b Done (phase j)) (flipped j i)
one_line (Start i) phase j = ap (λ b. cond b Background (phase j)) (flipped j i)
one_line (Stop i) phase j = refl
one_line (End i) phase j = refl
one_line (Bring i) phase j = ap (λ b. cond b Done (phase j)) (flipped j i)

phases_are : (lines : List JobLine) (phase : ℕ → Phase) (j : ℕ) → after_lines lines phase j ≡ fold (phase_with j) (phase j) lines
unfolding after_lines
phases_are [] phase j = refl
phases_are (line ∷ lines) phase j = phases_are lines (after_line line phase) j ∙ ap (λ (p : Phase). fold (phase_with j) p lines) (one_line line phase j)

-- ---- whether a line may stand where its job is so far
idle_told : (p : Phase) → Tells (must_be_idle p) (λ u. p ≡ Idle) (λ k. (k ≡ JobTwice) × (p ≢ Idle))
idle_told Idle = tells_ok tt _ _ refl
idle_told Background = tells_err JobTwice _ _ (refl, λ e. cc)
idle_told Done = tells_err JobTwice _ _ (refl, λ e. cc)

back_told : (p : Phase) → Tells (must_be_back p) (λ u. p ≡ Background) (λ k. (k ≡ NotInBackground) × (p ≢ Background))
back_told Idle = tells_err NotInBackground _ _ (refl, λ e. cc)
back_told Background = tells_ok tt _ _ refl
back_told Done = tells_err NotInBackground _ _ (refl, λ e. cc)

fits_told : (line : JobLine) (phase : ℕ → Phase) → Tells (fits (phase (job_of line)) line) (λ u. IsInPhase phase line) (IsUntimely phase line)
fits_told (Run j) phase = idle_told (phase j)
fits_told (Start j) phase = idle_told (phase j)
fits_told (Stop j) phase = back_told (phase j)
fits_told (End j) phase = back_told (phase j)
fits_told (Bring j) phase = back_told (phase j)

phase_is : (lines : List JobLine) (j : ℕ) → after_lines lines all_idle j ≡ phase_of j lines
phase_is lines j = phases_are lines all_idle j

pub line_fits : (lines : List JobLine) (line : JobLine) → Tells (fits (phase_of (job_of line) lines) line) (λ u. IsInPhase (after_lines lines all_idle) line) (IsUntimely (after_lines lines all_idle) line)
line_fits lines line = subst (λ (p : Phase). Tells (fits p line) (λ u. IsInPhase (after_lines lines all_idle) line) (IsUntimely (after_lines lines all_idle) line)) (phase_is lines (job_of line)) (fits_told line (after_lines lines all_idle))

fits_is : (line : JobLine) (phase : ℕ → Phase) → IsInPhase phase line → fits (phase (job_of line)) line ≡ Ok tt
fits_is (Run j) phase e = ap must_be_idle e
fits_is (Start j) phase e = ap must_be_idle e
fits_is (Stop j) phase e = ap must_be_back e
fits_is (End j) phase e = ap must_be_back e
fits_is (Bring j) phase e = ap must_be_back e

pub timely : (lines : List JobLine) (line : JobLine) → IsInPhase (after_lines lines all_idle) line → fits (phase_of (job_of line) lines) line ≡ Ok tt
timely lines line e = ap (λ (p : Phase). fits p line) (sym (phase_is lines (job_of line))) ∙ fits_is line (after_lines lines all_idle) e

more : (n : ℕ) (lines : List JobLine) (phase : ℕ → Phase) (line : JobLine) → AreLines n phase lines → job_of line < n → IsInPhase (after_lines lines phase) line → AreLines n phase (lines ++ line ∷ [])
unfolding after_lines
more n [] phase line are l i = (l, i, tt)
more n (x ∷ lines) phase line are l i = (are.0, are.1, more n lines (after_line x phase) line are.2 l i)

-- one line more, of a job that is so far
pub lines_more : (n : ℕ) (lines : List JobLine) (line : JobLine) → AreLines n all_idle lines → job_of line < n → IsInPhase (after_lines lines all_idle) line → AreLines n all_idle (lines ++ line ∷ [])
lines_more n lines line are l e = more n lines all_idle line are l e

-- behind one line more
pub after_push : (lines : List JobLine) (line : JobLine) (phase : ℕ → Phase) → after_lines (lines ++ line ∷ []) phase ≡ after_line line (after_lines lines phase)
unfolding after_lines
after_push [] line phase = refl
after_push (x ∷ lines) line phase = after_push lines line (after_line x phase)

-- one job more
pub lines_wider : (n m : ℕ) (lines : List JobLine) (phase : ℕ → Phase) → n ≤ m → AreLines n phase lines → AreLines m phase lines
lines_wider n m [] phase le are = tt
lines_wider n m (line ∷ lines) phase le are = (omega (arith, le, are.0), are.1, lines_wider n m lines (after_line line phase) le are.2)
