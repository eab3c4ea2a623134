-- Either a file describes jobs, or it has a least fault.
use Rattle.std.proofs.Common.{◌≡◌, ◌⊎◌, inl, inr, ℕ, List, refl, Result, Ok, Err}
use Rattle.job_plans.specs.declared.JobFile.{JobFile}
use Rattle.job_files.specs.declared.faults.JobFault.{JobFault}
use Rattle.job_files.specs.MethodReading.{read_lines}
use Rattle.job_reading_laws.specs.Grammar.{IsJobFile}
use Rattle.job_reading_laws.specs.Faults.{IsLeastFault}
use Rattle.job_reading_laws.specs.Told.{DescribesOne, HasLeastFault, DescribesOrFails}
use Rattle.job_reading_laws.proofs.Read.{grammar_read}
use Rattle.job_reading_laws.proofs.Least.{least_is_told}

same_file : (r : Result JobFile JobFault) (a b : JobFile) → r ≡ Ok a → r ≡ Ok b → b ≡ a
same_file r a b e f = cc

same_fault : (r : Result JobFile JobFault) (a b : JobFault) → r ≡ Err a → r ≡ Err b → b ≡ a
same_fault r a b e f = cc

not_both : (r : Result JobFile JobFault) (a : JobFile) (b : JobFault) → r ≡ Ok a → r ≡ Err b → ⊥
not_both r a b e f = cc

pub one_file : (lines : List (List ℕ)) (a b : JobFile) → IsJobFile lines a → IsJobFile lines b → b ≡ a
one_file lines a b f g = same_file (read_lines lines) a b ((grammar_read lines a).1 f) ((grammar_read lines b).1 g)

pub one_fault : (lines : List (List ℕ)) (a b : JobFault) → IsLeastFault lines a → IsLeastFault lines b → b ≡ a
one_fault lines a b f g = same_fault (read_lines lines) a b ((least_is_told lines a).1 f) ((least_is_told lines b).1 g)

pub no_file : (lines : List (List ℕ)) (file : JobFile) (fault : JobFault) → IsJobFile lines file → IsLeastFault lines fault → ⊥
no_file lines file fault f g = not_both (read_lines lines) file fault ((grammar_read lines file).1 f) ((least_is_told lines fault).1 g)

pub describes_or_fails : DescribesOrFails
describes_or_fails lines = go (read_lines lines) refl
  where
    go : (r : Result JobFile JobFault) → read_lines lines ≡ r
        → ((file : JobFile) × DescribesOne lines file × ((fault : JobFault) → ¬ IsLeastFault lines fault)) ⊎ ((fault : JobFault) × HasLeastFault lines fault × ((file : JobFile) → ¬ IsJobFile lines file))
    go (Ok file) e =
        let f = (grammar_read lines file).0 e in
        inl (file, record { described = f; one = λ other g. one_file lines file other f g }, λ fault g. no_file lines file fault f g)
    go (Err fault) e =
        let f = (least_is_told lines fault).0 e in
        inr (fault, record { least = f; one = λ other g. one_fault lines fault other f g }, λ file g. no_file lines file fault g f)
