-- What a reading of a job file tells: the jobs that it describes, or its least fault.
use Rattle.std.specs.Prelude.{◌≡◌, ◌↔◌, ◌⊎◌, ℕ, List, Ok, Err}
use Rattle.job_plans.specs.declared.JobFile.{JobFile}
use Rattle.job_files.specs.declared.JobFault.{JobFault}
use Rattle.job_files.specs.MethodReading.{read_lines}
use Rattle.job_reading_laws.specs.Grammar.{IsJobFile}
use Rattle.job_reading_laws.specs.Faults.{IsLeastFault}

-- a file is read exactly where it is one of the grammar, and as what it describes
abbrev pub GrammarIsRead : Type 0
GrammarIsRead = (lines : List (List ℕ)) (file : JobFile) → (read_lines lines ≡ Ok file) ↔ IsJobFile lines file

-- the fault that is told is the least one, and the least one is told
abbrev pub LeastIsTold : Type 0
LeastIsTold = (lines : List (List ℕ)) (fault : JobFault) → (read_lines lines ≡ Err fault) ↔ IsLeastFault lines fault

-- a file of the grammar describes one file of jobs
pub record DescribesOne (lines : List (List ℕ)) (file : JobFile) : Type 0 where
  pub described : IsJobFile lines file
  pub one : (other : JobFile) → IsJobFile lines other → other ≡ file

-- one fault of a file is the least
pub record HasLeastFault (lines : List (List ℕ)) (fault : JobFault) : Type 0 where
  pub least : IsLeastFault lines fault
  pub one : (other : JobFault) → IsLeastFault lines other → other ≡ fault

-- either a file describes one file of jobs and has no fault; or it has one least fault and describes none
abbrev pub DescribesOrFails : Type 0
DescribesOrFails = (lines : List (List ℕ)) →
    ((file : JobFile) × DescribesOne lines file × ((fault : JobFault) → ¬ IsLeastFault lines fault)) ⊎ ((fault : JobFault) × HasLeastFault lines fault × ((file : JobFile) → ¬ IsJobFile lines file))
