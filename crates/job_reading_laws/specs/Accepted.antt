-- What is true of each job file that is read.
use Rattle.std.specs.Prelude.{◌≡◌, ℕ, List, Ok}
use Rattle.job_plans.specs.declared.JobFile.{JobFile}
use Rattle.job_plans.specs.Plans.{IsAccepted}
use Rattle.job_files.specs.MethodReading.{read_lines}

-- a file that is read is an accepted one
abbrev pub ReadIsAccepted : Type 0
ReadIsAccepted = (lines : List (List ℕ)) (file : JobFile) → read_lines lines ≡ Ok file → IsAccepted file
