-- What `compile` writes.
use Rattle.std.specs.Prelude.{◌≡◌, ℕ, List, ◌++◌, codes}
use Rattle.byte_ends.specs.Text.{lines}
use Rattle.unix_calls.specs.declared.World.{World}
use Rattle.command_ends.specs.declared.status.Status.TheVariants.{Done, BadFile}
use Rattle.command_ends.specs.Ends.{Texts}
use Rattle.job_files.specs.declared.JobFault.{JobFault}
use Rattle.job_files.specs.Kinds.{fault_text}
use Rattle.job_reading_laws.specs.Faults.{IsLeastFault}
use Rattle.job_shell.specs.Compiled.{IsCompiled}

-- the line that says a fault
abbrev pub fault_line : JobFault → List ℕ
fault_line fault = fault_text fault ++ codes "\n"

-- a job file with a fault, and the line that says the least one
pub record Refuses (input output : List ℕ) : Type 0 where
  pub fault : JobFault
  pub least : IsLeastFault (lines input) fault
  pub writes : output ≡ fault_line fault

-- the file of the world that a job file becomes, or its least fault
abbrev pub Compiles : Texts
Compiles Done input output = (world : World) × IsCompiled (lines input) world output
Compiles BadFile input output = Refuses input output
Compiles _ input output = ⊥
