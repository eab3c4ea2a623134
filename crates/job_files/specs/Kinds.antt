-- How a fault of a job file is told.
use Rattle.std.specs.Prelude.{ℕ, List, ◌++◌, codes}
use Rattle.std.specs.Fmt.{decimal}
use Rattle.job_files.specs.declared.faults.JobFault.{JobFault}
use Rattle.job_files.specs.declared.faults.JobKind.{JobKind}
use Rattle.job_files.specs.declared.faults.JobKind.TheVariants.{NotUtf8, NoClusterLine, TooManyNodes, BadNumber, NoSuchNode, LongName, UnknownWord, DoubleName, TooManyStages, UnknownJob, JobTwice, NotInBackground, TooManyStatements}

-- the word by which a fault of a kind is told
abbrev pub kind_name : JobKind → List ℕ
kind_name NotUtf8 = codes "NotUtf8"
kind_name NoClusterLine = codes "NoClusterLine"
kind_name TooManyNodes = codes "TooManyNodes"
kind_name BadNumber = codes "BadNumber"
kind_name NoSuchNode = codes "NoSuchNode"
kind_name LongName = codes "LongName"
kind_name UnknownWord = codes "UnknownWord"
kind_name DoubleName = codes "DoubleName"
kind_name TooManyStages = codes "TooManyStages"
kind_name UnknownJob = codes "UnknownJob"
kind_name JobTwice = codes "JobTwice"
kind_name NotInBackground = codes "NotInBackground"
kind_name TooManyStatements = codes "TooManyStatements"

-- a fault of a line
abbrev pub fault_at : ℕ → JobKind → JobFault
fault_at line kind = record { line = line; kind = kind }

-- how a fault is told
abbrev pub fault_text : JobFault → List ℕ
fault_text fault = codes "bad file: line " ++ (decimal fault.line ++ (codes ": " ++ kind_name fault.kind))
