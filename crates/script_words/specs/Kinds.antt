use Rattle.std.specs.Prelude.{ℕ, List, ◌++◌, codes}
use Rattle.std.specs.Fmt.{decimal}
use Rattle.script_words.specs.declared.faults.Fault.{Fault}
use Rattle.script_words.specs.declared.faults.Kind.{Kind}
use Rattle.script_words.specs.declared.faults.Kind.TheVariants.{NotUtf8, NoClusterLine, UnknownWord, UnknownScript, LaterScript, BadNumber, NoSuchNode, TooManyNodes, TooManyScripts, TooManyStatements, TooManyStarts, TooMuchWork, TooManyTurns, NoStart, DoubleName, LongName}

-- the word by which a fault of a kind is told
abbrev pub kind_name : Kind → List ℕ
kind_name NotUtf8 = codes "NotUtf8"
kind_name NoClusterLine = codes "NoClusterLine"
kind_name UnknownWord = codes "UnknownWord"
kind_name UnknownScript = codes "UnknownScript"
kind_name LaterScript = codes "LaterScript"
kind_name BadNumber = codes "BadNumber"
kind_name NoSuchNode = codes "NoSuchNode"
kind_name TooManyNodes = codes "TooManyNodes"
kind_name TooManyScripts = codes "TooManyScripts"
kind_name TooManyStatements = codes "TooManyStatements"
kind_name TooManyStarts = codes "TooManyStarts"
kind_name TooMuchWork = codes "TooMuchWork"
kind_name TooManyTurns = codes "TooManyTurns"
kind_name NoStart = codes "NoStart"
kind_name DoubleName = codes "DoubleName"
kind_name LongName = codes "LongName"

-- a fault of a line
abbrev pub fault_at : ℕ → Kind → Fault
fault_at line kind = record { line = line; kind = kind }

-- how a fault is told
abbrev pub fault_text : Fault → List ℕ
fault_text fault = codes "bad file: line " ++ (decimal fault.line ++ (codes ": " ++ kind_name fault.kind))
