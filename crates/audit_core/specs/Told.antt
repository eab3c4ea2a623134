-- How a verdict is told.
use Rattle.std.specs.Prelude.{ℕ, List, ◌++◌, codes}
use Rattle.std.specs.Fmt.{decimal}
use Rattle.audit_core.specs.declared.judge.Breach.{Breach}
use Rattle.audit_core.specs.declared.judge.Breach.TheVariants.{UnknownProcess, ScriptOrder, SignalFirst, WrongReply, WrongEvent}
use Rattle.audit_core.specs.declared.judge.Judged.{Judged}
use Rattle.audit_core.specs.declared.judge.Judged.TheVariants as judged
use Rattle.audit_core.specs.declared.stamps.JudgedTwo.{JudgedTwo}
use Rattle.audit_core.specs.declared.stamps.JudgedTwo.TheVariants as two

-- the words by which a broken rule is told
abbrev pub rule_text : Breach → List ℕ
rule_text UnknownProcess = codes "unknown process"
rule_text ScriptOrder = codes "script order"
rule_text SignalFirst = codes "signal first"
rule_text WrongReply = codes "reply"
rule_text WrongEvent = codes "event"

-- a broken rule, with the number of its entry
abbrev pub illegal_text : ℕ → List ℕ → List ℕ
illegal_text number rule = codes "illegal at " ++ (decimal number ++ (codes ": " ++ rule))

-- the verdict on a history
abbrev pub judged_text : Judged → List ℕ
judged_text judged.Legal = codes "legal"
judged_text (judged.IllegalAt number rule) = illegal_text number (rule_text rule)

-- the verdict on a history of format 2
abbrev pub judged_two_text : JudgedTwo → List ℕ
judged_two_text two.Legal = codes "legal"
judged_two_text (two.PlaceAt number) = illegal_text number (codes "place")
judged_two_text (two.UserAt number) = illegal_text number (codes "user")
judged_two_text (two.IllegalAt number rule) = illegal_text number (rule_text rule)
