-- what is true of every judgement
use Rattle.std.specs.Prelude.{◌≡◌, List}
use Rattle.unix_calls.specs.declared.Entry.{Entry}
use Rattle.unix_calls.specs.declared.World.{World}
use Rattle.audit_core.specs.declared.judge.Judged.{Judged}
use Rattle.audit_core.specs.Judge.{IsJudged}
use Rattle.histories.specs.declared.Stamped.{Stamped}
use Rattle.audit_core.specs.declared.stamps.JudgedTwo.{JudgedTwo}
use Rattle.audit_core.specs.Stamped.{IsJudgedTwo}

-- a history has no two judgements
abbrev pub HasOneJudgement : Type 0
HasOneJudgement = (world : World) (history : List Entry) (one other : Judged) → IsJudged world history one → IsJudged world history other → one ≡ other

-- a history of format 2 has no two judgements
abbrev pub HasOneJudgementTwo : Type 0
HasOneJudgementTwo = (world : World) (history : List Stamped) (one other : JudgedTwo) → IsJudgedTwo world history one → IsJudgedTwo world history other → one ≡ other
