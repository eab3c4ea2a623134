-- what the judge of a history says
use Rattle.std.specs.Prelude.{◌≡◌, ◌<◌, ℕ, suc, Bool, true, false, List, take, slice_get, Option, None, Some}
use Rattle.unix_calls.specs.declared.Entry.{Entry}
use Rattle.unix_calls.specs.declared.World.{World}
use Rattle.process_table.specs.declared.Row.{Row}
use Rattle.kernel_model.specs.declared.Rule.{Rule}
use Rattle.kernel_model.specs.declared.Rule.TheVariants as rules
use Rattle.kernel_model.specs.declared.Verdict.{Verdict}
use Rattle.kernel_model.specs.declared.Verdict.TheVariants as kernel
use Rattle.process_table.specs.Rows.{row_of}
use Rattle.kernel_model.specs.Sound.{IsAlive}
use Rattle.kernel_model.specs.Step.{process_of, verdict}
use Rattle.kernel_model.specs.Legal.{after_all, IsLegal}
use Rattle.proc_image.specs.Follows.{Running, running_after, IsInOrder, Follows}
use Rattle.audit_core.specs.declared.judge.Breach.{Breach}
use Rattle.audit_core.specs.declared.judge.Breach.TheVariants.{UnknownProcess, ScriptOrder, SignalFirst, WrongReply, WrongEvent}
use Rattle.audit_core.specs.declared.judge.Judged.{Judged}
use Rattle.audit_core.specs.declared.judge.Judged.TheVariants.{Legal, IllegalAt}

-- ---- the rules
-- the entry breaks the rule, where the table is this and the processes are this far in their scripts
abbrev pub BreaksAt : World → List Row → Running → Entry → Breach → Type 0
BreaksAt world rows running entry UnknownProcess = ¬ IsAlive (row_of rows (process_of entry))
BreaksAt world rows running entry ScriptOrder = ¬ IsInOrder world running entry
BreaksAt world rows running entry SignalFirst = verdict rows entry ≡ kernel.Illegal rules.SignalFirst
BreaksAt world rows running entry WrongReply = verdict rows entry ≡ kernel.Illegal rules.WrongReply
BreaksAt world rows running entry WrongEvent = verdict rows entry ≡ kernel.Illegal rules.WrongEvent

-- the rules are asked in this order
abbrev pub place_of : Breach → ℕ
place_of UnknownProcess = 0
place_of ScriptOrder = 1
place_of SignalFirst = 2
place_of WrongReply = 3
place_of WrongEvent = 4

-- the entry breaks the rule, and no rule that is asked before it
pub record IsFirstRuleAt (world : World) (rows : List Row) (running : Running) (entry : Entry) (rule : Breach) : Type 0 where
  pub broken : BreaksAt world rows running entry rule
  pub earlier_hold : (earlier : Breach) → place_of earlier < place_of rule → ¬ BreaksAt world rows running entry earlier

-- what is said of one entry: nothing, where it is legal and in its script's order, or the first rule that it breaks
abbrev pub IsVerdictAt : World → List Row → Running → Entry → Option Breach → Type 0
IsVerdictAt world rows running entry None = (verdict rows entry ≡ kernel.Legal) × IsInOrder world running entry
IsVerdictAt world rows running entry (Some rule) = IsFirstRuleAt world rows running entry rule

-- a rule of the kernel among those of a history
abbrev pub breach_of : Rule → Breach
breach_of rules.UnknownProcess = UnknownProcess
breach_of rules.SignalFirst = SignalFirst
breach_of rules.WrongReply = WrongReply
breach_of rules.WrongEvent = WrongEvent

-- the rule that the kernel says is broken
abbrev pub breach_told : Verdict → Option Breach
breach_told kernel.Legal = None
breach_told (kernel.Illegal rule) = Some (breach_of rule)

-- what the kernel says, with the order of the script asked right after the process
abbrev pub with_order : Bool → Verdict → Option Breach
with_order in_order (kernel.Illegal rules.UnknownProcess) = Some UnknownProcess
with_order true told = breach_told told
with_order false told = Some ScriptOrder

-- ---- histories
-- the entry breaks the rule, where it comes after this history
abbrev pub Breaks : World → List Entry → Entry → Breach → Type 0
Breaks world history entry rule = BreaksAt world (after_all world history) (running_after world history) entry rule

-- the first rule that the entry breaks, where it comes after this history
abbrev pub IsFirstRule : World → List Entry → Entry → Breach → Type 0
IsFirstRule world history entry rule = IsFirstRuleAt world (after_all world history) (running_after world history) entry rule

-- so many entries are legal and in their scripts' order, and this is the first rule that the next one breaks
pub record IsIllegalAfter (world : World) (history : List Entry) (count : ℕ) (rule : Breach) : Type 0 where
  pub entry : Entry
  pub next : slice_get history count ≡ Some entry
  pub legal : IsLegal world (take count history)
  pub follows : Follows world (take count history)
  pub first : IsFirstRule world (take count history) entry rule

-- legal and in its scripts' order, or the number of the first entry that isn't, counted from 1, with the first rule that it breaks
abbrev pub IsJudged : World → List Entry → Judged → Type 0
IsJudged world history Legal = IsLegal world history × Follows world history
IsJudged world history (IllegalAt number rule) = (count : ℕ) × (number ≡ suc count) × IsIllegalAfter world history count rule
