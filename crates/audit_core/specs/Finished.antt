-- histories after which nothing is left to do
use Rattle.std.specs.Prelude.{◌≡◌, ◌==◌, ◌⊎◌, Bool, true, false, List, fold, Option, None, Some, if◌then◌else◌}
use Rattle.unix_names.specs.declared.Pid.{Pid}
use Rattle.unix_names.specs.States.{is_living}
use Rattle.unix_calls.specs.declared.Call.{Call}
use Rattle.unix_calls.specs.declared.Call.TheVariants.{Fork}
use Rattle.unix_calls.specs.declared.Reply.{Reply}
use Rattle.unix_calls.specs.declared.Reply.TheVariants.{Number, Again}
use Rattle.unix_calls.specs.declared.Entry.{Entry}
use Rattle.unix_calls.specs.declared.Entry.TheVariants.{Called, Happened}
use Rattle.unix_calls.specs.declared.World.{World}
use Rattle.process_table.specs.declared.Row.{Row}
use Rattle.process_table.specs.Rows.{row_of}
use Rattle.kernel_rules.specs.Calls.{allows}
use Rattle.kernel_rules.specs.Events.{can_call, StaysStopped}
use Rattle.kernel_model.specs.Legal.{after_all}
use Rattle.proc_image.specs.Scripts.{Progress, next_call, stands_again}
use Rattle.proc_image.specs.Follows.{running_after}

-- the call began a process of this pid
abbrev pub is_born : Pid → Call → Reply → Bool
is_born pid Fork (Number n) = n == pid.0
is_born pid _ _ = false

-- a call of the process is its last one so far; where a fork gives its pid to a child, the child has made none
abbrev pub later_call : Pid → Option Entry → Entry → Option Entry
later_call pid last (Called caller call reply) = if caller.0 == pid.0 then Some (Called caller call reply) else (if is_born pid call reply then None else last)
later_call pid last (Happened p event) = last

-- the last call of a process in a history, with its reply
abbrev pub last_call : List Entry → Pid → Option Entry
last_call history pid = fold (later_call pid) None history

-- the process sleeps in a wait: it could call, its next statement is a sleeping wait, its last call was this one with the reply Again, and that is the reply still
pub record SleepsOn (world : World) (history : List Entry) (r : Row) : Type 0 where
  pub free : can_call r ≡ true
  pub progress : Progress
  pub runs : running_after world history r.pid.0 ≡ Some progress
  pub waits : stands_again world progress Again ≡ true
  pub asked : last_call history r.pid ≡ Some (Called r.pid (next_call world r.pid progress) Again)
  pub still : allows (after_all world history) r (next_call world r.pid progress) Again ≡ true

-- each living process stays stopped, or sleeps in a wait
abbrev pub IsFinished : World → List Entry → Type 0
IsFinished world history = (pid : Pid) (r : Row) → row_of (after_all world history) pid ≡ Some r → is_living r.life ≡ true → StaysStopped r ⊎ SleepsOn world history r
